-- Numbers put one by one are the list's text. Assumes nothing.
use Prim.Native.Nat.{ℕ}
use mathlib.Core.Path.{◌≡◌}
use mathlib.Core.List.{List, [], ◌∷◌, ◌++◌, append_assoc, append-nil}
use lib.Ieee.{Float}
use Rattle.print_text.specs.Buffer.{Puts, same_text}
use Rattle.print_lines.specs.Lines.{number_text, numbers_text}

five : (s : List ℕ) (a b c d e : Float)
    → s ++ number_text a ++ number_text b ++ number_text c ++ number_text d ++ number_text e ≡ s ++ numbers_text (a ∷ b ∷ c ∷ d ∷ e ∷ [])
unfolding numbers_text
five s a b c d e = simp (append_assoc, append-nil)

-- behind a text, and at the start of one
pub numbers_five : {out out' : List ℕ} {at end : ℕ} (s : List ℕ) (a b c d e : Float)
    → Puts (s ++ number_text a ++ number_text b ++ number_text c ++ number_text d ++ number_text e) out at out' end
    → Puts (s ++ numbers_text (a ∷ b ∷ c ∷ d ∷ e ∷ [])) out at out' end
numbers_five s a b c d e p = same_text (five s a b c d e) p

four : (a b c d : Float) → number_text a ++ number_text b ++ number_text c ++ number_text d ≡ numbers_text (a ∷ b ∷ c ∷ d ∷ [])
unfolding numbers_text
four a b c d = simp (append_assoc, append-nil)

pub numbers_four : {out out' : List ℕ} {at end : ℕ} (a b c d : Float)
    → Puts (number_text a ++ number_text b ++ number_text c ++ number_text d) out at out' end → Puts (numbers_text (a ∷ b ∷ c ∷ d ∷ [])) out at out' end
numbers_four a b c d p = same_text (four a b c d) p

six : (a b c d e f : Float)
    → number_text a ++ number_text b ++ number_text c ++ number_text d ++ number_text e ++ number_text f ≡ numbers_text (a ∷ b ∷ c ∷ d ∷ e ∷ f ∷ [])
unfolding numbers_text
six a b c d e f = simp (append_assoc, append-nil)

pub numbers_six : {out out' : List ℕ} {at end : ℕ} (a b c d e f : Float)
    → Puts (number_text a ++ number_text b ++ number_text c ++ number_text d ++ number_text e ++ number_text f) out at out' end
    → Puts (numbers_text (a ∷ b ∷ c ∷ d ∷ e ∷ f ∷ [])) out at out' end
numbers_six a b c d e f p = same_text (six a b c d e f) p

seven : (s : List ℕ) (a b c d e f g : Float)
    → s ++ number_text a ++ number_text b ++ number_text c ++ number_text d ++ number_text e ++ number_text f ++ number_text g
    ≡ s ++ numbers_text (a ∷ b ∷ c ∷ d ∷ e ∷ f ∷ g ∷ [])
unfolding numbers_text
seven s a b c d e f g = simp (append_assoc, append-nil)

pub numbers_seven : {out out' : List ℕ} {at end : ℕ} (s : List ℕ) (a b c d e f g : Float)
    → Puts (s ++ number_text a ++ number_text b ++ number_text c ++ number_text d ++ number_text e ++ number_text f ++ number_text g) out at out' end
    → Puts (s ++ numbers_text (a ∷ b ∷ c ∷ d ∷ e ∷ f ∷ g ∷ [])) out at out' end
numbers_seven s a b c d e f g p = same_text (seven s a b c d e f g) p
