-- Equal parts of two lists are the same bytes, and what a list with a part put over it shares with that part and with the old list. Assumes nothing.
use Rattle.std.specs.Prelude.{ℕ, ◌+◌, ◌-◌, ◌≤◌, ◌≡◌, refl, get_or}
use Rattle.std.proofs.Math.Path.{sym, ap}
use Rattle.std.proofs.Common.{◌∙◌, arith, get_or-take, get_or-drop, take_all}
use mathlib.Core.List.{List, ◌++◌, append_assoc}
use Rattle.std.proofs.Math.ListN.{length, take, drop}
use Rattle.std.proofs.Math.Seq.{paste}
use Rattle.num_floats.specs.Same.{Same}
use Rattle.num_tables.specs.Parts.{part, put}
use Rattle.num_tables.proofs.Rows.{part_put_same}

pub part_same : (p q n : ℕ) (a b : List ℕ) → part p n a ≡ part q n b → Same a p b q n
unfolding part
part_same p q n a b e =
    record {
      at = λ k h.
          sym (get_or-take n (drop p a) k 0 h ∙ get_or-drop p a k 0)
          ∙ (ap (λ (l : List ℕ). get_or l k 0) e ∙ (get_or-take n (drop q b) k 0 h ∙ get_or-drop q b k 0));
    }

pub rest_same : (i p n : ℕ) (a b : List ℕ) → drop i a ≡ drop i b → i ≤ p → Same a p b p n
rest_same i p n a b e h =
    record {
      at = λ k l.
          let m : ℕ = p + k - i in
          let q : p + k ≡ i + m = omega arith in
          ap (λ (j : ℕ). get_or a j 0) q ∙ (sym (get_or-drop i a m 0) ∙ (ap (λ (l : List ℕ). get_or l m 0) e ∙ (get_or-drop i b m 0 ∙ ap (λ (j : ℕ). get_or b j 0) (sym q))));
    }

module _ (d : List ℕ) (at : ℕ) (s : List ℕ) where
  -- the whole of s, byte by byte
  pub paste_put : paste d at s (length s) ≡ put at s d
  unfolding put
  paste_put =
      ap (λ (l : List ℕ). take at d ++ l ++ drop (at + length s) d) (take_all (length s) s (omega arith))
      ∙ append_assoc (take at d) s (drop (at + length s) d)

  whole : s ≡ part 0 (length s) s
  unfolding part
  whole = sym (take_all (length s) s (omega arith))

  pub same-inside : at + length s ≤ length d → Same (put at s d) at s 0 (length s)
  same-inside h = part_same at 0 (length s) (put at s d) s (part_put_same at s d (length s) refl h ∙ whole)
