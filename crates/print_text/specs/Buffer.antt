-- Text put into a buffer at an offset. Assumes nothing.
use Prim.Native.Nat.{ℕ, suc, ◌+◌, ◌≤◌, ◌<◌, min, max}
use Rattle.std.proofs.Common.{add-zero, add-suc, suc-add, arith, ◌∙◌, subst}
use Rattle.std.proofs.Math.Decide.{dec_le}
use Rattle.std.specs.Prelude.{◌≡◌, refl, take, drop, set}
use Rattle.std.proofs.Math.Path.{sym, ap}
use mathlib.Core.List.{List, [], ◌∷◌, ◌++◌}
use Rattle.std.proofs.Math.ListN.{length, length-append}
use Rattle.std.proofs.Math.Seq.{sets, sets-eq, length-sets, set_out}

-- the offset behind k bytes that were put at an offset of a buffer with so much room. One beyond the room says that the buffer is too small, and stays
unfoldable pub behind : ℕ → ℕ → ℕ → ℕ
behind room at k = min (at + k) (max at (room + 1))

-- the buffer, out before and out' after, has the bytes of s from offset at on, as far as it has room, and nothing else is changed; end is the offset behind them
pub record Puts (s out : List ℕ) (at : ℕ) (out' : List ℕ) (end : ℕ) : Type 0 where
  pub bytes : out' ≡ sets out at s
  pub offset : end ≡ behind (length out) at (length s)

-- ---- Laws

pub none : (out : List ℕ) (at : ℕ) → Puts [] out at out at
unfolding behind
none out at = record { bytes = refl; offset = omega arith }

pub same_text : {s t out out' : List ℕ} {at end : ℕ} → s ≡ t → Puts s out at out' end → Puts t out at out' end
same_text {s} {t} {out} {out'} {at} {end} e p = subst (λ (x : List ℕ). Puts x out at out' end) e p

sets_out : (s out : List ℕ) (at : ℕ) → length out ≤ at → sets out at s ≡ out
sets_out [] out at h = refl
sets_out (a ∷ s) out at h = rw (set_out out at a h) (sets_out s out (suc at) (omega arith))

-- one byte, where there is room for it, and where there is none
pub stored : (b : ℕ) (out : List ℕ) (at : ℕ) → at < length out → Puts (b ∷ []) out at (set out at b) (at + 1)
unfolding behind
stored b out at h = record { bytes = refl; offset = omega arith }

pub left_out : (b : ℕ) (out : List ℕ) (at : ℕ) → at ≡ length out → Puts (b ∷ []) out at out (at + 1)
unfolding behind
left_out b out at h = record { bytes = sym (sets_out (b ∷ []) out at (omega arith)); offset = omega arith }

pub past : (b : ℕ) (out : List ℕ) (at : ℕ) → length out < at → Puts (b ∷ []) out at out at
unfolding behind
past b out at h = record { bytes = sym (sets_out (b ∷ []) out at (omega arith)); offset = omega arith }

sets_append : (s t out : List ℕ) (at : ℕ) → sets (sets out at s) (at + length s) t ≡ sets out at (s ++ t)
sets_append [] t out at = rw add-zero
sets_append (a ∷ s) t out at = rw (add-suc, ← (suc-add at (length s))) (sets_append s t (set out at a) (suc at))

module _ {s t out out₁ out₂ : List ℕ} {at e₁ e₂ : ℕ} (p : Puts s out at out₁ e₁) (q : Puts t out₁ e₁ out₂ e₂) where
  same_room : length out₁ ≡ length out
  same_room = ap length p.bytes ∙ length-sets out at s

  -- the second text begins behind the first, or both offsets lie beyond the buffer
  starts : sets out₁ e₁ t ≡ sets out₁ (at + length s) t
  unfolding behind
  starts = go (dec_le (at + length s) (max at (length out + 1)))
    where
      go : Dec (at + length s ≤ max at (length out + 1)) → sets out₁ e₁ t ≡ sets out₁ (at + length s) t
      go (yes h) = let e : e₁ ≡ at + length s = omega (arith, p.offset) in ap (λ (k : ℕ). sets out₁ k t) e
      go (no h) =
          sets_out t out₁ e₁ (omega (arith, p.offset, same_room))
          ∙ sym (sets_out t out₁ (at + length s) (omega (arith, same_room)))

  -- one text after the other
  pub then : Puts (s ++ t) out at out₂ e₂
  unfolding behind
  then = record {
    bytes = q.bytes ∙ (starts ∙ (ap (λ (x : List ℕ). sets x (at + length s) t) p.bytes ∙ sets_append s t out at));
    offset = omega (arith, p.offset, q.offset, same_room, length-append s t);
  }

module _ {s out out' : List ℕ} {at end : ℕ} (p : Puts s out at out' end) where
  pub length_kept : length out' ≡ length out
  length_kept = ap length p.bytes ∙ length-sets out at s

  -- with room for all of it, the text stands there whole
  pub fits : at + length s ≤ length out → (out' ≡ take at out ++ s ++ drop (at + length s) out) × (end ≡ at + length s)
  unfolding behind
  fits h = (p.bytes ∙ sets-eq s out at h, omega (arith, p.offset))

  -- without, the offset says so
  pub too_small : length out < at + length s → length out < end
  unfolding behind
  too_small h = omega (arith, p.offset)
