-- The loop of `close_sections` on lists. Assumes nothing.
use Prim.Native.Nat.{ℕ, zero, suc, ◌≤◌, ◌<◌, ◌+◌, ◌-◌}
use native.Mathlib.Numerals.{add-one}
use native.Mathlib.Omega.{arith}
use mathlib.Core.Path.{◌≡◌, refl, sym, ap, ◌∙◌}
use mathlib.Core.Bool.{true, false}
use mathlib.Core.List.{List, [], ◌∷◌, ◌++◌}
use lib.ListN.{length, take, set, length-set}
use lib.Seq.{take-suc-set}
use lib.Ieee.{Float, lt}
use Rattle.num_floats.specs.Numbers.{◌⊕◌}
use Rattle.skills.specs.declared.Sections.{Sections}
use Rattle.skills.specs.Strains.{section_length, room, Walk, close_one, close_to}
use Rattle.skills.specs.Shown.{shown}

module _ (initial : Float → Float) (start : Float) where
  pub close_more : (n m : ℕ) (w : Walk) → n ≡ suc m → lt w.end start ≡ true → close_to n initial start w ≡ close_to m initial start (close_one initial w)
  unfolding close_to
  close_more n m w e t = rw e (simp t)

  pub close_stop : (n : ℕ) (w : Walk) → lt w.end start ≡ false → close_to n initial start w ≡ w
  unfolding close_to
  close_stop zero w t = refl
  close_stop (suc n) w t = simp t

-- the loop's invariant: p₀ and `from` are the slice and the sections at the call
pub record Closing (p₀ : List Float) (from : Sections) (initial : Float → Float) (start : Float) (p : List Float) (s : Sections) : Type 0 where
  pub within : s.count ≤ room
  pub kept : length p ≡ length p₀
  pub walk : close_to (room - s.count) initial start (shown p s) ≡ close_to (room - from.count) initial start (shown p₀ from)

module _ {p₀ : List Float} {from : Sections} {initial : Float → Float} {start : Float} {p : List Float} {s : Sections} (c : Closing p₀ from initial start p s) where
  pub next : s.count < room → 8192 ≤ length p₀ → lt s.end start ≡ true
      → Closing p₀ from initial start (set p s.count s.peak) (record { count = s.count + 1; peak = initial s.end; end = s.end ⊕ section_length })
  unfolding close_one
  next h r t =
      let n = s.count in
      let q : n < length p = omega (arith, c.kept) in
      let e : room - n ≡ suc (room - (n + 1)) = omega arith in
      let l : take (n + 1) (set p n s.peak) ≡ take n p ++ (s.peak ∷ []) = rw add-one (take-suc-set p n s.peak q) in
      record {
        within = omega arith;
        kept = simp length-set c.kept;
        walk = ap (λ (k : List Float). close_to (room - (n + 1)) initial start (record { peaks = k; peak = initial s.end; end = s.end ⊕ section_length })) l
            ∙ sym (close_more initial start (room - n) (room - (n + 1)) (shown p s) e t)
            ∙ c.walk;
      }

  pub stop : lt s.end start ≡ false → shown p s ≡ close_to (room - from.count) initial start (shown p₀ from)
  stop t = sym (close_stop initial start (room - s.count) (shown p s) t) ∙ c.walk

  pub full : room ≤ s.count → shown p s ≡ close_to (room - from.count) initial start (shown p₀ from)
  unfolding close_to
  full h =
      let e : room - s.count ≡ 0 = omega arith in
      ap (λ (n : ℕ). close_to n initial start (shown p s)) (sym e) ∙ c.walk
