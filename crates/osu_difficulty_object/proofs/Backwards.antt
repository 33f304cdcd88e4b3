-- What `find` answers over places from the last on. Assumes nothing.
use Prim.Native.Nat.{ℕ, zero, suc, ◌+◌, ◌-◌, ◌<◌}
use mathlib.Core.Path.{◌≡◌, refl, ap, subst, ◌∙◌}
use mathlib.Core.Bool.{Bool, true, false, cond}
use mathlib.Core.List.{List, [], ◌∷◌}
use native.Mathlib.Omega.{arith}
use lib.ListN.{length}
use Rattle.std.specs.Prelude.{Option, Some, None}
use Rattle.std.specs.Option.{MatchOption}
use Rattle.std.specs.List.{find}
use Rattle.std.specs.declared.iter.Rev.{Rev}
use Rattle.std.specs.declared.ops.Range.{Range}
use Rattle.std.specs.Iterator.Adapters.{rev_source, rev_steps}
use Rattle.std.proofs.iter.runs.Sources.{nat_range_steps_back}
use Rattle.std.proofs.lemmas.Iterator.{YieldsList}
use Rattle.std.proofs.lemmas.Iterator.Consumers.{YieldsList-from_shown}
use Rattle.osu_object.specs.Osu.{last_below}

-- the n numbers from a on, the last first
abbrev pub down : ℕ → ℕ → List ℕ
down a zero = []
down a (suc n) = (a + n) ∷ down a n

shown : Range ℕ → List ℕ
shown s = down s.start (s.end - s.start)

shown_none : (s t : Range ℕ) → nat_range_steps_back s None t → length (shown s) ≡ 0
unfolding shown
shown_none s t p = rw p.1.0

shown_more : (s t : Range ℕ) (x : ℕ) → nat_range_steps_back s (Some x) t → shown s ≡ x ∷ shown t
unfolding shown
shown_more s t x p =
    let k : s.end - s.start ≡ suc (t.end - t.start) = omega (arith, p.0, p.1.0, p.1.2) in
    let y : s.start + (t.end - t.start) ≡ x = omega (arith, p.0, p.1.0, p.1.1, p.1.2) in
    rw (k, y, p.0)

pub backwards : {s : Rev (Range ℕ)} (n : ℕ) → rev_source s ≡ record { start = 0; end = n } → YieldsList (rev_steps nat_range_steps_back) (λ x. x) s (down 0 n)
unfolding shown
backwards {s} n e =
    let z : n - 0 ≡ n = omega arith in
    let q : shown (rev_source s) ≡ down 0 n = ap shown e ∙ ap (down 0) z in
    subst (YieldsList (rev_steps nat_range_steps_back) (λ x. x) s) q
    (YieldsList-from_shown (rev_steps nat_range_steps_back) (λ x. x) (λ u. shown (rev_source u)) (λ u t p. shown_none (rev_source u) (rev_source t) p)
    (λ u x t p. shown_more (rev_source u) (rev_source t) x p) s)

abbrev pub Last : (ℕ → Bool) → ℕ → Option ℕ → Type 0
Last test n r = MatchOption r (last_below test n ≡ 0) (λ k. (last_below test n ≡ k + 1) × (k < n))

pub last_found : (test : ℕ → Bool) (n : ℕ) → Last test n (find test (down 0 n))
unfolding last_below
last_found test zero = refl
last_found test (suc n) = let z : 0 + n ≡ n = omega arith in rw z (go (test n) refl (find test (down 0 n)) (last_found test n))
  where
    go : (b : Bool) → test n ≡ b → (r : Option ℕ) → Last test n r
        → MatchOption (cond b (Some n) r) (cond b (suc n) (last_below test n) ≡ 0) (λ k. (cond b (suc n) (last_below test n) ≡ k + 1) × (k < suc n))
    go true e r h = (omega arith, omega arith)
    go false e None h = h
    go false e (Some k) h = (h.0, omega (arith, h.1))
