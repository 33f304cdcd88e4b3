-- What the library's `find` and `any` over a range give: the lowest place at which a test holds, and whether there is one. Assumes nothing.
use Prim.Native.Nat.{ℕ, zero, suc, ◌+◌, ◌≤◌, ◌<◌}
use mathlib.Core.Path.{◌≡◌, refl, ◌∙◌, sym, ap}
use mathlib.Core.Bool.{Bool, true, false, cond, not}
use lib.Dec.{eqb, ltb}
use native.Mathlib.Numerals.{add-one}
use native.Mathlib.Omega.{arith}
use denote.Ref.{Bor}
use denote.Param.Members.{Mut}
use borrow.Author.Tests.{lt-ltb, le-ltb, eq-eqb, ne_eqb}
use Rattle.std.specs.Prelude.{List, Option, Some, None}
use Rattle.std.specs.Option.{MatchOption}
use Rattle.std.specs.Iterator.{YieldsThen}
use Rattle.std.specs.List.{FoldsTo, list_any, range_with_len}
use Rattle.std.specs.Fn.{Called, CalledAt}
use Rattle.std.specs.Bool.{⊤}
use Rattle.std.specs.declared.ops.Range.{Range}
use Rattle.std.proofs.iter.Yields.{nat_range_steps}
use Rattle.std.proofs.lemmas.Iterator.{first_from_Range, YieldsList-from_range}
use Rattle.std.proofs.lemmas.Iterator.Search.{any_from_yields_List}
use Rattle.chart_fields.specs.Search.{first_from, first_below, place_below}
use Rattle.chart_fields.proofs.Search.{first_is, first_none}

-- ---- what `find` over a range gives

-- the place that it found, or that it found none
option_is : (bad : ℕ → Bool) (n : ℕ) (r : Option ℕ)
    → MatchOption r ((k : ℕ) → 0 ≤ k → k < n → bad k ≡ false) (λ i. (0 ≤ i) × (i < n) × (bad i ≡ true) × ((k : ℕ) → 0 ≤ k → k < i → bad k ≡ false))
    → r ≡ place_below bad n
unfolding place_below
option_is bad n None h =
    let e : first_below bad n ≡ n = first_none bad n (λ j l. h j (omega arith) l) in
    simp (le-ltb (first_below bad n) n (omega (arith, e)))
option_is bad n (Some i) h =
    let e : first_below bad n ≡ i = first_is bad n i h.1 (λ j l. h.3 j (omega arith) l) h.2 in
    simp (e, lt-ltb i n h.1)

pub find_is : {F : Type 0} {g : Mut F (Bor ℕ × Unit {0}) Bool} (bad : ℕ → Bool) (n : ℕ) (u : Range ℕ) (f : F) (r : Option ℕ)
    → (xs : List ℕ) × (j : F) × YieldsThen nat_range_steps (record { start = 0; end = n }) xs r u × FoldsTo (λ p x q. CalledAt g p x false q) f xs j
    × MatchOption r ⊤ (λ x. (h : F) × CalledAt g j x true h)
    → ((x : ℕ) (b : Bool) (q : F) → CalledAt g f x b q → (q ≡ f) × (b ≡ bad x)) → r ≡ place_below bad n
find_is bad n u f r d t =
    option_is bad n r
    (first_from_Range (record { start = 0; end = n }) u f r (λ i. bad i ≡ true) (λ i. bad i ≡ false) d (λ x q k. sym (t x true q k).1) (λ x q k. ((t x false q k).0, sym (t x false q k).1)))

-- what an answer tells: the place, or that there is none
pub place_is : (bad : ℕ → Bool) (n i : ℕ) → Some i ≡ place_below bad n → (first_below bad n ≡ i) × (ltb i n ≡ true)
unfolding place_below
place_is bad n i e = go (ltb (first_below bad n) n) refl e
  where
    go : (b : Bool) → ltb (first_below bad n) n ≡ b → ◌≡◌ {A = Option ℕ} (Some i) (cond b (Some (first_below bad n)) None) → (first_below bad n ≡ i) × (ltb i n ≡ true)
    go true l q =
        let z : first_below bad n ≡ i = cc in
        (z, rw z at l)
    go false l q = absurd (let z : ◌≡◌ {A = ℕ} 0 1 = cc in omega arith)

pub place_none : (bad : ℕ → Bool) (n : ℕ) → None ≡ place_below bad n → ltb (first_below bad n) n ≡ false
unfolding place_below
place_none bad n e = go (ltb (first_below bad n) n) refl e
  where
    go : (b : Bool) → ltb (first_below bad n) n ≡ b → ◌≡◌ {A = Option ℕ} None (cond b (Some (first_below bad n)) None) → ltb (first_below bad n) n ≡ false
    go true l q = absurd (let z : ◌≡◌ {A = ℕ} 0 1 = cc in omega arith)
    go false l q = l

-- ---- what `any` over a range gives

any_from : (bad : ℕ → Bool) (k i : ℕ) → list_any bad (range_with_len i k) ≡ not (eqb (first_from bad k i) (i + k))
unfolding first_from
any_from bad zero i = simp (eq-eqb i (i + 0) (omega arith))
any_from bad (suc k) i = go (bad i) refl (any_from bad k (suc i))
  where
    go : (b : Bool) → bad i ≡ b → list_any bad (range_with_len (suc i) k) ≡ not (eqb (first_from bad k (suc i)) (suc i + k))
        → list_any bad (range_with_len i (suc k)) ≡ not (eqb (first_from bad (suc k) i) (i + suc k))
    go true e h = simp (e, ne_eqb i (i + suc k) (λ q. omega arith))
    go false e h =
        let m : i + suc k ≡ suc i + k = omega arith in
        simp (e, m, add-one i) h

pub any_is : {F : Type 0} {g : Mut F (ℕ × Unit {0}) Bool} (bad : ℕ → Bool) (n : ℕ) (u : Range ℕ) (f : F) (r : Bool)
    → (xs : List ℕ) × (o : Option ℕ) × (j : F) × YieldsThen nat_range_steps (record { start = 0; end = n }) xs o u × FoldsTo (λ p x q. Called g p (x, tt) false q) f xs j
    × MatchOption o (r ≡ false) (λ x. (r ≡ true) × ((h : F) × Called g j (x, tt) true h))
    → ((x : ℕ) (b : Bool) (q : F) → Called g f (x, tt) b q → (q ≡ f) × (b ≡ bad x)) → r ≡ not (eqb (first_below bad n) n)
unfolding first_below
any_is bad n u f r d t = any_from_yields_List bad u f r d (YieldsList-from_range 0 n n refl (omega arith)) t ∙ any_from bad n 0 ∙ ap (λ (k : ℕ). not (eqb (first_from bad n 0) k)) (omega arith)
