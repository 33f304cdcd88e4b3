-- What stands in a list of consecutive entries. Assumes nothing.
use Prim.Native.Nat.{ℕ, zero, suc, ◌+◌, ◌-◌, ◌≤◌, ◌<◌}
use mathlib.Core.Path.{◌≡◌, refl, sym, ap, ◌∙◌}
use mathlib.Core.Bool.{Bool, true, false, cond}
use native.Mathlib.Omega.{arith}
use native.Mathlib.Nat.{add-zero}
use native.Mathlib.Numerals.{add-one}
use mathlib.Core.List.{◌∷◌}
use lib.ListN.{get_or, length}
use Rattle.std.specs.Option.{MatchOption, unwrap_or}
use Rattle.std.specs.Prelude.{Option, Some, None}
use Rattle.std.specs.List.{range_with_len, filter}
use Rattle.chart_fields.specs.Search.{first_below}
use Rattle.chart_fields.proofs.Search.{first_none, first_is}
use Rattle.osu_object.specs.Osu.{list_from, count_below}

pub length_list : {A : Type 0} (f : ℕ → A) (i n : ℕ) → length (list_from f i n) ≡ n
unfolding list_from
length_list f i zero = refl
length_list f i (suc n) = ap suc (length_list f (suc i) n)

pub list_at : {A : Type 0} (f : ℕ → A) (d : A) (i n k : ℕ) → k < n → get_or (list_from f i n) k d ≡ f (i + k)
unfolding list_from
list_at f d i zero k h = absurd (omega arith)
list_at f d i (suc n) zero h = let e : i ≡ i + 0 = omega arith in ap f e
list_at f d i (suc n) (suc k) h =
    let e : suc i + k ≡ i + suc k = omega arith in
    list_at f d (suc i) n k (omega arith) ∙ ap f e

-- ---- what `find` answers over places from 0 on

pub segment_at : (bad : ℕ → Bool) (n count : ℕ) (r : Option ℕ) → n ≡ count - 1 → 0 < count
    → MatchOption r ((k : ℕ) → 0 ≤ k → k < n → bad k ≡ false) (λ i. (0 ≤ i) × (i < n) × (bad i ≡ true) × ((k : ℕ) → 0 ≤ k → k < i → bad k ≡ false))
    → (unwrap_or r n ≡ first_below bad n) × (unwrap_or r n < count)
segment_at bad n count None e h f = (sym (first_none bad n (λ k l. f k (omega arith) l)), omega arith)
segment_at bad n count (Some i) e h f = (sym (first_is bad n i f.1 (λ k l. f.3 k (omega arith) l) f.2), omega arith)

-- ---- a count over places from 0 on

count_none : (test : ℕ → Bool) → count_below test 0 ≡ 0
unfolding count_below
count_none test = refl

count_next : (test : ℕ → Bool) (a : ℕ) → count_below test (a + 1) ≡ cond (test a) 1 0 + count_below test a
unfolding count_below
count_next test a = rw (add-one, count_below)

count_from : (test : ℕ → Bool) (a n : ℕ) → count_below test (a + n) ≡ count_below test a + length (filter test (range_with_len a n))
count_from test a zero = rw add-zero (omega arith)
count_from test a (suc n) =
    let p : a + suc n ≡ a + 1 + n = omega arith in
    let h : count_below test (a + 1 + n) ≡ count_below test (a + 1) + length (filter test (range_with_len (a + 1) n)) = count_from test (a + 1) n in
    rw p (go (test a) refl h)
  where
    go : (b : Bool) → test a ≡ b → count_below test (a + 1 + n) ≡ count_below test (a + 1) + length (filter test (range_with_len (a + 1) n))
        → count_below test (a + 1 + n) ≡ count_below test a + length (cond b (a ∷ filter test (range_with_len (a + 1) n)) (filter test (range_with_len (a + 1) n)))
    go true e h = let k : count_below test (a + 1) ≡ 1 + count_below test a = count_next test a ∙ rw e in omega (arith, h, k)
    go false e h = let k : count_below test (a + 1) ≡ 0 + count_below test a = count_next test a ∙ rw e in omega (arith, h, k)

pub count_range : (test : ℕ → Bool) (n : ℕ) → length (filter test (range_with_len 0 n)) ≡ count_below test n
count_range test n = let z : 0 + n ≡ n = omega arith in omega (arith, rw z at (count_from test 0 n), count_none test)
