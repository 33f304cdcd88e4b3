-- Parts of a list that is carried out, and their listings joined. Assumes nothing.
use Rattle.std.specs.Prelude.{Ok, Err}
use Prim.Native.Nat.{ℕ, suc, ◌≤◌}
use mathlib.Core.Path.{◌≡◌, refl, sym, ap, ◌∙◌}
use mathlib.Core.Bool.{Bool, true}
use mathlib.Core.List.{List, [], ◌∷◌, ◌++◌, map}
use native.Mathlib.Omega.{arith}
use lib.ListN.{length, length-append}
use Rattle.chart_opening.specs.Conditions.{first_of}
use Rattle.chart_opening.specs.Accepted.{head_accepts, tail_accepts, first_accepts, then_accepts, first_passed}
use Rattle.chart_opening.specs.declared.Refusal.{Refusal}
use Rattle.chart_opening.specs.Verdict.{Verdict}
use Rattle.skills_stars.specs.declared.Asked.{Asked}
use Rattle.calls.specs.Conditions.{Lengths}
use Rattle.pack_order.specs.Sort.{sort, count, All}
use Rattle.pack_order.specs.SortLaws.{sort-count, all-sort}
use Rattle.pack_order.specs.Listing.{most_charts, listed_before, ranked}
use Rattle.num_sort.proofs.Entries.{all_append}
use Rattle.pack.specs.Pack.{key_of, listed_verdict, rank_verdict}
use Rattle.pack.proofs.Checks.{passes, stops, accepted, not_many}

-- ---- A list of conditions, one for each entry

module _ (f : ℕ → Verdict) where
  map-append : (xs ys : List ℕ) → map f (xs ++ ys) ≡ map f xs ++ map f ys
  map-append [] ys = refl
  map-append (x ∷ xs) ys = ap (λ (l : List Verdict). f x ∷ l) (map-append xs ys)

  abbrev Passes : ℕ → Type 0
  Passes o = f o ≡ Ok tt

  pub to_all : (xs : List ℕ) → first_of (map f xs) ≡ Ok tt → All Passes xs
  to_all [] e = tt
  to_all (x ∷ xs) e = (head_accepts _ _ e, to_all xs (tail_accepts _ _ e))

  pub from_all : (xs : List ℕ) → All Passes xs → first_of (map f xs) ≡ Ok tt
  unfolding first_of
  from_all [] q = refl
  from_all (x ∷ xs) q = passes (f x) (map f xs) q.0 ∙ from_all xs q.1

  pub front : (xs ys : List ℕ) → first_of (map f (xs ++ ys)) ≡ Ok tt → first_of (map f xs) ≡ Ok tt
  front xs ys e = first_accepts (map f xs) (map f ys) (sym (ap first_of (map-append xs ys)) ∙ e)

  pub back : (xs ys : List ℕ) → first_of (map f (xs ++ ys)) ≡ Ok tt → first_of (map f ys) ≡ Ok tt
  back xs ys e = then_accepts (map f xs) (map f ys) (sym (ap first_of (map-append xs ys)) ∙ e)

  pub reaches : (xs : List ℕ) (o : ℕ) (ys : List ℕ) (q : Refusal) → first_of (map f xs) ≡ Ok tt → f o ≡ Err q → first_of (map f (xs ++ (o ∷ ys))) ≡ Err q
  reaches xs o ys q e h = ap first_of (map-append xs (o ∷ ys)) ∙ (first_passed (map f xs) (map f (o ∷ ys)) e ∙ stops (f o) (map f ys) h)

-- ---- A listing is as long as its list

count-all : (xs : List ℕ) → count (λ (x : ℕ). true) xs ≡ length xs
unfolding count
count-all [] = refl
count-all (x ∷ xs) = ap suc (count-all xs)

pub sort-length : (before : ℕ → ℕ → Bool) (xs : List ℕ) → length (sort before xs) ≡ length xs
sort-length before xs = sym (count-all (sort before xs)) ∙ (sort-count before (λ (x : ℕ). true) xs ∙ count-all xs)

-- ---- Parts

module _ (asked : Asked) (r v : ℕ) (l : Lengths) (pack : List ℕ) where
  abbrev verdict : ℕ → Verdict
  verdict = listed_verdict asked r v l pack

  abbrev listing : List ℕ → List ℕ
  listing xs = ranked (key_of asked) pack xs

  by_all : (xs : List ℕ) → length xs ≤ most_charts → first_of (map verdict xs) ≡ Ok tt → rank_verdict asked r v l pack xs ≡ Ok tt
  by_all xs h e = sym (not_many asked r v l pack xs h) ∙ e

  module _ (xs ys : List ℕ) (e : rank_verdict asked r v l pack (xs ++ ys) ≡ Ok tt) where
    few : length (xs ++ ys) ≤ most_charts
    few = (accepted asked r v l pack (xs ++ ys) e).0

    all : first_of (map verdict (xs ++ ys)) ≡ Ok tt
    all = (accepted asked r v l pack (xs ++ ys) e).1

    pub first_part : rank_verdict asked r v l pack xs ≡ Ok tt
    first_part = by_all xs (omega (arith, few, length-append xs ys)) (front verdict xs ys all)

    pub second_part : rank_verdict asked r v l pack ys ≡ Ok tt
    second_part = by_all ys (omega (arith, few, length-append xs ys)) (back verdict xs ys all)

    sorted_all : (zs : List ℕ) → first_of (map verdict zs) ≡ Ok tt → All (λ (o : ℕ). verdict o ≡ Ok tt) (listing zs)
    unfolding ranked
    sorted_all zs h = all-sort (listed_before (key_of asked) pack) (λ (o : ℕ). verdict o ≡ Ok tt) zs (to_all verdict zs h)

    sorted-length : (zs : List ℕ) → length (listing zs) ≡ length zs
    unfolding ranked
    sorted-length zs = sort-length (listed_before (key_of asked) pack) zs

    pub joined_parts : rank_verdict asked r v l pack (listing xs ++ listing ys) ≡ Ok tt
    joined_parts =
        by_all (listing xs ++ listing ys)
        (omega (arith, few, length-append xs ys, length-append (listing xs) (listing ys), sorted-length xs, sorted-length ys))
        (from_all verdict (listing xs ++ listing ys)
        (all_append (λ (o : ℕ). verdict o ≡ Ok tt) (listing xs) (listing ys) (sorted_all xs (front verdict xs ys all)) (sorted_all ys (back verdict xs ys all))))

  pub first_stops : (os : List ℕ) (o : ℕ) (ps : List ℕ) (q : Refusal) → length (os ++ (o ∷ ps)) ≤ most_charts → rank_verdict asked r v l pack os ≡ Ok tt
      → verdict o ≡ Err q → rank_verdict asked r v l pack (os ++ (o ∷ ps)) ≡ Err q
  first_stops os o ps q h e g =
      sym (not_many asked r v l pack (os ++ (o ∷ ps)) h) ∙ reaches verdict os o ps q (accepted asked r v l pack os e).1 g
