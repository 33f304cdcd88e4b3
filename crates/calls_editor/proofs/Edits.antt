-- The chart after an edit's verdict, and that the place of an accepted edit is small. Assumes nothing.
use Rattle.std.specs.Prelude.{Ok, Err}
use Prim.Native.Nat.{ℕ, ◌≤◌, ◌<◌}
use mathlib.Core.Path.{◌≡◌, ap, ◌∙◌}
use mathlib.Core.List.{List}
use native.Mathlib.Omega.{arith}
use Rattle.chart_opening.proofs.Header.{holds}
use Rattle.chart_opening.specs.Accepted.{header_ok_lem}
use Rattle.chart_opening.specs.Conditions.{if_accepted}
use Rattle.chart_opening.specs.declared.Refusal.{Refusal}
use Rattle.chart_opening.specs.Verdict.{Verdict}
use Rattle.chart_replacing.specs.Replace.{replace_verdict}
use Rattle.chart_replacing.proofs.Accepted.{taken}
use Rattle.chart_inserting.specs.Insert.{insert_verdict, remove_verdict}
use Rattle.chart_inserting.proofs.Accepted.{inserted, removed}

pub chart_after : (v : Verdict) (new old b : List ℕ) → b ≡ if_accepted v new (λ _. old) → v ≡ Ok tt → b ≡ new
unfolding if_accepted
chart_after v new old b e f = e ∙ ap (λ (w : Verdict). if_accepted w new (λ _. old)) f

pub chart_kept : (v : Verdict) (new old b : List ℕ) → b ≡ if_accepted v new (λ _. old) → {q : Refusal} → v ≡ Err q → b ≡ old
unfolding if_accepted
chart_kept v new old b e f = e ∙ ap (λ (w : Verdict). if_accepted w new (λ _. old)) f

pub replace_small : (s : List ℕ) (place : ℕ) (object : List ℕ) (n : ℕ) → replace_verdict s place object n ≡ Ok tt → place < 16384
replace_small s place object n e = let t = taken s place object n e in omega (arith, t.below, (holds s (header_ok_lem s t.opens)).few)

pub insert_small : (s : List ℕ) (place : ℕ) (object : List ℕ) (n : ℕ) → insert_verdict s place object n ≡ Ok tt → place ≤ 16384
insert_small s place object n e = let t = inserted s place object n e in omega (arith, t.at, (holds s (header_ok_lem s t.opens)).few)

pub remove_small : (s : List ℕ) (place n : ℕ) → remove_verdict s place n ≡ Ok tt → place < 16384
remove_small s place n e = let t = removed s place n e in omega (arith, t.below, (holds s (header_ok_lem s t.opens)).few)
