-- A ranking with too few numbers, and with enough. Assumes nothing.
use Rattle.std.specs.Prelude.{Ok, Err}
use Prim.Native.Nat.{ℕ, suc, ◌≤◌, ◌<◌}
use mathlib.Core.Path.{◌≡◌, refl, sym, ap, ◌∙◌}
use mathlib.Core.Bool.{Bool, true, false, ◌&&◌, cond, true≢false}
use mathlib.Core.List.{List, [], ◌∷◌}
use native.Mathlib.Omega.{arith}
use lib.Dec.{ltb}
use lib.ListN.{length, get_or}
use borrow.Author.Tests.{ltb-true, ltb-false}
use Rattle.chart_opening.specs.Conditions.{first_of, if_accepted}
use Rattle.chart_opening.specs.Verdict.{Verdict}
use Rattle.skills_stars.specs.declared.Asked.{Asked}
use Rattle.calls.specs.Conditions.{Lengths, lengths}
use Rattle.pack_order.specs.Listing.{chart_at}
use Rattle.pack.specs.Pack.{listed_verdict, rank_verdict, Buffers, rank_answer, ranked_buffers, rank_leaves}
use Rattle.pack.proofs.Checks.{each, accepted, lies, rateable}
use Rattle.station.specs.Codes.{no_scratch, rank_verdict_into, rank_into}

-- without scratch no chart is rated
none_accepted : (asked : Asked) (r v : ℕ) (pack list : List ℕ) → 0 < length list → rank_verdict asked r v no_scratch pack list ≡ Ok tt → ⊥
none_accepted asked r v pack list h e =
    let o = get_or list 0 0 in
    let p = each (listed_verdict asked r v no_scratch pack) list (accepted asked r v no_scratch pack list e).1 0 h in
    let s = (rateable asked r v no_scratch (chart_at pack o) (lies asked r v no_scratch pack o p).1).sums in
    omega (arith, s.aim)

both : (p q : Bool) → p && q ≡ true → (p ≡ true) × (q ≡ true)
both true true e = (refl, refl)
both true false e = absurd (true≢false (sym e))
both false q e = absurd (true≢false (sym e))

module _ (asked : Asked) (pack : List ℕ) (x : Buffers) where
  abbrev verdict_with : Lengths → Verdict
  verdict_with l = rank_verdict asked (length x.tables.records) (length x.tables.values) l pack x.list

  pub too_few : (cramped : Bool) → cramped && ltb 0 (length x.list) ≡ true → {w : Verdict} → w ≡ verdict_with no_scratch
      → (w ≡ rank_verdict_into asked cramped pack x) × (x ≡ rank_into asked cramped pack x)
  unfolding rank_verdict_into rank_into if_accepted
  too_few cramped t {w} e = go (both cramped (ltb 0 (length x.list)) t) w e
    where
      go : (cramped ≡ true) × (ltb 0 (length x.list) ≡ true) → (w : Verdict) → w ≡ verdict_with no_scratch
          → (w ≡ verdict_with (cond cramped no_scratch (lengths x.scratch)))
          × (x ≡ if_accepted (verdict_with (cond cramped no_scratch (lengths x.scratch))) (ranked_buffers asked pack x) (λ r. x))
      go (c, h) (Ok tt) e = absurd (none_accepted asked (length x.tables.records) (length x.tables.values) pack x.list (ltb-true 0 (length x.list) h) (sym e))
      go (c, h) (Err q) e =
          let f : Err q ≡ verdict_with (cond cramped no_scratch (lengths x.scratch)) = e ∙ sym (ap (λ (b : Bool). verdict_with (cond b no_scratch (lengths x.scratch))) c) in
          (f, ap (λ (v : Verdict). if_accepted v (ranked_buffers asked pack x) (λ r. x)) f)

  empty : (list : List ℕ) → ltb 0 (length list) ≡ false → (r v : ℕ) (l m : Lengths) → rank_verdict asked r v l pack list ≡ rank_verdict asked r v m pack list
  unfolding rank_verdict first_of
  empty [] h r v l m = refl
  empty (o ∷ os) h r v l m = absurd (none (ltb-false 0 (suc (length os)) h))
    where
      none : suc (length os) ≤ 0 → ⊥
      none k = omega arith

  pub enough : (cramped : Bool) → cramped && ltb 0 (length x.list) ≡ false → rank_answer asked pack x ≡ rank_verdict_into asked cramped pack x
  unfolding rank_answer rank_verdict_into
  enough false h = refl
  enough true h = empty x.list h (length x.tables.records) (length x.tables.values) (lengths x.scratch) no_scratch

  pub enough_leaves : (cramped : Bool) → cramped && ltb 0 (length x.list) ≡ false → rank_leaves asked pack x ≡ rank_into asked cramped pack x
  unfolding rank_leaves rank_into
  enough_leaves cramped h = ap (λ (v : Verdict). if_accepted v (ranked_buffers asked pack x) (λ r. x)) (enough cramped h)
