-- The place of a refusal is at most the largest number of objects. Assumes nothing.
use Rattle.std.specs.Prelude.{Err}
use mathlib.Core.Path.{◌≡◌, refl, sym, ap, ◌∙◌}
use mathlib.Core.List.{List}
use mathlib.Core.Bool.{Bool, true, false}
use Prim.Native.Nat.{ℕ, ◌≤◌, ◌<◌}
use native.Mathlib.Omega.{arith}
use Rattle.chart_fields.specs.Limits.{most_objects}
use Rattle.chart_opening.specs.Header.{header_ok}
use Rattle.chart_opening.specs.Conditions.{refusal_place, first_of, chart_conditions, open_conditions}
use Rattle.chart_opening.specs.Accepted.{first_refused, header_ok_lem}
use Rattle.chart_opening.specs.declared.Refusal.{Refusal}
use Rattle.chart_opening.specs.Verdict.{Verdict}
use Rattle.chart_opening.specs.declared.Refusal.TheVariants.{Header, Setting, Object, Entries, Order, Length, Table, Place, Room, NotFinite}
use Rattle.chart_opening.proofs.Header.{holds}
use Rattle.chart_replacing.specs.Replace.{put_object}
use Rattle.chart_inserting.specs.Insert.{insert_object, remove_object}
use Rattle.chart_replacing.specs.Replaced as R
use Rattle.chart_inserting.specs.Inserted as Into
use Rattle.chart_inserting.specs.Removed as Out
use Rattle.calls.specs.Afresh.{count}
use Rattle.calls.specs.Conditions.{Operation, replace, insert, remove, read_record, read_values, read_detail, figure, sum_conditions, figure_conditions, opening, refusal}
use Rattle.calls.specs.Statement.{Placed, ReplacePlaced, of_chart, of_place, of_length, of_result, InsertPlaced, insert_of_chart, insert_of_place, insert_of_room, insert_of_length, insert_of_result, RemovePlaced, remove_of_chart, remove_of_place, remove_of_result}
use Rattle.calls.proofs.Refusals.{opening_met}
use Rattle.calls.proofs.Places.{same_refusal, opening_placed, replace_placed, insert_placed, remove_placed, record-placed, values_placed, detail_placed, figure_placed}

few : (b : List ℕ) → header_ok b ≡ true → (j : ℕ) → j < count b → j ≤ most_objects
few b h j l = omega (arith, (holds b h).few)

placed_limit : (b : List ℕ) (q : Refusal) → header_ok b ≡ true → Placed b q → refusal_place q ≤ most_objects
placed_limit b (Object j) h l = few b h j l.below
placed_limit b (Entries j) h l = few b h j l.below
placed_limit b (Order j) h l = few b h j l.below
placed_limit b Header h l = omega arith
placed_limit b Setting h l = omega arith
placed_limit b Length h l = omega arith
placed_limit b Table h l = omega arith
placed_limit b Place h l = omega arith
placed_limit b Room h l = omega arith
placed_limit b NotFinite h l = omega arith

-- where condition 1 is met, that is the refusal
header_first : (b : List ℕ) → header_ok b ≡ false → first_of (chart_conditions b) ≡ Err Header
unfolding first_of chart_conditions
header_first b h = simp h

at_limit : (b : List ℕ) (q : Refusal) → (header_ok b ≡ false → ◌≡◌ {A = Verdict} (Err Header) (Err q)) → Placed b q → refusal_place q ≤ most_objects
at_limit b q f p = go (header_ok b) refl
  where
    go : (t : Bool) → header_ok b ≡ t → refusal_place q ≤ most_objects
    go true h = placed_limit b q h p
    go false h = let e : refusal_place Header ≡ refusal_place q = ap refusal_place (same_refusal (f h)) in omega arith

pub opening_limit : (r v : ℕ) (b : List ℕ) (q : Refusal) → opening r v b ≡ Err q → refusal_place q ≤ most_objects
unfolding open_conditions
opening_limit r v b q e = at_limit b q (λ h. sym (first_refused (chart_conditions b) _ Header (header_first b h)) ∙ e) (opening_placed r v b q e)

replace_limit : (k : ℕ) (o : List ℕ) (r v : ℕ) (b : List ℕ) (q : Refusal) → ReplacePlaced k o r v b q → refusal_place q ≤ most_objects
replace_limit k o r v b q (of_chart e p) = opening_limit r v b q e
replace_limit k o r v b q (of_place e h p) = let z : refusal_place q ≡ 0 = ap refusal_place p in omega arith
replace_limit k o r v b q (of_length e h l p) =
    let z : refusal_place q ≡ k = ap refusal_place p in
    omega (arith, few b (header_ok_lem b (opening_met r v b e).0) k h)
replace_limit k o r v b q (of_result e h l p) =
    let t = header_ok_lem b (opening_met r v b e).0 in
    placed_limit (put_object k o b) q (R.header b k o (holds b t) h l ∙ t) p

insert_limit : (k : ℕ) (o : List ℕ) (r v : ℕ) (b : List ℕ) (q : Refusal) → InsertPlaced k o r v b q → refusal_place q ≤ most_objects
insert_limit k o r v b q (insert_of_chart e p) = at_limit b q (λ h. sym (first_refused (chart_conditions b) _ Header (header_first b h)) ∙ e) p
insert_limit k o r v b q (insert_of_place a h p) = let z : refusal_place q ≡ 0 = ap refusal_place p in omega arith
insert_limit k o r v b q (insert_of_room a h n p) = let z : refusal_place q ≡ 0 = ap refusal_place p in omega arith
insert_limit k o r v b q (insert_of_length a h n l p) =
    let z : refusal_place q ≡ k = ap refusal_place p in
    omega (arith, (holds b (header_ok_lem b a)).few)
insert_limit k o r v b q (insert_of_result a h n l p) = placed_limit (insert_object k o b) q (Into.header b k o (header_ok_lem b a) h n l) p

remove_limit : (k r v : ℕ) (b : List ℕ) (q : Refusal) → RemovePlaced k r v b q → refusal_place q ≤ most_objects
remove_limit k r v b q (remove_of_chart e p) = opening_limit r v b q e
remove_limit k r v b q (remove_of_place a h p) = let z : refusal_place q ≡ 0 = ap refusal_place p in omega arith
remove_limit k r v b q (remove_of_result a h p) = placed_limit (remove_object k b) q (Out.header b k (header_ok_lem b (opening_met r v b a).0) h) p

pub place_limit : (a : Operation) (r v : ℕ) (b : List ℕ) (q : Refusal) → refusal a r v b ≡ Err q → refusal_place q ≤ most_objects
unfolding refusal figure_conditions sum_conditions
place_limit (replace k o) r v b q e = replace_limit k o r v b q (replace_placed k o r v b q e)
place_limit (insert k o) r v b q e = insert_limit k o r v b q (insert_placed k o r v b q e)
place_limit (remove k) r v b q e = remove_limit k r v b q (remove_placed k r v b q e)
place_limit (read_record k) r v b q e = let z = record-placed k r v b q e in omega arith
place_limit (read_values k) r v b q e = let z = values_placed k r v b q e in omega arith
place_limit (read_detail d k) r v b q e = let z = detail_placed d k r v b q e in omega arith
place_limit (figure f l) r v b q e =
    at_limit b q (λ h. sym (first_refused _ _ Header (first_refused (chart_conditions b) _ Header (header_first b h))) ∙ e) (figure_placed f l r v b q e)
