-- `station::difficulty_ratings_as` meets its contract. Assumes nothing.
use mathlib.Core.Path.{sym, ap, ◌∙◌}
use mathlib.Core.List.{[]}
use Rattle.num_tables.specs.Parts.{put}
use Rattle.calls.specs.Afresh.{ratings}
use Rattle.calls.specs.Calls.{Answer, Outcome, state}
use Rattle.calls_figures.specs.Answers.{ratings_answer, scratch_of}
use Rattle.station.specs.Codes.{answer_code, numbers_of, figure_into_as, scratch_into_as, asked_of}
use Rattle.station.proofs.Rooms.{put_none, figure_room, ratings_room}
use Rattle.station.proofs.difficulty_ratings_as.Goals as goal

pub put_ratings-requires : goal.put_ratings-requires
put_ratings-requires c =
    let a = c.args in
    let st = state a.chart.now [] a.values.now in
    let sc = (scratch_of a.aim.now a.aim_no_sliders.now a.speed.now a.flashlight.now) in
    let e = c.ratings_into.ensures in
    let q₁ = c.asked_of-asked.ensures in
    let cr = c.ratings_cramped-cramped.ensures in
    let p = sym (ap ratings_answer c.in-Ok.is) ∙ (ap (λ (x : Outcome). x.answer) e.answer ∙ (λ i. (figure_into_as a.settings.now (ratings (q₁ i)) (cr i) sc st).answer)) in
    ratings_room _ _ (figure_room a.settings.now (ratings (asked_of a.mods a.given a.numbers.now)) _ sc a.chart.now a.values.now _ p)

pub returns-in-Err : goal.returns-in-Err
returns-in-Err c =
    let a = c.args in
    let st = state a.chart.now [] a.values.now in
    let sc = (scratch_of a.aim.now a.aim_no_sliders.now a.speed.now a.flashlight.now) in
    let e = c.ratings_into.ensures in
    let q₁ = c.asked_of-asked.ensures in
    let cr = c.ratings_cramped-cramped.ensures in
    let p = sym (ap ratings_answer c.in-Err.is) ∙ (ap (λ (x : Outcome). x.answer) e.answer ∙ (λ i. (figure_into_as a.settings.now (ratings (q₁ i)) (cr i) sc st).answer)) in
    let q = e.scratch ∙ (λ i. scratch_into_as a.settings.now (ratings (q₁ i)) (cr i) sc st) in
    record {
      answer = c.code.ensures ∙ ap answer_code p;
      scratch = q;
      out = put_none a.out.now ∙ ap (λ (x : Answer). put 0 (numbers_of x) a.out.now) p;
    }

pub returns-in-Ok : goal.returns-in-Ok
returns-in-Ok c =
    let a = c.args in
    let st = state a.chart.now [] a.values.now in
    let sc = (scratch_of a.aim.now a.aim_no_sliders.now a.speed.now a.flashlight.now) in
    let e = c.ratings_into.ensures in
    let q₁ = c.asked_of-asked.ensures in
    let cr = c.ratings_cramped-cramped.ensures in
    let p = sym (ap ratings_answer c.in-Ok.is) ∙ (ap (λ (x : Outcome). x.answer) e.answer ∙ (λ i. (figure_into_as a.settings.now (ratings (q₁ i)) (cr i) sc st).answer)) in
    let q = e.scratch ∙ (λ i. scratch_into_as a.settings.now (ratings (q₁ i)) (cr i) sc st) in
    record {
      answer = ap answer_code p;
      scratch = q;
      out = c.put_ratings.ensures ∙ ap (λ (x : Answer). put 0 (numbers_of x) a.out.now) p;
    }
