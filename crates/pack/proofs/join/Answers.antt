-- `pack::join` meets its contract. Assumes nothing.
use Rattle.std.proofs.lemmas.Result.{err_from_is_err_and}
use mathlib.Core.Path.{refl, sym, ◌∙◌}
use Rattle.calls_figures.specs.Answers.{scratch_of}
use Rattle.pack.specs.Pack.{rank_answer, tables}
use Rattle.pack.proofs.Lists.{refused_leaves, carried_leaves}
use Rattle.pack.proofs.join.Goals as goal

pub list_all-requires : goal.list_all-requires
unfolding rank_answer
list_all-requires c = sym c.check.ensures.answer ∙ c.in_ok-check.was

pub returns-in_err-check : goal.returns-in_err-check
unfolding rank_answer
returns-in_err-check c =
    let p = err_from_is_err_and c.from_residual.result c.from_residual.ensures.1 in
    rw (p.1, p.2) (
    let a = c.args in
    let e = sym c.in_err-check.was ∙ c.check.ensures.answer in
    record {
      answer = e;
      leaves = refused_leaves a.asked a.pack.now a.list.now (tables a.records.now a.values.now) (scratch_of a.aim.now a.aim_no_sliders.now a.speed.now a.flashlight.now) e;
      pack = refl;
    }
    )

pub returns : goal.returns
unfolding rank_answer
returns c =
    let a = c.args in
    let e = sym c.in_ok-check.was ∙ c.check.ensures.answer in
    record {
      answer = e;
      leaves = c.list_all.ensures ∙ carried_leaves a.asked a.pack.now a.list.now (tables a.records.now a.values.now) (scratch_of a.aim.now a.aim_no_sliders.now a.speed.now a.flashlight.now) e;
      pack = refl;
    }
