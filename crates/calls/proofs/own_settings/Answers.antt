-- `calls::own_settings` meets its contract. Assumes nothing.
use Rattle.std.specs.Result.{result_ok}
use Rattle.std.specs.Slice.{IsGetRangeResult}
use mathlib.Core.Path.{ap, ◌∙◌, subst}
use Rattle.num_tables.specs.Parts.{part}
use Rattle.calls.proofs.own_settings.Goals as goal

pub returns-clause-own : goal.returns-clause-own
unfolding part
returns-clause-own c x e =
    let h = subst (IsGetRangeResult c.args.chart.now 32 80) (c.ok_or.ensures.ok_part ∙ ap result_ok e) c.get.ensures.lookup in
    (h.0.1, h.0.2)
