-- `eval_aim::parts_of` meets its contract. Assumes nothing.
use mathlib.Core.Path.{◌∙◌}
use Rattle.osu_object.specs.Osu.{object_of}
use Rattle.osu_records.specs.Part.{part_at}
use Rattle.eval_aim.specs.Aim.{parts_of}
use Rattle.eval_aim.proofs.Value.{parts_spinner, parts_all}
use borrow.Author.Tests.{lt-ltb}
use Rattle.eval_aim.proofs.parts_of.Goals as goal

pub returns-then-before-lt2 : goal.returns-then-before-lt2
unfolding parts_of
returns-then-before-lt2 c = simp (c.none.ensures, lt-ltb _ _ c.if-before-lt2.true)

pub returns-then-curr-last : goal.returns-then-curr-last
returns-then-curr-last c = c.none-then-curr-last.ensures
    ∙ parts_spinner (object_of c.args.chart.now c.args.lay) (part_at c.args.t.now c.args.part) c.args.j _ _ _ c.if-before-lt2.false c.sight_at-curr.ensures c.sight_at-last.ensures c.if-curr-last.true

pub returns : goal.returns
returns c = c.bonuses.ensures
    ∙ parts_all (object_of c.args.chart.now c.args.lay) (part_at c.args.t.now c.args.part) c.args.j _ _ _ c.if-before-lt2.false c.sight_at-curr.ensures c.sight_at-last.ensures _ _ _
    c.if-curr-last.false c.sight_at-last_last.ensures c.spacing-distance.ensures.has c.spacing-distance.ensures.distance
