-- `num_whole::nearest_quotient` meets its contract: one law for each answer of the comparison. Assumes nothing.
use Rattle.std.proofs.Common.{◌*◌, ◌/◌, ◌%◌, ◌<◌, sym, ◌∙◌, mod-lt, div-le_self, add-one, arith}
use Rattle.num_whole.proofs.NarrowRanges.{closest_down, closest_tie, closest_up}
use Rattle.num_whole.proofs.nearest_quotient.Goals as goal

pub overflow_mul-twice : goal.overflow_mul-twice
overflow_mul-twice c = record { fits = omega (arith, mod-lt c.args.g c.requires.fact_1, c.requires) }

pub overflow_add-result : goal.overflow_add-result
overflow_add-result c = record { fits = omega (arith, div-le_self c.args.g c.args.unit, c.requires) }

pub overflow_add-result-else-twice-unit-2 : goal.overflow_add-result-else-twice-unit-2
overflow_add-result-else-twice-unit-2 c = record { fits = omega (arith, div-le_self c.args.g c.args.unit, c.requires) }

pub returns-then-twice-unit : goal.returns-then-twice-unit
returns-then-twice-unit c = sym (closest_down c.args.g c.args.unit c.if-twice-unit.true)

pub returns-then-twice-unit-2 : goal.returns-then-twice-unit-2
returns-then-twice-unit-2 c = sym (closest_tie c.args.g c.args.unit c.if-twice-unit-2.true)

pub returns-else-twice-unit-2 : goal.returns-else-twice-unit-2
returns-else-twice-unit-2 c =
    let g = c.args.g in
    let u = c.args.unit in
    let l : u < g % u * 2 = omega arith in
    add-one (g / u) ∙ sym (closest_up g u l)
