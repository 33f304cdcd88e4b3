-- `num_whole::to_i32` meets its contract: proofs/ToI32.antt has a law for each range of x. Assumes nothing.
use Rattle.num_whole.proofs.ToI32.{Within, at_nan, at_low, at_high, within, cast_fits, cast_is}
use Rattle.num_whole.proofs.to_i32.Goals as goal
use Rattle.num_whole.proofs.to_i32.Goals.{Else-x-3}

inside : (c : Else-x-3) → Within c.args.x
inside c = within c.args.x c.if-x.false c.if-x-2.false c.if-x-3.false

pub truncating_f64_to_i64-requires : goal.truncating_f64_to_i64-requires
truncating_f64_to_i64-requires c = record {
  lower_bound = (inside c).0;
  upper_bound = (inside c).1;
}

pub overflow_cast-result : goal.overflow_cast-result
overflow_cast-result c = cast_fits c.args.x c.truncating_f64_to_i64.result c.truncating_f64_to_i64.ensures (inside c.before)

pub returns-then-x : goal.returns-then-x
returns-then-x c = at_nan c.args.x c.if-x.true

pub returns-then-x-2 : goal.returns-then-x-2
returns-then-x-2 c = at_low c.args.x c.if-x-2.true

pub returns-then-x-3 : goal.returns-then-x-3
returns-then-x-3 c = at_high c.args.x c.if-x-3.true

pub returns-else-x-3 : goal.returns-else-x-3
returns-else-x-3 c = cast_is c.args.x c.truncating_f64_to_i64.result c.truncating_f64_to_i64.ensures (inside c.before)
