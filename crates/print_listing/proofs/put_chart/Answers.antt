-- `print_listing::put_chart` meets its contract: the limit is tested first. Assumes nothing.
use Rattle.print_text.specs.Buffer.{same_text}
use Rattle.print_listing.proofs.Room.{beyond_text_lem, within_text}
use native.Mathlib.Omega.{arith}
use Rattle.print_listing.proofs.put_chart.Goals as goal

pub returns-then-chart-gt-LIMIT : goal.returns-then-chart-gt-LIMIT
returns-then-chart-gt-LIMIT c = same_text (beyond_text_lem c.args.chart.now c.if-chart-gt-LIMIT.true) c.put_refusal.ensures

pub put_within-requires : goal.put_within-requires
put_within-requires c = record {
  chart_len_bound = (omega arith, record { records_room = omega arith; values_room = omega arith });
  scratch_room = record { aim_room = omega arith; no_sliders_room = omega arith; speed_room = omega arith; flashlight_room = omega arith };
}

pub returns : goal.returns
returns c = same_text (within_text c.args.chart.now c.if-chart-gt-LIMIT.false) c.put_within.ensures
