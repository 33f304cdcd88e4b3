-- `print_listing::put_opened` meets its contract: the table's values are those worked out afresh. Assumes nothing.
use mathlib.Core.Path.{ap, ◌∙◌}
use native.Mathlib.Omega.{arith}
use native.Mathlib.Nat.{le_of_eq}
use Rattle.print_text.specs.Buffer.{then, same_text}
use Rattle.chart_fields.specs.declared.Layout.{Layout}
use Rattle.print_listing.proofs.Calls.{has_header}
use Rattle.print_listing.proofs.Room.{filled_text}
use Rattle.print_listing.proofs.put_opened.Goals as goal

pub layout_of-n-requires : goal.layout_of-n-requires
layout_of-n-requires c = has_header c.args.chart.now c.args.values.now c.requires.0

pub put_places-places-requires : goal.put_places-places-requires
put_places-places-requires c = (c.requires.0, le_of_eq (ap (λ (l : Layout). l.n) c.layout_of-n.ensures))

pub put_counts-requires : goal.put_counts-requires
put_counts-requires c =
    let m = c.requires in
    let k = c.put_totals-totals.auto in (
      m.0,
      record {
        aim_room = omega (arith, m.1.aim_room, k.aim);
        no_sliders_room = omega (arith, m.1.no_sliders_room, k.aim_no_sliders);
        speed_room = omega (arith, m.1.speed_room, k.speed);
        flashlight_room = omega (arith, m.1.flashlight_room, k.flashlight);
      },
    )

pub shape_of-out : goal.shape_of-out
shape_of-out c = c.put_counts.auto.out ∙ c.put_totals-totals.auto.out ∙ c.put_places-places.auto.out ∙ c.put_count-count.auto.out

pub returns : goal.returns
returns c =
    let a = c.args in
    same_text (filled_text a.chart.now a.values.now c.requires.0 _ (ap (λ (l : Layout). l.n) c.layout_of-n.ensures))
    (then (then (then c.put_count-count.ensures c.put_places-places.ensures) c.put_totals-totals.ensures) c.put_counts.ensures)
