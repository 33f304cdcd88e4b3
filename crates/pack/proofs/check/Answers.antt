-- `pack::check` meets its contract. Assumes nothing.
use mathlib.Core.Path.{refl}
use Rattle.pack.proofs.Checks.{too_many}
use Rattle.pack.proofs.Lists.{checked}
use Rattle.pack.proofs.check.Goals as goal

pub returns-then-list-gt-MOST_CHARTS : goal.returns-then-list-gt-MOST_CHARTS
returns-then-list-gt-MOST_CHARTS c = let a = c.args in record {
  answer = too_many a.asked a.records a.values (record { aim = a.aim; aim_no_sliders = a.aim_no_sliders; speed = a.speed; flashlight = a.flashlight }) a.pack.now a.list.now c.if-list-gt-MOST_CHARTS.true;
  pack = refl;
  list = refl;
}

pub returns : goal.returns
returns c =
    let a = c.args in
    record {
      answer = checked a.asked a.records a.values (record { aim = a.aim; aim_no_sliders = a.aim_no_sliders; speed = a.speed; flashlight = a.flashlight }) a.pack.now a.list.now c.if-list-gt-MOST_CHARTS.false c.entries_in-entries.ensures c.scratch_short-short.ensures c.is_finite.ensures c.check_all.ensures;
      pack = refl;
      list = refl;
    }
