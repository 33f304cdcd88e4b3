-- `test_outer::values_of_array` meets its contract: the outer entries' values, of a slice of m records. Assumes nothing.
use Rattle.std.proofs.Common.{rules, ◌≡◌, length, take, ℕ, true, false, List}
use native.Mathlib.Omega.{arith}
use lib.Ieee.{Float}
use Rattle.std.proofs.lemmas.List.{length-take-le}
use Rattle.chart_fields.specs.declared.Layout.{Layout}
use Rattle.chart_opening.specs.declared.Settings.{Settings}
use Rattle.osu_object.specs.Osu.{object_of}
use Rattle.osu_difficulty_object.specs.declared.OsuDifficultyObject.{OsuDifficultyObject as Record}
use Rattle.eval_flashlight.specs.declared.FlashlightEvaluator.{FlashlightEvaluator}
use Rattle.eval_flashlight.specs.Flashlight.{evaluator_of}
use Rattle.eval_values.specs.declared.Values.{Values}
use Rattle.eval_values.specs.Values.{row_of, values_of}
use Rattle.eval_outer.specs.Records.{record_of}
use Rattle.eval_outer.specs.Entries.{aim_on, speed_on, rhythm_on, flashlight_on}
use Rattle.test_outer.specs.Values.{gathered_of}
use Rattle.test_outer.proofs.values_of_array.Goals as goal

five : (set : Settings) (chart : List ℕ) (lay : Layout) (rs : List Record) (m j : ℕ) (v : Values) (light : FlashlightEvaluator) (aim without speed rhythm flashlight : Float)
    → v ≡ gathered_of aim without speed rhythm flashlight
    → light ≡ evaluator_of set
    → aim ≡ aim_on chart lay rs j true
    → without ≡ aim_on chart lay rs j false
    → speed ≡ speed_on chart lay rs j set.hit_window set.autopilot
    → rhythm ≡ rhythm_on chart lay rs j set.hit_window
    → flashlight ≡ flashlight_on light chart lay rs j set.hidden
    → length rs ≡ m
    → row_of v ≡ values_of set m (object_of chart lay) (record_of rs) j
unfolding row_of values_of
five set chart lay rs m j v light aim without speed rhythm flashlight ev el ea ew es er ef em = simp (ev, ea, ew, es, er, ef, el, em)

pub returns : goal.returns
returns c =
    let a = c.args in
    let whole : length a.records ≡ 64 = search rules in
    let few : length (take a.m a.records) ≡ a.m = length-take-le a.m a.records (omega arith) in
    five a.set a.chart.now a.lay (take a.m a.records) a.m a.j c.gathered.result c.evaluator_of-light.result _ _ _ _ _ c.gathered.ensures c.evaluator_of-light.ensures
    c.evaluate_aim-aim.ensures c.evaluate_aim-aim_no_sliders.ensures c.evaluate_speed-speed.ensures c.evaluate_rhythm-rhythm.ensures c.evaluate_flashlight-flashlight.ensures few
