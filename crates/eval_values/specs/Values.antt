-- Document 01, "The values": the five values of a place, from what its evaluators may see. Definitions only.
use Rattle.std.specs.Prelude.{ℕ, true, false, List, [], ◌∷◌, Float}
use Rattle.chart_opening.specs.declared.Settings.{Settings}
use Rattle.chart_fields.specs.declared.Layout.{Layout}
use Rattle.osu_object.specs.Osu.{Object, object_of}
use Rattle.osu_difficulty_object.specs.declared.OsuDifficultyObject.{OsuDifficultyObject}
use Rattle.osu_records.specs.Rows.{record_at}
use Rattle.osu_records.specs.Part.{last_place}
use Rattle.eval_aim.specs.Aim.{aim_at_place}
use Rattle.eval_speed.specs.Speed.{speed_at_place}
use Rattle.eval_rhythm.specs.Rhythm.{rhythm_at_place}
use Rattle.eval_flashlight.specs.Flashlight.{evaluator_of, flashlight_at_place}
use Rattle.eval_values.specs.declared.Values.{Values}

-- a row of the value table: aim, aim without sliders, speed, rhythm, flashlight
unfoldable pub row_of : Values → List Float
row_of v = v.aim ∷ v.aim_no_sliders ∷ v.speed ∷ v.rhythm ∷ v.flashlight ∷ []

-- the values of place j, of objects and their records by place, where `last` is the last place that `next` reaches
unfoldable pub values_of : Settings → ℕ → (ℕ → Object) → (ℕ → OsuDifficultyObject) → ℕ → List Float
values_of set last os rs j =
    aim_at_place os rs j true
    ∷ aim_at_place os rs j false
    ∷ speed_at_place os rs last j set.hit_window set.autopilot
    ∷ rhythm_at_place os rs last j set.hit_window
    ∷ flashlight_at_place (evaluator_of set) os rs j set.hidden
    ∷ []

-- the last place that `next` reaches from place j of n
abbrev pub reach_of : ℕ → ℕ → ℕ
reach_of n j = last_place j n

-- of a chart's objects and the records in a table
abbrev pub values_in : Settings → List ℕ → Layout → List Float → ℕ → List Float
values_in set s lay t j = values_of set (reach_of lay.n j) (object_of s lay) (record_at t) j
