-- What the outer entries answer: evaluators/*.rs at place j, over a slice of records. Definitions only.
use Rattle.std.specs.Prelude.{ℕ, Bool, List, length, Float}
use Rattle.chart_fields.specs.declared.Layout.{Layout}
use Rattle.osu_object.specs.Osu.{object_of}
use Rattle.osu_difficulty_object.specs.declared.OsuDifficultyObject.{OsuDifficultyObject}
use Rattle.eval_aim.specs.Aim.{aim_at_place}
use Rattle.eval_speed.specs.Speed.{speed_at_place}
use Rattle.eval_rhythm.specs.Rhythm.{rhythm_at_place}
use Rattle.eval_flashlight.specs.declared.FlashlightEvaluator.{FlashlightEvaluator}
use Rattle.eval_flashlight.specs.Flashlight.{flashlight_at_place}
use Rattle.eval_outer.specs.Records.{record_of, in_window}

-- ---- of records by their places, of which the last is that of place `last`

abbrev aim_by : List ℕ → Layout → (ℕ → OsuDifficultyObject) → ℕ → Bool → Float
aim_by chart lay rs j sliders = aim_at_place (object_of chart lay) rs j sliders

abbrev speed_by : List ℕ → Layout → (ℕ → OsuDifficultyObject) → ℕ → ℕ → Float → Bool → Float
speed_by chart lay rs last j window autopilot = speed_at_place (object_of chart lay) rs last j window autopilot

abbrev rhythm_by : List ℕ → Layout → (ℕ → OsuDifficultyObject) → ℕ → ℕ → Float → Float
rhythm_by chart lay rs last j window = rhythm_at_place (object_of chart lay) rs last j window

abbrev flashlight_by : FlashlightEvaluator → List ℕ → Layout → (ℕ → OsuDifficultyObject) → ℕ → Bool → Float
flashlight_by e chart lay rs j hidden = flashlight_at_place e (object_of chart lay) rs j hidden

-- ---- of a slice, whose last record is that of the place which is its length: `next` is `get(idx + 1)` of the slice

abbrev pub aim_on : List ℕ → Layout → List OsuDifficultyObject → ℕ → Bool → Float
aim_on chart lay rs j sliders = aim_by chart lay (record_of rs) j sliders

abbrev pub speed_on : List ℕ → Layout → List OsuDifficultyObject → ℕ → Float → Bool → Float
speed_on chart lay rs j window autopilot = speed_by chart lay (record_of rs) (length rs) j window autopilot

abbrev pub rhythm_on : List ℕ → Layout → List OsuDifficultyObject → ℕ → Float → Float
rhythm_on chart lay rs j window = rhythm_by chart lay (record_of rs) (length rs) j window

abbrev pub flashlight_on : FlashlightEvaluator → List ℕ → Layout → List OsuDifficultyObject → ℕ → Bool → Float
flashlight_on e chart lay rs j hidden = flashlight_by e chart lay (record_of rs) j hidden

-- ---- of a window of place j, of a slice with so many records

abbrev pub aim_in : List ℕ → Layout → List OsuDifficultyObject → ℕ → Bool → Float
aim_in chart lay w j sliders = aim_by chart lay (in_window w j) j sliders

abbrev pub speed_in : List ℕ → Layout → List OsuDifficultyObject → ℕ → ℕ → Float → Bool → Float
speed_in chart lay w j records window autopilot = speed_by chart lay (in_window w j) records j window autopilot

abbrev pub rhythm_in : List ℕ → Layout → List OsuDifficultyObject → ℕ → ℕ → Float → Float
rhythm_in chart lay w j records window = rhythm_by chart lay (in_window w j) records j window

abbrev pub flashlight_in : FlashlightEvaluator → List ℕ → Layout → List OsuDifficultyObject → ℕ → Bool → Float
flashlight_in e chart lay w j hidden = flashlight_by e chart lay (in_window w j) j hidden
