-- What the five values of a place depend on. Assumes nothing.
use Rattle.std.specs.Prelude.{◌≡◌, refl, ℕ, length}
use Rattle.chart_opening.specs.declared.Settings.{Settings}
use Rattle.osu_object.specs.Osu.{Object}
use Rattle.osu_difficulty_object.specs.declared.OsuDifficultyObject.{OsuDifficultyObject}
use Rattle.eval_values.specs.declared.Values.{Values}
use Rattle.eval_values.specs.Values.{row_of, values_of}

-- a row has five numbers
pub row_width : (v : Values) → length (row_of v) ≡ 5
unfolding row_of
row_width v = refl

pub values_width : (set : Settings) (last : ℕ) (os : ℕ → Object) (rs : ℕ → OsuDifficultyObject) (j : ℕ) → length (values_of set last os rs j) ≡ 5
unfolding values_of
values_width set last os rs j = refl
