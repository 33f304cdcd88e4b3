-- What an evaluator sees: the records and base objects at its place and before it. Definitions only.
use Rattle.std.specs.Prelude.{ℕ, ◌-◌}
use Rattle.osu_object.specs.Osu.{Object}
use Rattle.osu_object.specs.Base.{base_of}
use Rattle.osu_difficulty_object.specs.declared.OsuDifficultyObject.{OsuDifficultyObject}
use Rattle.osu_records.specs.declared.Sight.{Sight}

abbrev pub sight_of : OsuDifficultyObject → Object → Sight
sight_of r o = record { diff = r; base = base_of o }

-- what stands k places back; `previous(k)` of the Rust is k + 1 places back
abbrev pub View : Type 0
View = ℕ → Sight

-- the view from place j, of objects and records by their places
abbrev pub view_of : (ℕ → Object) → (ℕ → OsuDifficultyObject) → ℕ → View
view_of os rs j = λ k. sight_of (rs (j - k)) (os (j - k))
