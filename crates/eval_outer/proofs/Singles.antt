-- The f32 fields of records in an array are f32: the array's type says so. Assumes nothing.
use Prim.Native.Nat.{ℕ, zero, suc, ◌<◌}
use native.Mathlib.Nat.{not-suc-le-zero, le_of_suc-le-suc}
use mathlib.Core.Path.{sym, subst}
use mathlib.Core.List.{List, [], ◌∷◌}
use lib.ListN.{length, get_or}
use mir.Val.{Val}
use denote.Array.{Array, each}
use denote.Floats.{passes}
use denote.Laws.{Is}
use denote.RattleType.{RattleType}
use denote.Shadow.{shadow}
use Rattle.osu_difficulty_object.specs.declared.OsuDifficultyObject.{OsuDifficultyObject as Record}
use Rattle.osu_difficulty_object.specs.contracts.OsuDifficultyObject as T
use Rattle.eval_outer.specs.Records.{blank, InF32, InF32s}

abbrev R : RattleType
R = T.the_row

-- element k of an array is a record
element : (rs : List Record) (us : List Val) → shadow (each Record R.own_val rs us) → (k : ℕ) → k < length rs → (vs : List Val) × Is R (get_or rs k blank) vs
element [] us s k h = absurd (not-suc-le-zero h)
element (r ∷ rs) [] s k h = absurd s
element (r ∷ rs) (u ∷ us) s zero h = (u ∷ [], s.0)
element (r ∷ rs) (u ∷ us) s (suc k) h = element rs us s.1 k (le_of_suc-le-suc h)

singles : (r : Record) (vs : List Val) → Is R r vs → InF32 r
singles r vs p = record { x = passes _ p.1.1.1.1.1.1.1.1.1.1.0.1; y = passes _ p.1.1.1.1.1.1.1.1.1.1.1.0.1 }

pub in_f32 : (w : List Record) (vs : List Val) → Is (Array R 34) w vs → InF32s w
in_f32 w vs g k l = let e = element w g.0 g.1.1 k (subst (λ (n : ℕ). k < n) (sym g.1.0.1) l) in singles _ e.0 e.1
