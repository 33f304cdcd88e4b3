-- The table of records: sixteen numbers an entry, the f32 as the f64 that they are, a flag as 1 or 0.
use Rattle.std.specs.Prelude.{ℕ, ◌+◌, ◌*◌, Bool, cond, List, [], ◌∷◌, get_or, Float}
use Rattle.std.specs.Float.Ieee as Ieee
use Rattle.std.specs.Float.{nan, binary32}
use Rattle.num_floats.specs.Numbers.{zero64, one64}
use Rattle.num_whole.specs.Narrow.{narrow}
use Rattle.num_tables.specs.Parts.{put}
use Rattle.osu_difficulty_object.specs.declared.OsuDifficultyObject.{OsuDifficultyObject}

-- a flag as a number, and a number as a flag: whatever is not zero is true
abbrev pub number_of : Bool → Float
number_of b = cond b one64 zero64

abbrev pub flag_of : Float → Bool
flag_of x = Ieee.ne x zero64

-- the record that sixteen numbers stand for, whatever they are
unfoldable pub record_from : (ℕ → Float) → OsuDifficultyObject
record_from f = record {
  start_time = f 0;
  delta_time = f 1;
  adjusted_delta_time = f 2;
  lazy_jump_dist = f 3;
  min_jump_dist = f 4;
  min_jump_time = f 5;
  travel_dist = f 6;
  travel_time = f 7;
  lazy_end_x = narrow binary32 (f 8);
  lazy_end_y = narrow binary32 (f 9);
  lazy_travel_dist = f 10;
  lazy_travel_time = f 11;
  angle = f 12;
  small_circle_bonus = f 13;
  has_lazy_end = flag_of (f 14);
  has_angle = flag_of (f 15);
}

-- the row of a record
unfoldable pub row_of : OsuDifficultyObject → List Float
row_of r =
    r.start_time ∷
    r.delta_time ∷
    r.adjusted_delta_time ∷
    r.lazy_jump_dist ∷
    r.min_jump_dist ∷
    r.min_jump_time ∷
    r.travel_dist ∷
    r.travel_time ∷
    r.lazy_end_x ∷
    r.lazy_end_y ∷
    r.lazy_travel_dist ∷
    r.lazy_travel_time ∷
    r.angle ∷
    r.small_circle_bonus ∷
    number_of r.has_lazy_end ∷
    number_of r.has_angle ∷
    []

-- entry j of a table, whatever it holds
abbrev pub record_at : List Float → ℕ → OsuDifficultyObject
record_at t j = record_from (λ k. get_or t (16 * j + k) nan)

-- the table with entry j replaced
abbrev pub put_record : List Float → ℕ → OsuDifficultyObject → List Float
put_record t j r = put (16 * j) (row_of r) t
