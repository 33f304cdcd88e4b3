-- What the evaluators read of an object beside its record: `base` of the Rust, which document 01 makes a place.
use Rattle.std.specs.Prelude.{ℕ, cond}
use Rattle.osu_object.specs.Osu.{Object, is_slider, is_spinner, stacked_pos, stacked_end_pos, repeat_count}
use Rattle.osu_pos.specs.declared.Pos.{Pos}
use Rattle.osu_object.specs.declared.BaseObject.{BaseObject}

unfoldable pub base_of : Object → BaseObject
base_of o = record {
  slider = is_slider o.base.kind;
  spinner = is_spinner o.base.kind;
  start_time = o.base.start_time;
  pos = stacked_pos o.base;
}

-- where it ends: of a slider this is read from its nested entries
abbrev pub end_of : Object → Pos
end_of o = stacked_end_pos o.base o.nested

-- the number of repeats, 0 where it is no slider
unfoldable pub repeats_of : Object → ℕ
repeats_of o = cond (is_slider o.base.kind) (repeat_count o.nested) 0
