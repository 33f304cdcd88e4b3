-- The cursor of a slider, from the object, its nested entries and its points alone: `compute_slider_cursor_pos` of src/osu/difficulty/object.rs.
use Rattle.std.specs.Prelude.{ℕ, zero, suc, ◌+◌, ◌-◌, Bool, true, cond, List, ltb, eqb, length, Float}
use Rattle.std.specs.Float.Ieee as Ieee
use Rattle.std.specs.Float.{binary32, binary64}
use Rattle.num_floats.specs.Numbers.{◌⊕◌, ◌⊖◌, ◌⊗◌, ◌⊘◌, zero64, one64, two64}
use Rattle.num_floats.specs.Compare.{max_of}
use Rattle.num_whole.specs.Narrow.{narrow}
use Rattle.chart_entries.specs.declared.Nested.{Nested}
use Rattle.chart_entries.specs.declared.Point.{Point}
use Rattle.osu_pos.specs.declared.Pos.{Pos}
use Rattle.osu_pos.specs.Pos.{◌+ₚ◌, ◌-ₚ◌, ◌*ₚ◌, length_of}
use Rattle.osu_object.specs.Osu.{nested_in, nested_pos, is_tick, last_below, stacked_pos}
use Rattle.osu_object.specs.Path.{position_at}
use Rattle.osu_object.specs.declared.OsuObject.{OsuObject}
use Rattle.osu_difficulty_object.specs.Constants.{normalized_radius, assumed_slider_radius, tail_leniency}
use Rattle.osu_difficulty_object.specs.declared.cursor.Tracking.{Tracking}
use Rattle.osu_difficulty_object.specs.declared.cursor.CursorState.{CursorState}
use Rattle.osu_difficulty_object.specs.declared.cursor.Cursor.{Cursor}

-- ---- the tracking end time and the order of entries

-- the place of the last tick plus 1, or 0
unfoldable pub last_tick : List Nested → ℕ
last_tick ns = last_below (is_tick ns) (length ns)

unfoldable pub tracking_end : Float → Float → Float
tracking_end start duration = max_of (start ⊕ duration ⊕ tail_leniency) (start ⊕ duration ⊘ two64)

-- the last tick is moved behind the others where it is after the tracking end time, which then is its time
unfoldable pub moved_by : List Nested → Float → ℕ → Tracking
moved_by ns t k =
    cond (Ieee.lt t (nested_in ns k).start) (record { moved = k; end_time = (nested_in ns k).start }) (record { moved = length ns; end_time = t })

unfoldable pub tracking_of : List Nested → Float → Tracking
tracking_of ns t = cond (eqb (last_tick ns) 0) (record { moved = length ns; end_time = t }) (moved_by ns t (last_tick ns - 1))

-- the entry that comes k-th of n: from the moved one on they are turned left by one; moved is n where none is
unfoldable pub order_of : ℕ → ℕ → ℕ → ℕ
order_of moved n k = cond (ltb k moved) k (cond (ltb (k + 1) n) (k + 1) moved)

-- ---- one entry

-- the way to an entry; to the last one the way to the lazy end where that is shorter
unfoldable pub movement_of : CursorState → Nested → Pos → Bool → Pos
movement_of s e stack last =
    let m = nested_pos e +ₚ stack -ₚ s.cursor in
    let lazy = s.lazy_end -ₚ s.cursor in
    cond last (cond (Ieee.lt (length_of lazy) (length_of m)) lazy m) m

-- a way up to this length does not move the cursor
unfoldable pub required_of : ℕ → Bool → Float
required_of kind last = cond last assumed_slider_radius (cond (eqb kind 1) normalized_radius assumed_slider_radius)

-- the cursor follows up to the required distance
unfoldable pub advanced_of : CursorState → Pos → Float → Float → CursorState
advanced_of s m len required =
    cond (Ieee.lt required len)
    (record {
      cursor = s.cursor +ₚ m *ₚ narrow binary32 ((len ⊖ required) ⊘ len);
      lazy_end = s.lazy_end;
      travel_dist = s.travel_dist ⊕ len ⊗ ((len ⊖ required) ⊘ len);
    })
    s

-- after the last entry the cursor's position is the lazy end
unfoldable pub settled_of : Bool → CursorState → CursorState
settled_of last s = cond last (record { cursor = s.cursor; lazy_end = s.cursor; travel_dist = s.travel_dist }) s

unfoldable pub step_of : CursorState → Nested → Pos → Float → Bool → CursorState
step_of s e stack factor last =
    let m = movement_of s e stack last in
    settled_of last (advanced_of s m (factor ⊗ length_of m) (required_of e.kind last))

-- ---- all entries

-- the last `left` of the entries in order
unfoldable pub run_of : List Nested → Pos → Float → ℕ → ℕ → CursorState → CursorState
run_of ns stack factor moved zero s = s
run_of ns stack factor moved (suc left) s =
    run_of ns stack factor moved left (step_of s (nested_in ns (order_of moved (length ns) (length ns - suc left))) stack factor (eqb (suc left) 1))

-- a progress over all spans as one from 0 to 1 on the path
unfoldable pub folded_of : Float → Float
folded_of x =
    cond (Ieee.le one64 (Ieee.rem binary64 x two64))
    (one64 ⊖ Ieee.rem binary64 x one64)
    (Ieee.rem binary64 x one64)

unfoldable pub start_of : Pos → List Point → Float → Float → CursorState
start_of head ps stated progress = record { cursor = head; lazy_end = head +ₚ position_at ps stated (folded_of progress); travel_dist = zero64 }

-- from the tracking on
unfoldable pub cursor_from : OsuObject → Float → Float → List Nested → List Point → Float → Tracking → Cursor
cursor_from o end spans ns ps radius t =
    let duration = end ⊖ o.start_time in
    let time = t.end_time ⊖ o.start_time in
    let s = run_of ns o.stack_offset (normalized_radius ⊘ radius) t.moved (length ns) (start_of (stacked_pos o) ps o.length (time ⊘ (duration ⊘ spans))) in
    record { has_lazy_end = true; lazy_end = s.lazy_end; lazy_travel_dist = s.travel_dist; lazy_travel_time = time }

unfoldable pub slider_cursor : OsuObject → Float → Float → List Nested → List Point → Float → Cursor
slider_cursor o end spans ns ps radius =
    cursor_from o end spans ns ps radius (tracking_of ns (tracking_end o.start_time (end ⊖ o.start_time)))
