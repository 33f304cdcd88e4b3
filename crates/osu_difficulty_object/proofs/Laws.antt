-- What a record takes from its objects and its place. Assumes nothing.
use Prim.Native.Nat.{ℕ, zero, suc, ◌-◌, ◌<◌, min}
use mathlib.Core.Path.{◌≡◌, refl, ap, ◌∙◌}
use mathlib.Core.Bool.{Bool, true, false, cond}
use mathlib.Core.List.{List}
use native.Mathlib.Omega.{arith}
use borrow.Author.Tests.{lt-ltb, le-ltb, ltb-true, ltb-false}
use lib.Dec.{T, ltb, eqb}
use lib.ListN.{length}
use lib.Ieee as Ieee
use lib.Ieee.{Float, binary32, fits, of_bits}
use lib.Ieee.Fits.{add-fits}
use Rattle.num_floats.specs.Numbers.{◌⊕◌, ◌⊖◌, ◌⊗◌, ◌⊘◌}
use Rattle.num_whole.specs.Narrow.{narrow}
use Rattle.num_whole.specs.NarrowLaws.{narrow_widened}
use Rattle.chart_entries.specs.declared.Nested.{Nested}
use Rattle.chart_entries.specs.declared.Point.{Point}
use Rattle.osu_pos.specs.declared.Pos.{Pos}
use Rattle.osu_pos.specs.Pos.{◌+ₚ◌, ◌*ₚ◌, length_of}
use Rattle.chart_opening.specs.declared.Settings.{Settings}
use Rattle.osu_object.specs.Osu.{Object, is_slider, nested_in, stacked_pos}
use Rattle.osu_object.specs.Path.{position_at}
use Rattle.osu_object.specs.declared.OsuObject.{OsuObject}
use Rattle.osu_object.specs.declared.OsuObjectKind.{OsuObjectKind}
use Rattle.osu_object.specs.declared.OsuObjectKind.TheVariants.{Circle, Spinner, Slider}
use Rattle.osu_difficulty_object.specs.Constants.{normalized_radius}
use Rattle.osu_difficulty_object.specs.Cursor.{movement_of, required_of, advanced_of, settled_of, step_of, order_of, run_of, folded_of, start_of, tracking_end, tracking_of, cursor_from, slider_cursor}
use Rattle.osu_difficulty_object.specs.Record.{zero_pos, plain_of, slid_of, placed_by, placed_of, last_cursor, jump_from, jump_of, turn_of, new_record, record_of}
use Rattle.osu_difficulty_object.specs.declared.cursor.CursorState.{CursorState}
use Rattle.osu_difficulty_object.specs.declared.cursor.Tracking.{Tracking}
use Rattle.osu_difficulty_object.specs.declared.Placed.{Placed}

-- ---- the times come from the settings, the object and the one before it

placed_base : (radius : Float) (o : Object) → (placed_of radius o).base ≡ o.base
unfolding placed_of plain_of slid_of
placed_base radius o = go o.base.kind
  where
    go : (k : OsuObjectKind) → (placed_by k radius o).base ≡ o.base
    go Circle = refl
    go Spinner = refl
    go (Slider end spans) = refl

module _ (set : Settings) (k : ℕ) (o last before : Object) where
  pub start_time_lem : (record_of set k o last before).start_time ≡ o.base.start_time ⊘ set.clock_rate
  unfolding record_of new_record
  start_time_lem = ap (λ (b : OsuObject). b.start_time ⊘ set.clock_rate) (placed_base set.radius o)

  pub delta_time_lem : (record_of set k o last before).delta_time ≡ (o.base.start_time ⊖ last.base.start_time) ⊘ set.clock_rate
  unfolding record_of new_record
  delta_time_lem =
      ap (λ (b : OsuObject). (b.start_time ⊖ (placed_of set.radius last).base.start_time) ⊘ set.clock_rate) (placed_base set.radius o)
      ∙ ap (λ (b : OsuObject). (o.base.start_time ⊖ b.start_time) ⊘ set.clock_rate) (placed_base set.radius last)

  -- "Lazy end exists exactly for sliders."
  pub has_lazy_end_lem : (record_of set k o last before).has_lazy_end ≡ is_slider o.base.kind
  unfolding record_of new_record placed_of plain_of slid_of slider_cursor cursor_from
  has_lazy_end_lem = go o.base.kind
    where
      go : (k : OsuObjectKind) → (placed_by k set.radius o).cursor.has_lazy_end ≡ is_slider k
      go Circle = refl
      go Spinner = refl
      go (Slider end spans) = refl

-- ---- of a place's number only 1, 2 and 3 or more are told apart

capped_above : (m j : ℕ) → m < 3 → ltb m (min j 3) ≡ ltb m j
capped_above m j h = go (ltb m j) refl
  where
    go : (b : Bool) → ltb m j ≡ b → ltb m (min j 3) ≡ b
    go true e = let l = ltb-true m j e in lt-ltb m (min j 3) (omega arith)
    go false e = let l = ltb-false m j e in le-ltb m (min j 3) (omega arith)

capped_below : (j : ℕ) → ltb (min j 3) 2 ≡ ltb j 2
capped_below j = go (ltb j 2) refl
  where
    go : (b : Bool) → ltb j 2 ≡ b → ltb (min j 3) 2 ≡ b
    go true e = let l = ltb-true j 2 e in lt-ltb (min j 3) 2 (omega arith)
    go false e = let l = ltb-false j 2 e in le-ltb (min j 3) 2 (omega arith)

pub place_capped : (set : Settings) (j : ℕ) (o last before : Placed) → new_record set (min j 3) o last before ≡ new_record set j o last before
unfolding new_record jump_of jump_from last_cursor turn_of
place_capped set j o last before = rw (capped_below j, capped_above 1 j (omega arith), capped_above 2 j (omega arith))

-- ---- the lazy end is of f32 numbers

record InF32 (p : Pos) : Type 0 where
  x : T (fits binary32 p.x)
  y : T (fits binary32 p.y)

sum-in : (p q : Pos) → InF32 (p +ₚ q)
sum-in p q = record { x = add-fits binary32 p.x q.x; y = add-fits binary32 p.y q.y }

-- both positions of a state
record Held (s : CursorState) : Type 0 where
  cursor : InF32 s.cursor
  lazy_end_lem : InF32 s.lazy_end

advanced_in : (s : CursorState) (m : Pos) (len required : Float) → Held s → Held (advanced_of s m len required)
unfolding advanced_of
advanced_in s m len required h = go (Ieee.lt required len)
  where
    go : (b : Bool) → Held (cond b (record { cursor = s.cursor +ₚ m *ₚ narrow binary32 ((len ⊖ required) ⊘ len); lazy_end = s.lazy_end; travel_dist = s.travel_dist ⊕ len ⊗ ((len ⊖ required) ⊘ len) }) s)
    go true = record { cursor = sum-in s.cursor (m *ₚ narrow binary32 ((len ⊖ required) ⊘ len)); lazy_end_lem = h.lazy_end_lem }
    go false = h

settled_in : (last : Bool) (s : CursorState) → Held s → Held (settled_of last s)
unfolding settled_of
settled_in true s h = record { cursor = h.cursor; lazy_end_lem = h.cursor }
settled_in false s h = h

step_in : (s : CursorState) (e : Nested) (stack : Pos) (factor : Float) (last : Bool) → Held s → Held (step_of s e stack factor last)
unfolding step_of
step_in s e stack factor last h =
    settled_in last (advanced_of s (movement_of s e stack last) (factor ⊗ length_of (movement_of s e stack last)) (required_of e.kind last))
    (advanced_in s (movement_of s e stack last) (factor ⊗ length_of (movement_of s e stack last)) (required_of e.kind last) h)

run_in : (ns : List Nested) (stack : Pos) (factor : Float) (moved left : ℕ) (s : CursorState) → Held s → Held (run_of ns stack factor moved left s)
unfolding run_of
run_in ns stack factor moved zero s h = h
run_in ns stack factor moved (suc left) s h =
    run_in ns stack factor moved left (step_of s (nested_in ns (order_of moved (length ns) (length ns - suc left))) stack factor (eqb (suc left) 1))
    (step_in s (nested_in ns (order_of moved (length ns) (length ns - suc left))) stack factor (eqb (suc left) 1) h)

start_in : (o : OsuObject) (ps : List Point) (stated progress : Float) → Held (start_of (stacked_pos o) ps stated progress)
unfolding start_of
start_in o ps stated progress =
    record { cursor = sum-in o.pos o.stack_offset; lazy_end_lem = sum-in (stacked_pos o) (position_at ps stated (folded_of progress)) }

from_in : (o : OsuObject) (end spans : Float) (ns : List Nested) (ps : List Point) (radius : Float) (t : Tracking) → InF32 (cursor_from o end spans ns ps radius t).lazy_end
unfolding cursor_from
from_in o end spans ns ps radius t =
    (run_in ns o.stack_offset (normalized_radius ⊘ radius) t.moved (length ns)
    (start_of (stacked_pos o) ps o.length ((t.end_time ⊖ o.start_time) ⊘ ((end ⊖ o.start_time) ⊘ spans)))
    (start_in o ps o.length ((t.end_time ⊖ o.start_time) ⊘ ((end ⊖ o.start_time) ⊘ spans)))
    ).lazy_end_lem

zero_in : InF32 zero_pos
unfolding fits of_bits
zero_in = record { x = tt; y = tt }

placed-in : (radius : Float) (o : Object) → InF32 (placed_of radius o).cursor.lazy_end
unfolding placed_of plain_of slid_of slider_cursor
placed-in radius o = go o.base.kind
  where
    go : (k : OsuObjectKind) → InF32 (placed_by k radius o).cursor.lazy_end
    go Circle = zero_in
    go Spinner = zero_in
    go (Slider end spans) =
        from_in o.base end spans o.nested o.points radius (tracking_of o.nested (tracking_end o.base.start_time (end ⊖ o.base.start_time)))

module _ (set : Settings) (k : ℕ) (o last before : Object) where
  pub lazy_end_x_lem : narrow binary32 (record_of set k o last before).lazy_end_x ≡ (record_of set k o last before).lazy_end_x
  unfolding record_of new_record
  lazy_end_x_lem = narrow_widened binary32 _ (placed-in set.radius o).x

  pub lazy_end_y_lem : narrow binary32 (record_of set k o last before).lazy_end_y ≡ (record_of set k o last before).lazy_end_y
  unfolding record_of new_record
  lazy_end_y_lem = narrow_widened binary32 _ (placed-in set.radius o).y
