-- The evaluators at a place see the records of a window: those from 32 places before to one after. Two tables that agree there have the same values. Assumes nothing.
use Prim.Native.Nat.{ℕ, ◌+◌, ◌-◌, min, ◌≤◌, ◌<◌}
use native.Mathlib.Omega.{arith}
use mathlib.Core.Path.{◌≡◌, refl, ap, ◌∙◌}
use mathlib.Core.Bool.{Bool, true, false, cond}
use mathlib.Core.List.{List}
use lib.Dec.{ltb}
use lib.Ieee.{Float, binary32}
use lib.ListN.{length}
use borrow.Author.Tests.{lt-ltb, le-ltb}
use Rattle.num_whole.specs.NarrowLaws.{narrow_widened}
use Rattle.num_tables.specs.Parts.{fill}
use Rattle.num_tables.proofs.Rows.{row_fill-in}
use Rattle.chart_fields.specs.declared.Layout.{Layout}
use Rattle.osu_object.specs.Osu.{Object, object_of}
use Rattle.osu_object.specs.Base.{repeats_of}
use Rattle.osu_difficulty_object.specs.declared.OsuDifficultyObject.{OsuDifficultyObject as Record}
use Rattle.osu_records.specs.Rows.{row_of, record_at as entry_at}
use Rattle.osu_records.proofs.Laws.{row_length, record_is}
use Rattle.osu_records.specs.Part.{first_place, part_at}
use Rattle.osu_records.specs.Sight.{sight_of, view_of}
use Rattle.osu_records.specs.declared.Part.{Part}
use Rattle.eval_aim.specs.Aim.{aim_at_place}
use Rattle.eval_aim.proofs.Value.{aim_same}
use Rattle.eval_speed.specs.Speed.{speed_at_place}
use Rattle.eval_speed.proofs.Laws.{speed_same}
use Rattle.eval_rhythm.specs.Rhythm.{cell_of, rhythm_at_place}
use Rattle.eval_rhythm.proofs.Laws.{rhythm_same}
use Rattle.eval_flashlight.specs.declared.FlashlightEvaluator.{FlashlightEvaluator}
use Rattle.eval_flashlight.specs.Flashlight.{ends_of, flashlight_at_place}
use Rattle.eval_flashlight.proofs.Walk.{flashlight_same}
use Rattle.eval_outer.specs.Records.{record_of, window_of, slot_at, in_window, last_of, InF32, InF32s, Shows}
use Rattle.eval_outer.proofs.Slots.{slot_is}

-- two tables agree on the places of a window of place j
abbrev Agree : ℕ → (ℕ → Record) → (ℕ → Record) → Type 0
Agree j rs qs = (p : ℕ) → first_place j ≤ p → p < first_place j + 34 → rs p ≡ qs p

-- ---- laws of numbers on their own, with few facts in reach of `omega`

back_from : (c j k : ℕ) → c ≤ 32 → 1 ≤ j → k ≤ min (j - 1) c → first_place j ≤ j - k
back_from c j k h one b = omega arith

back_to : (j k : ℕ) → 1 ≤ j → j - k < first_place j + 34
back_to j k one = omega arith

next_from : (j : ℕ) → 1 ≤ j → first_place j ≤ j + 1
next_from j one = omega arith

next_to : (j : ℕ) → j + 1 < first_place j + 34
next_to j = omega arith

here_from : (j : ℕ) → 1 ≤ j → first_place j ≤ j
here_from j one = omega arith

here_to : (j : ℕ) → j < first_place j + 34
here_to j = omega arith

last_from : (j : ℕ) → 0 < j - 1 → first_place j ≤ j - 1
last_from j h = omega arith

slot_of : (a p : ℕ) → p < a + 34 → p - a < 34
slot_of a p l = omega arith

place_of : (a p : ℕ) → a ≤ p → a + (p - a) ≡ p
place_of a p h = omega arith

-- j is before the last place of the window where it is before the end of the slice
pub next_alike : (j last records : ℕ) → last ≡ last_of j records → ltb j last ≡ ltb j records
next_alike j last records e = ap (ltb j) e ∙ go (ltb j records)
  where
    go : (b : Bool) → ltb j (cond b (j + 1) j) ≡ b
    go true = lt-ltb j (j + 1) (omega arith)
    go false = le-ltb j j (omega arith)

-- ---- the values of tables that agree

module _ (os : ℕ → Object) (rs qs : ℕ → Record) (j : ℕ) (one : 1 ≤ j) (same : Agree j rs qs) where
  record_back : (c k : ℕ) → c ≤ 32 → k ≤ min (j - 1) c → rs (j - k) ≡ qs (j - k)
  record_back c k h b = same (j - k) (back_from c j k h one b) (back_to j k one)

  view_back : (c k : ℕ) → c ≤ 32 → k ≤ min (j - 1) c → view_of os rs j k ≡ view_of os qs j k
  view_back c k h b = ap (λ (r : Record). sight_of r (os (j - k))) (record_back c k h b)

  next_delta : (rs (j + 1)).delta_time ≡ (qs (j + 1)).delta_time
  next_delta = ap (λ (r : Record). r.delta_time) (same (j + 1) (next_from j one) (next_to j))

  pub aim_seen : (sliders : Bool) → aim_at_place os rs j sliders ≡ aim_at_place os qs j sliders
  aim_seen sliders = aim_same (view_of os rs j) (view_of os qs j) (j - 1) (j - 1) sliders refl (λ k b. view_back 3 k (omega arith) b)

  pub speed_seen : (last end : ℕ) → ltb j last ≡ ltb j end → (window : Float) (autopilot : Bool)
      → speed_at_place os rs last j window autopilot ≡ speed_at_place os qs end j window autopilot
  speed_seen last end has window autopilot =
      speed_same os os rs qs last end j j window autopilot
      (same j (here_from j one) (here_to j))
      refl
      (λ h. ap (λ (r : Record). r.travel_dist) (same (j - 1) (last_from j h) (back_to j 1 one)))
      has
      (λ h. next_delta)
      refl

  pub rhythm_seen : (last end : ℕ) → ltb j last ≡ ltb j end → (window : Float) → rhythm_at_place os rs last j window ≡ rhythm_at_place os qs end j window
  rhythm_seen last end has window =
      rhythm_same os os rs qs last end j j window
      refl
      (λ k b. ap cell_of (view_back 32 k (omega arith) b))
      has
      (λ h. next_delta)

  pub flashlight_seen : (e : FlashlightEvaluator) (hidden : Bool) → flashlight_at_place e os rs j hidden ≡ flashlight_at_place e os qs j hidden
  flashlight_seen e hidden =
      flashlight_same e (view_of os rs j) (view_of os qs j) (ends_of os j) (ends_of os j) (repeats_of (os j)) (repeats_of (os j)) (j - 1) (j - 1) hidden refl
      (λ k b. view_back 10 k (omega arith) b) (λ k b. refl) (λ h. refl)

-- ---- the window of a slice agrees with the slice

pub window_agrees : (rs : List Record) (j : ℕ) → Agree j (in_window (window_of rs j) j) (record_of rs)
window_agrees rs j p h l = slot_is rs j (p - first_place j) (slot_of (first_place j) p l) ∙ ap (record_of rs) (place_of (first_place j) p h)

-- ---- the table that a window is put into agrees with the window

abbrev table_of : List Record → List Float → List Float
table_of w t = fill 16 (λ k. row_of (slot_at w k)) 0 34 t

table_at : (w : List Record) (t : List Float) → 544 ≤ length t → (k : ℕ) → k < 34 → InF32 (slot_at w k) → entry_at (table_of w t) k ≡ slot_at w k
table_at w t room k l h =
    record_is (table_of w t) k (slot_at w k) (record { x = narrow_widened binary32 _ h.x; y = narrow_widened binary32 _ h.y })
    (row_fill-in 16 (λ i. row_of (slot_at w i)) (λ i. row_length (slot_at w i)) k 0 34 t (λ _. room) (omega arith) (omega arith))

-- so it shows the slice that the window is of
pub table_shows : (rs w : List Record) (j : ℕ) (t u : List Float) → 544 ≤ length t → w ≡ window_of rs j → InF32s w → u ≡ table_of w t → Shows u rs j
table_shows rs w j t u room of ok put p h l =
    let k : ℕ = p - first_place j in
    ap (λ (v : List Float). entry_at v k) put ∙ table_at w t room k (slot_of (first_place j) p l) (ok k (slot_of (first_place j) p l))
    ∙ ap (λ (v : List Record). slot_at v k) of ∙ window_agrees rs j p h l

-- ---- a part that shows a slice has its values

module _ (os : ℕ → Object) (t : List Float) (rs : List Record) (j : ℕ) (part : Part) (one : 1 ≤ j) (f : part.first ≡ first_place j) (shown : Shows t rs j) where
  agrees : Agree j (part_at t part) (record_of rs)
  agrees p h l = ap (λ (a : ℕ). entry_at t (p - a)) f ∙ shown p h l

  pub aim_shown : (sliders : Bool) → aim_at_place os (part_at t part) j sliders ≡ aim_at_place os (record_of rs) j sliders
  aim_shown sliders = aim_seen os (part_at t part) (record_of rs) j one agrees sliders

  pub flashlight_shown : (e : FlashlightEvaluator) (hidden : Bool) → flashlight_at_place e os (part_at t part) j hidden ≡ flashlight_at_place e os (record_of rs) j hidden
  flashlight_shown e hidden = flashlight_seen os (part_at t part) (record_of rs) j one agrees e hidden

  pub speed_shown : part.last ≡ last_of j (length rs) → (window : Float) (autopilot : Bool)
      → speed_at_place os (part_at t part) part.last j window autopilot ≡ speed_at_place os (record_of rs) (length rs) j window autopilot
  speed_shown e window autopilot =
      speed_seen os (part_at t part) (record_of rs) j one agrees part.last (length rs) (next_alike j part.last (length rs) e) window autopilot

  pub rhythm_shown : part.last ≡ last_of j (length rs) → (window : Float)
      → rhythm_at_place os (part_at t part) part.last j window ≡ rhythm_at_place os (record_of rs) (length rs) j window
  rhythm_shown e window = rhythm_seen os (part_at t part) (record_of rs) j one agrees part.last (length rs) (next_alike j part.last (length rs) e) window

-- ---- a window has the values of the slice that it is of

module _ (chart : List ℕ) (lay : Layout) (rs w : List Record) (j : ℕ) (one : 1 ≤ j) (of : w ≡ window_of rs j) where
  abbrev objects : ℕ → Object
  objects = object_of chart lay

  same_slot : Agree j (in_window w j) (record_of rs)
  same_slot p h l = ap (λ (v : List Record). in_window v j p) of ∙ window_agrees rs j p h l

  pub aim_window : (sliders : Bool) → aim_at_place objects (in_window w j) j sliders ≡ aim_at_place objects (record_of rs) j sliders
  aim_window sliders = aim_seen objects (in_window w j) (record_of rs) j one same_slot sliders

  pub flashlight_window : (e : FlashlightEvaluator) (hidden : Bool) → flashlight_at_place e objects (in_window w j) j hidden ≡ flashlight_at_place e objects (record_of rs) j hidden
  flashlight_window e hidden = flashlight_seen objects (in_window w j) (record_of rs) j one same_slot e hidden

  pub speed_window : (window : Float) (autopilot : Bool)
      → speed_at_place objects (in_window w j) (length rs) j window autopilot ≡ speed_at_place objects (record_of rs) (length rs) j window autopilot
  speed_window window autopilot = speed_seen objects (in_window w j) (record_of rs) j one same_slot (length rs) (length rs) refl window autopilot

  pub rhythm_window : (window : Float) → rhythm_at_place objects (in_window w j) (length rs) j window ≡ rhythm_at_place objects (record_of rs) (length rs) j window
  rhythm_window window = rhythm_seen objects (in_window w j) (record_of rs) j one same_slot (length rs) (length rs) refl window
