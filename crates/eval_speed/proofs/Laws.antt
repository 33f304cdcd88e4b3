-- What the speed value reads, and that the part lent gives what the whole table gives. Assumes nothing.
use Prim.Native.Nat.{ℕ, ◌+◌, ◌-◌, ◌≤◌, ◌<◌}
use native.Mathlib.Omega.{arith}
use native.Mathlib.Nat.{sub-zero}
use mathlib.Core.Path.{◌≡◌, refl, ap}
use mathlib.Core.Bool.{Bool, true, false, cond}
use mathlib.Core.List.{List}
use lib.Dec.{ltb}
use lib.Ieee.{Float}
use borrow.Author.Tests.{ltb-true}
use Rattle.std.specs.Option.{is_some, unwrap_or}
use Rattle.std.specs.Prelude.{Some, None}
use Rattle.num_floats.specs.Numbers.{zero64}
use Rattle.osu_object.specs.Osu.{Object}
use Rattle.osu_object.specs.Base.{base_of}
use Rattle.osu_difficulty_object.specs.Reading.{tapness_of, window_of, doubletapness}
use Rattle.osu_difficulty_object.specs.declared.OsuDifficultyObject.{OsuDifficultyObject}
use Rattle.osu_records.specs.Rows.{record_at}
use Rattle.osu_records.specs.Part.{first_place, last_place, part_at}
use Rattle.osu_records.specs.declared.Part.{Part}
use Rattle.osu_records.proofs.Parts.{part_in, record_back, next_part}
use Rattle.eval_speed.specs.Speed.{speed_by, travel_of, speed_of, speed_at_place}

-- ---- what is read

tap_same : (curr next other : OsuDifficultyObject) (spinner b : Bool) (window : Float) → (b ≡ true → next.delta_time ≡ other.delta_time)
    → doubletapness curr spinner b next window ≡ doubletapness curr spinner b other window
unfolding doubletapness
tap_same curr next other spinner true window e = ap (λ (d : Float). tapness_of curr.delta_time d (window_of spinner window)) (e refl)
tap_same curr next other spinner false window e = refl

-- records that agree in the next one's delta time, where there is a next
next_same : (curr next other : OsuDifficultyObject) (travel : Float) (spinner b : Bool) (window : Float) (autopilot : Bool)
    → (b ≡ true → next.delta_time ≡ other.delta_time)
    → speed_by curr travel b next spinner window autopilot ≡ speed_by curr travel b other spinner window autopilot
unfolding speed_by
next_same curr next other travel spinner b window autopilot e = rw (tap_same curr next other spinner b window e)

-- without a next record any may stand for it
no_next : (curr next other : OsuDifficultyObject) (travel : Float) (spinner : Bool) (window : Float) (autopilot : Bool)
    → speed_by curr travel false next spinner window autopilot ≡ speed_by curr travel false other spinner window autopilot
unfolding speed_by doubletapness
no_next curr next other travel spinner window autopilot = refl

-- the next record, where a flag says that there is one
pub next_where : (b : Bool) (curr next : OsuDifficultyObject) (travel : Float) (spinner : Bool) (window : Float) (autopilot : Bool)
    → speed_by curr travel (is_some (cond b (Some next) None)) (unwrap_or (cond b (Some next) None) curr) spinner window autopilot
    ≡ speed_by curr travel b next spinner window autopilot
next_where true curr next travel spinner window autopilot = refl
next_where false curr next travel spinner window autopilot = no_next curr curr next travel spinner window autopilot

travel_same : (m n : ℕ) (r q : OsuDifficultyObject) → ltb 0 m ≡ ltb 0 n → (0 < m → r.travel_dist ≡ q.travel_dist) → travel_of m r ≡ travel_of n q
travel_same m n r q e f = rw (← e) (go (ltb 0 m) refl)
  where
    go : (b : Bool) → ltb 0 m ≡ b → cond b r.travel_dist zero64 ≡ cond b q.travel_dist zero64
    go true h = f (ltb-true 0 m h)
    go false h = refl

-- the record, the travel distance before it, the next one's delta time and whether the object is a spinner: at any two places
pub speed_same : (os ps : ℕ → Object) (rs qs : ℕ → OsuDifficultyObject) (last end j i : ℕ) (window : Float) (autopilot : Bool)
    → rs j ≡ qs i
    → ltb 0 (j - 1) ≡ ltb 0 (i - 1)
    → (0 < j - 1 → (rs (j - 1)).travel_dist ≡ (qs (i - 1)).travel_dist)
    → ltb j last ≡ ltb i end
    → (j < last → (rs (j + 1)).delta_time ≡ (qs (i + 1)).delta_time)
    → (base_of (os j)).spinner ≡ (base_of (ps i)).spinner
    → speed_at_place os rs last j window autopilot ≡ speed_at_place ps qs end i window autopilot
unfolding speed_of
speed_same os ps rs qs last end j i window autopilot curr first before has next spinner =
    rw (sub-zero j, sub-zero i, curr, travel_same (j - 1) (i - 1) (rs (j - 1)) (qs (i - 1)) first before, ← has, spinner)
    (next_same (qs i) (rs (j + 1)) (qs (i + 1)) (travel_of (i - 1) (qs (i - 1))) (base_of (ps i)).spinner (ltb j last) window autopilot
    (λ b. next (ltb-true j last b)))

-- what the part lent at place j of n gives
pub speed_part : (os : ℕ → Object) (t : List Float) (n j : ℕ) (part : Part) (window : Float) (autopilot : Bool) → 1 ≤ j → j < n → part.first ≡ first_place j → part.last ≡ last_place j n
    → speed_at_place os (part_at (part_in t part) part) part.last j window autopilot ≡ speed_at_place os (record_at t) (last_place j n) j window autopilot
speed_part os t n j part window autopilot one inside f l =
    speed_same os os (part_at (part_in t part) part) (record_at t) part.last (last_place j n) j j window autopilot
    (rw (← sub-zero j) (record_back t j n part one inside f l 0 (omega arith)))
    refl
    (λ h. ap (λ (r : OsuDifficultyObject). r.travel_dist) (record_back t j n part one inside f l 1 (omega arith)))
    (ap (ltb j) l)
    (λ h. ap (λ (r : OsuDifficultyObject). r.delta_time) (next_part t j n part one inside f l h))
    refl
