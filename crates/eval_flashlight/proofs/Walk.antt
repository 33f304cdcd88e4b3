-- The walk back: what a turn makes, and what the value depends on. Assumes nothing.
use Prim.Native.Nat.{ℕ, zero, suc, ◌+◌, ◌-◌, ◌^◌, ◌≤◌, ◌<◌, min}
use native.Mathlib.Omega.{arith}
use native.Mathlib.Nat.{sub-zero}
use native.Mathlib.Numerals.{add-one}
use mathlib.Core.Path.{◌≡◌, refl}
use mathlib.Core.Bool.{Bool, true, false, cond, ◌&&◌}
use mathlib.Core.List.{List}
use lib.Dec.{T, le→leb}
use lib.IntN.{pos}
use lib.Ieee.{Float, binary64, in_float}
use Rattle.num_floats.specs.Numbers.{zero64}
use Rattle.osu_pos.specs.declared.Pos.{Pos}
use Rattle.osu_object.specs.Osu.{Object}
use Rattle.osu_object.specs.Base.{base_of, end_of, repeats_of}
use Rattle.osu_difficulty_object.specs.declared.OsuDifficultyObject.{OsuDifficultyObject}
use Rattle.osu_records.specs.Rows.{record_at}
use Rattle.osu_records.specs.Part.{first_place, last_place, part_at}
use Rattle.osu_records.specs.Sight.{View, sight_of, view_of}
use Rattle.osu_records.specs.declared.Part.{Part}
use Rattle.osu_records.specs.declared.Sight.{Sight}
use Rattle.osu_records.proofs.Parts.{part_in, view_part}
use Rattle.eval_flashlight.specs.Constants.{history}
use Rattle.eval_flashlight.specs.declared.FlashlightEvaluator.{FlashlightEvaluator}
use Rattle.eval_flashlight.specs.declared.FlashlightState.{FlashlightState}
use Rattle.eval_flashlight.specs.Flashlight.{fresh_state, step_of, turns_of, slider_bonus, value_of, flashlight_of, ends_of, turns_at_place, flashlight_at_place}

pub small_float : (n : ℕ) → n ≤ 65537 → T (in_float binary64 (pos n))
unfolding in_float
small_float n h = le→leb n (2 ^ 53) (omega arith)

-- ---- the reach

turns_same : (e : FlashlightEvaluator) (v w : View) (ends others : ℕ → Pos) (hidden : Bool) (n : ℕ) → ((k : ℕ) → k ≤ n → v k ≡ w k) → ((k : ℕ) → k ≤ n → ends k ≡ others k)
    → turns_of e v ends hidden n ≡ turns_of e w others hidden n
unfolding turns_of
turns_same e v w ends others hidden zero same tails = refl
turns_same e v w ends others hidden (suc n) same tails =
    rw (turns_same e v w ends others hidden n (λ k h. same k (omega arith)) (λ k h. tails k (omega arith)), same 0 (omega arith), same n (omega arith), same (n + 1) (omega arith), tails (n + 1) (omega arith))

-- the repeats count for a slider alone
slider_same : (e : FlashlightEvaluator) (curr : OsuDifficultyObject) (b : Bool) (repeats others : ℕ) → (b ≡ true → repeats ≡ others)
    → slider_bonus e curr b repeats ≡ slider_bonus e curr b others
unfolding slider_bonus
slider_same e curr true repeats others count = rw (count refl)
slider_same e curr false repeats others count = refl

pub flashlight_same : (e : FlashlightEvaluator) (v w : View) (ends tails : ℕ → Pos) (repeats others m n : ℕ) (hidden : Bool) → min m history ≡ min n history
    → ((k : ℕ) → k ≤ min m history → v k ≡ w k) → ((k : ℕ) → k ≤ min m history → ends k ≡ tails k) → ((w 0).base.slider ≡ true → repeats ≡ others)
    → flashlight_of e v ends repeats m hidden ≡ flashlight_of e w tails others n hidden
unfolding flashlight_of value_of
flashlight_same e v w ends tails repeats others m n hidden reach same last count =
    rw (← reach, turns_same e v w ends tails hidden (min m history) same last, same 0 (omega arith), slider_same e (w 0).diff (w 0).base.slider repeats others count)

-- ---- over the part of the table that is lent

pub flashlight_part : (e : FlashlightEvaluator) (os : ℕ → Object) (t : List Float) (n j : ℕ) (part : Part) (hidden : Bool) → 1 ≤ j → j < n → part.first ≡ first_place j → part.last ≡ last_place j n
    → flashlight_at_place e os (part_at (part_in t part) part) j hidden ≡ flashlight_at_place e os (record_at t) j hidden
flashlight_part e os t n j part hidden one inside f l =
    flashlight_same e (view_of os (part_at (part_in t part) part) j) (view_of os (record_at t) j) (ends_of os j) (ends_of os j) (repeats_of (os j)) (repeats_of (os j)) (j - 1) (j - 1) hidden refl
    (λ k b. view_part t j n part one inside f l os history k (omega arith) b)
    (λ k b. refl)
    (λ b. refl)

-- ---- from what the calls of a turn ensure

module _ (e : FlashlightEvaluator) (os : ℕ → Object) (rs : ℕ → OsuDifficultyObject) (j : ℕ) (hidden : Bool) (curr : Sight) (hc : curr ≡ sight_of (rs j) (os j)) where
  pub turn : (k : ℕ) (s next : FlashlightState) (last : OsuDifficultyObject) (obj : Sight) (end : Pos)
      → last ≡ (view_of os rs j k).diff → obj ≡ sight_of (rs (j - (k + 1))) (os (j - (k + 1))) → end ≡ end_of (os (j - (k + 1)))
      → s ≡ turns_at_place e os rs j hidden k → next ≡ step_of e s curr last obj end k hidden
      → next ≡ turns_at_place e os rs j hidden (k + 1)
  unfolding turns_of
  turn k s next last obj end hl ho he hs hn = rw (add-one, hn, hs, hc, hl, ho, he, sub-zero j)

  pub last_first : curr.diff ≡ (view_of os rs j 0).diff
  last_first = rw (hc, sub-zero j)

  spinner_is : (b : Bool) → curr.base.spinner ≡ b → (base_of (os (j - 0))).spinner ≡ b
  spinner_is b h = rw sub-zero (rw hc at h)

  pub value_spinner : curr.base.spinner ≡ true → zero64 ≡ flashlight_at_place e os rs j hidden
  unfolding flashlight_of
  value_spinner h = rw (spinner_is true h)

  pub value_all : (n repeats : ℕ) (s : FlashlightState) → repeats ≡ repeats_of (os j) → curr.base.spinner ≡ false → n ≡ min (j - 1) history
      → s ≡ turns_at_place e os rs j hidden n
      → value_of e s curr.diff curr.base.slider repeats hidden ≡ flashlight_at_place e os rs j hidden
  unfolding flashlight_of
  value_all n repeats s hr h hn hs = rw (hr, spinner_is false h, hs, hn, hc, sub-zero j)

pub turns_none : (e : FlashlightEvaluator) (v : View) (ends : ℕ → Pos) (hidden : Bool) → fresh_state ≡ turns_of e v ends hidden 0
unfolding turns_of
turns_none e v ends hidden = refl

-- ---- a repeated angle

pub both : (b c : Bool) (x y : Float) → cond b (cond c x y) y ≡ cond (b && c) x y
both true c x y = refl
both false c x y = refl
