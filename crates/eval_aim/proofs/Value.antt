-- The parts put together are the value, and both depend on the view as far as three places back alone. Assumes nothing.
use Prim.Native.Nat.{ℕ, ◌-◌, ◌≤◌, ◌<◌, min}
use native.Mathlib.Omega.{arith}
use native.Mathlib.Nat.{sub-zero}
use mathlib.Core.Path.{◌≡◌, refl, sym, ap, ◌∙◌}
use mathlib.Core.Bool.{Bool, true, false, cond, ◌||◌}
use mathlib.Mathlib.Data.Bool.Basic.{or-eq-false-eq-eq-false-and-eq-false as neither}
use mathlib.Core.List.{List}
use lib.Dec.{ltb, leb, eqb}
use lib.Ieee as Ieee
use lib.Ieee.{Float, nan, inf, fin}
use lib.Ieee.Compare.{differs_from_itself}
use borrow.Author.Tests.{eq-eqb, le-ltb, ltb-true, ltb-false}
use Rattle.num_floats.specs.Numbers.{zero64}
use Rattle.num_floats.specs.Compare.{max_of}
use Rattle.osu_object.specs.Osu.{Object}
use Rattle.osu_object.specs.Base.{base_of}
use Rattle.osu_records.specs.Rows.{record_at}
use Rattle.osu_difficulty_object.specs.declared.OsuDifficultyObject.{OsuDifficultyObject}
use Rattle.osu_records.specs.Part.{first_place, last_place, part_at}
use Rattle.osu_records.specs.Sight.{View, sight_of, view_of}
use Rattle.osu_records.specs.declared.Part.{Part}
use Rattle.osu_records.specs.declared.Sight.{Sight}
use Rattle.osu_records.proofs.Parts.{ltb_iff, part_in, view_part}
use Rattle.eval_aim.specs.declared.AimRule.{AimRule}
use Rattle.eval_aim.specs.declared.AimRule.TheVariants.{TooFew, Spinner, Acute, Wide}
use Rattle.eval_aim.specs.declared.AimParts.{AimParts}
use Rattle.eval_aim.specs.Aim.{spacing_of, rule_of, side_of, no_parts, bonuses_of, combine_of, all_parts, parts_of, aim_of, parts_at_place, aim_at_place}

-- no parts make 0
combine_none : (r : AimRule) (sliders : Bool) → combine_of (no_parts r) sliders ≡ zero64
unfolding combine_of no_parts max_of Ieee.add Ieee.mul Ieee.of_bits Ieee.ne Ieee.lt Ieee.eq
combine_none r true = refl
combine_none r false = refl

-- the parts put together are the value, in every case
pub aim_combine : (v : View) (before : ℕ) (sliders : Bool) → combine_of (parts_of v before sliders) sliders ≡ aim_of v before sliders
unfolding parts_of aim_of
aim_combine v before sliders = go (ltb before 2) ((v 0).base.spinner || (v 1).base.spinner)
  where
    go : (few spinner : Bool)
        → combine_of (cond few (no_parts TooFew) (cond spinner (no_parts Spinner) (all_parts v before sliders))) sliders
        ≡ cond few zero64 (cond spinner zero64 (combine_of (all_parts v before sliders) sliders))
    go true spinner = combine_none TooFew sliders
    go false true = combine_none Spinner sliders
    go false false = refl

-- where neither of the last two objects is a slider, the parts are the same with sliders and without
pub parts_plain : (v : View) (before : ℕ) → ((v 1).base.slider || (v 2).base.slider) ≡ false → parts_of v before true ≡ parts_of v before false
unfolding parts_of all_parts bonuses_of
parts_plain v before e =
    let (one, two) = (neither (v 1).base.slider (v 2).base.slider).0 e in
    rw (one, two)

-- ---- the reach

pub parts_same : (v w : View) (m n : ℕ) (sliders : Bool) → min m 3 ≡ min n 3 → ((k : ℕ) → k ≤ min m 3 → v k ≡ w k)
    → parts_of v m sliders ≡ parts_of w n sliders
unfolding parts_of all_parts spacing_of
parts_same v w m n sliders cap same =
    rw (← few, ← far) (go (ltb m 2) refl (leb 3 m) refl)
  where
    few : ltb m 2 ≡ ltb n 2
    few = ltb_iff m 2 n 2 (λ h. omega arith) (λ h. omega arith)

    far : leb 3 m ≡ leb 3 n
    far = ltb_iff 2 m 2 n (λ h. omega arith) (λ h. omega arith)

    go : (b : Bool) → ltb m 2 ≡ b → (h : Bool) → leb 3 m ≡ h
        → cond b (no_parts TooFew) (cond ((v 0).base.spinner || (v 1).base.spinner) (no_parts Spinner)
        (bonuses_of (v 0) (v 1) (v 2) h (spacing_of h (v 3).base.pos (v 1).base.pos) sliders))
        ≡ cond b (no_parts TooFew) (cond ((w 0).base.spinner || (w 1).base.spinner) (no_parts Spinner)
        (bonuses_of (w 0) (w 1) (w 2) h (spacing_of h (w 3).base.pos (w 1).base.pos) sliders))
    go true e h f = refl
    go false e true f =
        let l : 2 < m = ltb-true 2 m f in
        rw (same 0 (omega arith), same 1 (omega arith), same 2 (omega arith), same 3 (omega arith))
    go false e false f =
        let l : 2 ≤ m = ltb-false m 2 e in
        rw (same 0 (omega arith), same 1 (omega arith), same 2 (omega arith))

pub aim_same : (v w : View) (m n : ℕ) (sliders : Bool) → min m 3 ≡ min n 3 → ((k : ℕ) → k ≤ min m 3 → v k ≡ w k)
    → aim_of v m sliders ≡ aim_of w n sliders
aim_same v w m n sliders cap same =
    sym (aim_combine v m sliders)
    ∙ ap (λ (p : AimParts). combine_of p sliders) (parts_same v w m n sliders cap same)
    ∙ aim_combine w n sliders

-- ---- over the part of the table that is lent

module _ (os : ℕ → Object) (t : List Float) (n j : ℕ) (part : Part) (sliders : Bool) (one : 1 ≤ j) (inside : j < n) (f : part.first ≡ first_place j) (l : part.last ≡ last_place j n) where
  pub parts_part : parts_at_place os (part_at (part_in t part) part) j sliders ≡ parts_at_place os (record_at t) j sliders
  parts_part =
      parts_same (view_of os (part_at (part_in t part) part) j) (view_of os (record_at t) j) (j - 1) (j - 1) sliders refl
      (λ k b. view_part t j n part one inside f l os 3 k (omega arith) b)

  pub aim_part : aim_at_place os (part_at (part_in t part) part) j sliders ≡ aim_at_place os (record_at t) j sliders
  aim_part =
      aim_same (view_of os (part_at (part_in t part) part) j) (view_of os (record_at t) j) (j - 1) (j - 1) sliders refl
      (λ k b. view_part t j n part one inside f l os 3 k (omega arith) b)

-- ---- the rule names the side of the last max

pub rule_max : (acute wide : Float) → max_of acute wide ≡ side_of (rule_of acute wide) acute wide
unfolding max_of rule_of side_of
rule_max acute wide = go (Ieee.ne acute acute) refl (Ieee.ne wide wide) refl (Ieee.lt acute wide)
  where
    is_nan_lem : (x : Float) → Ieee.ne x x ≡ true → x ≡ nan
    is_nan_lem x h = differs_from_itself x (rw h tt)

    go : (a : Bool) → Ieee.ne acute acute ≡ a → (w : Bool) → Ieee.ne wide wide ≡ w → (l : Bool)
        → cond a wide (cond l wide acute) ≡ side_of (cond a (cond w Acute Wide) (cond l Wide Acute)) acute wide
    go true ha true hw l = is_nan_lem wide hw ∙ sym (is_nan_lem acute ha)
    go true ha false hw l = refl
    go false ha w hw true = refl
    go false ha w hw false = refl

-- ---- from what the calls of `parts_of` ensure

module _ (os : ℕ → Object) (rs : ℕ → OsuDifficultyObject) (j : ℕ) (sliders : Bool) (curr last : Sight) (many : 2 ≤ j - 1)
    (hc : curr ≡ sight_of (rs j) (os j)) (hl : last ≡ sight_of (rs (j - 1)) (os (j - 1))) where
  spinner_is : (b : Bool) → (curr.base.spinner || last.base.spinner) ≡ b
      → ((base_of (os (j - 0))).spinner || (base_of (os (j - 1))).spinner) ≡ b
  spinner_is b e = rw sub-zero (rw (hc, hl) at e)

  pub parts_spinner : (curr.base.spinner || last.base.spinner) ≡ true → no_parts Spinner ≡ parts_at_place os rs j sliders
  unfolding parts_of
  parts_spinner e = rw (le-ltb (j - 1) 2 many, spinner_is true e)

  pub parts_all : (far : Sight) (h : Bool) (d : Float) → (curr.base.spinner || last.base.spinner) ≡ false
      → far ≡ sight_of (rs (j - 2)) (os (j - 2))
      → h ≡ leb 3 (j - 1)
      → d ≡ spacing_of (leb 3 (j - 1)) (base_of (os (j - 3))).pos last.base.pos
      → bonuses_of curr last far h d sliders ≡ parts_at_place os rs j sliders
  unfolding parts_of all_parts
  parts_all far h d e hf hh hd =
      rw (le-ltb (j - 1) 2 many, spinner_is false e, hd, hh, hf, hc, hl, sub-zero j)

-- ---- a NaN is no number's equal

eqb_same : (n : ℕ) → eqb n n ≡ true
eqb_same n = eq-eqb n n refl

pub ne_is_nan : (x : Float) → Ieee.ne x x ≡ Ieee.is_nan x
unfolding Ieee.ne Ieee.eq Ieee.is_nan
ne_is_nan nan = refl
ne_is_nan (inf true) = refl
ne_is_nan (inf false) = refl
ne_is_nan (fin true m e) = simp eqb_same
ne_is_nan (fin false m e) = simp eqb_same
