-- What a chart that opens tells of its clock rate and of its starts. Assumes nothing.
use Prim.Native.Nat.{ℕ, suc, ◌-◌, ◌≤◌, ◌<◌}
use native.Mathlib.Omega.{arith}
use mathlib.Core.Path.{◌≡◌, sym, ap, ◌∙◌}
use mathlib.Core.Bool.{Bool, true, false}
use mathlib.Core.List.{List}
use lib.Dec.{T}
use lib.Ieee.{Float, lt, le}
use borrow.Author.Tests.{lt-ltb, le-leb, not-false}
use Rattle.num_floats.specs.Numbers.{◌⊖◌, ◌⊘◌, zero64}
use Rattle.chart_fields.specs.Objects.{fields_of, fields_ok, bad_fields, falls}
use Rattle.chart_fields.specs.declared.Fields.{Fields}
use Rattle.chart_fields.specs.declared.Layout.{Layout}
use Rattle.chart_opening.specs.Header.{layout_of, settings_of, settings_ok, too_long}
use Rattle.chart_opening.specs.Conditions.{Opens}
use Rattle.chart_opening.specs.Accepted.{Clean, clean_body, settings_ok_lem, body_ok}
use Rattle.chart_opening.specs.declared.Settings.{Settings}
use Rattle.chart_opening.proofs.Header.{both}
use Rattle.skills.proofs.Span.{longest}
use Rattle.skills.proofs.Times.{latest, slowest, fastest, Passes}

-- ---- conditions 2, 3, 5 and 6

start_ok : (f : Fields) → fields_ok f ≡ true → (le zero64 f.start ≡ true) × (le f.start latest ≡ true)
unfolding fields_ok
start_ok f e = both _ _ (both _ _ (both _ _ (both _ _ (both _ _ (both _ _ (both _ _ e).0).0).0).0).0).0

clock_ok : (t : Settings) → settings_ok t ≡ true → (le slowest t.clock_rate ≡ true) × (le t.clock_rate fastest ≡ true)
unfolding settings_ok
clock_ok t e = both _ _ (both _ _ (both _ _ (both _ _ (both _ _ (both _ _ e).0).0).0).0).0

holds_true : (b : Bool) → b ≡ true → T b
holds_true true e = tt
holds_true false e = absurd (let z : ◌≡◌ {A = ℕ} 0 1 = cc in omega arith)

module _ (s : List ℕ) (lay : Layout) (clock : Float) (c : Clean s lay clock) where
  abbrev raw : ℕ → Float
  raw j = (fields_of s lay j).start

  time_ok_lem : (j : ℕ) → j < lay.n → (le zero64 (raw j) ≡ true) × (le (raw j) latest ≡ true)
  unfolding bad_fields
  time_ok_lem j h = start_ok (fields_of s lay j) (not-false _ (c.fields j h))

  pub times_rise : (j : ℕ) → suc j < lay.n → lt (raw (suc j)) (raw j) ≡ false
  unfolding falls
  times_rise j h =
      let e : suc j - 1 ≡ j = omega arith in
      let p : 0 < suc j = omega arith in
      ap (λ (i : ℕ). lt (raw (suc j)) (raw i)) (sym e) ∙ (simp (lt-ltb 0 (suc j) p) at (c.order (suc j) h))

  span_ok : 2 ≤ lay.n → le ((raw (lay.n - 1) ⊘ clock) ⊖ (raw 1 ⊘ clock)) longest ≡ true
  unfolding too_long
  span_ok h = not-false _ (simp (le-leb 2 lay.n h) at c.short)

  pub passes : 2 ≤ lay.n → (le slowest clock ≡ true) × (le clock fastest ≡ true) → Passes lay.n raw clock
  passes h k = record {
    clock_least = holds_true _ k.0;
    clock_most = holds_true _ k.1;
    least = λ j l. holds_true _ (time_ok_lem j l).0;
    most = λ j l. holds_true _ (time_ok_lem j l).1;
    rises = times_rise;
    short = holds_true _ (span_ok h);
  }

pub opens_passes : (s : List ℕ) → Opens s → 2 ≤ (layout_of s).n → Passes (layout_of s).n (λ j. (fields_of s (layout_of s) j).start) (settings_of s).clock_rate
opens_passes s o h =
    passes s (layout_of s) (settings_of s).clock_rate (clean_body s (layout_of s) (settings_of s).clock_rate (body_ok s o)) h (clock_ok (settings_of s) (settings_ok_lem s o))
