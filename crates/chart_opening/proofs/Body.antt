-- Conditions 2 to 7, where 2 is passed, from what `check_under` reads and asks. Assumes nothing.
use Rattle.std.specs.Prelude.{Ok, Err}
use Prim.Native.Nat.{ℕ}
use mathlib.Core.Path.{◌≡◌, refl, sym, ◌∙◌}
use mathlib.Core.Bool.{true}
use mathlib.Core.List.{List, [], ◌∷◌}
use Rattle.chart_fields.specs.declared.Layout.{Layout}
use Rattle.chart_opening.specs.Header.{layout_of, settings_ok}
use Rattle.chart_opening.specs.Conditions.{first_of, body_conditions, too_few, under_conditions}
use Rattle.chart_opening.specs.Accepted.{first_refused, first_passed}
use Rattle.chart_opening.specs.declared.Settings.{Settings}
use Rattle.chart_opening.specs.declared.Refusal.{Refusal}
use Rattle.chart_opening.specs.Verdict.{Verdict}

pub last : (w : Verdict) → first_of (w ∷ []) ≡ w
unfolding first_of
last (Ok tt) = refl
last (Err r) = refl

module _ (s : List ℕ) {lay : Layout} (t : Settings) {v : Verdict} (entries : ℕ)
    (l : lay ≡ layout_of s) (k : settings_ok t ≡ true) (b : v ≡ first_of (body_conditions s lay t.clock_rate)) where
  body : v ≡ first_of (body_conditions s (layout_of s) t.clock_rate)
  body = rw l at b

  pub body_refuses : (r : Refusal) → v ≡ Err r → first_of (under_conditions s t entries) ≡ Err r
  unfolding under_conditions first_of
  body_refuses r e = simp k (first_refused (body_conditions s (layout_of s) t.clock_rate) _ r (sym body ∙ e))

  pub body_accepts : v ≡ Ok tt → first_of (under_conditions s t entries) ≡ too_few entries lay.n
  unfolding under_conditions first_of
  body_accepts e = simp k (first_passed (body_conditions s (layout_of s) t.clock_rate) _ (sym body ∙ e) ∙ rw l (last (too_few entries (layout_of s).n)))
