-- What a program may do with a chart that `check` accepts. Assumes nothing.
use Rattle.std.specs.Prelude.{Ok}
use Prim.Native.Nat.{ℕ, ◌*◌, ◌≤◌}
use mathlib.Core.Path.{◌≡◌, sym, subst, ◌∙◌}
use mathlib.Core.List.{List}
use native.Mathlib.Omega.{arith}
use lib.Ieee.{Float}
use lib.ListN.{length}
use Rattle.chart_fields.specs.Objects.{Holds}
use Rattle.chart_fields.specs.declared.Layout.{Layout}
use Rattle.chart_opening.specs.Header.{layout_of, settings_at}
use Rattle.chart_opening.specs.declared.Settings.{Settings}
use Rattle.chart_opening.specs.Conditions.{open_verdict}
use Rattle.chart_opening.specs.Verdict.{Verdict}
use Rattle.chart_opening.proofs.Header.{parts, holds}
use Rattle.osu_object.specs.Osu.{Ready}
use Rattle.osu_difficulty_object.proofs.Accepted.{Opened, opened}
use Rattle.skills.specs.Chart.{Readable}
use Rattle.print_lines.specs.Charts.{Fits}

module _ (s : List ℕ) (entries : ℕ) (v : Verdict) (e : v ≡ open_verdict s entries) (a : v ≡ Ok tt) where
  told : Opened s entries
  told = opened s entries (sym e ∙ a)

  pub long : 80 ≤ length s
  long = (parts s told.header).long

  pub fits : (lay : Layout) (set : Settings) → lay ≡ layout_of s → set ≡ settings_at s 32 → Fits s entries lay set
  fits lay set h k =
      record {
        layout = h;
        settings = k;
        few = subst (λ (l : Layout). l.n ≤ entries) (sym h) told.room;
        ready = subst (λ (l : Layout). Ready s l) (sym h) told.ready;
        readable = λ values r. record { holds = subst (λ (l : Layout). Holds s l) (sym h) (holds s told.header); rows = r };
      }
