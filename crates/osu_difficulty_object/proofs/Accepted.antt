-- A chart that opens is ready to be read. Assumes nothing.
use Rattle.std.specs.Prelude.{Ok}
use Prim.Native.Nat.{ℕ, ◌≤◌}
use mathlib.Core.Path.{◌≡◌}
use mathlib.Core.Bool.{true}
use mathlib.Core.List.{List}
use lib.Ieee.{Float}
use Rattle.chart_fields.specs.Objects.{Holds}
use Rattle.chart_fields.specs.declared.Layout.{Layout}
use Rattle.chart_opening.specs.Header.{layout_of, header_ok, settings_of}
use Rattle.chart_opening.specs.Conditions.{first_of, body_conditions, Opens, open_verdict}
use Rattle.chart_opening.specs.Accepted.{clean_body, header_ok_lem, body_ok, opens, enough}
use Rattle.chart_opening.proofs.Header.{holds}
use Rattle.osu_object.specs.Osu.{Ready}
use Rattle.osu_object.proofs.Checked.{ready}

pub body_ready : (s : List ℕ) (lay : Layout) (clock : Float) → Holds s lay → first_of (body_conditions s lay clock) ≡ Ok tt → Ready s lay
body_ready s lay clock h e = let c = clean_body s lay clock e in ready s lay h c.fields c.entries

pub chart_ready : (s : List ℕ) → Opens s → Ready s (layout_of s)
chart_ready s o = body_ready s (layout_of s) (settings_of s).clock_rate (holds s (header_ok_lem s o)) (body_ok s o)

-- and has an entry for each object in tables of so many
pub record Opened (s : List ℕ) (entries : ℕ) : Type 0 where
  pub header : header_ok s ≡ true
  pub ready : Ready s (layout_of s)
  pub room : (layout_of s).n ≤ entries

pub opened : (s : List ℕ) (entries : ℕ) → open_verdict s entries ≡ Ok tt → Opened s entries
opened s entries e = let o = opens s entries e in record { header = header_ok_lem s o; ready = chart_ready s o; room = enough s entries e }
