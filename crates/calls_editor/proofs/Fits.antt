-- What an accepted chart tells of its tables, for either player. Assumes nothing.
use Rattle.std.specs.Prelude.{Ok}
use Prim.Native.Nat.{ℕ, ◌≤◌}
use mathlib.Core.Path.{◌≡◌, sym, ◌∙◌}
use mathlib.Core.List.{List}
use native.Mathlib.Omega.{arith}
use lib.ListN.{length}
use Rattle.chart_opening.specs.Limits.{settings_size}
use Rattle.chart_opening.specs.Header.{layout_of, settings_at}
use Rattle.chart_opening.specs.Accepted.{header_ok_lem, opens_with, tail_accepts, first_accepts, enough}
use Rattle.chart_opening.specs.Conditions.{Opens, body_conditions, under_conditions, open_verdict}
use Rattle.chart_opening.proofs.Header.{parts, framed, holds_framed}
use Rattle.osu_object.specs.Osu.{Ready}
use Rattle.osu_difficulty_object.proofs.Accepted.{body_ready, chart_ready}
use Rattle.chart_players.specs.Second.{under, second_verdict}
use Rattle.chart_players.specs.Under.{framed_under}
use Rattle.chart_players.proofs.Verdicts.{second_accepted, open_under}
use Rattle.calls.specs.Tables.{entries_of}
use Rattle.calls.specs.Conditions.{opening}
use Rattle.calls.proofs.Refusals.{opening_met}
use Rattle.calls_players.specs.Same.{count_under}
use Rattle.calls_editor.specs.Answers.{Fits}

pub fits : (b : List ℕ) (r v : ℕ) → opening r v b ≡ Ok tt → Fits b r v
fits b r v e =
    let (o, room) = opening_met r v b e in
    let ready : Ready b (layout_of b) = chart_ready b o in
    record { ready = ready; long = (parts b (header_ok_lem b o)).long; few = ready.holds.few; records = room.records; values = room.values }

-- by the number of entries
pub fits_by : (b : List ℕ) (r v : ℕ) → Opens b → (layout_of b).n ≤ entries_of r v → Fits b r v
fits_by b r v o h = fits b r v (opens_with b (entries_of r v) o h)

-- for the second player
pub fits_as : (t b : List ℕ) (r v : ℕ) → second_verdict t b (open_verdict (under t b) (entries_of r v)) ≡ Ok tt → Fits b r v × (length t ≡ settings_size)
unfolding under_conditions
fits_as t b r v e =
    let p = second_accepted t b _ e in
    let f = framed b (framed_under t b p.header) in
    let body = first_accepts (body_conditions b (layout_of b) (settings_at t 0).clock_rate) _
    (tail_accepts _ _ (sym (open_under t b p.header p.size (entries_of r v)) ∙ p.then)) in
    let ready : Ready b (layout_of b) = body_ready b (layout_of b) (settings_at t 0).clock_rate (holds_framed b f) body in
    let room : (layout_of (under t b)).n ≤ entries_of r v = enough (under t b) (entries_of r v) p.then in
    (record { ready = ready; long = f.long; few = ready.holds.few; records = omega (arith, room, count_under t b); values = omega (arith, room, count_under t b) }, p.size)
