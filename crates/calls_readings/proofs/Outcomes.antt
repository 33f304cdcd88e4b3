-- A reading, by the condition that it meets: refused or carried out, it changes nothing. Assumes nothing.
use Rattle.std.specs.Prelude.{Ok, Err}
use Prim.Native.Nat.{ℕ}
use mathlib.Core.Path.{◌≡◌}
use mathlib.Core.Bool.{true}
use mathlib.Core.List.{List, []}
use lib.Ieee.{Float}
use lib.ListN.{length}
use native.Mathlib.Omega.{arith}
use Rattle.num_tables.specs.Parts.{row}
use Rattle.osu_records.specs.Rows.{record_at}
use Rattle.chart_opening.specs.Header.{frame_ok, header_ok, settings_of}
use Rattle.chart_opening.proofs.Header.{both}
use Rattle.chart_opening.specs.declared.Refusal.{Refusal}
use Rattle.calls.specs.Tables.{value_width, record_entries, value_entries}
use Rattle.calls.specs.Afresh.{Detail, detail_from}
use Rattle.calls.specs.Conditions.{read_record, read_values, read_detail, read_verdict, refusal}
use Rattle.calls.specs.Calls.{refused, record_is, values_are, detail_is, state, outcome_with, refuse, execute, verdict_in, outcome}
use Rattle.calls.proofs.Alone.{carried_out, refused_as}
use Rattle.calls.proofs.Refusals.{accepted_read}
use Rattle.calls_readings.specs.Answers.{InTable}

frame_right : (b : List ℕ) → header_ok b ≡ true → frame_ok b ≡ true
unfolding header_ok
frame_right b h = (both _ _ h).0

module _ (b : List ℕ) (t : List Float) (k : ℕ) where
  pub record_refused : (r : Refusal) → read_verdict b (record_entries (length t)) k ≡ Err r → outcome (read_record k) (state b t []) ≡ outcome_with (refused r) b t []
  unfolding verdict_in refusal refuse
  record_refused r e = refused_as (read_record k) (state b t []) r e

  pub record_read : read_verdict b (record_entries (length t)) k ≡ Ok tt → outcome (read_record k) (state b t []) ≡ outcome_with (record_is (record_at t k)) b t []
  unfolding verdict_in refusal execute
  record_read e = carried_out (read_record k) (state b t []) e

  pub values_refused : (r : Refusal) → read_verdict b (value_entries (length t)) k ≡ Err r → outcome (read_values k) (state b [] t) ≡ outcome_with (refused r) b [] t
  unfolding verdict_in refusal refuse
  values_refused r e = refused_as (read_values k) (state b [] t) r e

  pub values_read : read_verdict b (value_entries (length t)) k ≡ Ok tt → outcome (read_values k) (state b [] t) ≡ outcome_with (values_are (row value_width t k)) b [] t
  unfolding verdict_in refusal execute
  values_read e = carried_out (read_values k) (state b [] t) e

  pub detail_refused : (d : Detail) (r : Refusal) → read_verdict b (record_entries (length t)) k ≡ Err r → outcome (read_detail d k) (state b t []) ≡ outcome_with (refused r) b t []
  unfolding verdict_in refusal refuse
  detail_refused d r e = refused_as (read_detail d k) (state b t []) r e

  pub detail_read : (d : Detail) → read_verdict b (record_entries (length t)) k ≡ Ok tt
      → outcome (read_detail d k) (state b t []) ≡ outcome_with (detail_is (detail_from d (settings_of b) b t k)) b t []
  unfolding verdict_in refusal execute
  detail_read d e = carried_out (read_detail d k) (state b t []) e

  pub in_table : read_verdict b (record_entries (length t)) k ≡ Ok tt → InTable b (length t) k
  in_table e =
      let r = accepted_read b (record_entries (length t)) k e in
      record { frame = frame_right b r.header; room = omega (arith, r.room); one = r.one; below = r.below }
