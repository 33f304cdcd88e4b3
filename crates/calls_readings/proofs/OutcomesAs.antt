-- A reading of the second player, by the condition that it meets: refused or carried out, it changes nothing. Assumes nothing.
use Rattle.std.specs.Prelude.{Ok, Err}
use Prim.Native.Nat.{ℕ}
use mathlib.Core.Path.{◌≡◌, refl, ap, ◌∙◌}
use mathlib.Core.List.{List, []}
use lib.Ieee.{Float}
use lib.ListN.{length}
use native.Mathlib.Omega.{arith}
use Rattle.num_tables.specs.Parts.{row}
use Rattle.osu_records.specs.Rows.{record_at}
use Rattle.chart_opening.specs.Header.{settings_at}
use Rattle.chart_opening.specs.declared.Settings.{Settings}
use Rattle.chart_opening.specs.declared.Refusal.{Refusal}
use Rattle.chart_players.specs.Second.{under, second_verdict}
use Rattle.chart_players.specs.Under.{framed_under}
use Rattle.chart_players.proofs.Verdicts.{Passed, second_accepted, settings_are}
use Rattle.calls.specs.Tables.{value_width, record_entries, value_entries}
use Rattle.calls.specs.Afresh.{Detail, aim_parts, detail_of, detail_from}
use Rattle.calls.specs.Conditions.{read_record, read_values, read_detail, read_verdict, refusal}
use Rattle.calls.specs.Calls.{refused, record_is, values_are, detail_is, state, outcome_with, refuse, execute, verdict_in}
use Rattle.calls.proofs.Refusals.{accepted_read}
use Rattle.calls_players.specs.Second.{seen, verdict_as, outcome_as}
use Rattle.calls_players.specs.Same.{count_under, detail_under}
use Rattle.calls_players.proofs.Own.{as_refused, as_carried}
use Rattle.calls_readings.specs.Answers.{InTable}

module _ (s b : List ℕ) (t : List Float) (k : ℕ) where
  pub record_refused : (r : Refusal) → second_verdict s b (read_verdict (under s b) (record_entries (length t)) k) ≡ Err r
      → outcome_as s (read_record k) (state b t []) ≡ outcome_with (refused r) b t []
  unfolding verdict_as verdict_in refusal refuse seen
  record_refused r e = as_refused s (read_record k) (state b t []) r e

  pub record_read : second_verdict s b (read_verdict (under s b) (record_entries (length t)) k) ≡ Ok tt
      → outcome_as s (read_record k) (state b t []) ≡ outcome_with (record_is (record_at t k)) b t []
  unfolding verdict_as verdict_in refusal execute seen
  record_read e = as_carried s (read_record k) (state b t []) e

  pub values_refused : (r : Refusal) → second_verdict s b (read_verdict (under s b) (value_entries (length t)) k) ≡ Err r
      → outcome_as s (read_values k) (state b [] t) ≡ outcome_with (refused r) b [] t
  unfolding verdict_as verdict_in refusal refuse seen
  values_refused r e = as_refused s (read_values k) (state b [] t) r e

  pub values_read : second_verdict s b (read_verdict (under s b) (value_entries (length t)) k) ≡ Ok tt
      → outcome_as s (read_values k) (state b [] t) ≡ outcome_with (values_are (row value_width t k)) b [] t
  unfolding verdict_as verdict_in refusal execute seen
  values_read e = as_carried s (read_values k) (state b [] t) e

  pub detail_refused : (d : Detail) (r : Refusal) → second_verdict s b (read_verdict (under s b) (record_entries (length t)) k) ≡ Err r
      → outcome_as s (read_detail d k) (state b t []) ≡ outcome_with (refused r) b t []
  unfolding verdict_as verdict_in refusal refuse seen
  detail_refused d r e = as_refused s (read_detail d k) (state b t []) r e

  -- what a reading that is carried out may count on
  pub passed : (entries : ℕ) → second_verdict s b (read_verdict (under s b) entries k) ≡ Ok tt → Passed s b (read_verdict (under s b) entries k)
  passed entries e = second_accepted s b (read_verdict (under s b) entries k) e

  pub in_table : second_verdict s b (read_verdict (under s b) (record_entries (length t)) k) ≡ Ok tt → InTable b (length t) k
  in_table e =
      let p = passed (record_entries (length t)) e in
      let r = accepted_read (under s b) (record_entries (length t)) k p.then in
      record {
        frame = framed_under s b p.header;
        room = omega (arith, r.room, count_under s b);
        one = r.one;
        below = omega (arith, r.below, count_under s b);
      }

  pub detail_read : (d : Detail) → second_verdict s b (read_verdict (under s b) (record_entries (length t)) k) ≡ Ok tt
      → outcome_as s (read_detail d k) (state b t []) ≡ outcome_with (detail_is (detail_from d (settings_at s 0) b t k)) b t []
  unfolding verdict_as verdict_in refusal execute seen
  detail_read d e =
      let p = passed (record_entries (length t)) e in
      as_carried s (read_detail d k) (state b t []) e
      ∙ (λ i. outcome_with (detail_is ((ap (λ (x : Settings). detail_from d x (under s b) t k) (settings_are s b p.header p.size) ∙ detail_under s b (settings_at s 0) d t k) i)) b t [])

-- no setting plays a part in aim
pub aim_any : (x y : Settings) (b : List ℕ) (t : List Float) (k : ℕ) → detail_from aim_parts x b t k ≡ detail_from aim_parts y b t k
unfolding detail_of
aim_any x y b t k = refl
