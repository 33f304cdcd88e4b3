-- What a call for the totals while playing leaves of the list that it is lent. Assumes nothing.
use Rattle.std.specs.Prelude.{Ok, Err}
use mathlib.Core.Path.{◌≡◌, refl, ap, ◌∙◌}
use mathlib.Core.List.{List}
use Prim.Native.Nat.{ℕ, zero, suc, ◌+◌, ◌*◌, ◌/◌, ◌≤◌}
use native.Mathlib.Omega.{arith}
use lib.Dec.{ltb}
use lib.Ieee.{Float}
use lib.ListN.{length, drop}
use borrow.Author.Tests.{ltb-false}
use Rattle.num_tables.specs.Parts.{row, put, fill}
use Rattle.num_tables.proofs.Rows.{row_fill-in, drop-fill}
use Rattle.chart_opening.specs.Header.{settings_of}
use Rattle.chart_opening.specs.Accepted.{not_met, head_accepts}
use Rattle.chart_opening.specs.declared.Settings.{Settings}
use Rattle.chart_opening.specs.declared.Refusal.{Refusal}
use Rattle.chart_opening.specs.declared.Refusal.TheVariants.{Table}
use Rattle.chart_opening.specs.Verdict.{Verdict}
use Rattle.osu_object.specs.Osu.{list_from}
use Rattle.skills.specs.declared.Skills.{Skills}
use Rattle.skills_playing.specs.Playing.{total_row}
use Rattle.calls.specs.Tables.{value_width, totals_width}
use Rattle.calls.specs.Afresh.{count, totals, totals_to, playing, totals_of, reached_of, figure_of}
use Rattle.calls.specs.Conditions.{Lengths, Operation, figure, asked_conditions}
use Rattle.calls.specs.Calls.{Outcome, State, refuse, execute, verdict_in, outcome, put_totals, amount_list, list_after}
use Rattle.calls.specs.Statement.{settings_in}
use Rattle.calls.proofs.Refusals.{figure_accepted}
use Rattle.calls.proofs.Alone.{carried_out, refused_as}

-- totals put one behind the other are rows made anew
pub put_totals_lem : (f : ℕ → Skills) (m n : ℕ) (t : List Float) → put_totals m (list_from f m n) t ≡ fill totals_width (λ i. total_row (f i)) m n t
unfolding put_totals list_from fill
put_totals_lem f m zero t = refl
put_totals_lem f m (suc n) t = put_totals_lem f (suc m) n (put (totals_width * m) (total_row (f m)) t)

pub playing_whole : (s : Settings) (b : List ℕ) (vs : ℕ → List Float) → figure_of (totals_to (count b)) s b vs ≡ figure_of totals s b vs
unfolding figure_of reached_of totals_of
playing_whole s b vs = refl

module _ (l : Lengths) (st : State) (t : List Float) where
  abbrev asks : Operation
  asks = figure (playing (length t / totals_width)) l

  -- entry m
  abbrev entry : ℕ → List Float
  entry m = total_row (reached_of m (settings_in st) st.chart (row value_width st.values))

  -- it has room for N + 1 entries
  room : verdict_in asks st ≡ Ok tt → totals_width * (count st.chart + 1) ≤ length t
  unfolding verdict_in asked_conditions
  room e =
      let (_, _, _, a) = (figure_accepted (playing (length t / totals_width)) l (length st.records) (length st.values) st.chart).0 e in
      let h : count st.chart + 1 ≤ length t / totals_width = ltb-false (length t / totals_width) (count st.chart + 1) (not_met (ltb (length t / totals_width) (count st.chart + 1)) Table (head_accepts _ _ a)) in
      omega arith

  pub filled : verdict_in asks st ≡ Ok tt → list_after (outcome asks st).answer t ≡ fill totals_width entry 0 (count st.chart + 1) t
  unfolding execute figure_of list_after amount_list
  filled e =
      ap (λ (o : Outcome). list_after o.answer t) (carried_out asks st e)
      ∙ put_totals_lem (λ m. reached_of m (settings_of st.chart) st.chart (row value_width st.values)) 0 (count st.chart + 1) t

  pub playing_entry : (m : ℕ) → verdict_in asks st ≡ Ok tt → m ≤ count st.chart → row totals_width (list_after (outcome asks st).answer t) m ≡ entry m
  playing_entry m e h =
      let r = room e in
      ap (λ (x : List Float). row totals_width x m) (filled e)
      ∙ row_fill-in totals_width entry (λ j. refl) m 0 (count st.chart + 1) t (λ p. omega arith) (omega arith) (omega arith)

  pub playing_refused : (q : Refusal) → verdict_in asks st ≡ Err q → list_after (outcome asks st).answer t ≡ t
  unfolding list_after refuse
  playing_refused q e = ap (λ (o : Outcome). list_after o.answer t) (refused_as asks st q e)

  pub playing_rest : drop (totals_width * (count st.chart + 1)) (list_after (outcome asks st).answer t) ≡ drop (totals_width * (count st.chart + 1)) t
  playing_rest = go (verdict_in asks st) refl
    where
      go : (v : Verdict) → verdict_in asks st ≡ v
          → drop (totals_width * (count st.chart + 1)) (list_after (outcome asks st).answer t) ≡ drop (totals_width * (count st.chart + 1)) t
      go (Ok tt) e =
          let r = room e in
          ap (drop (totals_width * (count st.chart + 1))) (filled e)
          ∙ drop-fill totals_width entry (λ j. refl) 0 (count st.chart + 1) (count st.chart + 1) t (λ p. omega arith) (λ p. omega arith)
      go (Err q) e = ap (drop (totals_width * (count st.chart + 1))) (playing_refused q e)
