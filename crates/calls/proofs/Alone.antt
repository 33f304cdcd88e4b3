-- A call by itself, on any chart and any tables: what it leaves, and that the table which it doesn't borrow makes no difference; and that a call on the opening's
-- own tables is admissible. Assumes nothing.
use Rattle.std.specs.Prelude.{Ok, Err}
use mathlib.Core.Path.{◌≡◌, refl, ap, subst⁻¹}
use mathlib.Core.List.{List, [], ◌∷◌, map}
use Prim.Native.Nat.{ℕ}
use lib.Ieee.{Float}
use lib.ListN.{length, drop}
use native.Mathlib.Omega.{arith}
use Rattle.chart_opening.specs.Header.{settings_of, chart_length}
use Rattle.chart_opening.specs.Conditions.{if_accepted}
use Rattle.chart_opening.specs.declared.Refusal.{Refusal}
use Rattle.chart_opening.specs.Verdict.{Verdict}
use Rattle.calls.specs.Simulation.{Throughout}
use Rattle.calls.specs.Tables.{contents, table_after}
use Rattle.calls.specs.Afresh.{Detail, Figure, count}
use Rattle.calls.specs.Conditions.{Scratch, Lengths, lengths, Operation, replace, insert, remove, read_record, read_values, read_detail, figure, refusal}
use Rattle.calls.specs.Calls.{State, Outcome, refuse, opened, open_answer, open_leaves, edited, put_in, taken_out, execute, verdict_in, outcome, zeros, cleared, scratch_after, lent, state_after, perform}
use Rattle.calls.specs.Statement.{OwnTables, Outside, Admissible, count_after, own_call}
use Rattle.calls.proofs.Refusals.{opening_met, accepted_replace, accepted_insert, accepted_remove}
use Rattle.calls.proofs.Replacing.{count_same, put_keeps}
use Rattle.calls.proofs.Moving.{inserted_more, inserted_keeps, removed_more, removed_keeps}
use Rattle.calls.proofs.Locality.{open_outside}
use Rattle.calls.proofs.Steps.{outside_refl, edited_outside, put_in_outside, taken_out_outside}

-- ---- With the opening's tables

pub steps : (a : Operation) (st : State) → perform (own_call a) st ≡ ((outcome a st).answer, (outcome a st).leaves)
unfolding perform lent state_after contents table_after
steps a st = refl

own_tables : (a : Operation) → OwnTables a (own_call a).records (own_call a).values
unfolding OwnTables
own_tables (replace k o) = (tt, tt)
own_tables (insert k o) = (tt, tt)
own_tables (remove k) = (tt, tt)
own_tables (read_record k) = tt
own_tables (read_values k) = tt
own_tables (read_detail d k) = tt
own_tables (figure f l) = tt

pub own_calls : (ops : List Operation) (st : State) → Throughout perform Admissible (map own_call ops) st
unfolding Throughout Admissible
own_calls [] st = tt
own_calls (a ∷ ops) st = ((λ e. own_tables a), own_calls ops (perform (own_call a) st).1)

-- ---- With one table only

answers_alike : (v : Verdict) (x y : State) (p q : Outcome) → p.answer ≡ q.answer → (if_accepted v p (refuse x)).answer ≡ (if_accepted v q (refuse y)).answer
unfolding if_accepted refuse
answers_alike (Ok tt) x y p q e = e
answers_alike (Err r) x y p q e = refl

module _ (b : List ℕ) (rs vs : List Float) where
  abbrev both : State
  both = record { chart = b; records = rs; values = vs }

  abbrev no_values : State
  no_values = record { chart = b; records = rs; values = [] }

  abbrev no_records : State
  no_records = record { chart = b; records = []; values = vs }

  pub record_alone : (k : ℕ) → (outcome (read_record k) both).answer ≡ (outcome (read_record k) no_values).answer
  unfolding outcome verdict_in refusal execute
  record_alone k = answers_alike _ both no_values _ _ refl

  pub values_alone : (k : ℕ) → (outcome (read_values k) both).answer ≡ (outcome (read_values k) no_records).answer
  unfolding outcome verdict_in refusal execute
  values_alone k = answers_alike _ both no_records _ _ refl

  pub detail_alone : (d : Detail) (k : ℕ) → (outcome (read_detail d k) both).answer ≡ (outcome (read_detail d k) no_values).answer
  unfolding outcome verdict_in refusal execute
  detail_alone d k = answers_alike _ both no_values _ _ refl

  pub figure_alone : (f : Figure) (l : Lengths) → (outcome (figure f l) both).answer ≡ (outcome (figure f l) no_records).answer
  unfolding outcome verdict_in refusal execute
  figure_alone f l = answers_alike _ both no_records _ _ refl

-- ---- What a call leaves, by the condition that it meets

module _ (a : Operation) (st : State) where
  by : Verdict → Outcome
  by v = if_accepted v (execute a st) (refuse st)

  pub carried_out : verdict_in a st ≡ Ok tt → outcome a st ≡ execute a st
  unfolding outcome by if_accepted
  carried_out e = ap by e

  pub refused_as : (q : Refusal) → verdict_in a st ≡ Err q → outcome a st ≡ refuse st q
  unfolding outcome by if_accepted
  refused_as q e = ap by e

  -- it stands where what it would leave does, and where nothing is changed
  by_cases : (P : State → Type 0) → P st → (verdict_in a st ≡ Ok tt → P (execute a st).leaves) → P (outcome a st).leaves
  unfolding refuse
  by_cases P p f = go (verdict_in a st) refl
    where
      go : (v : Verdict) → verdict_in a st ≡ v → P (outcome a st).leaves
      go (Ok tt) e = subst⁻¹ (λ (x : Outcome). P x.leaves) (carried_out e) (f e)
      go (Err q) e = subst⁻¹ (λ (x : Outcome). P x.leaves) (refused_as q e) p

pub record-reads : (k : ℕ) (st : State) → (outcome (read_record k) st).leaves ≡ st
unfolding execute
record-reads k st = by_cases (read_record k) st (λ x. x ≡ st) refl (λ e. refl)

pub values_reads : (k : ℕ) (st : State) → (outcome (read_values k) st).leaves ≡ st
unfolding execute
values_reads k st = by_cases (read_values k) st (λ x. x ≡ st) refl (λ e. refl)

pub detail_reads : (d : Detail) (k : ℕ) (st : State) → (outcome (read_detail d k) st).leaves ≡ st
unfolding execute
detail_reads d k st = by_cases (read_detail d k) st (λ x. x ≡ st) refl (λ e. refl)

pub figure_reads : (f : Figure) (l : Lengths) (st : State) → (outcome (figure f l) st).leaves ≡ st
unfolding execute
figure_reads f l st = by_cases (figure f l) st (λ x. x ≡ st) refl (λ e. refl)

-- entries 1 to N - 1 only
abbrev Written : State → State → Type 0
Written st x = Outside (count x.chart) st x

pub writes : (a : Operation) (st : State) → Written st (outcome a st).leaves
unfolding execute verdict_in
writes (replace k o) st =
    by_cases (replace k o) st (Written st) (outside_refl (count st.chart) st) (λ e.
    let (a, r) = accepted_replace k o (length st.records) (length st.values) st.chart e in edited_outside k o st a r)
writes (insert k o) st =
    by_cases (insert k o) st (Written st) (outside_refl (count st.chart) st) (λ e.
    let (a, r) = accepted_insert k o (length st.records) (length st.values) st.chart e in put_in_outside k o st a r)
writes (remove k) st =
    by_cases (remove k) st (Written st) (outside_refl (count st.chart) st) (λ e.
    let (a, r) = accepted_remove k (length st.records) (length st.values) st.chart e in taken_out_outside k st a r)
writes (read_record k) st = subst⁻¹ (Written st) (record-reads k st) (outside_refl (count st.chart) st)
writes (read_values k) st = subst⁻¹ (Written st) (values_reads k st) (outside_refl (count st.chart) st)
writes (read_detail d k) st = subst⁻¹ (Written st) (detail_reads d k st) (outside_refl (count st.chart) st)
writes (figure f l) st = subst⁻¹ (Written st) (figure_reads f l st) (outside_refl (count st.chart) st)

-- N after it
pub counts : (a : Operation) (st : State) → verdict_in a st ≡ Ok tt → count (execute a st).leaves.chart ≡ count_after a (count st.chart)
unfolding execute verdict_in edited put_in taken_out count_after
counts (replace k o) st e = count_same k o st.chart (accepted_replace k o (length st.records) (length st.values) st.chart e).0
counts (insert k o) st e = (inserted_more st.chart k o (accepted_insert k o (length st.records) (length st.values) st.chart e).0).counts
counts (remove k) st e =
    let c = (removed_more st.chart k (accepted_remove k (length st.records) (length st.values) st.chart e).0).counts in omega (arith, c)
counts (read_record k) st e = refl
counts (read_values k) st e = refl
counts (read_detail d k) st e = refl
counts (figure f l) st e = refl

-- the buffer's length, and the bytes past the chart's
abbrev Keeps : State → State → Type 0
Keeps st x = (length x.chart ≡ length st.chart) × (drop (chart_length x.chart) x.chart ≡ drop (chart_length x.chart) st.chart)

pub keeps : (a : Operation) (st : State) → Keeps st (outcome a st).leaves
unfolding execute verdict_in edited put_in taken_out
keeps (replace k o) st =
    by_cases (replace k o) st (Keeps st) (refl, refl) (λ e. put_keeps k o st.chart (accepted_replace k o (length st.records) (length st.values) st.chart e).0)
keeps (insert k o) st =
    by_cases (insert k o) st (Keeps st) (refl, refl) (λ e. inserted_keeps st.chart k o (accepted_insert k o (length st.records) (length st.values) st.chart e).0)
keeps (remove k) st =
    by_cases (remove k) st (Keeps st) (refl, refl) (λ e. removed_keeps st.chart k (accepted_remove k (length st.records) (length st.values) st.chart e).0)
keeps (read_record k) st = subst⁻¹ (Keeps st) (record-reads k st) (refl, refl)
keeps (read_values k) st = subst⁻¹ (Keeps st) (values_reads k st) (refl, refl)
keeps (read_detail d k) st = subst⁻¹ (Keeps st) (detail_reads d k st) (refl, refl)
keeps (figure f l) st = subst⁻¹ (Keeps st) (figure_reads f l st) (refl, refl)

-- ---- Opening

module _ (st : State) where
  opening_cases : (P : State → Type 0) → P st → (open_answer st ≡ Ok tt → P (opened st)) → P (open_leaves st)
  unfolding open_leaves if_accepted
  opening_cases P p f = go (open_answer st) refl
    where
      go : (v : Verdict) → open_answer st ≡ v → P (if_accepted (open_answer st) (opened st) (λ r. st))
      go (Ok tt) e = subst⁻¹ (λ (w : Verdict). P (if_accepted w (opened st) (λ r. st))) e (f e)
      go (Err q) e = subst⁻¹ (λ (w : Verdict). P (if_accepted w (opened st) (λ r. st))) e p

  pub opening_reads : (open_leaves st).chart ≡ st.chart
  unfolding opened
  opening_reads = opening_cases (λ x. x.chart ≡ st.chart) refl (λ e. refl)

  pub opened_outside : open_answer st ≡ Ok tt → Outside (count st.chart) st (opened st)
  unfolding opened open_answer
  opened_outside e =
      let (o, r) = opening_met (length st.records) (length st.values) st.chart e in
      open_outside (settings_of st.chart) st.chart st.records st.values r.records r.values

  pub opening_writes : Outside (count st.chart) st (open_leaves st)
  opening_writes = opening_cases (λ x. Outside (count st.chart) st x) (outside_refl (count st.chart) st) opened_outside

-- ---- Scratch

module _ (f : Figure) (x : Scratch) (st : State) where
  pub scratch_cleared : verdict_in (figure f (lengths x)) st ≡ Ok tt → scratch_after f st x
      ≡ record { aim = zeros x.aim; aim_no_sliders = zeros x.aim_no_sliders; speed = zeros x.speed; flashlight = zeros x.flashlight }
  unfolding scratch_after if_accepted cleared
  scratch_cleared e = ap (λ v. if_accepted v (cleared x) (λ r. x)) e

  pub scratch_kept : (q : Refusal) → verdict_in (figure f (lengths x)) st ≡ Err q → scratch_after f st x ≡ x
  unfolding scratch_after if_accepted
  scratch_kept q e = ap (λ v. if_accepted v (cleared x) (λ r. x)) e
