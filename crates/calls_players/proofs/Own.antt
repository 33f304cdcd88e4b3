-- The first player is a player whose settings are the header's; and what an edit for both answers and leaves. Assumes nothing.
use Rattle.std.specs.Prelude.{Ok, Err}
use Prim.Native.Nat.{ℕ, ◌≤◌, ◌<◌}
use mathlib.Core.Path.{◌≡◌, refl, sym, ap, ◌∙◌}
use mathlib.Core.Bool.{Bool, true, false, not}
use mathlib.Core.List.{List, ◌∷◌}
use lib.ListN.{length}
use borrow.Author.Tests.{eq-eqb, lt-leb}
use Rattle.num_tables.specs.Parts.{part}
use Rattle.chart_fields.specs.Limits.{header_size}
use Rattle.chart_opening.specs.Limits.{settings_start, settings_size}
use Rattle.chart_opening.specs.Header.{frame_ok, header_ok}
use Rattle.chart_opening.specs.Conditions.{first_of, refuse_if, if_accepted, chart_conditions, open_conditions}
use Rattle.chart_opening.specs.declared.Refusal.{Refusal}
use Rattle.chart_opening.specs.declared.Refusal.TheVariants.{Header}
use Rattle.chart_opening.specs.Verdict.{Verdict}
use Rattle.chart_replacing.specs.Replace.{replace_conditions}
use Rattle.chart_inserting.specs.Insert.{insert_conditions, remove_conditions}
use Rattle.chart_players.specs.Second.{second_verdict}
use Rattle.chart_players.specs.Under.{own_length, under_own}
use Rattle.chart_players.proofs.Verdicts.{second_header, second_passed, both_first, both_second, refused_first}
use Rattle.calls.specs.Afresh.{Figure}
use Rattle.calls.specs.Conditions.{Scratch, lengths, Operation, replace, insert, remove, read_record, read_values, read_detail, figure, read_conditions, sum_conditions, figure_conditions, refusal, opening}
use Rattle.calls.specs.Calls.{State, refuse, opened, open_answer, open_leaves, execute, verdict_in, outcome, cleared, scratch_after}
use Rattle.calls.proofs.Alone.{refused_as}
use Rattle.calls_players.specs.Second.{seen, open_answer_as, opened_as, open_leaves_as, verdict_as, outcome_as, scratch_after_as}
use Rattle.calls_players.specs.Statement.{Reads}
use Rattle.calls_players.specs.Both.{Pair, both_answer, edited_both, both_leaves}
use Rattle.calls_players.specs.Both as B

-- ---- Condition 1 is each call's first

header_refuses : (b : List ℕ) (vs : List Verdict) → header_ok b ≡ false → first_of (refuse_if (not (header_ok b)) Header ∷ vs) ≡ Err Header
header_refuses b vs e = ap (λ (x : Bool). first_of (refuse_if (not x) Header ∷ vs)) e ∙ refused_first Header vs

opening_header : (r v : ℕ) (b : List ℕ) → header_ok b ≡ false → opening r v b ≡ Err Header
unfolding open_conditions chart_conditions
opening_header r v b e = header_refuses b _ e

operation_header : (a : Operation) (r v : ℕ) (b : List ℕ) → header_ok b ≡ false → refusal a r v b ≡ Err Header
unfolding refusal replace_conditions insert_conditions remove_conditions open_conditions chart_conditions read_conditions figure_conditions sum_conditions
operation_header (replace k o) r v b e = header_refuses b _ e
operation_header (insert k o) r v b e = header_refuses b _ e
operation_header (remove k) r v b e = header_refuses b _ e
operation_header (read_record k) r v b e = header_refuses b _ e
operation_header (read_values k) r v b e = header_refuses b _ e
operation_header (read_detail d k) r v b e = header_refuses b _ e
operation_header (figure f l) r v b e = header_refuses b _ e

-- a chart without a header
header_short : (b : List ℕ) → length b < header_size → header_ok b ≡ false
unfolding header_ok frame_ok
header_short b h = simp (lt-leb header_size (length b) h)

pub opening_short : (r v : ℕ) (b : List ℕ) → length b < header_size → opening r v b ≡ Err Header
opening_short r v b h = opening_header r v b (header_short b h)

pub verdict_short : (a : Operation) (st : State) → length st.chart < header_size → verdict_in a st ≡ Err Header
unfolding verdict_in
verdict_short a st h = operation_header a _ _ st.chart (header_short st.chart h)

pub outcome_short : (a : Operation) (st : State) → length st.chart < header_size → outcome a st ≡ refuse st Header
outcome_short a st h = refused_as a st Header (verdict_short a st h)

pub scratch_short_lem : (f : Figure) (st : State) (x : Scratch) → length st.chart < header_size → scratch_after f st x ≡ x
unfolding scratch_after if_accepted
scratch_short_lem f st x h = ap (λ (v : Verdict). if_accepted v (cleared x) (λ r. x)) (verdict_short (figure f (lengths x)) st h)

-- ---- A reading or a figure of the second player, by the condition that it meets

module _ (t : List ℕ) (a : Operation) (st : State) where
  pub as_refused : (r : Refusal) → verdict_as t a st ≡ Err r → outcome_as t a st ≡ refuse st r
  unfolding outcome_as if_accepted
  as_refused r e = ap (λ (v : Verdict). if_accepted v (record { answer = (execute a (seen t st)).answer; leaves = st }) (refuse st)) e

  pub as_carried : verdict_as t a st ≡ Ok tt → outcome_as t a st ≡ record { answer = (execute a (seen t st)).answer; leaves = st }
  unfolding outcome_as if_accepted
  as_carried e = ap (λ (v : Verdict). if_accepted v (record { answer = (execute a (seen t st)).answer; leaves = st }) (refuse st)) e

module _ (t : List ℕ) (f : Figure) (st : State) (x : Scratch) where
  pub scratch_kept_as : (r : Refusal) → verdict_as t (figure f (lengths x)) st ≡ Err r → scratch_after_as t f st x ≡ x
  unfolding scratch_after_as if_accepted
  scratch_kept_as r e = ap (λ (v : Verdict). if_accepted v (cleared x) (λ r. x)) e

  pub scratch_cleared_as : verdict_as t (figure f (lengths x)) st ≡ Ok tt → scratch_after_as t f st x ≡ cleared x
  unfolding scratch_after_as if_accepted
  scratch_cleared_as e = ap (λ (v : Verdict). if_accepted v (cleared x) (λ r. x)) e

-- ---- A chart under its own settings

module _ (st : State) (h : header_size ≤ length st.chart) where
  abbrev mine : List ℕ
  mine = part settings_start settings_size st.chart

  pub seen_own : seen mine st ≡ st
  unfolding seen
  seen_own = λ i. record { chart = under_own st.chart h i; records = st.records; values = st.values }

  second_own : (v : Verdict) → (header_ok st.chart ≡ false → v ≡ Err Header) → second_verdict mine st.chart v ≡ v
  second_own v f = go (header_ok st.chart) refl
    where
      go : (x : Bool) → header_ok st.chart ≡ x → second_verdict mine st.chart v ≡ v
      go false e = second_header mine st.chart v (ap header_ok (under_own st.chart h) ∙ e) ∙ sym (f e)
      go true e = second_passed mine st.chart v (ap header_ok (under_own st.chart h) ∙ e) (eq-eqb (length mine) settings_size (own_length st.chart h))

  pub own_opening : open_answer_as mine st ≡ open_answer st
  unfolding open_answer_as open_answer
  own_opening = ap (λ (x : State). second_verdict mine st.chart (open_answer x)) seen_own ∙ second_own (open_answer st) (opening_header _ _ st.chart)

  pub own_verdict : (a : Operation) → verdict_as mine a st ≡ verdict_in a st
  unfolding verdict_as verdict_in
  own_verdict a = ap (λ (x : State). second_verdict mine st.chart (verdict_in a x)) seen_own ∙ second_own (verdict_in a st) (operation_header a _ _ st.chart)

  -- an operation that writes nothing
  reads_leave : (a : Operation) → Reads a → (execute a st).leaves ≡ st
  unfolding Reads execute
  reads_leave (replace k o) x = absurd x
  reads_leave (insert k o) x = absurd x
  reads_leave (remove k) x = absurd x
  reads_leave (read_record k) x = refl
  reads_leave (read_values k) x = refl
  reads_leave (read_detail d k) x = refl
  reads_leave (figure f l) x = refl

  pub own_outcome : (a : Operation) → Reads a → outcome_as mine a st ≡ outcome a st
  unfolding outcome_as outcome
  own_outcome a x = λ i.
      if_accepted (own_verdict a i) (record { answer = (execute a (seen_own i)).answer; leaves = sym (reads_leave a x) i }) (refuse st)

  pub own_scratch : (f : Figure) (x : Scratch) → scratch_after_as mine f st x ≡ scratch_after f st x
  unfolding scratch_after_as scratch_after
  own_scratch f x = λ i. if_accepted (own_verdict (figure f (lengths x)) i) (cleared x) (λ r. x)

  opened_own : opened_as mine st ≡ opened st
  unfolding opened_as opened
  opened_own = λ i. record { chart = st.chart; records = (opened (seen_own i)).records; values = (opened (seen_own i)).values }

  pub own_leaves : open_leaves_as mine st ≡ open_leaves st
  unfolding open_leaves_as open_leaves
  own_leaves = λ i. if_accepted (own_opening i) (opened_own i) (λ r. st)

-- ---- An edit for both

module _ (t : List ℕ) (a : Operation) (p : Pair) where
  pub first_refuses : (q : Refusal) → verdict_in a (B.first_of p) ≡ Err q → both_answer t a p ≡ Err q
  unfolding both_answer
  first_refuses q e = both_first _ _ q e

  pub second_refuses : verdict_in a (B.first_of p) ≡ Ok tt → both_answer t a p ≡ verdict_as t a (B.second_of p)
  unfolding both_answer
  second_refuses e = both_second _ _ e

  pub both_kept : (q : Refusal) → both_answer t a p ≡ Err q → both_leaves t a p ≡ p
  unfolding both_leaves if_accepted
  both_kept q e = ap (λ (v : Verdict). if_accepted v (edited_both t a p) (λ r. p)) e

  pub both_left : both_answer t a p ≡ Ok tt → both_leaves t a p ≡ edited_both t a p
  unfolding both_leaves if_accepted
  both_left e = ap (λ (v : Verdict). if_accepted v (edited_both t a p) (λ r. p)) e
