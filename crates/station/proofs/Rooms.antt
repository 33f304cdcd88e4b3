-- A call that is carried out had room for what it writes; one that is refused writes nothing. Assumes nothing.
use Rattle.std.specs.Prelude.{Ok, Err}
use Prim.Native.Nat.{ℕ, ◌<◌, ◌≤◌}
use mathlib.Core.Path.{◌≡◌, refl, sym, ap, ◌∙◌}
use mathlib.Core.Bool.{Bool, true, false, cond, ◌||◌}
use mathlib.Core.List.{List, [], ◌∷◌}
use native.Mathlib.Omega.{arith}
use lib.Dec.{ltb}
use lib.Ieee.{Float, nan}
use lib.ListN.{length, get_or, get_or-eq_default}
use borrow.Author.Tests.{lt-ltb, le-ltb, ltb-false, lt-leb, eq-eqb}
use Rattle.num_tables.specs.Parts.{part, put}
use Rattle.chart_fields.specs.Limits.{header_size}
use Rattle.chart_opening.specs.Limits.{settings_start, settings_size}
use Rattle.chart_opening.specs.Conditions.{refusal_number, first_of, if_accepted, chart_conditions, open_verdict}
use Rattle.chart_opening.specs.Accepted.{refuses}
use Rattle.chart_opening.specs.declared.Refusal.{Refusal}
use Rattle.chart_opening.specs.declared.Refusal.TheVariants.{Header, Setting, Object, Entries, Order, Length, Table, Place, Room, NotFinite}
use Rattle.chart_opening.specs.Verdict.{Verdict}
use Rattle.chart_opening.specs.Header.{frame_ok, header_ok, settings_of}
use Rattle.osu_records.specs.Rows.{record_at}
use Rattle.eval_rhythm.specs.Comparisons.{comparisons_at_place, most_comparisons}
use Rattle.eval_rhythm.proofs.Bounded.{comparisons_bounded}
use Rattle.calls.specs.Tables.{value_entries}
use Rattle.calls.specs.Afresh.{Record, count, object, rhythm, Finding, rhythm_is, detail_of, Figure, Amount}
use Rattle.calls.specs.Conditions.{Scratch, lengths, scratch_short, Operation, read_detail, figure, sum_conditions, sum_verdict, asked_conditions, figure_conditions, figure_verdict, refusal}
use Rattle.calls.specs.Calls.{Answer, refused, record_is, values_are, detail_is, figure_is, Outcome, State, state, outcome_with, refuse, execute, verdict_in, outcome, cleared}
use Rattle.calls.proofs.Refusals.{sum_refused, sum_passed}
use Rattle.chart_players.specs.Second.{under, second_verdict}
use Rattle.chart_players.specs.Under.{own_length, under_own}
use Rattle.chart_players.proofs.Verdicts.{first_append, second_header, second_passed, second_then, second_accepted, refused_first}
use Rattle.calls_players.specs.Second.{seen, verdict_as, outcome_as, scratch_after_as}
use Rattle.calls_players.specs.Statement.{Reads}
use Rattle.calls_players.proofs.Own.{outcome_short, seen_own, own_outcome}
use Rattle.station.specs.Codes.{rhythm_width, ratings_width, numbers_width, no_room, read_into, into_verdict, figure_into, scratch_into, read_into_as, into_verdict_as, figure_into_as, scratch_into_as, ratings_cramped}

pub number_small : (r : Refusal) → refusal_number r ≤ 10
number_small Header = omega arith
number_small Setting = omega arith
number_small (Object i) = omega arith
number_small (Entries i) = omega arith
number_small (Order i) = omega arith
number_small Length = omega arith
number_small Table = omega arith
number_small Place = omega arith
number_small Room = omega arith
number_small NotFinite = omega arith

-- what is read past the end
pub past : (l : List Float) (i : ℕ) → length l ≤ i → get_or l i nan ≡ nan
past l i h = get_or-eq_default l nan h

-- nothing is written
pub put_none : (l : List Float) → l ≡ put 0 [] l
unfolding put
put_none l = refl

-- ---- Readings

module _ (need room : ℕ) (a : Operation) (st : State) where
  pub into_short : room < need → read_into need room a st ≡ refuse st (no_room st.chart)
  unfolding read_into
  into_short h = rw (lt-ltb room need h)

  pub into_long : need ≤ room → read_into need room a st ≡ outcome a st
  unfolding read_into
  into_long h = rw (le-ltb room need h)

  pub into_room : (x : Answer) → ((r : Refusal) → refused r ≡ x → ⊥) → x ≡ (read_into need room a st).answer → need ≤ room
  unfolding read_into refuse
  into_room x other e = go (ltb room need) refl e
    where
      go : (t : Bool) → ltb room need ≡ t → x ≡ (cond t (refuse st (no_room st.chart)) (outcome a st)).answer → need ≤ room
      go true h f = absurd (other (no_room st.chart) (sym f))
      go false h f = ltb-false room need h

module _ (t : List ℕ) (need room : ℕ) (a : Operation) (st : State) where
  pub into_short_as : room < need → (r : Refusal) → Err r ≡ second_verdict t st.chart (Err Table) → read_into_as t need room a st ≡ refuse st r
  unfolding read_into_as if_accepted
  into_short_as h r e =
      ap (λ (x : Bool). cond x (if_accepted (second_verdict t st.chart (Err Table)) (outcome_as t a st) (refuse st)) (outcome_as t a st)) (lt-ltb room need h)
      ∙ ap (λ (v : Verdict). if_accepted v (outcome_as t a st) (refuse st)) (sym e)

  pub into_long_as : need ≤ room → read_into_as t need room a st ≡ outcome_as t a st
  unfolding read_into_as
  into_long_as h = rw (le-ltb room need h)

  no_room_refuses : (v : Verdict) → second_verdict t st.chart (Err Table) ≡ v → v ≡ Ok tt → ⊥
  no_room_refuses v e f = refuses (second_accepted t st.chart (Err Table) (e ∙ f)).then

  pub into_room_as : (x : Answer) → ((r : Refusal) → refused r ≡ x → ⊥) → x ≡ (read_into_as t need room a st).answer → need ≤ room
  unfolding read_into_as refuse if_accepted
  into_room_as x other e = go (ltb room need) refl e
    where
      by : (v : Verdict) → second_verdict t st.chart (Err Table) ≡ v → x ≡ (if_accepted v (outcome_as t a st) (refuse st)).answer → ⊥
      by (Ok tt) q f = no_room_refuses (Ok tt) q refl
      by (Err r) q f = other r (sym f)

      go : (s : Bool) → ltb room need ≡ s → x ≡ (cond s (if_accepted (second_verdict t st.chart (Err Table)) (outcome_as t a st) (refuse st)) (outcome_as t a st)).answer → need ≤ room
      go true h f = absurd (by (second_verdict t st.chart (Err Table)) refl f)
      go false h f = ltb-false room need h

pub no_record : (x : Record) (r : Refusal) → refused r ≡ record_is x → ⊥
no_record x r e = let z : ◌≡◌ {A = ℕ} 0 1 = cc in absurd (omega arith)

pub no_values : (v : List Float) (r : Refusal) → refused r ≡ values_are v → ⊥
no_values v r e = let z : ◌≡◌ {A = ℕ} 0 1 = cc in absurd (omega arith)

pub no_detail : (x : Finding) (r : Refusal) → refused r ≡ detail_is x → ⊥
no_detail x r e = let z : ◌≡◌ {A = ℕ} 0 1 = cc in absurd (omega arith)

-- the comparisons of a rhythm value that is read are few
pub few_compared : (x : Float) (n room k : ℕ) (t : List ℕ) (st : State) → detail_is (rhythm_is x n) ≡ (read_into_as t rhythm_width room (read_detail rhythm k) st).answer → n ≤ most_comparisons
unfolding outcome_as execute detail_of refuse if_accepted
few_compared x n room k t st e =
    go (verdict_as t (read_detail rhythm k) st)
    (e ∙ ap (λ (o : Outcome). o.answer) (into_long_as t rhythm_width room (read_detail rhythm k) st (into_room_as t rhythm_width room (read_detail rhythm k) st _ (no_detail (rhythm_is x n)) e)))
  where
    go : (v : Verdict)
        → detail_is (rhythm_is x n) ≡ (if_accepted v (record { answer = (execute (read_detail rhythm k) (seen t st)).answer; leaves = st }) (refuse st)).answer → n ≤ most_comparisons
    go (Ok tt) f =
        let m : n ≡ comparisons_at_place (object (seen t st).chart) (record_at (seen t st).records) k (settings_of (seen t st).chart).hit_window = cc in
        rw m (comparisons_bounded (object (seen t st).chart) (record_at (seen t st).records) k (settings_of (seen t st).chart).hit_window)
    go (Err r) f = absurd (no_detail (rhythm_is x n) r (sym f))

-- ---- Figures

module _ (t : List ℕ) (f : Figure) (cramped : Bool) (x : Scratch) (b : List ℕ) (vs : List Float) where
  asked : Bool → Verdict
  asked short = second_verdict t b (figure_verdict f (under t b) (value_entries (length vs)) short)

  outcome_by : Verdict → Outcome
  outcome_by v = if_accepted v (record { answer = (execute (figure f (lengths x)) (seen t (state b [] vs))).answer; leaves = state b [] vs }) (refuse (state b [] vs))

  scratch_by : Verdict → Scratch
  scratch_by v = if_accepted v (cleared x) (λ r. x)

  -- a figure is refused as its sums are
  refused_sums : (short : Bool) (r : Refusal) → Err r ≡ second_verdict t b (sum_verdict (under t b) (value_entries (length vs)) short)
      → second_verdict t b (figure_verdict f (under t b) (value_entries (length vs)) short) ≡ Err r
  unfolding figure_conditions
  refused_sums short r e =
      ap (second_verdict t b) (first_append (sum_conditions (under t b) (value_entries (length vs)) short) (asked_conditions f (count (under t b))))
      ∙ (second_then t b (sum_verdict (under t b) (value_entries (length vs)) short) (asked_conditions f (count (under t b)))
      ∙ (ap (λ (v : Verdict). first_of (v ∷ asked_conditions f (count (under t b)))) (sym e) ∙ refused_first r (asked_conditions f (count (under t b)))))

  -- with a cramped answer
  pub figure_short : cramped ≡ true → (r : Refusal) → Err r ≡ second_verdict t b (sum_verdict (under t b) (value_entries (length vs)) true)
      → (figure_into_as t f cramped x (state b [] vs) ≡ outcome_with (refused r) b [] vs) × (scratch_into_as t f cramped x (state b [] vs) ≡ x)
  unfolding figure_into_as scratch_into_as into_verdict_as outcome_by scratch_by asked if_accepted refuse
  figure_short h r e =
      let q = ap (λ (s : Bool). asked (s || scratch_short (lengths x))) h ∙ refused_sums true r e in
      (ap outcome_by q, ap scratch_by q)

  pub figure_long : cramped ≡ false
      → (figure_into_as t f cramped x (state b [] vs) ≡ outcome_as t (figure f (lengths x)) (state b [] vs))
      × (scratch_into_as t f cramped x (state b [] vs) ≡ scratch_after_as t f (state b [] vs) x)
  unfolding figure_into_as scratch_into_as into_verdict_as outcome_by scratch_by asked outcome_as scratch_after_as verdict_as verdict_in refusal seen
  figure_long h =
      let q = ap (λ (s : Bool). asked (s || scratch_short (lengths x))) h in
      (ap outcome_by q, ap scratch_by q)

  -- sums that are too short are never accepted
  never_short : sum_verdict (under t b) (value_entries (length vs)) true ≡ Ok tt → ⊥
  never_short e = absurd (go _ refl)
    where
      go : (w : Verdict) → open_verdict (under t b) (value_entries (length vs)) ≡ w → ⊥
      go (Ok tt) o = refuses (sym (sum_passed (under t b) (value_entries (length vs)) true o) ∙ e)
      go (Err r) o = refuses (sym (sum_refused (under t b) (value_entries (length vs)) true r o) ∙ e)

  pub figure_room : (a : Amount) → figure_is a ≡ (figure_into_as t f cramped x (state b [] vs)).answer → cramped ≡ false
  unfolding figure_into_as into_verdict_as if_accepted refuse
  figure_room a e = go cramped refl
    where
      no_figure : (r : Refusal) → refused r ≡ figure_is a → ⊥
      no_figure r g = let z : ◌≡◌ {A = ℕ} 0 1 = cc in absurd (omega arith)

      by : Verdict → Answer
      by v = (if_accepted v (record { answer = (execute (figure f (lengths x)) (seen t (state b [] vs))).answer; leaves = state b [] vs }) (refuse (state b [] vs))).answer

      told : (v : Verdict) → second_verdict t b (sum_verdict (under t b) (value_entries (length vs)) true) ≡ v
          → figure_is a ≡ by (second_verdict t b (figure_verdict f (under t b) (value_entries (length vs)) true)) → ⊥
      told (Ok tt) q g = never_short (second_accepted t b _ q).then
      told (Err r) q g = no_figure r (sym (g ∙ ap by (refused_sums true r (sym q))))

      go : (s : Bool) → cramped ≡ s → cramped ≡ false
      go true h =
          let q = ap (λ (s : Bool). second_verdict t b (figure_verdict f (under t b) (value_entries (length vs)) (s || scratch_short (lengths x)))) h in
          absurd (told (second_verdict t b (sum_verdict (under t b) (value_entries (length vs)) true)) refl (e ∙ ap by q))
      go false h = h

-- with room for them and all numbers, ratings are not cramped
pub ratings_room : (room numbers : ℕ) → ratings_cramped room numbers ≡ false → ratings_width ≤ room
unfolding ratings_cramped
ratings_room room numbers e = go (ltb room ratings_width) refl e
  where
    go : (s : Bool) → ltb room ratings_width ≡ s → (s || ltb numbers numbers_width) ≡ false → ratings_width ≤ room
    go true h q = let z : ◌≡◌ {A = ℕ} 0 1 = cc in absurd (omega arith)
    go false h q = ltb-false room ratings_width h

-- ---- The first player: a chart without a header, and the header's own settings

header_short : (b : List ℕ) → length b < header_size → header_ok b ≡ false
unfolding header_ok frame_ok
header_short b h = simp (lt-leb header_size (length b) h)

figure_header : (f : Figure) (b : List ℕ) (entries : ℕ) (short : Bool) → header_ok b ≡ false → figure_verdict f b entries short ≡ Err Header
unfolding figure_conditions sum_conditions chart_conditions first_of
figure_header f b entries short e = simp e

by_refusal : (o : Outcome) (st : State) (q : Refusal) → if_accepted (Err q) o (refuse st) ≡ refuse st q
unfolding if_accepted
by_refusal o st q = refl

module _ (need room : ℕ) (a : Operation) (st : State) where
  pub short_into : length st.chart < header_size → read_into need room a st ≡ refuse st Header
  unfolding read_into
  short_into h =
      (λ i. cond (ltb room need) (refuse st (cond (header_short st.chart h i) Table Header)) (outcome_short a st h i)) ∙ same (ltb room need)
    where
      same : (x : Bool) → cond x (refuse st Header) (refuse st Header) ≡ refuse st Header
      same true = refl
      same false = refl

  pub own_into : header_size ≤ length st.chart → Reads a → read_into_as (part settings_start settings_size st.chart) need room a st ≡ read_into need room a st
  unfolding read_into_as read_into
  own_into h r = λ i. cond (ltb room need) (own_room (header_ok st.chart) refl i) (own_outcome st h a r i)
    where
      t : List ℕ
      t = part settings_start settings_size st.chart

      by : Verdict → Outcome
      by v = if_accepted v (outcome_as t a st) (refuse st)

      refused_by : (q : Refusal) → by (Err q) ≡ refuse st q
      refused_by q = by_refusal (outcome_as t a st) st q

      own_room : (x : Bool) → header_ok st.chart ≡ x → if_accepted (second_verdict t st.chart (Err Table)) (outcome_as t a st) (refuse st) ≡ refuse st (no_room st.chart)
      own_room false e =
          ap by (second_header t st.chart (Err Table) (ap header_ok (under_own st.chart h) ∙ e)) ∙ (refused_by Header ∙ ap (λ (y : Bool). refuse st (cond y Table Header)) (sym e))
      own_room true e =
          ap by (second_passed t st.chart (Err Table) (ap header_ok (under_own st.chart h) ∙ e) (eq-eqb (length t) settings_size (own_length st.chart h)))
          ∙ (refused_by Table ∙ ap (λ (y : Bool). refuse st (cond y Table Header)) (sym e))

module _ (f : Figure) (cramped : Bool) (x : Scratch) (b : List ℕ) (vs : List Float) where
  pub short_figure : length b < header_size
      → (figure_into f cramped x (state b [] vs) ≡ outcome_with (refused Header) b [] vs) × (scratch_into f cramped x (state b [] vs) ≡ x)
  unfolding figure_into scratch_into into_verdict if_accepted refuse
  short_figure h =
      let q = figure_header f b (value_entries (length vs)) (cramped || scratch_short (lengths x)) (header_short b h) in
      (ap (λ (v : Verdict). if_accepted v (execute (figure f (lengths x)) (state b [] vs)) (refuse (state b [] vs))) q, ap (λ (v : Verdict). if_accepted v (cleared x) (λ r. x)) q)

  own_asked : header_size ≤ length b → into_verdict_as (part settings_start settings_size b) f cramped x (state b [] vs) ≡ into_verdict f cramped x (state b [] vs)
  unfolding into_verdict_as into_verdict
  own_asked h = ap (λ (c : List ℕ). second_verdict t b (figure_verdict f c (value_entries (length vs)) short)) (under_own b h) ∙ go (header_ok b) refl
    where
      t : List ℕ
      t = part settings_start settings_size b

      short : Bool
      short = cramped || scratch_short (lengths x)

      go : (y : Bool) → header_ok b ≡ y → second_verdict t b (figure_verdict f b (value_entries (length vs)) short) ≡ figure_verdict f b (value_entries (length vs)) short
      go false e = second_header t b _ (ap header_ok (under_own b h) ∙ e) ∙ sym (figure_header f b (value_entries (length vs)) short e)
      go true e = second_passed t b _ (ap header_ok (under_own b h) ∙ e) (eq-eqb (length t) settings_size (own_length b h))

  pub own_figure : header_size ≤ length b
      → (figure_into_as (part settings_start settings_size b) f cramped x (state b [] vs) ≡ figure_into f cramped x (state b [] vs))
      × (scratch_into_as (part settings_start settings_size b) f cramped x (state b [] vs) ≡ scratch_into f cramped x (state b [] vs))
  unfolding figure_into_as figure_into scratch_into_as scratch_into execute
  own_figure h = (
    (λ i. if_accepted (own_asked h i) (record { answer = (execute (figure f (lengths x)) (seen_own (state b [] vs) h i)).answer; leaves = state b [] vs }) (refuse (state b [] vs))),
    (λ i. if_accepted (own_asked h i) (cleared x) (λ r. x)),
  )
