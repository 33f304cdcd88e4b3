-- One call of two players on an opened chart: both players' tables stay fresh, and the answer is that of the plain chart under the settings of the player who asks.
-- Each player's part is the one player's step. Assumes nothing.
use Rattle.std.specs.Prelude.{Ok, Err}
use Prim.Native.Nat.{ℕ}
use mathlib.Core.Path.{◌≡◌, refl, sym, ap, ◌∙◌, subst}
use mathlib.Core.List.{List}
use lib.ListN.{length}
use Rattle.chart_opening.specs.Conditions.{if_accepted}
use Rattle.chart_opening.specs.Verdict.{Verdict}
use Rattle.chart_players.specs.Second.{under, second_verdict, both_verdict}
use Rattle.chart_players.specs.Commutes.{put_object_under, insert_object_under, remove_object_under}
use Rattle.chart_players.proofs.Verdicts.{second_accepted, both_accepted}
use Rattle.calls.specs.Tables.{Borrowed, length_of}
use Rattle.calls.specs.Conditions.{opening, refusal}
use Rattle.calls.specs.Calls.{Answer, refused, State, state, opened, open_answer, open_leaves, execute, verdict_in, Call, lent, perform, Question, question, compute, plain}
use Rattle.calls.specs.Statement.{Edit, put, put_before, take_out, OwnTables, Admissible}
use Rattle.calls.proofs.Refusals.{opening_met, opening_none, accepted_replace, accepted_insert, accepted_remove}
use Rattle.calls.proofs.Steps.{Inv, Good, step, verdict_lent, perform_accepted, opened_inv}
use Rattle.calls_players.specs.Second.{seen, open_answer_as, opened_as, open_leaves_as}
use Rattle.calls_players.specs.Both.{second_of, Session, first, second, operation_of, Move, edit, of_first, of_second, open_first, open_second, Reply, answered, opens, call_of, first_verdict, second_verdict_of, edit_verdict, edit_session, open_session, open_session_as, perform_both, Query, ask, plain_second, plain_edit, plain_both}
use Rattle.calls_players.specs.Statement.{AdmissibleBoth}

-- an edit of the second player's chart, where the first player's is accepted
edited_under : (e : Edit) (t : List ℕ) (r v : ℕ) (b : List ℕ) → refusal (operation_of e) r v b ≡ Ok tt
    → (compute (operation_of e) (under t b)).1 ≡ under t (compute (operation_of e) b).1
unfolding compute
edited_under (put k o) t r v b a = put_object_under t b k o (accepted_replace k o r v b a).0
edited_under (put_before k o) t r v b a = insert_object_under t b k o (accepted_insert k o r v b a).0
edited_under (take_out k) t r v b a = remove_object_under t b k (accepted_remove k r v b a).0

plain_by : (q : Question) (b : List ℕ) → refusal q.operation q.records q.values b ≡ Ok tt → plain q b ≡ compute q.operation b
unfolding plain if_accepted
plain_by q b e = ap (λ (v : Verdict). if_accepted v (compute q.operation b) (λ r. (refused r, b))) e

asked_plain : (c : Call) (r v : ℕ) (b : List ℕ) → refusal c.operation (length_of c.records r) (length_of c.values v) b ≡ Ok tt
    → plain (question r v c) b ≡ compute c.operation b
unfolding question
asked_plain c r v b e = plain_by (question r v c) b e

-- what holds after an opening, with the lengths of other tables that are as long
relength : (x₀ y₀ st : State) → length y₀.records ≡ length x₀.records → length y₀.values ≡ length x₀.values → Inv y₀ st → Inv x₀ st
relength x₀ y₀ st l m k = record {
  opens = k.opens;
  records_length = k.records_length ∙ l;
  values_length = k.values_length ∙ m;
  roomy = k.roomy;
  fresh = k.fresh;
}

-- a₀ and b₀ have the lengths of the first player's tables and of the second's
module _ (a₀ b₀ : State) where
  abbrev asked : Move → Query
  asked = ask (length a₀.records) (length a₀.values) (length b₀.records) (length b₀.values)

  -- the two machines' results, side by side
  pub record GoodBoth (x : Reply × Session) (y : Reply × List ℕ) : Type 0 where
    pub answer : x.0 ≡ y.0
    pub chart : x.1.both.chart ≡ y.1
    pub one : Inv a₀ (first x.1)
    pub two : Inv b₀ (second x.1)

  module _ (s : Session) (i : Inv a₀ (first s)) (j : Inv b₀ (second s)) where
    abbrev b : List ℕ
    b = s.both.chart

    -- the second player's tables, under any settings
    abbrev theirs : List ℕ → State
    theirs t = seen t (second_of s.both)

    -- ---- verdicts, with the lengths that the plain chart is fed
    verdict_first : (c : Call) → first_verdict c s ≡ refusal c.operation (length_of c.records (length a₀.records)) (length_of c.values (length a₀.values)) b
    unfolding first_verdict
    verdict_first c = verdict_lent c (first s) (length a₀.records) (length a₀.values) i.records_length i.values_length

    lengths_second : (length s.both.second_records ≡ length b₀.records) × (length s.both.second_values ≡ length b₀.values)
    unfolding seen
    lengths_second = (j.records_length, j.values_length)

    verdict_theirs : (t : List ℕ) (c : Call)
        → verdict_in c.operation (lent c (theirs t)) ≡ refusal c.operation (length_of c.records (length b₀.records)) (length_of c.values (length b₀.values)) (under t b)
    unfolding seen
    verdict_theirs t c = verdict_lent c (theirs t) (length b₀.records) (length b₀.values) lengths_second.0 lengths_second.1

    verdict_second : (t : List ℕ) (c : Call)
        → second_verdict_of t c s ≡ second_verdict t b (refusal c.operation (length_of c.records (length b₀.records)) (length_of c.values (length b₀.values)) (under t b))
    unfolding second_verdict_of
    verdict_second t c = ap (second_verdict t b) (verdict_theirs t c)

    -- ---- a reading or a figure of the first player
    good_first : (c : Call) → AdmissibleBoth s (of_first c) → GoodBoth (perform_both (of_first c) s) (plain_both (asked (of_first c)) b)
    unfolding AdmissibleBoth perform_both plain_both ask first_verdict Admissible
    good_first c ok = record { answer = ap answered (step a₀ c (first s) i ok.1).answer; chart = refl; one = i; two = j }

    -- ---- one of the second player
    second_answer : (c : Call) → OwnTables c.operation c.records c.values → verdict_in c.operation (lent c (second s)) ≡ Ok tt
        → (execute c.operation (lent c (second s))).answer ≡ (compute c.operation (under s.settings b)).0
    unfolding seen Admissible
    second_answer c own e =
        ap (λ (x : Answer × State). x.0) (sym (perform_accepted c (second s) e))
        ∙ ((step b₀ c (second s) j (λ _. own)).answer
        ∙ ap (λ (x : Answer × List ℕ). x.0) (asked_plain c (length b₀.records) (length b₀.values) (under s.settings b) (sym (verdict_theirs s.settings c) ∙ e)))

    module _ (t : List ℕ) (c : Call) where
      abbrev theirs_answer : Answer
      theirs_answer = (execute c.operation (lent c (theirs t))).answer

      abbrev plain_answer : Answer
      plain_answer = (compute c.operation (under t b)).0

      by_verdict : AdmissibleBoth s (of_second t c) → (v : Verdict) → second_verdict_of t c s ≡ v
          → if_accepted v theirs_answer (λ q. refused q) ≡ if_accepted v plain_answer (λ q. refused q)
      unfolding AdmissibleBoth if_accepted second_verdict_of
      by_verdict ok (Ok tt) e =
          subst (λ (t : List ℕ). verdict_in c.operation (lent c (theirs t)) ≡ Ok tt → (execute c.operation (lent c (theirs t))).answer ≡ (compute c.operation (under t b)).0)
          (sym (ok.1 e).0) (second_answer c (ok.1 e).1) (second_accepted t b _ e).then
      by_verdict ok (Err q) e = refl

      good_second : AdmissibleBoth s (of_second t c) → GoodBoth (perform_both (of_second t c) s) (plain_both (asked (of_second t c)) b)
      unfolding perform_both plain_both ask plain_second question
      good_second ok = record {
        answer = ap answered (by_verdict ok (second_verdict_of t c s) refl ∙ ap (λ (w : Verdict). if_accepted w plain_answer (λ q. refused q)) (verdict_second t c));
        chart = refl;
        one = i;
        two = j;
      }

    -- ---- an edit for both
    module _ (e : Edit) (r v r₂ v₂ : Borrowed) where
      abbrev mine : Call
      mine = call_of e r v

      abbrev other : Call
      other = call_of e r₂ v₂

      abbrev answer_edit : Reply × List ℕ
      answer_edit = (answered (compute (operation_of e) b).0, (compute (operation_of e) b).1)

      verdict_edit : (t : List ℕ) → edit_verdict t mine other s
          ≡ plain_edit e t (length_of r (length a₀.records)) (length_of v (length a₀.values)) (length_of r₂ (length b₀.records)) (length_of v₂ (length b₀.values)) b
      unfolding edit_verdict plain_edit
      verdict_edit t = λ k. both_verdict (verdict_first mine k) (verdict_second t other k)

      -- carried out, under the settings of the opening
      edit_carried : OwnTables (operation_of e) r v → OwnTables (operation_of e) r₂ v₂ → first_verdict mine s ≡ Ok tt → verdict_in (operation_of e) (lent other (second s)) ≡ Ok tt
          → GoodBoth (answered (perform mine (first s)).0, edit_session s.settings mine other s) answer_edit
      unfolding edit_session seen Admissible
      edit_carried own own₂ f f₂ =
          let g : Good a₀ (first s) (perform mine (first s)) (plain (question (length a₀.records) (length a₀.values) mine) b) = step a₀ mine (first s) i (λ _. own) in
          let g₂ : Good b₀ (second s) (perform other (second s)) (plain (question (length b₀.records) (length b₀.values) other) (under s.settings b)) = step b₀ other (second s) j (λ _. own₂) in
          let ok = sym (verdict_first mine) ∙ f in
          let p = asked_plain mine (length a₀.records) (length a₀.values) b ok in
          let p₂ = asked_plain other (length b₀.records) (length b₀.values) (under s.settings b) (sym (verdict_theirs s.settings other) ∙ f₂) in
          let x : State = (perform mine (first s)).1 in
          let y : State = (perform other (second s)).1 in
          let charts : x.chart ≡ (compute (operation_of e) b).1 = g.chart ∙ ap (λ (z : Answer × List ℕ). z.1) p in
          let there : y.chart ≡ under s.settings x.chart =
          g₂.chart ∙ (ap (λ (z : Answer × List ℕ). z.1) p₂ ∙ (edited_under e s.settings _ _ b ok ∙ ap (under s.settings) (sym charts))) in
          record {
            answer = ap answered (g.answer ∙ ap (λ (z : Answer × List ℕ). z.0) p);
            chart = charts;
            one = g.inv;
            two = subst (λ (z : List ℕ). Inv b₀ (state z y.records y.values)) there g₂.inv;
          }

      edit_by : (t : List ℕ) → AdmissibleBoth s (edit e t r v r₂ v₂) → (w : Verdict) → edit_verdict t mine other s ≡ w
          → GoodBoth (if_accepted w (answered (perform mine (first s)).0, edit_session t mine other s) (λ q. (answered (refused q), s)))
          (if_accepted w answer_edit (λ q. (answered (refused q), b)))
      unfolding AdmissibleBoth if_accepted edit_verdict second_verdict_of
      edit_by t ok (Ok tt) h =
          let (q, own, own₂) = ok h in
          let (f, f₂) = both_accepted _ _ h in
          subst (λ (t : List ℕ). verdict_in (operation_of e) (lent other (theirs t)) ≡ Ok tt → GoodBoth (answered (perform mine (first s)).0, edit_session t mine other s) answer_edit)
          (sym q) (edit_carried own own₂ f) (second_accepted t b _ f₂).then
      edit_by t ok (Err q) h = record { answer = refl; chart = refl; one = i; two = j }

      good_edit : (t : List ℕ) → AdmissibleBoth s (edit e t r v r₂ v₂) → GoodBoth (perform_both (edit e t r v r₂ v₂) s) (plain_both (asked (edit e t r v r₂ v₂)) b)
      unfolding perform_both plain_both ask
      good_edit t ok =
          subst (λ (w : Verdict). GoodBoth (performed t) (if_accepted w answer_edit (λ q. (answered (refused q), b)))) (verdict_edit t) (edit_by t ok (edit_verdict t mine other s) refl)
        where
          performed : List ℕ → Reply × Session
          performed t = if_accepted (edit_verdict t mine other s) (answered (perform mine (first s)).0, edit_session t mine other s) (λ q. (answered (refused q), s))

    -- ---- openings anew
    good_open : GoodBoth (perform_both open_first s) (plain_both (asked open_first) b)
    unfolding perform_both plain_both ask open_session open_leaves if_accepted open_answer seen opened
    good_open =
        let a : opening (length s.both.records) (length s.both.values) b ≡ (Ok tt) = opening_none _ _ b i.opens i.roomy.records i.roomy.values in
        let (o, m) = opening_met _ _ b a in
        let k : Inv (first s) (opened (first s)) = opened_inv (first s) o m in
        record {
          answer = λ z. opens (opening (i.records_length z) (i.values_length z) b);
          chart = refl;
          one = subst (λ (w : Verdict). Inv a₀ (state b (if_accepted w (opened (first s)) (λ q. first s)).records (if_accepted w (opened (first s)) (λ q. first s)).values)) (sym a)
              (relength a₀ (first s) (opened (first s)) i.records_length i.values_length k);
          two = j;
        }

    -- the second player's, under other settings
    open_as : (t : List ℕ) (w : Verdict) → open_answer_as t (second_of s.both) ≡ w
        → Inv b₀ (second (if_accepted w (open_session_as t (if_accepted w (opened_as t (second_of s.both)) (λ q. second_of s.both)) s) (λ q. s)))
    unfolding open_answer_as opened_as open_session_as if_accepted open_answer seen opened
    open_as t (Ok tt) e =
        let (o, m) = opening_met (length s.both.second_records) (length s.both.second_values) (under t b) (second_accepted t b _ e).then in
        relength b₀ (theirs t) (opened (theirs t)) lengths_second.0 lengths_second.1 (opened_inv (theirs t) o m)
    open_as t (Err q) e = j

    open_others : (t : List ℕ) (w : Verdict) (y : State)
        → let s' = if_accepted w (open_session_as t y s) (λ q. s) in (s'.both.chart ≡ b) × Inv a₀ (first s')
    unfolding open_session_as if_accepted
    open_others t (Ok tt) y = (refl, i)
    open_others t (Err q) y = (refl, i)

    good_open_as : (t : List ℕ) → GoodBoth (perform_both (open_second t) s) (plain_both (asked (open_second t)) b)
    unfolding perform_both plain_both ask open_leaves_as open_answer_as open_answer seen
    good_open_as t =
        let (same, one) = open_others t (open_answer_as t (second_of s.both)) (open_leaves_as t (second_of s.both)) in
        record {
          answer = λ z. opens (second_verdict t b (opening (lengths_second.0 z) (lengths_second.1 z) (under t b)));
          chart = same;
          one = one;
          two = open_as t (open_answer_as t (second_of s.both)) refl;
        }

    -- ---- any call
    pub good : (m : Move) → AdmissibleBoth s m → GoodBoth (perform_both m s) (plain_both (asked m) b)
    good (edit e t r v r₂ v₂) ok = good_edit e r v r₂ v₂ t ok
    good (of_first c) ok = good_first c ok
    good (of_second t c) ok = good_second t c ok
    good open_first ok = good_open
    good (open_second t) ok = good_open_as t
