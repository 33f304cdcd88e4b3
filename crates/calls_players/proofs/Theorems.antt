-- Two players over one chart: every claim of `Statement`. Assumes nothing.
use Rattle.std.specs.Prelude.{Ok, Err}
use Prim.Native.Nat.{ℕ}
use mathlib.Core.Path.{◌≡◌, refl, subst}
use mathlib.Core.List.{List}
use lib.ListN.{length}
use Rattle.chart_opening.specs.Conditions.{if_accepted}
use Rattle.chart_opening.specs.Verdict.{Verdict}
use Rattle.chart_players.specs.Second.{under}
use Rattle.chart_players.proofs.Verdicts.{second_accepted, both_accepted}
use Rattle.calls.specs.Simulation.{answers, after, Throughout}
use Rattle.calls.specs.Tables.{own, contents, table_after}
use Rattle.calls.specs.Calls.{State, opened, open_answer, refused, lent, state_after, perform}
use Rattle.calls.specs.Statement.{Edit}
use Rattle.calls.proofs.Simulating.{simulate}
use Rattle.calls.proofs.Refusals.{opening_met}
use Rattle.calls.proofs.Steps.{Inv, opened_inv, perform_accepted}
use Rattle.calls.proofs.Shown.{shown}
use Rattle.calls_players.specs.Second.{seen, open_answer_as, opened_as, open_leaves_as, verdict_as}
use Rattle.calls_players.specs.Both.{Pair, pair, first_of, second_of, both_answer, edited_both, both_leaves, Session, first, second, operation_of, Move, edit, open_first, open_second, Reply, answered, call_of, first_verdict, second_verdict_of, edit_verdict, edit_session, open_session, open_session_as, perform_both, Query, ask, plain_both}
use Rattle.calls_players.specs.Statement.{AdmissibleBoth, opened_both, SoundBoth, Claims}
use Rattle.calls_players.proofs.Own.{own_opening, own_verdict, first_refuses, second_refuses, both_kept}
use Rattle.calls_players.proofs.Moves.{GoodBoth, good}

-- ---- The list of calls

module _ (t : List ℕ) (p₀ : Pair) where
  abbrev asks : Move → Query
  asks = ask (length p₀.records) (length p₀.values) (length p₀.second_records) (length p₀.second_values)

  FollowsBoth : Session → List ℕ → Type 0
  FollowsBoth s b = (s.both.chart ≡ b) × Inv (first_of p₀) (first s) × Inv (second_of p₀) (second s)

  follows : (m : Move) (s : Session) (b : List ℕ) → FollowsBoth s b → AdmissibleBoth s m
      → ((perform_both m s).0 ≡ (plain_both (asks m) b).0) × FollowsBoth (perform_both m s).1 (plain_both (asks m) b).1
  unfolding FollowsBoth
  follows m s b (c, i, j) ok =
      let g : GoodBoth (first_of p₀) (second_of p₀) (perform_both m s) (plain_both (asks m) s.both.chart) = good (first_of p₀) (second_of p₀) s i j m ok in
      subst (λ (x : List ℕ). ((perform_both m s).0 ≡ (plain_both (asks m) x).0)
      × (((perform_both m s).1.both.chart ≡ (plain_both (asks m) x).1) × Inv (first_of p₀) (first (perform_both m s).1) × Inv (second_of p₀) (second (perform_both m s).1)))
      c (g.answer, (g.chart, g.one, g.two))

  module _ (e : open_answer (first_of p₀) ≡ Ok tt) (e₂ : open_answer_as t (second_of p₀) ≡ Ok tt) where
    start : FollowsBoth (opened_both t p₀) p₀.chart
    unfolding FollowsBoth opened_both opened_as open_answer open_answer_as seen opened
    start =
        let (o, m) = opening_met (length p₀.records) (length p₀.values) p₀.chart e in
        let (o₂, m₂) = opening_met (length p₀.second_records) (length p₀.second_values) (under t p₀.chart) (second_accepted t p₀.chart _ e₂).then in
        let k = opened_inv (seen t (second_of p₀)) o₂ m₂ in (
          refl,
          opened_inv (first_of p₀) o m,
          record { opens = k.opens; records_length = k.records_length; values_length = k.values_length; roomy = k.roomy; fresh = k.fresh },
        )

    list : (ms : List Move) → Throughout perform_both AdmissibleBoth ms (opened_both t p₀)
        → SoundBoth p₀ ms (after perform_both ms (opened_both t p₀)) (answers perform_both ms (opened_both t p₀))
    unfolding FollowsBoth
    list ms h =
        let (same, (c, i, j)) = simulate perform_both plain_both asks AdmissibleBoth
        (λ (s : Session) (b : List ℕ). (s.both.chart ≡ b) × Inv (first_of p₀) (first s) × Inv (second_of p₀) (second s))
        follows ms (opened_both t p₀) p₀.chart start h in
        record { same = same; chart = c; first_shown = shown (first_of p₀) _ i; second_shown = shown (second_of p₀) _ j }

-- ---- A step, and openings anew

-- an edit on both players' own tables that is carried out
module _ (e : Edit) (t : List ℕ) (s : Session) where
  left_accepted : both_answer t (operation_of e) s.both ≡ Ok tt → (edit_session t (call_of e own own) (call_of e own own) s).both ≡ edited_both t (operation_of e) s.both
  unfolding both_answer verdict_as edit_session edited_both lent state_after contents table_after seen
  left_accepted h =
      let (f, f₂) = both_accepted _ _ h in
      let x = perform_accepted (call_of e own own) (first s) f in
      let y = perform_accepted (call_of e own own) (seen t (second_of s.both)) (second_accepted t s.both.chart _ f₂).then in
      λ z. pair (x z).1.chart (x z).1.records (x z).1.values (y z).1.records (y z).1.values

  left_by : (v : Verdict) → both_answer t (operation_of e) s.both ≡ v
      → (if_accepted {X = Reply × Session} v (answered (perform (call_of e own own) (first s)).0, edit_session t (call_of e own own) (call_of e own own) s) (λ q. (answered (refused q), s))).1.both
      ≡ if_accepted v (edited_both t (operation_of e) s.both) (λ q. s.both)
  unfolding if_accepted
  left_by (Ok tt) h = left_accepted h
  left_by (Err q) h = refl

first_kept : (t : List ℕ) (s : Session) (y : State) (v : Verdict) → first (if_accepted v (open_session_as t y s) (λ q. s)) ≡ first s
unfolding if_accepted open_session_as
first_kept t s y (Ok tt) = refl
first_kept t s y (Err q) = refl

steps : (e : Edit) (t : List ℕ) (s : Session) → (perform_both (edit e t own own own own) s).1.both ≡ both_leaves t (operation_of e) s.both
unfolding perform_both both_leaves edit_verdict first_verdict second_verdict_of both_answer verdict_as lent contents
steps e t s = left_by e t s (both_answer t (operation_of e) s.both) refl

second_apart : (t : List ℕ) (s : Session) → first (perform_both (open_second t) s).1 ≡ first s
unfolding perform_both
second_apart t s = first_kept t s (open_leaves_as t (second_of s.both)) (open_answer_as t (second_of s.both))

first_apart : (s : Session) → second (perform_both open_first s).1 ≡ second s
unfolding perform_both open_session seen
first_apart s = refl

-- ---- All of it

pub theorem : Claims
theorem = record {
  list = list;
  steps = steps;
  first_refuses = first_refuses;
  second_refuses = second_refuses;
  both_kept = both_kept;
  second_apart = second_apart;
  first_apart = first_apart;
  own_opening = own_opening;
  own_verdict = λ a st h. own_verdict st h a;
}
