-- What is claimed of two players over one chart: every list of edits for both, readings and figures of either and openings anew (`SoundBoth`), what an opening leaves
-- the other player, and that the first player is one whose settings are the header's. `Claims` has them all. Definitions only.
use Rattle.std.specs.Prelude.{ℕ, ◌≤◌, ◌≡◌, List, map, length, Ok, Err}
use Rattle.num_tables.specs.Parts.{part}
use Rattle.chart_fields.specs.Limits.{header_size}
use Rattle.chart_opening.specs.Limits.{settings_start, settings_size}
use Rattle.chart_opening.specs.declared.Refusal.{Refusal}
use Rattle.calls.specs.Simulation.{answers, after, Throughout}
use Rattle.calls.specs.Tables.{own}
use Rattle.calls.specs.Conditions.{Operation, replace, insert, remove, read_record, read_values, read_detail, figure}
use Rattle.calls.specs.Calls.{State, opened, open_answer, verdict_in}
use Rattle.calls.specs.Statement.{OwnTables, Edit, Shown}
use Rattle.calls_players.specs.Second.{open_answer_as, opened_as, verdict_as}
use Rattle.calls_players.specs.Both.{Pair, first_of, second_of, both_answer, both_leaves, Session, first, second, operation_of, Move, edit, of_first, of_second, open_first, open_second, Reply, call_of, first_verdict, second_verdict_of, edit_verdict, perform_both, ask, plain_both}

-- an operation that writes nothing
unfoldable pub Reads : Operation → Type 0
Reads (replace k o) = ⊥
Reads (insert k o) = ⊥
Reads (remove k) = ⊥
Reads (read_record k) = Unit {0}
Reads (read_values k) = Unit {0}
Reads (read_detail d k) = Unit {0}
Reads (figure f l) = Unit {0}

-- "on demand 3's terms, with each player's settings as its opening had them": a call that is carried out borrows that player's tables and comes with those settings
unfoldable pub AdmissibleBoth : Session → Move → Type 0
AdmissibleBoth s (edit e t r v r₂ v₂) =
    edit_verdict t (call_of e r v) (call_of e r₂ v₂) s ≡ Ok tt → (t ≡ s.settings) × OwnTables (operation_of e) r v × OwnTables (operation_of e) r₂ v₂
AdmissibleBoth s (of_first c) = Reads c.operation × (first_verdict c s ≡ Ok tt → OwnTables c.operation c.records c.values)
AdmissibleBoth s (of_second t c) =
    Reads c.operation × (second_verdict_of t c s ≡ Ok tt → (t ≡ s.settings) × OwnTables c.operation c.records c.values)
AdmissibleBoth s open_first = Unit {0}
AdmissibleBoth s (open_second t) = Unit {0}

-- the tables of both players, opened
unfoldable pub opened_both : List ℕ → Pair → Session
opened_both t p = record {
  settings = t;
  both = record {
    chart = p.chart;
    records = (opened (first_of p)).records;
    values = (opened (first_of p)).values;
    second_records = (opened_as t (second_of p)).records;
    second_values = (opened_as t (second_of p)).values;
  };
}

-- for openings of both players (p₀), and one list of calls, which left the session s and answered xs
pub record SoundBoth (p₀ : Pair) (ms : List Move) (s : Session) (xs : List Reply) : Type 0 where
  -- every answer is the plain chart's, under the settings of the player who asks
  pub same : xs ≡ answers plain_both
      (map (ask (length p₀.records) (length p₀.values) (length p₀.second_records) (length p₀.second_values)) ms) p₀.chart
  -- the chart is the plain chart's
  pub chart : s.both.chart ≡ after plain_both
      (map (ask (length p₀.records) (length p₀.values) (length p₀.second_records) (length p₀.second_values)) ms) p₀.chart
  -- "what each player then sees equals a fresh opening under that player's settings"
  pub first_shown : Shown (first s)
  pub second_shown : Shown (second s)

pub record Claims : Type 0 where
  pub list : (t : List ℕ) (p₀ : Pair) → open_answer (first_of p₀) ≡ Ok tt → open_answer_as t (second_of p₀) ≡ Ok tt
      → (ms : List Move) → Throughout perform_both AdmissibleBoth ms (opened_both t p₀)
      → SoundBoth p₀ ms (after perform_both ms (opened_both t p₀)) (answers perform_both ms (opened_both t p₀))
  -- a step of the list is the promise of the function that is called, with both players' own tables
  pub steps : (e : Edit) (t : List ℕ) (s : Session)
      → (perform_both (edit e t own own own own) s).1.both ≡ both_leaves t (operation_of e) s.both
  -- "An edit refused under either setting is refused for both", and the first player's refusal is named
  pub first_refuses : (t : List ℕ) (a : Operation) (p : Pair) (q : Refusal) → verdict_in a (first_of p) ≡ Err q → both_answer t a p ≡ Err q
  pub second_refuses : (t : List ℕ) (a : Operation) (p : Pair) → verdict_in a (first_of p) ≡ Ok tt → both_answer t a p ≡ verdict_as t a (second_of p)
  pub both_kept : (t : List ℕ) (a : Operation) (p : Pair) (q : Refusal) → both_answer t a p ≡ Err q → both_leaves t a p ≡ p
  -- "Opening anew for a player whose settings changed writes no byte of the other's tables"
  pub second_apart : (t : List ℕ) (s : Session) → first (perform_both (open_second t) s).1 ≡ first s
  pub first_apart : (s : Session) → second (perform_both open_first s).1 ≡ second s
  -- the first player's calls are those of a player whose settings are the header's
  pub own_opening : (st : State) → header_size ≤ length st.chart → open_answer_as (part settings_start settings_size st.chart) st ≡ open_answer st
  pub own_verdict : (a : Operation) (st : State) → header_size ≤ length st.chart → verdict_as (part settings_start settings_size st.chart) a st ≡ verdict_in a st
