-- Document 02, order 8: "An edit brings both up to date". A chart with two players' tables, an edit for both, a call of either, and the plain chart of two players.
-- Definitions only.
use Rattle.std.specs.Prelude.{ℕ, List, Float}
use Rattle.chart_opening.specs.Conditions.{if_accepted}
use Rattle.chart_opening.specs.Verdict.{Verdict}
use Rattle.chart_players.specs.Second.{under, second_verdict, both_verdict}
use Rattle.calls.specs.Tables.{Borrowed, length_of}
use Rattle.calls.specs.Conditions.{Operation, replace, insert, remove, opening, refusal}
use Rattle.calls.specs.Calls.{Answer, refused, State, state, open_answer, open_leaves, execute, verdict_in, Call, lent, perform, Question, question, compute, plain}
use Rattle.calls.specs.Statement.{Edit, put, put_before, take_out}
use Rattle.calls_players.specs.Second.{seen, open_answer_as, open_leaves_as, verdict_as}

-- ---- An edit for both players

-- a chart with both players' tables
pub record Pair : Type 0 where
  pub chart : List ℕ
  pub records : List Float
  pub values : List Float
  pub second_records : List Float
  pub second_values : List Float

abbrev pub pair : List ℕ → List Float → List Float → List Float → List Float → Pair
pair b rs vs rs₂ vs₂ = record { chart = b; records = rs; values = vs; second_records = rs₂; second_values = vs₂ }

-- the chart with each player's tables
abbrev pub first_of : Pair → State
first_of p = state p.chart p.records p.values

abbrev pub second_of : Pair → State
second_of p = state p.chart p.second_records p.second_values

unfoldable pub both_answer : List ℕ → Operation → Pair → Verdict
both_answer t a p = both_verdict (verdict_in a (first_of p)) (verdict_as t a (second_of p))

-- the chart is the first player's after the edit, and each player's tables are those of an edit of that player's chart
unfoldable pub edited_both : List ℕ → Operation → Pair → Pair
edited_both t a p =
    let x = (execute a (first_of p)).leaves in
    let y = (execute a (seen t (second_of p))).leaves in
    pair x.chart x.records x.values y.records y.values

-- "An edit refused under either setting is refused for both and changes nothing"
unfoldable pub both_leaves : List ℕ → Operation → Pair → Pair
both_leaves t a p = if_accepted (both_answer t a p) (edited_both t a p) (λ r. p)

-- ---- Calls of two players on an opened chart

-- the settings are those with which the second player's tables were last opened
pub record Session : Type 0 where
  pub settings : List ℕ
  pub both : Pair

abbrev pub first : Session → State
first s = first_of s.both

abbrev pub second : Session → State
second s = seen s.settings (second_of s.both)

abbrev pub operation_of : Edit → Operation
operation_of (put k o) = replace k o
operation_of (put_before k o) = insert k o
operation_of (take_out k) = remove k

-- an edit for both, with the settings and the four tables that it borrows; a reading or a figure of either player; and a player's opening anew
pub data Move : Type 0 where
  edit : Edit → List ℕ → Borrowed → Borrowed → Borrowed → Borrowed → Move
  of_first : Call → Move
  of_second : List ℕ → Call → Move
  open_first : Move
  open_second : List ℕ → Move

pub data Reply : Type 0 where
  answered : Answer → Reply
  opens : Verdict → Reply

abbrev pub call_of : Edit → Borrowed → Borrowed → Call
call_of e t u = record { operation = operation_of e; records = t; values = u }

-- the verdict on a call as it is lent, for the first player and for the second
unfoldable pub first_verdict : Call → Session → Verdict
first_verdict c s = verdict_in c.operation (lent c (first s))

unfoldable pub second_verdict_of : List ℕ → Call → Session → Verdict
second_verdict_of t c s = second_verdict t s.both.chart (verdict_in c.operation (lent c (seen t (second_of s.both))))

unfoldable pub edit_verdict : List ℕ → Call → Call → Session → Verdict
edit_verdict t c d s = both_verdict (first_verdict c s) (second_verdict_of t d s)

-- each player's part of a call that is carried out
unfoldable pub edit_session : List ℕ → Call → Call → Session → Session
edit_session t c d s =
    let x = (perform c (first s)).1 in
    let y = (perform d (seen t (second_of s.both))).1 in
    record { settings = s.settings; both = pair x.chart x.records x.values y.records y.values }

unfoldable pub open_session : State → Session → Session
open_session x s = record {
  settings = s.settings;
  both = pair s.both.chart x.records x.values s.both.second_records s.both.second_values;
}

unfoldable pub open_session_as : List ℕ → State → Session → Session
open_session_as t y s = record { settings = t; both = pair s.both.chart s.both.records s.both.values y.records y.values }

unfoldable pub perform_both : Move → Session → Reply × Session
perform_both (edit e t r v r₂ v₂) s =
    if_accepted (edit_verdict t (call_of e r v) (call_of e r₂ v₂) s)
    (answered (perform (call_of e r v) (first s)).0, edit_session t (call_of e r v) (call_of e r₂ v₂) s)
    (λ q. (answered (refused q), s))
perform_both (of_first c) s = (answered (perform c (first s)).0, s)
perform_both (of_second t c) s =
    (answered (if_accepted (second_verdict_of t c s) (execute c.operation (lent c (seen t (second_of s.both)))).answer (λ q. refused q)), s)
perform_both open_first s = (opens (open_answer (first s)), open_session (open_leaves (first s)) s)
perform_both (open_second t) s =
    (opens (open_answer_as t (second_of s.both)), if_accepted (open_answer_as t (second_of s.both)) (open_session_as t (open_leaves_as t (second_of s.both)) s) (λ q. s))

-- ---- The plain chart of two players: its state is the chart's bytes; "of tables and scratch only the lengths"

pub data Query : Type 0 where
  ask_edit : Edit → List ℕ → ℕ → ℕ → ℕ → ℕ → Query
  ask_first : Question → Query
  ask_second : List ℕ → Question → Query
  ask_open_first : ℕ → ℕ → Query
  ask_open_second : List ℕ → ℕ → ℕ → Query

-- where the first player's tables are r and v long and the second's r₂ and v₂
unfoldable pub ask : ℕ → ℕ → ℕ → ℕ → Move → Query
ask r v r₂ v₂ (edit e t x y x₂ y₂) = ask_edit e t (length_of x r) (length_of y v) (length_of x₂ r₂) (length_of y₂ v₂)
ask r v r₂ v₂ (of_first c) = ask_first (question r v c)
ask r v r₂ v₂ (of_second t c) = ask_second t (question r₂ v₂ c)
ask r v r₂ v₂ open_first = ask_open_first r v
ask r v r₂ v₂ (open_second t) = ask_open_second t r₂ v₂

-- the second player's answer is that of the plain chart under that player's settings
unfoldable pub plain_second : List ℕ → Question → List ℕ → Answer
plain_second t q b =
    if_accepted (second_verdict t b (refusal q.operation q.records q.values (under t b))) (compute q.operation (under t b)).0 (λ r. refused r)

unfoldable pub plain_edit : Edit → List ℕ → ℕ → ℕ → ℕ → ℕ → List ℕ → Verdict
plain_edit e t r v r₂ v₂ b = both_verdict (refusal (operation_of e) r v b) (second_verdict t b (refusal (operation_of e) r₂ v₂ (under t b)))

unfoldable pub plain_both : Query → List ℕ → Reply × List ℕ
plain_both (ask_edit e t r v r₂ v₂) b =
    if_accepted (plain_edit e t r v r₂ v₂ b) (answered (compute (operation_of e) b).0, (compute (operation_of e) b).1) (λ q. (answered (refused q), b))
plain_both (ask_first q) b = (answered (plain q b).0, b)
plain_both (ask_second t q) b = (answered (plain_second t q b), b)
plain_both (ask_open_first r v) b = (opens (opening r v b), b)
plain_both (ask_open_second t r v) b = (opens (second_verdict t b (opening r v (under t b))), b)
