-- Document 02, order 8: opening, readings and figures for the second player, whose settings come with the call. They are those of crate calls on that player's chart
-- (`under`, crate chart_players); none writes to the chart. Definitions only.
use Rattle.std.specs.Prelude.{ℕ, List}
use Rattle.chart_opening.specs.Conditions.{if_accepted}
use Rattle.chart_opening.specs.Verdict.{Verdict}
use Rattle.chart_players.specs.Second.{under, second_verdict}
use Rattle.calls.specs.Afresh.{Figure}
use Rattle.calls.specs.Conditions.{Scratch, lengths, Operation, figure}
use Rattle.calls.specs.Calls.{State, Outcome, refuse, opened, open_answer, execute, verdict_in, cleared}

-- a chart with the second player's tables, as that player sees it
unfoldable pub seen : List ℕ → State → State
seen t st = record { chart = under t st.chart; records = st.records; values = st.values }

-- ---- Opening

unfoldable pub open_answer_as : List ℕ → State → Verdict
open_answer_as t st = second_verdict t st.chart (open_answer (seen t st))

unfoldable pub opened_as : List ℕ → State → State
opened_as t st = record { chart = st.chart; records = (opened (seen t st)).records; values = (opened (seen t st)).values }

unfoldable pub open_leaves_as : List ℕ → State → State
open_leaves_as t st = if_accepted (open_answer_as t st) (opened_as t st) (λ r. st)

-- ---- Readings and figures

unfoldable pub verdict_as : List ℕ → Operation → State → Verdict
verdict_as t a st = second_verdict t st.chart (verdict_in a (seen t st))

-- they write nothing
unfoldable pub outcome_as : List ℕ → Operation → State → Outcome
outcome_as t a st = if_accepted (verdict_as t a st) (record { answer = (execute a (seen t st)).answer; leaves = st }) (refuse st)

unfoldable pub scratch_after_as : List ℕ → Figure → State → Scratch → Scratch
scratch_after_as t f st x = if_accepted (verdict_as t (figure f (lengths x)) st) (cleared x) (λ r. x)
