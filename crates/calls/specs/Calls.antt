-- What each call answers and leaves: `outcome`, which the contracts cite; a call on an opened chart, `perform`; and document 01's plain chart, `plain`.
-- Definitions only.
use Rattle.std.specs.Prelude.{List, [], ◌∷◌, ℕ, suc, ◌+◌, ◌-◌, ◌*◌, min, max, Float, length, replicate}
use Rattle.num_floats.specs.Numbers.{zero64}
use Rattle.num_tables.specs.Parts.{row, put, fill, rows_up, rows_down}
use Rattle.osu_records.specs.Rows.{record_at}
use Rattle.chart_opening.specs.Header.{settings_of}
use Rattle.chart_opening.specs.Conditions.{if_accepted}
use Rattle.chart_opening.specs.declared.Settings.{Settings}
use Rattle.chart_opening.specs.declared.Refusal.{Refusal}
use Rattle.chart_opening.specs.Verdict.{Verdict}
use Rattle.skills.specs.declared.Skills.{Skills}
use Rattle.skills_playing.specs.Playing.{total_row}
use Rattle.chart_replacing.specs.Replace.{put_object}
use Rattle.chart_inserting.specs.Insert.{insert_object, remove_object}
use Rattle.calls.specs.Tables.{record_width, value_width, totals_width, Borrowed, contents, length_of, table_after}
use Rattle.calls.specs.Afresh.{Record, count, fresh_record, fresh_row, fresh_values, values_from, Finding, fresh_detail, detail_from, Figure, Amount, totals_are, counts_are, played_are, ratings_are, fresh_figure, figure_from}
use Rattle.calls.specs.Conditions.{Scratch, lengths, Operation, replace, insert, remove, read_record, read_values, read_detail, figure, opening, refusal}

-- ---- Which entries are made anew

-- by opening, for a chart of n objects: entries 1 to n - 1
unfoldable pub open_start : ℕ
open_start = 1

unfoldable pub open_made : ℕ → ℕ
open_made n = n - 1

-- by an edit at place k, in what is then a chart of n objects: the records from k to before e, those of places 1 to n - 1
unfoldable pub records_start : ℕ → ℕ
records_start k = max 1 k

unfoldable pub records_made : ℕ → ℕ → ℕ → ℕ
records_made k e n = min e n - max 1 k

-- and the values from k - 1 to before e
unfoldable pub values_start : ℕ → ℕ
values_start k = max 1 (k - 1)

unfoldable pub values_made : ℕ → ℕ → ℕ → ℕ
values_made k e n = min e n - max 1 (k - 1)

-- a replacement makes anew records k to k + 2 and values k - 1 to k + 33
abbrev pub replaced_records : ℕ → ℕ
replaced_records k = k + 3

abbrev pub replaced_values : ℕ → ℕ
replaced_values k = k + 34

-- an insertion the same, and record 3 for k = 0: it can have an angle now
abbrev pub inserted_records : ℕ → ℕ
inserted_records k = max (k + 3) 4

abbrev pub inserted_values : ℕ → ℕ
inserted_values k = k + 34

-- a removal one place less: records k to k + 1 (record 2 for k = 0) and values k - 1 to k + 32
abbrev pub removed_records : ℕ → ℕ
removed_records k = max (k + 2) 3

abbrev pub removed_values : ℕ → ℕ
removed_values k = k + 33

-- the first row that moves with its object, entry 0 being none
abbrev pub first_moved : ℕ → ℕ
first_moved k = max 1 k

-- ---- What opening and editing leave in the tables

unfoldable pub open_records : Settings → List ℕ → List Float → List Float
open_records s b rs = fill record_width (fresh_row s b) open_start (open_made (count b)) rs

-- from the records rs
unfoldable pub open_values : Settings → List ℕ → List Float → List Float → List Float
open_values s b rs vs = fill value_width (values_from s b rs) open_start (open_made (count b)) vs

unfoldable pub edit_records : Settings → List ℕ → ℕ → ℕ → List Float → List Float
edit_records s b k e rs = fill record_width (fresh_row s b) (records_start k) (records_made k e (count b)) rs

-- from the records rs
unfoldable pub edit_values : Settings → List ℕ → ℕ → ℕ → List Float → List Float → List Float
edit_values s b k e rs vs = fill value_width (values_from s b rs) (values_start k) (values_made k e (count b)) vs

-- ---- What a call answers, and what it leaves of what it borrows

pub data Answer : Type 0 where
  refused : Refusal → Answer
  replaced : Answer
  inserted : Answer
  removed : Answer
  record_is : Record → Answer
  values_are : List Float → Answer
  detail_is : Finding → Answer
  figure_is : Amount → Answer

-- a chart with its two tables
pub record State : Type 0 where
  pub chart : List ℕ
  pub records : List Float
  pub values : List Float

abbrev pub state : List ℕ → List Float → List Float → State
state b rs vs = record { chart = b; records = rs; values = vs }

pub record Outcome : Type 0 where
  pub answer : Answer
  pub leaves : State

abbrev pub outcome_with : Answer → List ℕ → List Float → List Float → Outcome
outcome_with x b rs vs = record { answer = x; leaves = state b rs vs }

-- a call that meets a condition answers it and changes nothing
unfoldable pub refuse : State → Refusal → Outcome
refuse st r = record { answer = refused r; leaves = st }

-- of opening
unfoldable pub opened : State → State
opened st =
    let s = settings_of st.chart in
    let rs = open_records s st.chart st.records in
    record { chart = st.chart; records = rs; values = open_values s st.chart rs st.values }

unfoldable pub open_answer : State → Verdict
open_answer st = opening (length st.records) (length st.values) st.chart

unfoldable pub open_leaves : State → State
open_leaves st = if_accepted (open_answer st) (opened st) (λ r. st)

-- a chart with another object at place k, and its tables brought up to date
unfoldable pub edited : ℕ → List ℕ → State → State
edited k o st =
    let b = put_object k o st.chart in
    let rs = edit_records (settings_of b) b k (replaced_records k) st.records in
    record { chart = b; records = rs; values = edit_values (settings_of b) b k (replaced_values k) rs st.values }

-- a chart with an object put in at place k: rows move up with their objects, and what can have changed is made anew
unfoldable pub put_in : ℕ → List ℕ → State → State
put_in k o st =
    let b = insert_object k o st.chart in
    let rs = edit_records (settings_of b) b k (inserted_records k) (rows_up record_width (first_moved k) (count st.chart) st.records) in
    let vs = rows_up value_width (first_moved k) (count st.chart) st.values in
    record { chart = b; records = rs; values = edit_values (settings_of b) b k (inserted_values k) rs vs }

-- a chart with the object at place k taken out: rows move down
unfoldable pub taken_out : ℕ → State → State
taken_out k st =
    let b = remove_object k st.chart in
    let rs = edit_records (settings_of b) b k (removed_records k) (rows_down record_width (first_moved k) (count st.chart) st.records) in
    let vs = rows_down value_width (first_moved k) (count st.chart) st.values in
    record { chart = b; records = rs; values = edit_values (settings_of b) b k (removed_values k) rs vs }

-- a call that meets no condition
unfoldable pub execute : Operation → State → Outcome
execute (replace k o) st = record { answer = replaced; leaves = edited k o st }
execute (insert k o) st = record { answer = inserted; leaves = put_in k o st }
execute (remove k) st = record { answer = removed; leaves = taken_out k st }
execute (read_record k) st = record { answer = record_is (record_at st.records k); leaves = st }
execute (read_values k) st = record { answer = values_are (row value_width st.values k); leaves = st }
execute (read_detail d k) st = record { answer = detail_is (detail_from d (settings_of st.chart) st.chart st.records k); leaves = st }
execute (figure f l) st = record { answer = figure_is (figure_from f (settings_of st.chart) st.chart st.values); leaves = st }

-- which condition it meets first
unfoldable pub verdict_in : Operation → State → Verdict
verdict_in a st = refusal a (length st.records) (length st.values) st.chart

-- a function that borrows one table only says this with [] for the other, which the call then doesn't look at
unfoldable pub outcome : Operation → State → Outcome
outcome a st = if_accepted (verdict_in a st) (execute a st) (refuse st)

-- ---- Scratch: "Carried out, it leaves all scratch 0; refused, as it was lent"

abbrev pub zeros : List Float → List Float
zeros t = replicate (length t) zero64

unfoldable pub cleared : Scratch → Scratch
cleared x = record { aim = zeros x.aim; aim_no_sliders = zeros x.aim_no_sliders; speed = zeros x.speed; flashlight = zeros x.flashlight }

unfoldable pub scratch_after : Figure → State → Scratch → Scratch
scratch_after f st x = if_accepted (verdict_in (figure f (lengths x)) st) (cleared x) (λ r. x)

-- ---- The list of order 10: entry m has the totals after m objects; "entries past N, and all of them when refused, keep what they held"

-- the totals of a list put into entries m, m + 1, ..
unfoldable pub put_totals : ℕ → List Skills → List Float → List Float
put_totals m [] t = t
put_totals m (x ∷ xs) t = put_totals (suc m) xs (put (totals_width * m) (total_row x) t)

unfoldable pub amount_list : Amount → List Float → List Float
amount_list (totals_are x) t = t
amount_list (counts_are x) t = t
amount_list (played_are xs) t = put_totals 0 xs t
amount_list (ratings_are x) t = t

unfoldable pub list_after : Answer → List Float → List Float
list_after (refused r) t = t
list_after replaced t = t
list_after inserted t = t
list_after removed t = t
list_after (record_is x) t = t
list_after (values_are x) t = t
list_after (detail_is x) t = t
list_after (figure_is a) t = amount_list a t

-- ---- Calls on an opened chart

pub record Call : Type 0 where
  pub operation : Operation
  pub records : Borrowed
  pub values : Borrowed

-- what a call is lent
unfoldable pub lent : Call → State → State
lent c st = record { chart = st.chart; records = contents c.records st.records; values = contents c.values st.values }

-- the opened chart after a call: the chart as the call left it, and the opening's tables, which only a call that borrows them writes
unfoldable pub state_after : Call → State → State → State
state_after c left st = record {
  chart = left.chart;
  records = table_after c.records left.records st.records;
  values = table_after c.values left.values st.values;
}

unfoldable pub perform : Call → State → Answer × State
perform c st = ((outcome c.operation (lent c st)).answer, state_after c (outcome c.operation (lent c st)).leaves st)

-- ---- Document 01's plain chart: its state is the chart's bytes

-- what it is fed of a call: the operation, "and of tables and scratch only the lengths"
pub record Question : Type 0 where
  pub operation : Operation
  pub records : ℕ
  pub values : ℕ

-- where the tables which the opening filled are r and v long
unfoldable pub question : ℕ → ℕ → Call → Question
question r v c = record { operation = c.operation; records = length_of c.records r; values = length_of c.values v }

unfoldable pub compute : Operation → List ℕ → Answer × List ℕ
compute (replace k o) b = (replaced, put_object k o b)
compute (insert k o) b = (inserted, insert_object k o b)
compute (remove k) b = (removed, remove_object k b)
compute (read_record k) b = (record_is (fresh_record (settings_of b) b k), b)
compute (read_values k) b = (values_are (fresh_values (settings_of b) b k), b)
compute (read_detail d k) b = (detail_is (fresh_detail d (settings_of b) b k), b)
compute (figure f l) b = (figure_is (fresh_figure f (settings_of b) b), b)

unfoldable pub plain : Question → List ℕ → Answer × List ℕ
plain q b = if_accepted (refusal q.operation q.records q.values b) (compute q.operation b) (λ r. (refused r, b))
