-- What is claimed of the calls: demand 3 over every list of calls (`Sound`), what a call writes (`Outside`), what a replacement leaves as it was (`Frame`), what an
-- insertion or a removal moves (`Moved`), charts that are alike (`Alike`), the place that a refusal returns (`Placed`), and how the promises of the public functions come in. `Claims` has them all. Definitions only.
use Rattle.std.specs.Prelude.{◌≡◌, ◌↔◌, List, [], ◌∷◌, ◌++◌, map, Bool, true, false, cond, ℕ, zero, suc, ◌+◌, ◌-◌, ◌*◌, ◌/◌, ◌<◌, ◌≤◌, max, Float, length, take, drop, set, get_or, Ok, Err}
use Rattle.std.specs.Float.{nan}
use Rattle.num_floats.specs.Fields.{u32_at}
use Rattle.chart_fields.specs.Limits.{most_objects}
use Rattle.chart_fields.specs.Objects.{fields_of, bad_fields, falls}
use Rattle.chart_fields.specs.declared.Fields.{Fields}
use Rattle.chart_entries.specs.Entries.{nested_of, point_of, bad_entries}
use Rattle.num_tables.specs.Parts.{row}
use Rattle.osu_records.specs.Rows.{record_at}
use Rattle.chart_opening.specs.Header.{layout_of, settings_of, chart_length}
use Rattle.chart_opening.specs.Conditions.{Opens, first_of, chart_conditions, too_few, refusal_number, refusal_place}
use Rattle.chart_opening.specs.declared.Settings.{Settings}
use Rattle.chart_opening.specs.declared.Refusal.{Refusal}
use Rattle.chart_opening.specs.declared.Refusal.TheVariants.{Header, Setting, Object, Entries, Order, Length, Table, Place, Room, NotFinite}
use Rattle.chart_replacing.specs.Replace.{object_bytes, put_object}
use Rattle.chart_inserting.specs.Insert.{insert_object, remove_object, no_room}
use Rattle.chart_inserting.specs.OneMore.{count_bytes, setting_bytes, entry_bytes}
use Rattle.num_floats.specs.Compare.{max_of}
use Rattle.osu_records.specs.Sight.{View}
use Rattle.eval_aim.specs.Aim.{rule_of, side_of, combine_of, parts_of, aim_of, parts_at_place}
use Rattle.eval_rhythm.specs.Comparisons.{ComparisonsBounded}
use Rattle.skills.specs.declared.Skill.{Skill}
use Rattle.skills.specs.Strains.{initial_strain, room, close_to, reached, walk}
use Rattle.skills.specs.Chart.{start_at}
use Rattle.skills_playing.specs.Playing.{total_row}
use Rattle.calls.specs.Simulation.{answers, after, Throughout}
use Rattle.calls.specs.Tables.{record_width, value_width, totals_width, entries_of, Borrowed, own, IsOwn}
use Rattle.calls.specs.Afresh.{Detail, rhythm, Finding, aim_is, rhythm_is, Figure, totals, totals_to, playing, reached_of, figure_of, count, object, fresh_record, fresh_row, fresh_values, fresh_strains, fresh_detail, fresh_figure, strains_from, detail_from, figure_from}
use Rattle.calls.specs.Conditions.{Scratch, Lengths, lengths, scratch_short, Operation, replace, insert, remove, read_record, read_values, read_detail, figure, asked_conditions, opening, refusal}
use Rattle.calls.specs.Calls.{Answer, refused, replaced, inserted, removed, record_is, values_are, detail_is, figure_is, State, state, opened, open_answer, open_leaves, execute, verdict_in, outcome, zeros, scratch_after, list_after, Call, lent, perform, question, plain}

-- ---- The edits of a list of calls

-- an accepted edit
pub data Edit : Type 0 where
  put : ℕ → List ℕ → Edit
  put_before : ℕ → List ℕ → Edit
  take_out : ℕ → Edit

-- the objects of a chart in their order, each as its bytes
unfoldable pub blocks_from : List ℕ → ℕ → ℕ → List (List ℕ)
blocks_from b j zero = []
blocks_from b j (suc n) = object_bytes b j ∷ blocks_from b (suc j) n

unfoldable pub blocks : List ℕ → List (List ℕ)
blocks b = blocks_from b 0 (count b)

-- what an edit makes of them, and what a list of edits does, the first one first
unfoldable pub applied : Edit → List (List ℕ) → List (List ℕ)
applied (put k o) os = set os k o
applied (put_before k o) os = take k os ++ (o ∷ drop k os)
applied (take_out k) os = take k os ++ drop (suc k) os

unfoldable pub applied_all : List Edit → List (List ℕ) → List (List ℕ)
applied_all [] os = os
applied_all (e ∷ es) os = applied_all es (applied e os)

unfoldable pub is_carried_out : Answer → Bool
is_carried_out (refused r) = false
is_carried_out replaced = true
is_carried_out inserted = true
is_carried_out removed = true
is_carried_out (record_is x) = true
is_carried_out (values_are x) = true
is_carried_out (detail_is x) = true
is_carried_out (figure_is x) = true

unfoldable pub with_edit : Operation → Answer → List Edit → List Edit
with_edit (replace k o) x es = cond (is_carried_out x) (put k o ∷ es) es
with_edit (insert k o) x es = cond (is_carried_out x) (put_before k o ∷ es) es
with_edit (remove k) x es = cond (is_carried_out x) (take_out k ∷ es) es
with_edit (read_record k) x es = es
with_edit (read_values k) x es = es
with_edit (read_detail d k) x es = es
with_edit (figure f l) x es = es

-- the edits among the calls that were answered as accepted
unfoldable pub edits : List Call → List Answer → List Edit
edits [] xs = []
edits (c ∷ cs) [] = []
edits (c ∷ cs) (x ∷ xs) = with_edit c.operation x (edits cs xs)

-- chart b is chart b₀ with these edits and no other change; that its N, its offsets and its length follow is condition 1, which `Shown.opens` says it does not meet
pub record Kept (b₀ : List ℕ) (es : List Edit) (b : List ℕ) : Type 0 where
  -- the numbers of nested entries and points, and the offset of the objects
  pub counts : count_bytes b ≡ count_bytes b₀
  -- the word at 28 and the settings
  pub settings : setting_bytes b ≡ setting_bytes b₀
  pub objects : blocks b ≡ applied_all es (blocks b₀)
  -- nested entries and points
  pub entries : entry_bytes b ≡ entry_bytes b₀

-- ---- Tables

-- the tables that an operation works on are the opening's: a reading works on the one that it reads, a detail on the records, a figure on the values
unfoldable pub OwnTables : Operation → Borrowed → Borrowed → Type 0
OwnTables (replace k o) t u = IsOwn t × IsOwn u
OwnTables (insert k o) t u = IsOwn t × IsOwn u
OwnTables (remove k) t u = IsOwn t × IsOwn u
OwnTables (read_record k) t u = IsOwn t
OwnTables (read_values k) t u = IsOwn u
OwnTables (read_detail d k) t u = IsOwn t
OwnTables (figure f l) t u = IsOwn u

-- entries 0 and from n on hold in st what they held in st₀
pub record Outside (n : ℕ) (st₀ st : State) : Type 0 where
  pub first_record : take record_width st.records ≡ take record_width st₀.records
  pub later_records : drop (record_width * n) st.records ≡ drop (record_width * n) st₀.records
  pub first_values : take value_width st.values ≡ take value_width st₀.values
  pub later_values : drop (value_width * n) st.values ≡ drop (value_width * n) st₀.values

-- the tables hold, at places 1 to N - 1, what is worked out afresh under settings s
pub record Fresh (s : Settings) (st : State) : Type 0 where
  pub records : (j : ℕ) → 1 ≤ j → j < count st.chart → row record_width st.records j ≡ fresh_row s st.chart j
  pub values : (j : ℕ) → 1 ≤ j → j < count st.chart → row value_width st.values j ≡ fresh_values s st.chart j

abbrev pub settings_in : State → Settings
settings_in st = settings_of st.chart

-- the value in a detail
unfoldable pub value_found : Finding → Float
value_found (aim_is x p y q) = x
value_found (rhythm_is x n) = x

-- ---- Demand 3's list

-- "each lent [..], if carried out, the tables which that opening filled, as they then stand"
unfoldable pub Admissible : State → Call → Type 0
Admissible st c = verdict_in c.operation (lent c st) ≡ Ok tt → OwnTables c.operation c.records c.values

-- the chart opens, and all that the tables tell equals what is worked out from it afresh
pub record Shown (st : State) : Type 0 where
  -- the chart would still open, into any tables that are long enough
  pub opens : (r v : ℕ) → record_width * count st.chart ≤ r → value_width * count st.chart ≤ v → opening r v st.chart ≡ Ok tt
  -- records, values, strains, details and figures equal those worked out afresh; a record is what reading answers
  pub fresh : Fresh (settings_in st) st
  pub reads : (j : ℕ) → 1 ≤ j → j < count st.chart → record_at st.records j ≡ fresh_record (settings_in st) st.chart j
  pub strains : (j : ℕ) → 1 ≤ j → j < count st.chart
      → strains_from (settings_in st) st.chart st.values j ≡ fresh_strains (settings_in st) st.chart j
  pub details : (d : Detail) (j : ℕ) → 1 ≤ j → j < count st.chart
      → detail_from d (settings_in st) st.chart st.records j ≡ fresh_detail d (settings_in st) st.chart j
  -- a figure, where what comes with the call passes
  pub figures : (f : Figure) → first_of (asked_conditions f (count st.chart)) ≡ Ok tt
      → figure_from f (settings_in st) st.chart st.values ≡ fresh_figure f (settings_in st) st.chart
  -- aim's parts at a place, put together by the Rust's last lines, are the value that the table holds there
  pub aim : (j : ℕ) → 1 ≤ j → j < count st.chart → (sliders : Bool)
      → combine_of (parts_at_place (object st.chart) (record_at st.records) j sliders) sliders ≡ get_or (row value_width st.values j) (cond sliders 0 1) nan
  -- and the rhythm value that is read with its comparisons is the one that the table holds, given without counting
  pub rhythm : (j : ℕ) → 1 ≤ j → j < count st.chart
      → value_found (detail_from rhythm (settings_in st) st.chart st.records j) ≡ get_or (row value_width st.values j) 3 nan
  -- opening a copy of the chart, into any other tables, gives what the tables hold
  pub again : (rs vs : List Float) → let copy : State = state st.chart rs vs in
      open_answer copy ≡ Ok tt → (j : ℕ) → 1 ≤ j → j < count st.chart
      → (row record_width st.records j ≡ row record_width (opened copy).records j)
      × (row value_width st.values j ≡ row value_width (opened copy).values j)

-- for one opening, of a chart into two tables (st₀), and one list of calls, which left the state st and answered xs
pub record Sound (st₀ : State) (cs : List Call) (st : State) (xs : List Answer) : Type 0 where
  -- every answer is the plain chart's
  pub same : xs ≡ answers plain (map (question (length st₀.records) (length st₀.values)) cs) st₀.chart
  -- the chart is the plain chart's
  pub chart : st.chart ≡ after plain (map (question (length st₀.records) (length st₀.values)) cs) st₀.chart
  -- the objects are the opened chart's with the accepted edits applied in turn; settings, nested entries and points stand
  pub kept : Kept st₀.chart (edits cs xs) st.chart
  -- what the station shows of it is what is worked out afresh
  pub shown : Shown st
  -- entries 0, and those behind every N on the way, hold what they held before the opening
  pub outside : (n : ℕ) → count st₀.chart ≤ n → Throughout perform (λ s c. count (perform c s).1.chart ≤ n) cs (opened st₀) → Outside n st₀ st

-- ---- What a replacement at place k leaves as it was

-- of what is worked out afresh, b' being the chart after it
pub record FrameAfresh (k : ℕ) (b b' : List ℕ) : Type 0 where
  pub records_before : (j : ℕ) → j < count b → j < k → fresh_record (settings_of b') b' j ≡ fresh_record (settings_of b) b j
  pub records_after : (j : ℕ) → j < count b → k + 2 < j → fresh_record (settings_of b') b' j ≡ fresh_record (settings_of b) b j
  pub values_before : (j : ℕ) → 1 ≤ j → j < count b → j + 1 < k → fresh_values (settings_of b') b' j ≡ fresh_values (settings_of b) b j
  pub values_after : (j : ℕ) → 1 ≤ j → j < count b → k + 33 < j → fresh_values (settings_of b') b' j ≡ fresh_values (settings_of b) b j
  pub strains_before : (j : ℕ) → j + 1 < k → fresh_strains (settings_of b') b' j ≡ fresh_strains (settings_of b) b j

-- and of the opening's tables, and of the strains that follow from them
pub record Frame (k : ℕ) (st st' : State) : Type 0 where
  pub records_before : (j : ℕ) → j < k → row record_width st'.records j ≡ row record_width st.records j
  pub records_after : (j : ℕ) → k + 2 < j → row record_width st'.records j ≡ row record_width st.records j
  pub values_before : (j : ℕ) → j + 1 < k → row value_width st'.values j ≡ row value_width st.values j
  pub values_after : (j : ℕ) → k + 33 < j → row value_width st'.values j ≡ row value_width st.values j
  pub strains_before : (i : ℕ) → i + 1 < k
      → strains_from (settings_in st') st'.chart st'.values i ≡ strains_from (settings_in st) st.chart st.values i
  pub afresh : FrameAfresh k st.chart st'.chart

-- ---- What an insertion or a removal at place k moves, and what it leaves as it was

-- of what is worked out afresh; b' has one object more than b, at place k: an insertion makes b' of b, a removal b of b'
pub record MovedAfresh (k : ℕ) (b b' : List ℕ) : Type 0 where
  pub records_before : (j : ℕ) → j < k → fresh_record (settings_of b') b' j ≡ fresh_record (settings_of b) b j
  pub records_moved : (j : ℕ) → max (k + 2) 3 ≤ j → j < count b → fresh_record (settings_of b') b' (suc j) ≡ fresh_record (settings_of b) b j
  pub values_before : (j : ℕ) → 1 ≤ j → j + 1 < k → fresh_values (settings_of b') b' j ≡ fresh_values (settings_of b) b j
  pub values_moved : (j : ℕ) → k + 33 ≤ j → j < count b → fresh_values (settings_of b') b' (suc j) ≡ fresh_values (settings_of b) b j
  pub strains_before : (j : ℕ) → j + 1 < k → fresh_strains (settings_of b') b' j ≡ fresh_strains (settings_of b) b j

-- and of the tables, and of the strains that follow from them
pub record Moved (k : ℕ) (st st' : State) : Type 0 where
  pub records_before : (i : ℕ) → i < k → row record_width st'.records i ≡ row record_width st.records i
  pub records_moved : (j : ℕ) → max (k + 2) 3 ≤ j → j < count st.chart → row record_width st'.records (suc j) ≡ row record_width st.records j
  pub values_before : (i : ℕ) → i + 1 < k → row value_width st'.values i ≡ row value_width st.values i
  pub values_moved : (j : ℕ) → k + 33 ≤ j → j < count st.chart → row value_width st'.values (suc j) ≡ row value_width st.values j
  pub strains_before : (j : ℕ) → j + 1 < k
      → strains_from (settings_in st') st'.chart st'.values j ≡ strains_from (settings_in st) st.chart st.values j
  pub afresh : MovedAfresh k st.chart st'.chart

-- ---- "Charts are alike about a place j from 1 up"

-- an object's fields without the firsts
unfoldable pub unplaced : Fields → Fields
unplaced f = record {
  start = f.start;
  end = f.end;
  x = f.x;
  y = f.y;
  stack_x = f.stack_x;
  stack_y = f.stack_y;
  kind = f.kind;
  spans = f.spans;
  first_nested = 0;
  nested_count = f.nested_count;
  first_point = 0;
  point_count = f.point_count;
  length = f.length;
}

abbrev pub fields_in : List ℕ → ℕ → Fields
fields_in b i = fields_of b (layout_of b) i

-- "the objects there agree in every field but the firsts, and in nested entries and points, in order"
pub record Agree (i : ℕ) (b b' : List ℕ) : Type 0 where
  pub fields : unplaced (fields_in b i) ≡ unplaced (fields_in b' i)
  pub nested : (k : ℕ) → k < (fields_in b i).nested_count
      → nested_of b (layout_of b) ((fields_in b i).first_nested + k) ≡ nested_of b' (layout_of b') ((fields_in b' i).first_nested + k)
  pub points : (k : ℕ) → k < (fields_in b i).point_count
      → point_of b (layout_of b) ((fields_in b i).first_point + k) ≡ point_of b' (layout_of b') ((fields_in b' i).first_point + k)

pub record Alike (j : ℕ) (b b' : List ℕ) : Type 0 where
  pub here : (1 ≤ j) × (j < count b) × (j < count b')
  pub same_settings : settings_of b ≡ settings_of b'
  pub same_format : u32_at b 28 ≡ u32_at b' 28
  -- the same places from j - 33 to j + 1, and objects that agree there
  pub places : (i : ℕ) → j ≤ i + 33 → i ≤ j + 1 → (i < count b) ↔ (i < count b')
  pub objects : (i : ℕ) → j ≤ i + 33 → i ≤ j + 1 → i < count b → Agree i b b'

-- ---- "3, 4 and 5 also return the lowest offending place [..], others 0"

-- j is the lowest of places 0 to n - 1 at which a test holds
pub record Lowest (test : ℕ → Bool) (n j : ℕ) : Type 0 where
  pub below : j < n
  pub offends : test j ≡ true
  pub none_lower : (i : ℕ) → i < j → test i ≡ false

-- the place that a refusal of a chart's own conditions names; those without a place have 0 by `refusal_place`
abbrev pub Placed : List ℕ → Refusal → Type 0
Placed b (Object j) = Lowest (bad_fields b (layout_of b)) (count b) j
Placed b (Entries j) = Lowest (bad_entries b (layout_of b)) (count b) j
Placed b (Order j) = Lowest (falls b (layout_of b)) (count b) j
Placed b Header = Unit {0}
Placed b Setting = Unit {0}
Placed b Length = Unit {0}
Placed b Table = Unit {0}
Placed b Place = Unit {0}
Placed b Room = Unit {0}
Placed b NotFinite = Unit {0}

-- of a replacement: of the chart as it is lent; else no such place; else an object of another length, at its place; else of the chart as it would become
pub data ReplacePlaced (k : ℕ) (o : List ℕ) (r v : ℕ) (b : List ℕ) (q : Refusal) : Type 0 where
  of_chart : opening r v b ≡ Err q → Placed b q → ReplacePlaced k o r v b q
  of_place : opening r v b ≡ Ok tt → count b ≤ k → q ≡ Place → ReplacePlaced k o r v b q
  of_length : opening r v b ≡ Ok tt → k < count b → (length o ≡ (layout_of b).object_size → ⊥) → q ≡ Object k → ReplacePlaced k o r v b q
  of_result : opening r v b ≡ Ok tt → k < count b → length o ≡ (layout_of b).object_size → Placed (put_object k o b) q → ReplacePlaced k o r v b q

-- of an insertion: N + 1 entries are asked of the tables, and there is room or not
pub data InsertPlaced (k : ℕ) (o : List ℕ) (r v : ℕ) (b : List ℕ) (q : Refusal) : Type 0 where
  insert_of_chart : first_of (chart_conditions b ++ (too_few (entries_of r v) (count b + 1) ∷ [])) ≡ Err q → Placed b q → InsertPlaced k o r v b q
  insert_of_place : Opens b → count b < k → q ≡ Place → InsertPlaced k o r v b q
  insert_of_room : Opens b → k ≤ count b → no_room b ≡ true → q ≡ Room → InsertPlaced k o r v b q
  insert_of_length : Opens b → k ≤ count b → no_room b ≡ false → (length o ≡ (layout_of b).object_size → ⊥) → q ≡ Object k → InsertPlaced k o r v b q
  insert_of_result : Opens b → k ≤ count b → no_room b ≡ false → length o ≡ (layout_of b).object_size → Placed (insert_object k o b) q → InsertPlaced k o r v b q

-- of a removal
pub data RemovePlaced (k r v : ℕ) (b : List ℕ) (q : Refusal) : Type 0 where
  remove_of_chart : opening r v b ≡ Err q → Placed b q → RemovePlaced k r v b q
  remove_of_place : opening r v b ≡ Ok tt → count b ≤ k → q ≡ Place → RemovePlaced k r v b q
  remove_of_result : opening r v b ≡ Ok tt → k < count b → Placed (remove_object k b) q → RemovePlaced k r v b q

-- ---- How many objects there are after a call that is carried out
unfoldable pub count_after : Operation → ℕ → ℕ
count_after (replace k o) n = n
count_after (insert k o) n = suc n
count_after (remove k) n = n - 1
count_after (read_record k) n = n
count_after (read_values k) n = n
count_after (read_detail d k) n = n
count_after (figure f l) n = n

-- ---- How the promises of the public functions come in

-- a call that borrows both of the opening's tables
abbrev pub own_call : Operation → Call
own_call a = record { operation = a; records = own; values = own }

-- ---- All of it

pub record Claims : Type 0 where
  -- demand 3's list is one claim over the whole of it
  pub list : (st₀ : State) → open_answer st₀ ≡ Ok tt
      → (cs : List Call) → Throughout perform Admissible cs (opened st₀) → Sound st₀ cs (after perform cs (opened st₀)) (answers perform cs (opened st₀))
  -- a step of the list is the promise of the function that is called: with the opening's tables it answers and leaves what the promise says; a function that
  -- borrows one table only answers the same whatever the other one holds
  pub steps : (a : Operation) (st : State) → perform (own_call a) st ≡ ((outcome a st).answer, (outcome a st).leaves)
  pub record_alone : (k : ℕ) (b : List ℕ) (rs vs : List Float)
      → (outcome (read_record k) (state b rs vs)).answer ≡ (outcome (read_record k) (state b rs [])).answer
  pub values_alone : (k : ℕ) (b : List ℕ) (rs vs : List Float)
      → (outcome (read_values k) (state b rs vs)).answer ≡ (outcome (read_values k) (state b [] vs)).answer
  pub detail_alone : (d : Detail) (k : ℕ) (b : List ℕ) (rs vs : List Float)
      → (outcome (read_detail d k) (state b rs vs)).answer ≡ (outcome (read_detail d k) (state b rs [])).answer
  pub figure_alone : (f : Figure) (l : Lengths) (b : List ℕ) (rs vs : List Float)
      → (outcome (figure f l) (state b rs vs)).answer ≡ (outcome (figure f l) (state b [] vs)).answer
  -- every list of operations on the opening's own tables is such a list
  pub own_calls : (ops : List Operation) (st : State) → Throughout perform Admissible (map own_call ops) st
  -- "Opening and editing write table entries 1 to N-1 only", in any state and for any tables; N is that of the chart which the call leaves
  pub opening_writes : (st : State) → Outside (count st.chart) st (open_leaves st)
  pub writes : (a : Operation) (st : State) → Outside (count (outcome a st).leaves.chart) st (outcome a st).leaves
  -- the buffer keeps its length, and "bytes past the length that a call leaves [..] keep what they held before it"
  pub keeps : (a : Operation) (st : State) → let b' = (outcome a st).leaves.chart in
      (length b' ≡ length st.chart) × (drop (chart_length b') b' ≡ drop (chart_length b') st.chart)
  -- opening writes nothing to the chart; readings and figures nothing at all; N changes by insertions and removals only
  pub opening_reads : (st : State) → (open_leaves st).chart ≡ st.chart
  pub record-reads : (k : ℕ) (st : State) → (outcome (read_record k) st).leaves ≡ st
  pub values_reads : (k : ℕ) (st : State) → (outcome (read_values k) st).leaves ≡ st
  pub detail_reads : (d : Detail) (k : ℕ) (st : State) → (outcome (read_detail d k) st).leaves ≡ st
  pub figure_reads : (f : Figure) (l : Lengths) (st : State) → (outcome (figure f l) st).leaves ≡ st
  pub counts : (a : Operation) (st : State) → verdict_in a st ≡ Ok tt → count (execute a st).leaves.chart ≡ count_after a (count st.chart)
  -- a replacement at place k, accepted or refused, in any state and whatever tables it borrows
  pub frame : (k : ℕ) (o : List ℕ) (t u : Borrowed) (st : State) → Frame k st (perform (record { operation = replace k o; records = t; values = u }) st).1
  -- the same in such a list: the tables are fresh before and after it
  pub frame_in_list : (st₀ : State) → open_answer st₀ ≡ Ok tt
      → (cs ds : List Call) (k : ℕ) (o : List ℕ) (t u : Borrowed)
      → let c : Call = record { operation = replace k o; records = t; values = u } in
      Throughout perform Admissible (cs ++ (c ∷ ds)) (opened st₀)
      → let x = after perform cs (opened st₀) in let y = after perform (cs ++ (c ∷ [])) (opened st₀) in
      Frame k x y × Fresh (settings_in x) x × Fresh (settings_in y) y
  -- an insertion or a removal at place k that is carried out, in any state
  pub insert_moves : (k : ℕ) (o : List ℕ) (st : State) → verdict_in (insert k o) st ≡ Ok tt → Moved k st (execute (insert k o) st).leaves
  pub remove_moves : (k : ℕ) (st : State) → verdict_in (remove k) st ≡ Ok tt → Moved k (execute (remove k) st).leaves st
  -- charts that are alike about j have the same values at j, worked out afresh and in the tables that opening them left
  pub alike : (j : ℕ) (b b' : List ℕ) → Alike j b b' → fresh_values (settings_of b) b j ≡ fresh_values (settings_of b') b' j
  pub alike_opened : (j : ℕ) (st st' : State) → open_answer st ≡ Ok tt → open_answer st' ≡ Ok tt → Alike j st.chart st'.chart
      → row value_width (opened st).values j ≡ row value_width (opened st').values j
  -- the place that a refusal returns, and that it is small; number and place tell which refusal it is
  pub opening_placed : (r v : ℕ) (b : List ℕ) (q : Refusal) → opening r v b ≡ Err q → Placed b q
  pub replace_placed : (k : ℕ) (o : List ℕ) (r v : ℕ) (b : List ℕ) (q : Refusal) → refusal (replace k o) r v b ≡ Err q → ReplacePlaced k o r v b q
  pub insert_placed : (k : ℕ) (o : List ℕ) (r v : ℕ) (b : List ℕ) (q : Refusal) → refusal (insert k o) r v b ≡ Err q → InsertPlaced k o r v b q
  pub remove_placed : (k r v : ℕ) (b : List ℕ) (q : Refusal) → refusal (remove k) r v b ≡ Err q → RemovePlaced k r v b q
  pub record-placed : (k r v : ℕ) (b : List ℕ) (q : Refusal) → refusal (read_record k) r v b ≡ Err q → refusal_place q ≡ 0
  pub values_placed : (k r v : ℕ) (b : List ℕ) (q : Refusal) → refusal (read_values k) r v b ≡ Err q → refusal_place q ≡ 0
  pub detail_placed : (d : Detail) (k r v : ℕ) (b : List ℕ) (q : Refusal) → refusal (read_detail d k) r v b ≡ Err q → refusal_place q ≡ 0
  pub figure_placed : (f : Figure) (l : Lengths) (r v : ℕ) (b : List ℕ) (q : Refusal) → refusal (figure f l) r v b ≡ Err q → Placed b q
  pub opening_limit : (r v : ℕ) (b : List ℕ) (q : Refusal) → opening r v b ≡ Err q → refusal_place q ≤ most_objects
  pub place_limit : (a : Operation) (r v : ℕ) (b : List ℕ) (q : Refusal) → refusal a r v b ≡ Err q → refusal_place q ≤ most_objects
  pub refusal_told : (q q' : Refusal) → refusal_number q ≡ refusal_number q' → refusal_place q ≡ refusal_place q' → q ≡ q'
  -- a figure is worked out exactly where the chart meets none of 1 to 6, the values have N entries, each skill has 8,192 numbers of scratch, and what comes with
  -- the call passes
  pub figure_accepted : (f : Figure) (l : Lengths) (r v : ℕ) (b : List ℕ)
      → (refusal (figure f l) r v b ≡ Ok tt)
      ↔ (Opens b × (value_width * count b ≤ v) × (scratch_short l ≡ false) × (first_of (asked_conditions f (count b)) ≡ Ok tt))
  -- "Carried out, it leaves all scratch 0; refused, as it was lent"
  pub scratch_cleared : (f : Figure) (x : Scratch) (st : State) → verdict_in (figure f (lengths x)) st ≡ Ok tt → scratch_after f st x
      ≡ record { aim = zeros x.aim; aim_no_sliders = zeros x.aim_no_sliders; speed = zeros x.speed; flashlight = zeros x.flashlight }
  pub scratch_kept : (f : Figure) (x : Scratch) (st : State) (q : Refusal) → verdict_in (figure f (lengths x)) st ≡ Err q → scratch_after f st x ≡ x
  -- the list of order 10: carried out, entry m equals a separate working out for m, which for m = N is the ordinary answer; entries past N keep what they held, and
  -- all of them do when it is refused
  pub playing_entry : (l : Lengths) (st : State) (t : List Float) (m : ℕ)
      → let a : Operation = figure (playing (length t / totals_width)) l in
      verdict_in a st ≡ Ok tt → m ≤ count st.chart
      → row totals_width (list_after (outcome a st).answer t) m ≡ total_row (reached_of m (settings_in st) st.chart (row value_width st.values))
  pub playing_whole : (s : Settings) (b : List ℕ) (vs : ℕ → List Float) → figure_of (totals_to (count b)) s b vs ≡ figure_of totals s b vs
  pub playing_rest : (l : Lengths) (st : State) (t : List Float)
      → let a : Operation = figure (playing (length t / totals_width)) l in let behind = totals_width * (count st.chart + 1) in
      drop behind (list_after (outcome a st).answer t) ≡ drop behind t
  pub playing_refused : (l : Lengths) (st : State) (t : List Float) (q : Refusal)
      → let a : Operation = figure (playing (length t / totals_width)) l in verdict_in a st ≡ Err q → list_after (outcome a st).answer t ≡ t
  -- aim's parts, put together by the Rust's last lines, are its value, from any records; and the rule names the side that the last max takes
  pub aim_together : (v : View) (before : ℕ) (sliders : Bool) → combine_of (parts_of v before sliders) sliders ≡ aim_of v before sliders
  pub aim_rule : (acute wide : Float) → max_of acute wide ≡ side_of (rule_of acute wide) acute wide
  -- at no place of any objects and records are there more than 406 comparisons
  pub rhythm_bounded : ComparisonsBounded
  -- the section walk of a chart that opens never stops for the bound on sections: with any larger bound it is the same
  pub sections : (b : List ℕ) → Opens b → (k : Skill) (strains : ℕ → Float) (j m : ℕ) → suc j < count b → room ≤ m
      → let starts = start_at b (layout_of b) (settings_of b).clock_rate in
      close_to m (initial_strain k (strains j) (starts j)) (starts (suc j)) (walk k starts strains j) ≡ reached k starts strains (suc j) (walk k starts strains j)
