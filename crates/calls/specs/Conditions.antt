-- Document 01, "What each call answers": what each call on an opened chart tries, in its order. Definitions only.
use Rattle.std.specs.Prelude.{List, [], ◌∷◌, ◌++◌, Bool, not, ◌&&◌, ◌||◌, ℕ, ◌+◌, ltb, Float, length}
use Rattle.chart_opening.specs.Header.{layout_of, header_ok}
use Rattle.chart_opening.specs.Conditions.{refuse_if, first_of, chart_conditions, too_few, open_verdict}
use Rattle.chart_opening.specs.declared.Refusal.TheVariants.{Header, Table, Place, NotFinite}
use Rattle.chart_opening.specs.Verdict.{Verdict}
use Rattle.chart_replacing.specs.Replace.{replace_verdict}
use Rattle.chart_inserting.specs.Insert.{insert_verdict, remove_verdict}
use Rattle.calls.specs.Tables.{least_scratch, record_entries, value_entries, entries_of}
use Rattle.skills_stars.specs.Stars.{finite_asked}
use Rattle.calls.specs.Afresh.{Detail, Figure, totals, counts, totals_to, playing, ratings}

-- the four slices of scratch that a figure is lent, one for each skill; and their lengths
pub record Scratch : Type 0 where
  pub aim : List Float
  pub aim_no_sliders : List Float
  pub speed : List Float
  pub flashlight : List Float

pub record Lengths : Type 0 where
  pub aim : ℕ
  pub aim_no_sliders : ℕ
  pub speed : ℕ
  pub flashlight : ℕ

abbrev pub lengths : Scratch → Lengths
lengths x = record { aim = length x.aim; aim_no_sliders = length x.aim_no_sliders; speed = length x.speed; flashlight = length x.flashlight }

unfoldable pub scratch_short : Lengths → Bool
scratch_short l = ltb l.aim least_scratch || (ltb l.aim_no_sliders least_scratch || (ltb l.speed least_scratch || ltb l.flashlight least_scratch))

-- what is asked of an opened chart: to put an object at a place, to put one in before a place or take one out, to read the record, the values or a detail of a
-- place, and to work out a figure
pub data Operation : Type 0 where
  replace : ℕ → List ℕ → Operation
  insert : ℕ → List ℕ → Operation
  remove : ℕ → Operation
  read_record : ℕ → Operation
  read_values : ℕ → Operation
  read_detail : Detail → ℕ → Operation
  figure : Figure → Lengths → Operation

-- 7 and 8 of a reading, for a chart of n objects and a table of as many entries
unfoldable pub row_conditions : ℕ → ℕ → ℕ → List Verdict
row_conditions n entries k = too_few entries n ∷ refuse_if (not (ltb 0 k && ltb k n)) Place ∷ []

-- reading a place of a table with as many entries: "1, then 7, then 8 unless the place is 1 to N-1"
unfoldable pub read_conditions : List ℕ → ℕ → ℕ → List Verdict
read_conditions b entries k = refuse_if (not (header_ok b)) Header ∷ row_conditions (layout_of b).n entries k

abbrev pub read_verdict : List ℕ → ℕ → ℕ → Verdict
read_verdict b entries k = first_of (read_conditions b entries k)

-- over a value table with as many entries: "1 to 7, where 7 includes scratch"
unfoldable pub sum_conditions : List ℕ → ℕ → Bool → List Verdict
sum_conditions b entries short = chart_conditions b ++ (too_few entries (layout_of b).n ∷ refuse_if short Table ∷ [])

abbrev pub sum_verdict : List ℕ → ℕ → Bool → Verdict
sum_verdict b entries short = first_of (sum_conditions b entries short)

-- what a figure tries behind them, of what comes with it, for a chart of n objects
unfoldable pub asked_conditions : Figure → ℕ → List Verdict
asked_conditions totals n = []
asked_conditions counts n = []
asked_conditions (totals_to m) n = refuse_if (ltb n m) Place ∷ []
asked_conditions (playing entries) n = refuse_if (ltb entries (n + 1)) Table ∷ []
asked_conditions (ratings asked) n = refuse_if (not (finite_asked asked)) NotFinite ∷ []

unfoldable pub figure_conditions : Figure → List ℕ → ℕ → Bool → List Verdict
figure_conditions f b entries short = sum_conditions b entries short ++ asked_conditions f (layout_of b).n

abbrev pub figure_verdict : Figure → List ℕ → ℕ → Bool → Verdict
figure_verdict f b entries short = first_of (figure_conditions f b entries short)

-- opening, with the lengths of the two tables
abbrev pub opening : ℕ → ℕ → List ℕ → Verdict
opening r v b = open_verdict b (entries_of r v)

-- an operation on an opened chart, with the lengths of the tables that it is lent
unfoldable pub refusal : Operation → ℕ → ℕ → List ℕ → Verdict
refusal (replace k o) r v b = replace_verdict b k o (entries_of r v)
refusal (insert k o) r v b = insert_verdict b k o (entries_of r v)
refusal (remove k) r v b = remove_verdict b k (entries_of r v)
refusal (read_record k) r v b = read_verdict b (record_entries r) k
refusal (read_values k) r v b = read_verdict b (value_entries v) k
refusal (read_detail d k) r v b = read_verdict b (record_entries r) k
refusal (figure f l) r v b = figure_verdict f b (value_entries v) (scratch_short l)
