-- Document 02, order 13, "Packs in order": what ranking a list of offsets into a pack answers and leaves. The order of charts and the listing are those of
-- crate pack_order; what makes a chart open and be rated, those of crate calls. Definitions only.
use Rattle.std.specs.Prelude.{ℕ, Bool, not, List, [], ◌∷◌, map, ltb, Float, length}
use Rattle.chart_opening.specs.Header.{settings_of}
use Rattle.chart_opening.specs.Conditions.{refuse_if, first_of, if_accepted, open_verdict}
use Rattle.chart_opening.specs.declared.Refusal.TheVariants.{Header, Table, Place, NotFinite}
use Rattle.chart_opening.specs.Verdict.{Verdict}
use Rattle.skills.specs.declared.Skills.{Skills}
use Rattle.skills_stars.specs.Stars.{ratings_of}
use Rattle.skills_stars.specs.declared.Asked.{Asked}
use Rattle.calls.specs.Tables.{value_entries}
use Rattle.calls.specs.Afresh.{count, fresh_values, totals_of, ratings}
use Rattle.calls.specs.Conditions.{Scratch, Lengths, lengths, scratch_short, figure_verdict, opening}
use Rattle.calls.specs.Calls.{State, state, opened, cleared}
use Rattle.pack_order.specs.Listing.{most_charts, chart_at, is_inside, ranked}
use Rattle.pack.specs.declared.Key.{Key}

-- ---- The numbers of a chart

-- its totals, afresh
unfoldable pub fresh_totals : List ℕ → Skills
fresh_totals b = totals_of (settings_of b) b (fresh_values (settings_of b) b)

-- "Order two charts by stars, then the aim, speed and flashlight totals in turn"
abbrev pub key_row : Key → List Float
key_row k = k.stars ∷ k.aim ∷ k.speed ∷ k.flashlight ∷ []

-- of totals, for a chart of n objects
unfoldable pub key_from : Asked → ℕ → Skills → Key
key_from asked n t = record { stars = (ratings_of t n asked).stars; aim = t.aim; speed = t.speed; flashlight = t.flashlight }

-- of a chart: "All are rated with the same mods and the same numbers beside them"
unfoldable pub key_of : Asked → List ℕ → List Float
key_of asked b = key_row (key_from asked (count b) (fresh_totals b))

-- ---- What is refused

-- a chart that "wouldn't open or be rated": opening's conditions and then those of ratings, with tables of r and v numbers and scratch of these lengths
unfoldable pub chart_verdict : Asked → ℕ → ℕ → Lengths → List ℕ → Verdict
chart_verdict asked r v l b = first_of (opening r v b ∷ figure_verdict (ratings asked) b (value_entries v) (scratch_short l) ∷ [])

-- the chart at an offset: "A chart that runs past the pack is 1"
unfoldable pub listed_verdict : Asked → ℕ → ℕ → Lengths → List ℕ → ℕ → Verdict
listed_verdict asked r v l pack o = first_of (refuse_if (not (is_inside pack o)) Header ∷ chart_verdict asked r v l (chart_at pack o) ∷ [])

-- a list: "a list over 256 offsets is 8 before any chart"; "The first listed chart that wouldn't open or be rated stops the ranking with its own number and
-- place"
unfoldable pub rank_verdict : Asked → ℕ → ℕ → Lengths → List ℕ → List ℕ → Verdict
rank_verdict asked r v l pack list = first_of (refuse_if (ltb most_charts (length list)) Place ∷ map (listed_verdict asked r v l pack) list)

-- ---- What is left

-- the two tables
pub record Tables : Type 0 where
  pub records : List Float
  pub values : List Float

abbrev pub tables : List Float → List Float → Tables
tables rs vs = record { records = rs; values = vs }

abbrev pub tables_of : State → Tables
tables_of st = tables st.records st.values

-- as opening a chart leaves them
unfoldable pub opened_into : List ℕ → Tables → Tables
opened_into b t = tables_of (opened (state b t.records t.values))

-- "the tables stand as opening the charts in the lent order leaves them"
unfoldable pub tables_after : List ℕ → List ℕ → Tables → Tables
tables_after pack [] t = t
tables_after pack (o ∷ os) t = tables_after pack os (opened_into (chart_at pack o) t)

-- what is lent beside the pack: the list, the tables and the scratch of each skill
pub record Buffers : Type 0 where
  pub list : List ℕ
  pub tables : Tables
  pub scratch : Scratch

abbrev pub buffers : List ℕ → Tables → Scratch → Buffers
buffers list t x = record { list = list; tables = t; scratch = x }

-- which chart's condition stops the ranking
unfoldable pub rank_answer : Asked → List ℕ → Buffers → Verdict
rank_answer asked pack x = rank_verdict asked (length x.tables.records) (length x.tables.values) (lengths x.scratch) pack x.list

-- "Rank a lent list of offsets into the pack by it: the listing, in the list's place"; "and all scratch is 0"
unfoldable pub ranked_buffers : Asked → List ℕ → Buffers → Buffers
ranked_buffers asked pack x = buffers (ranked (key_of asked) pack x.list) (tables_after pack x.list x.tables) (cleared x.scratch)

-- a refusal "leaves list, tables and scratch unchanged"
unfoldable pub rank_leaves : Asked → List ℕ → Buffers → Buffers
rank_leaves asked pack x = if_accepted (rank_answer asked pack x) (ranked_buffers asked pack x) (λ r. x)

-- ---- The same conditions with what is the same for all charts at hand: the entries of the shorter table, short scratch, and whether the numbers are finite

unfoldable pub chart_check : ℕ → Bool → Bool → List ℕ → Verdict
chart_check entries short finite b = first_of (open_verdict b entries ∷ refuse_if short Table ∷ refuse_if (not finite) NotFinite ∷ [])

unfoldable pub listed_check : ℕ → Bool → Bool → List ℕ → ℕ → Verdict
listed_check entries short finite pack o = first_of (refuse_if (not (is_inside pack o)) Header ∷ chart_check entries short finite (chart_at pack o) ∷ [])
