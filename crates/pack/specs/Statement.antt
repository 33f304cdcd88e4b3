-- What is claimed of packs: the order of charts (`Ordered`), a listing (`Listed`), what a ranking answers and leaves (`Answered`), and parts that are joined
-- (`Parts`). `Claims` has them all. Definitions only.
use Rattle.std.specs.Prelude.{ℕ, ◌≤◌, ◌<◌, ◌≡◌, ◌↔◌, ◌⊎◌, true, false, List, [], ◌∷◌, ◌++◌, eqb, Float, length, Ok, Err}
use Rattle.std.specs.Float.{nan}
use Rattle.std.specs.Float.Ieee.{is_nan}
use Rattle.num_floats.specs.Numbers.{f64, zero64}
use Rattle.chart_opening.specs.Header.{settings_of}
use Rattle.chart_opening.specs.declared.Refusal.{Refusal}
use Rattle.chart_opening.specs.declared.Refusal.TheVariants.{Header, Place}
use Rattle.skills_stars.specs.Stars.{ratings_of}
use Rattle.skills_stars.specs.declared.Asked.{Asked}
use Rattle.calls.specs.Afresh.{count, totals, ratings, totals_are, ratings_are, figure_from}
use Rattle.calls.specs.Conditions.{Scratch, Lengths}
use Rattle.calls.specs.Calls.{state, open_leaves, cleared}
use Rattle.std.specs.declared.cmp.Ordering.TheVariants.{Less, Equal, Greater}
use Rattle.pack_order.specs.Compare.{compare_number, compare_chart}
use Rattle.pack_order.specs.Orders.{Compares}
use Rattle.pack_order.specs.Sort as Sort
use Rattle.pack_order.specs.Listing.{most_charts, Inside, chart_at, listed_before, ranked}
use Rattle.pack.specs.Pack.{fresh_totals, key_of, chart_verdict, listed_verdict, rank_verdict, Tables, tables_of, opened_into, Buffers, buffers, rank_answer, rank_leaves}

-- ---- "This is a total order in which only charts of equal bytes tie"

-- of charts, under what comes with the call
pub record Ordered (asked : Asked) : Type 0 where
  -- exchanging two charts exchanges the answer, charts that tie stand alike to every third, and "below" is transitive
  pub compares : Compares (compare_chart (key_of asked))
  pub total : (a b : List ℕ) → (compare_chart (key_of asked) a b ≡ Greater) ⊎ ((compare_chart (key_of asked) b a ≡ Greater) ⊎ (a ≡ b))
  pub ties : (a b : List ℕ) → (compare_chart (key_of asked) a b ≡ Equal) ↔ (a ≡ b)

-- "a NaN stands below every number, NaNs are alike, and so are both zeros"
pub record Numbers : Type 0 where
  pub nan-below : (x : Float) → is_nan x ≡ false → compare_number nan x ≡ Less
  pub nans_alike : compare_number nan nan ≡ Equal
  pub zeros_alike : compare_number (f64 0x8000000000000000) zero64 ≡ Equal

-- ---- A listing

abbrev pub listing_of : Asked → List ℕ → List ℕ → List ℕ
listing_of asked pack list = ranked (key_of asked) pack list

abbrev pub StandsBefore : Asked → List ℕ → ℕ → ℕ → Type 0
StandsBefore asked pack o p = listed_before (key_of asked) pack o p ≡ true

-- no offset has to stand before the one in front of it
abbrev pub InOrder : Asked → List ℕ → List ℕ → Type 0
InOrder asked pack list = Sort.Ordered (listed_before (key_of asked) pack) list

-- "every offset as often as before"
abbrev pub SameOffsets : List ℕ → List ℕ → Type 0
SameOffsets l m = (o : ℕ) → Sort.count (eqb o) l ≡ Sort.count (eqb o) m

pub record Listed (asked : Asked) (pack list : List ℕ) : Type 0 where
  pub same : SameOffsets (listing_of asked pack list) list
  pub ordered : InOrder asked pack (listing_of asked pack list)
  -- it is the only such list
  pub only : (other : List ℕ) → InOrder asked pack other → SameOffsets other list → other ≡ listing_of asked pack list

-- ---- What a ranking answers and leaves

-- opening the listed charts one after the other, each call lent the tables as the last one left them
unfoldable pub open_all : List ℕ → List ℕ → Tables → Tables
open_all pack [] t = t
open_all pack (o ∷ os) t = open_all pack os (tables_of (open_leaves (state (chart_at pack o) t.records t.values)))

pub record Answered (asked : Asked) (pack : List ℕ) (x : Buffers) : Type 0 where
  pub too_many : most_charts < length x.list → rank_answer asked pack x ≡ Err Place
  -- refused, it leaves all as it was lent
  pub refused : (q : Refusal) → rank_answer asked pack x ≡ Err q → rank_leaves asked pack x ≡ x
  -- carried out, the list is the listing, the tables stand as opening the charts in the lent order leaves them, and all scratch is 0
  pub carried : rank_answer asked pack x ≡ Ok tt
      → rank_leaves asked pack x ≡ buffers (listing_of asked pack x.list) (open_all pack x.list x.tables) (cleared x.scratch)
  -- with an empty list no chart is tried
  pub empty : x.list ≡ [] → rank_answer asked pack x ≡ Ok tt

-- ---- "Parts of a pack may be ranked alone and then joined, with the same listing as the whole"

-- where the whole list xs, ys is carried out: so are its parts, and so is joining the listings of the parts, whose listing is the whole's
pub record Parts (asked : Asked) (pack xs ys : List ℕ) (t : Tables) (x : Scratch) : Type 0 where
  pub first : rank_answer asked pack (buffers xs t x) ≡ Ok tt
  pub second : rank_answer asked pack (buffers ys t x) ≡ Ok tt
  pub joined : rank_answer asked pack (buffers (listing_of asked pack xs ++ listing_of asked pack ys) t x) ≡ Ok tt
  pub listing : (rank_leaves asked pack (buffers (listing_of asked pack xs ++ listing_of asked pack ys) t x)).list ≡ (rank_leaves asked pack (buffers (xs ++ ys) t x)).list

-- ---- All of it. The promises of `pack::rank` and `pack::join` are the same, word for word: joining two lists answers as ranking them as one.

pub record Claims : Type 0 where
  pub order : (asked : Asked) → Ordered asked
  pub numbers : Numbers
  -- the numbers by which charts are ordered are what the calls for ratings and totals give once the chart is opened, into any tables that are long enough
  pub keys : (asked : Asked) (l : Lengths) (b : List ℕ) (t : Tables) → chart_verdict asked (length t.records) (length t.values) l b ≡ Ok tt
      → (figure_from (ratings asked) (settings_of b) b (opened_into b t).values ≡ ratings_are (ratings_of (fresh_totals b) (count b) asked))
      × (figure_from totals (settings_of b) b (opened_into b t).values ≡ totals_are (fresh_totals b))
  -- "the higher chart first, and charts of equal bytes by offset, lower first"
  pub higher_first : (asked : Asked) (pack : List ℕ) (o p : ℕ) → compare_chart (key_of asked) (chart_at pack o) (chart_at pack p) ≡ Greater → StandsBefore asked pack o p
  pub lower_first : (asked : Asked) (pack : List ℕ) (o p : ℕ) → chart_at pack o ≡ chart_at pack p → o < p → StandsBefore asked pack o p
  pub listed : (asked : Asked) (pack list : List ℕ) → Listed asked pack list
  pub answered : (asked : Asked) (pack : List ℕ) (x : Buffers) → Answered asked pack x
  -- "The first listed chart that wouldn't open or be rated stops the ranking with its own number and place"
  pub first : (asked : Asked) (r v : ℕ) (l : Lengths) (pack os : List ℕ) (o : ℕ) (ps : List ℕ) (q : Refusal)
      → length (os ++ (o ∷ ps)) ≤ most_charts → rank_verdict asked r v l pack os ≡ Ok tt
      → listed_verdict asked r v l pack o ≡ Err q → rank_verdict asked r v l pack (os ++ (o ∷ ps)) ≡ Err q
  -- "A chart that runs past the pack is 1"
  pub past : (asked : Asked) (r v : ℕ) (l : Lengths) (pack : List ℕ) (o : ℕ) → (Inside pack o → ⊥) → listed_verdict asked r v l pack o ≡ Err Header
  pub parts : (asked : Asked) (pack xs ys : List ℕ) (t : Tables) (x : Scratch) → rank_answer asked pack (buffers (xs ++ ys) t x) ≡ Ok tt → Parts asked pack xs ys t x
