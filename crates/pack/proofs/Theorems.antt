-- Order 13: every claim of `Statement`. Assumes nothing.
use Rattle.std.specs.Prelude.{Ok, Err}
use Prim.Native.Nat.{ℕ, ◌*◌, ◌≤◌, ◌<◌}
use mathlib.Core.Path.{◌≡◌, refl, sym, ap, ◌∙◌}
use mathlib.Core.Bool.{Bool, true, false, not, true≢false}
use mathlib.Core.List.{List, [], ◌∷◌, ◌++◌}
use native.Mathlib.Omega.{arith}
use lib.Ieee as Ieee
use lib.Ieee.{Float, nan, inf, fin, is_nan}
use lib.ListN.{length}
use Rattle.chart_opening.specs.Header.{settings_of}
use Rattle.chart_opening.specs.Conditions.{refuse_if, first_of, if_accepted}
use Rattle.chart_opening.specs.declared.Refusal.TheVariants.{Header, Place}
use Rattle.chart_opening.specs.Verdict.{Verdict}
use Rattle.skills_stars.specs.Stars.{ratings_of}
use Rattle.skills_stars.specs.declared.Asked.{Asked}
use Rattle.calls.specs.Tables.{record_width, value_width}
use Rattle.calls.specs.Afresh.{Figure, count, totals, ratings, totals_are, ratings_are, figure_of, fresh_figure, figure_from}
use Rattle.calls.specs.Conditions.{Scratch, Lengths, lengths, asked_conditions, opening}
use Rattle.calls.specs.Calls.{state, opened, open_answer, open_leaves, cleared}
use Rattle.calls.proofs.Refusals.{opening_met}
use Rattle.calls.proofs.Locality.{open_fresh, open_records_length, open_values_length, figure_from_lem}
use Rattle.std.specs.declared.cmp.Ordering.TheVariants.{Less}
use Rattle.pack_order.specs.Compare.{lower, compare_number}
use Rattle.pack_order.specs.Laws.{chart_compares, chart_exact, chart_ties, chart_total, higher_first, lower_first, ranked_count, ranked_ordered, ranked_only, ranked_joined}
use Rattle.pack_order.specs.Sort.{All}
use Rattle.pack_order.specs.Listing.{most_charts, Inside, is_inside, chart_at}
use Rattle.pack_order.proofs.Lies.{is_inside_lem}
use Rattle.pack.specs.Pack.{fresh_totals, key_of, chart_verdict, listed_verdict, rank_verdict, Tables, tables_of, opened_into, tables_after, Buffers, buffers, rank_answer, ranked_buffers, rank_leaves}
use Rattle.pack.specs.Statement.{Ordered, Numbers, Listed, open_all, Answered, Parts, Claims, listing_of}
use Rattle.pack.proofs.Checks.{rateable, lies, stops, too_many}
use Rattle.pack.proofs.Lists.{refused_leaves, carried_leaves, all_pass}
use Rattle.pack.proofs.Joined.{to_all, first_part, second_part, joined_parts, first_stops}

-- ---- The order

order : (asked : Asked) → Ordered asked
order asked = record {
  compares = chart_compares (key_of asked);
  total = chart_total (key_of asked);
  ties = λ a b. (chart_exact (key_of asked) a b, chart_ties (key_of asked) a b);
}

nan-below : (x : Float) → is_nan x ≡ false → compare_number nan x ≡ Less
unfolding compare_number lower is_nan
nan-below nan h = absurd (true≢false h)
nan-below (inf s) h = refl
nan-below (fin s m e) h = refl

numbers : Numbers
unfolding compare_number lower is_nan Ieee.lt Ieee.of_bits
numbers = record { nan-below = nan-below; nans_alike = refl; zeros_alike = refl }

-- ---- The numbers of a chart

module _ (asked : Asked) (l : Lengths) (b : List ℕ) (t : Tables) (e : chart_verdict asked (length t.records) (length t.values) l b ≡ Ok tt) where
  from : (f : Figure) → first_of (asked_conditions f (count b)) ≡ Ok tt → figure_from f (settings_of b) b (opened_into b t).values ≡ fresh_figure f (settings_of b) b
  unfolding opened_into opened
  from f a =
      let (o, room) = opening_met (length t.records) (length t.values) b (rateable asked (length t.records) (length t.values) l b e).opens in
      figure_from_lem f (settings_of b) (opened (state b t.records t.values)) a (open_fresh (settings_of b) b t.records t.values room.records room.values)

  keys : (figure_from (ratings asked) (settings_of b) b (opened_into b t).values ≡ ratings_are (ratings_of (fresh_totals b) (count b) asked))
      × (figure_from totals (settings_of b) b (opened_into b t).values ≡ totals_are (fresh_totals b))
  unfolding figure_of fresh_totals asked_conditions first_of
  keys = (from (ratings asked) (rateable asked (length t.records) (length t.values) l b e).finite, from totals refl)

-- ---- A listing

listed : (asked : Asked) (pack list : List ℕ) → Listed asked pack list
listed asked pack list = record {
  same = λ o. ranked_count (key_of asked) pack o list;
  ordered = ranked_ordered (key_of asked) pack list;
  only = ranked_only (key_of asked) pack list;
}

-- ---- What a ranking answers and leaves

-- each opening is carried out, and keeps the tables' lengths
module _ (asked : Asked) (r v : ℕ) (l : Lengths) (pack : List ℕ) where
  module _ (o : ℕ) (t : Tables) (er : length t.records ≡ r) (ev : length t.values ≡ v) (e : listed_verdict asked r v l pack o ≡ Ok tt) where
    abbrev b : List ℕ
    b = chart_at pack o

    would_open : opening r v b ≡ Ok tt
    would_open = (rateable asked r v l b (lies asked r v l pack o e).1).opens

    opens_so : open_answer (state b t.records t.values) ≡ Ok tt
    unfolding open_answer
    opens_so = (λ i. opening (er i) (ev i) b) ∙ would_open

    opens_into : tables_of (open_leaves (state b t.records t.values)) ≡ opened_into b t
    unfolding open_leaves if_accepted opened_into
    opens_into = ap (λ (w : Verdict). tables_of (if_accepted w (opened (state b t.records t.values)) (λ q. state b t.records t.values))) opens_so

    keeps : (length (opened_into b t).records ≡ r) × (length (opened_into b t).values ≡ v)
    unfolding opened_into opened
    keeps =
        let (x, room) = opening_met r v b would_open in
        let rh : record_width * count b ≤ length t.records = omega (arith, room.records, er) in
        let vh : value_width * count b ≤ length t.values = omega (arith, room.values, ev) in
        (open_records_length (settings_of b) b t.records t.values rh vh ∙ er, open_values_length (settings_of b) b t.records t.values rh vh ∙ ev)

  opens-all : (list : List ℕ) (t : Tables) → length t.records ≡ r → length t.values ≡ v → All (λ (o : ℕ). listed_verdict asked r v l pack o ≡ Ok tt) list
      → tables_after pack list t ≡ open_all pack list t
  unfolding tables_after open_all
  opens-all [] t er ev q = refl
  opens-all (o ∷ os) t er ev q =
      let (kr, kv) = keeps o t er ev q.0 in
      opens-all os (opened_into (chart_at pack o) t) kr kv q.1 ∙ ap (open_all pack os) (sym (opens_into o t er ev q.0))

module _ (asked : Asked) (pack : List ℕ) (x : Buffers) where
  carried : rank_answer asked pack x ≡ Ok tt
      → rank_leaves asked pack x ≡ buffers (listing_of asked pack x.list) (open_all pack x.list x.tables) (cleared x.scratch)
  unfolding ranked_buffers
  carried e =
      sym (carried_leaves asked pack x.list x.tables x.scratch (sym e))
      ∙ ap (λ (t : Tables). buffers (listing_of asked pack x.list) t (cleared x.scratch))
      (opens-all asked (length x.tables.records) (length x.tables.values) (lengths x.scratch) pack x.list x.tables refl refl
      (to_all (listed_verdict asked (length x.tables.records) (length x.tables.values) (lengths x.scratch) pack) x.list
      (all_pass asked pack x.list x.tables x.scratch e)))

  none_tried : x.list ≡ [] → rank_answer asked pack x ≡ Ok tt
  unfolding rank_answer rank_verdict first_of
  none_tried e = ap (rank_verdict asked (length x.tables.records) (length x.tables.values) (lengths x.scratch) pack) e

  many : most_charts < length x.list → rank_answer asked pack x ≡ Err Place
  unfolding rank_answer
  many h = sym (too_many asked (length x.tables.records) (length x.tables.values) (lengths x.scratch) pack x.list h)

  answered : Answered asked pack x
  answered = record {
    too_many = many;
    refused = λ q e. sym (refused_leaves asked pack x.list x.tables x.scratch (sym e));
    carried = carried;
    empty = none_tried;
  }

past : (asked : Asked) (r v : ℕ) (l : Lengths) (pack : List ℕ) (o : ℕ) → (Inside pack o → ⊥) → listed_verdict asked r v l pack o ≡ Err Header
unfolding listed_verdict
past asked r v l pack o h = go (is_inside pack o) refl
  where
    go : (t : Bool) → is_inside pack o ≡ t → first_of (refuse_if (not (is_inside pack o)) Header ∷ chart_verdict asked r v l (chart_at pack o) ∷ []) ≡ Err Header
    go true e = absurd (h (is_inside_lem pack o e))
    go false e = stops _ _ (ap (λ (t : Bool). refuse_if (not t) Header) e)

-- ---- Parts

module _ (asked : Asked) (pack xs ys : List ℕ) (t : Tables) (x : Scratch) (e : rank_answer asked pack (buffers (xs ++ ys) t x) ≡ Ok tt) where
  left : (list : List ℕ) → rank_answer asked pack (buffers list t x) ≡ Ok tt → (rank_leaves asked pack (buffers list t x)).list ≡ listing_of asked pack list
  unfolding ranked_buffers
  left list a = ap (λ (y : Buffers). y.list) (sym (carried_leaves asked pack list t x (sym a)))

  joins : rank_answer asked pack (buffers (listing_of asked pack xs ++ listing_of asked pack ys) t x) ≡ Ok tt
  unfolding rank_answer
  joins = joined_parts asked (length t.records) (length t.values) (lengths x) pack xs ys e

  parts : Parts asked pack xs ys t x
  unfolding rank_answer
  parts = record {
    first = first_part asked (length t.records) (length t.values) (lengths x) pack xs ys e;
    second = second_part asked (length t.records) (length t.values) (lengths x) pack xs ys e;
    joined = joins;
    listing = left (listing_of asked pack xs ++ listing_of asked pack ys) joins ∙ (ranked_joined (key_of asked) pack xs ys ∙ sym (left (xs ++ ys) e));
  }

pub theorem : Claims
theorem = record {
  order = order;
  numbers = numbers;
  keys = keys;
  higher_first = λ asked. higher_first (key_of asked);
  lower_first = λ asked. lower_first (key_of asked);
  listed = listed;
  answered = answered;
  first = first_stops;
  past = past;
  parts = parts;
}
