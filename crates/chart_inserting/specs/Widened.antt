-- Two charts of which one has an object's bytes more between the same bytes: it has one object more (`one_more`). Assumes nothing.
use Rattle.std.specs.Prelude.{ℕ, suc, ◌+◌, ◌*◌, ◌≤◌, ◌<◌, ◌≡◌, refl, List}
use Rattle.std.proofs.Common.{ap, ◌∙◌, mul-suc, mul-le-mul_left, le_refl, arith}
use Rattle.num_tables.specs.Parts.{part}
use Rattle.chart_fields.specs.Limits.{header_size, object_size, nested_size, point_size}
use Rattle.chart_fields.specs.Objects.{object_at, fields_of}
use Rattle.chart_fields.specs.Place.{place_within}
use Rattle.chart_fields.specs.Same.{fields_same}
use Rattle.chart_fields.specs.declared.Layout.{Layout}
use Rattle.chart_entries.specs.Entries.{nested_of, point_of}
use Rattle.chart_entries.specs.Same.{nested_same, point_same, SameBelow}
use Rattle.chart_opening.proofs.Header as H
use Rattle.chart_opening.specs.Header.{format_of, layout_of, layout_end, settings_of}
use Rattle.chart_replacing.specs.Put.{part_same}
use Rattle.chart_replacing.specs.Replace.{object_bytes}
use Rattle.chart_inserting.specs.Insert.{nested_for, points_for, layout_for}
use Rattle.chart_inserting.specs.OneMore.{OneMore, entry_bytes, count_bytes, setting_bytes}

-- t is s with an object's bytes more at place k
pub record Widened (k : ℕ) (s t : List ℕ) : Type 0 where
  pub at : k ≤ (layout_of s).n
  pub layout : layout_of t ≡ layout_for (layout_of s) (suc (layout_of s).n)
  pub settings : settings_of t ≡ settings_of s
  pub count_bytes_lem : count_bytes t ≡ count_bytes s
  pub setting_bytes_lem : setting_bytes t ≡ setting_bytes s
  pub before : (i m : ℕ) → header_size ≤ i → i + m ≤ object_at (layout_of s) k → part i m t ≡ part i m s
  pub behind : (i m : ℕ) → object_at (layout_of s) k ≤ i → i + m ≤ layout_end (layout_of s) → part (i + (layout_of s).object_size) m t ≡ part i m s

-- what a layout is made of
pub size_least : (s : List ℕ) → object_size ≤ (layout_of s).object_size
unfolding layout_of
size_least s = H.size_least (format_of s)

pub nested_at_lem : (s : List ℕ) → (layout_of s).nested_at ≡ nested_for (layout_of s) (layout_of s).n
unfolding layout_of
nested_at_lem s = refl

pub points_at_lem : (s : List ℕ) → (layout_of s).points_at ≡ (layout_of s).nested_at + nested_size * (layout_of s).nested
unfolding layout_of
points_at_lem s = refl

module _ (k : ℕ) (s t : List ℕ) (w : Widened k s t) where
  abbrev lay : Layout
  lay = layout_of s

  abbrev size : ℕ
  size = lay.object_size

  shifted : (i j m : ℕ) → j ≡ i + size → object_at lay k ≤ i → i + m ≤ layout_end lay → part j m t ≡ part i m s
  shifted i j m e h l = ap (λ (x : ℕ). part x m t) e ∙ w.behind i m h l

  -- the tables begin an object's size later
  objects_end : object_at lay k ≤ lay.nested_at
  objects_end = omega (arith, mul-le-mul_left size w.at, nested_at_lem s)

  nested_later : nested_for lay (suc lay.n) ≡ lay.nested_at + size
  nested_later = omega (arith, mul-suc size lay.n, nested_at_lem s)

  before_part : (i : ℕ) → i < k → part (object_at lay i) size t ≡ part (object_at lay i) size s
  before_part i h = w.before (object_at lay i) size (omega arith) (omega (arith, place_within size i k h))

  later_part : (i : ℕ) → k ≤ i → i < lay.n → part (object_at lay (suc i)) size t ≡ part (object_at lay i) size s
  later_part i h l =
      shifted (object_at lay i) (object_at lay (suc i)) size (omega (arith, mul-suc size i)) (omega (arith, mul-le-mul_left size h))
      (omega (arith, place_within size i lay.n l, nested_at_lem s, points_at_lem s))

  nested_part : (e : ℕ) → e < lay.nested → part (nested_for lay (suc lay.n) + nested_size * e) nested_size t ≡ part (lay.nested_at + nested_size * e) nested_size s
  nested_part e h =
      shifted (lay.nested_at + nested_size * e) _ nested_size (omega (arith, nested_later)) (omega (arith, objects_end))
      (omega (arith, points_at_lem s))

  points_part : (e : ℕ) → e < lay.points → part (points_for lay (suc lay.n) + point_size * e) point_size t ≡ part (lay.points_at + point_size * e) point_size s
  points_part e h =
      shifted (lay.points_at + point_size * e) _ point_size (omega (arith, nested_later, points_at_lem s)) (omega (arith, objects_end, points_at_lem s))
      (omega arith)

  bytes_before : (i : ℕ) → i < k → object_bytes t i ≡ object_bytes s i
  unfolding object_bytes
  bytes_before i h = rw w.layout (before_part i h)

  bytes_later : (i : ℕ) → k ≤ i → i < lay.n → object_bytes t (suc i) ≡ object_bytes s i
  unfolding object_bytes
  bytes_later i h l = rw w.layout (later_part i h l)

  fields_before : (i : ℕ) → i < k → fields_of t (layout_of t) i ≡ fields_of s lay i
  unfolding fields_of
  fields_before i h = rw w.layout (fields_same (part_same (object_at lay i) (object_at lay i) size t s (before_part i h)) (size_least s))

  fields_later : (i : ℕ) → k ≤ i → i < lay.n → fields_of t (layout_of t) (suc i) ≡ fields_of s lay i
  unfolding fields_of
  fields_later i h l = rw w.layout (fields_same (part_same (object_at lay (suc i)) (object_at lay i) size t s (later_part i h l)) (size_least s))

  entries : entry_bytes t ≡ entry_bytes s
  unfolding entry_bytes
  entries =
      rw w.layout
      (shifted lay.nested_at (nested_for lay (suc lay.n)) (nested_size * lay.nested + point_size * lay.points) nested_later objects_end
      (omega (arith, points_at_lem s)))

  nested_kept : (e : ℕ) → e < lay.nested → nested_of t (layout_of t) e ≡ nested_of s lay e
  unfolding nested_of
  nested_kept e h = rw w.layout (nested_same (part_same _ _ nested_size t s (nested_part e h)) (le_refl nested_size))

  points_kept : (e : ℕ) → e < lay.points → point_of t (layout_of t) e ≡ point_of s lay e
  unfolding point_of
  points_kept e h = rw w.layout (point_same (part_same _ _ point_size t s (points_part e h)) (le_refl point_size))

  pub one_more : OneMore k s t
  one_more =
      record {
        at = w.at;
        counts = ap (λ (l : Layout). l.n) w.layout;
        sizes = ap (λ (l : Layout). l.object_size) w.layout;
        nested_counts = ap (λ (l : Layout). l.nested) w.layout;
        point_counts = ap (λ (l : Layout). l.points) w.layout;
        settings = w.settings;
        count_bytes_lem = w.count_bytes_lem;
        setting_bytes_lem = w.setting_bytes_lem;
        entry_bytes_lem = entries;
        before = bytes_before;
        later = bytes_later;
        fields_before = fields_before;
        fields_later = fields_later;
        nested = nested_kept;
        points = points_kept;
      }

-- their entries are the same as far as the counts go, so condition 4 of an object is
pub same_entries : {k : ℕ} {s t : List ℕ} → OneMore k s t → SameBelow t (layout_of t) s (layout_of s)
same_entries o =
    record {
      nested_counts = o.nested_counts;
      point_counts = o.point_counts;
      nested = λ e l. o.nested e (rw o.nested_counts at l);
      points = λ e l. o.points e (rw o.point_counts at l);
    }
