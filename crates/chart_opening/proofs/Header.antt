-- What an accepted header tells. Assumes nothing.
use Prim.Native.Nat.{ℕ, ◌+◌, ◌*◌, ◌^◌, ◌≤◌, ◌<◌}
use mathlib.Core.Path.{◌≡◌, refl}
use mathlib.Core.Bool.{Bool, true, false, cond, ◌&&◌}
use mathlib.Core.List.{List}
use lib.Dec.{leb, eqb}
use lib.ListN.{length}
use native.Mathlib.Nat.{mul-le-mul}
use native.Mathlib.Omega.{arith}
use borrow.Author.Tests.{leb-true, eqb-true, le-leb, eq-eqb}
use Rattle.num_floats.specs.Fields.{u32_at}
use Rattle.chart_fields.specs.Limits.{header_size, object_size, stated_size, point_size, most_objects, most_entries}
use Rattle.chart_fields.specs.Objects.{Holds}
use Rattle.chart_fields.specs.declared.Layout.{Layout}
use Rattle.chart_opening.specs.Header.{size_for, format_of, layout_of, counts_ok, offsets_ok, frame_ok, flags_ok, header_ok, chart_length, layout_end}

pub both : (a b : Bool) → (a && b) ≡ true → (a ≡ true) × (b ≡ true)
both true b e = (refl, e)
both false b e = (e, cc)

pub record Few (lay : Layout) : Type 0 where
  pub objects : lay.n ≤ most_objects
  pub nested : lay.nested ≤ most_entries
  pub points : lay.points ≤ most_entries

pub few : (lay : Layout) → counts_ok lay ≡ true → Few lay
unfolding counts_ok
few lay e =
    let ab = both _ _ e in
    let a = both _ _ ab.0 in
    record { objects = leb-true _ _ a.0; nested = leb-true _ _ a.1; points = leb-true _ _ ab.1 }

pub few_by : (lay : Layout) → Few lay → counts_ok lay ≡ true
unfolding counts_ok
few_by lay f = simp (le-leb lay.n most_objects f.objects, le-leb lay.nested most_entries f.nested, le-leb lay.points most_entries f.points)

-- an object has one of the two sizes
pub size_least : (format : ℕ) → object_size ≤ size_for format
unfolding size_for
size_least format = go (eqb format 1)
  where
    go : (b : Bool) → object_size ≤ cond b stated_size object_size
    go true = omega arith
    go false = omega arith

pub size_most : (format : ℕ) → size_for format ≤ stated_size
unfolding size_for
size_most format = go (eqb format 1)
  where
    go : (b : Bool) → cond b stated_size object_size ≤ stated_size
    go true = omega arith
    go false = omega arith

-- the tables' ends fit a word
pub ends_fit : (s : List ℕ) → counts_ok (layout_of s) ≡ true → (layout_of s).points_at + point_size * (layout_of s).points < 2 ^ 64
unfolding layout_of
ends_fit s e = let f = few (layout_of s) e in omega (arith, mul-le-mul (size_most (format_of s)) f.objects, f.nested, f.points)

-- the parts of condition 1
pub record Parts (s : List ℕ) : Type 0 where
  pub long : header_size ≤ length s
  pub counts : counts_ok (layout_of s) ≡ true
  pub offsets : offsets_ok s (layout_of s) ≡ true
  pub format : leb (format_of s) 1 ≡ true
  pub flags : flags_ok (u32_at s 76) ≡ true

-- of the header but for its flags
pub record Framed (s : List ℕ) : Type 0 where
  pub long : header_size ≤ length s
  pub counts : counts_ok (layout_of s) ≡ true
  pub offsets : offsets_ok s (layout_of s) ≡ true
  pub format : leb (format_of s) 1 ≡ true

pub framed : (s : List ℕ) → frame_ok s ≡ true → Framed s
unfolding frame_ok
framed s e =
    let abc = both _ _ e in
    let ab = both _ _ abc.0 in
    let b = both _ _ ab.1 in
    record { long = leb-true _ _ ab.0; counts = b.0; offsets = abc.1; format = b.1 }

pub parts : (s : List ℕ) → header_ok s ≡ true → Parts s
unfolding header_ok
parts s e =
    let ff = both _ _ e in
    let f = framed s ff.0 in
    record { long = f.long; counts = f.counts; offsets = f.offsets; format = f.format; flags = ff.1 }

pub header_by : (s : List ℕ) → Parts s → header_ok s ≡ true
unfolding header_ok frame_ok
header_by s p = simp (le-leb header_size (length s) p.long, p.counts, p.offsets, p.format, p.flags)

-- what the offsets and the length say
pub record Offsets (s : List ℕ) (lay : Layout) : Type 0 where
  pub objects : u32_at s 12 ≡ header_size
  pub nested : u32_at s 16 ≡ lay.nested_at
  pub points : u32_at s 20 ≡ lay.points_at
  pub ends : chart_length s ≡ layout_end lay
  pub fits : chart_length s ≤ length s

pub offsets : (s : List ℕ) (lay : Layout) → offsets_ok s lay ≡ true → Offsets s lay
unfolding offsets_ok
offsets s lay e =
    let abcde = both (eqb (u32_at s 12) header_size && eqb (u32_at s 16) lay.nested_at && eqb (u32_at s 20) lay.points_at && eqb (chart_length s) (layout_end lay)) _ e in
    let abcd = both (eqb (u32_at s 12) header_size && eqb (u32_at s 16) lay.nested_at && eqb (u32_at s 20) lay.points_at) _ abcde.0 in
    let abc = both (eqb (u32_at s 12) header_size && eqb (u32_at s 16) lay.nested_at) _ abcd.0 in
    let ab = both (eqb (u32_at s 12) header_size) _ abc.0 in
    record {
      objects = eqb-true _ _ ab.0;
      nested = eqb-true _ _ ab.1;
      points = eqb-true _ _ abc.1;
      ends = eqb-true _ _ abcd.1;
      fits = leb-true _ _ abcde.1;
    }

pub offsets_by : (s : List ℕ) (lay : Layout) → Offsets s lay → offsets_ok s lay ≡ true
unfolding offsets_ok
offsets_by s lay o =
    simp (
      eq-eqb (u32_at s 12) header_size o.objects,
      eq-eqb (u32_at s 16) lay.nested_at o.nested,
      eq-eqb (u32_at s 20) lay.points_at o.points,
      eq-eqb (chart_length s) (layout_end lay) o.ends,
      le-leb (chart_length s) (length s) o.fits,
    )

pub holds_framed : (s : List ℕ) → Framed s → Holds s (layout_of s)
unfolding layout_of
holds_framed s p =
    let f = few (layout_of s) p.counts in
    let o = offsets s (layout_of s) p.offsets in
    record {
      few = f.objects;
      few_nested = f.nested;
      few_points = f.points;
      size_least = size_least (format_of s);
      size_most = size_most (format_of s);
      objects = omega arith;
      nested_in_lem = omega arith;
      points_in = omega (arith, o.ends, o.fits);
    }

pub holds : (s : List ℕ) → header_ok s ≡ true → Holds s (layout_of s)
unfolding header_ok
holds s e = holds_framed s (framed s (both _ _ e).0)
