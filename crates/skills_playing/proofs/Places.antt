-- One place more of a skill's walk, on lists. Assumes nothing.
use Prim.Native.Nat.{ℕ, zero, suc, ◌≤◌, ◌+◌, ◌-◌}
use native.Mathlib.Numerals.{add-one}
use native.Mathlib.Omega.{arith}
use mathlib.Core.Path.{◌≡◌, refl, sym, ap, ◌∙◌, subst}
use mathlib.Core.List.{List, [], ◌∷◌, ◌++◌}
use lib.ListN.{length}
use lib.Ieee.{Float}
use Rattle.num_floats.specs.Numbers.{zero64}
use Rattle.num_floats.specs.Compare.{max_of}
use Rattle.num_sort.specs.Sort.{sort_desc}
use Rattle.skills.specs.Value.{positives, sum_from, difficulty_of}
use Rattle.skills.specs.Strains.{strain_next, joined, initial_strain, room, Walk, close_to, join, reached, walk, peaks_to, current, strain_at, total_to}
use Rattle.skills.specs.declared.Skill.{Skill}
use Rattle.skills.specs.declared.Skill.TheVariants.{Aim, AimNoSliders, Speed, Flashlight}
use Rattle.skills.specs.declared.Sections.{Sections}
use Rattle.skills.specs.Shown.{opened}
use Rattle.skills_playing.specs.declared.Played.{Played}
use Rattle.skills_playing.specs.Kept.{kept_of, open_total, Fit, Shows, Closed, PlayedAt, Stepped, first_played, played_total}
use Rattle.skills_playing.proofs.Closing.{open_total_lem}
use Rattle.skills.proofs.Places.{current_at, strain_at_lem, walk_at}

-- ---- `place`
abbrev with_strain : Played → Float → Float → Float → Played
with_strain r u t m = record { kept = r.kept; count = r.count; sum = r.sum; peak = m; end = r.end; current = u; strain = t }

module _ {k : Skill} {vs : ℕ → List Float} {j : ℕ} {last start delta : Float} {p₀ : List Float} {from : Played} {p : List Float} {r : Played}
    (h : 1 ≤ j) (c : Closed k last start p₀ from p r) (u t m : Float) (eu : u ≡ strain_next k from.current delta (vs j)) (et : t ≡ joined k u (vs j)) (em : m ≡ max_of r.peak t) where
  module _ (starts deltas : ℕ → Float) (el : last ≡ starts (j - 1)) (es : start ≡ starts j) (ed : delta ≡ deltas j) (a : PlayedAt k starts deltas vs p₀ from (j - 1)) where
    current_here : u ≡ current deltas vs k j
    current_here = eu ∙ (rw (a.current_is, ed) refl) ∙ sym (current_at deltas vs k j h)

    strain_here : t ≡ strain_at deltas vs k j
    strain_here = et ∙ ap (λ (x : Float). joined k x (vs j)) current_here ∙ sym (strain_at_lem deltas vs k j h)

    before : Walk
    before = walk k starts (strain_at deltas vs k) (j - 1)

    reached_is : close_to (room - from.count) (initial_strain k from.strain last) start before ≡ reached k starts (strain_at deltas vs k) j before
    unfolding reached before
    reached_is = rw (a.shows.count_is, a.strain_is, el, es) refl

    here : Shows k p r (reached k starts (strain_at deltas vs k) j before)
    unfolding before
    here = subst (λ (w : Walk). Shows k p r w) reached_is (c.shows before a.shows)

    joined_here : Shows k p (with_strain r u t m) (join (strain_at deltas vs k j) (reached k starts (strain_at deltas vs k) j before))
    joined_here = record {
      count_is = here.count_is;
      kept_is = here.kept_is;
      sum_is = here.sum_is;
      peak_is = em ∙ ap (λ (x : Float). max_of x t) here.peak_is ∙ ap (max_of (reached k starts (strain_at deltas vs k) j before).peak) strain_here;
      end_is = here.end_is;
    }

    at_here : PlayedAt k starts deltas vs p (with_strain r u t m) j
    unfolding before
    at_here = record {
      shows = subst (λ (w : Walk). Shows k p (with_strain r u t m) w) (sym (walk_at k starts (strain_at deltas vs k) j h)) joined_here;
      current_is = current_here;
      strain_is = strain_here;
    }

  pub stepped : Stepped k vs j last start delta p₀ from p (with_strain r u t m)
  stepped = record {
    fit = record { within = c.fit.within; few = c.fit.few; long = c.fit.long; sorted = c.fit.sorted };
    at = at_here;
  }

-- ---- before place 1
abbrev of_sections : Sections → Played
of_sections w = record { kept = 0; count = w.count; sum = zero64; peak = w.peak; end = w.end; current = zero64; strain = zero64 }

pub played_opened : (w : Sections) (start : Float) → w ≡ opened start → of_sections w ≡ first_played start
played_opened w start e = ap of_sections e

kept_none : (k : Skill) → kept_of k [] ≡ []
unfolding kept_of positives sort_desc
kept_none Aim = refl
kept_none AimNoSliders = refl
kept_none Speed = refl
kept_none Flashlight = refl

pub played_first : (k : Skill) (starts deltas : ℕ → Float) (vs : ℕ → List Float) (p : List Float) → PlayedAt k starts deltas vs p (first_played (starts 1)) 0
unfolding walk current strain_at sum_from
played_first k starts deltas vs p = record {
  shows = record { count_is = refl; kept_is = sym (kept_none k); sum_is = refl; peak_is = refl; end_is = refl };
  current_is = refl;
  strain_is = refl;
}

pub fit_first : (start : Float) (p : List Float) → 8192 ≤ length p → Fit p (first_played start)
fit_first start p h = record { within = omega arith; few = omega arith; long = h; sorted = record { clear = tt; falls = tt } }

total_is : (k : Skill) (starts deltas : ℕ → Float) (vs : ℕ → List Float) (j : ℕ) → 1 ≤ j
    → difficulty_of k ((walk k starts (strain_at deltas vs k) j).peaks ++ ((walk k starts (strain_at deltas vs k) j).peak ∷ [])) ≡ total_to starts deltas vs k (j + 1)
unfolding total_to peaks_to
total_is k starts deltas vs zero h = absurd (omega arith)
total_is k starts deltas vs (suc j) h = rw add-one refl

-- ---- the total after place j is that of j + 1 places
pub total_at : (k : Skill) (starts deltas : ℕ → Float) (vs : ℕ → List Float) (p : List Float) (s : Played) (j : ℕ) → 1 ≤ j → PlayedAt k starts deltas vs p s j
    → played_total k s p ≡ total_to starts deltas vs k (j + 1)
total_at k starts deltas vs p s j h a =
    ap (λ (z : List Float). open_total k z s.sum s.peak) a.shows.kept_is
    ∙ ap (λ (z : Float). open_total k (kept_of k w) z s.peak) a.shows.sum_is
    ∙ ap (λ (z : Float). open_total k (kept_of k w) (sum_from zero64 w) z) a.shows.peak_is
    ∙ open_total_lem k w (walk k starts (strain_at deltas vs k) j).peak
    ∙ total_is k starts deltas vs j h
  where
    w : List Float
    w = (walk k starts (strain_at deltas vs k) j).peaks
