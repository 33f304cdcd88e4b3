-- The loop of `close_sections` on lists. Assumes nothing.
use Prim.Native.Nat.{ℕ, suc, ◌≤◌, ◌<◌, ◌+◌, ◌-◌}
use native.Mathlib.Omega.{arith}
use mathlib.Core.Path.{◌≡◌, refl, sym, ap, ◌∙◌, subst}
use mathlib.Core.Bool.{true, false}
use mathlib.Core.List.{List, [], ◌∷◌, ◌++◌}
use lib.ListN.{length, take, length-append}
use lib.Ieee.{Float, lt}
use Rattle.num_floats.specs.Numbers.{◌⊕◌, zero64}
use Rattle.skills.specs.Value.{sum_from, difficulty_of}
use Rattle.skills.specs.Strains.{Walk, room, section_length, close_one, close_to, initial_strain}
use Rattle.skills.specs.declared.Skill.{Skill}
use Rattle.skills.specs.declared.Skill.TheVariants.{Aim, AimNoSliders, Speed, Flashlight}
use Rattle.skills_playing.specs.declared.Played.{Played}
use Rattle.skills_playing.specs.Kept.{kept_of, kept_with, open_total, Fit, Shows, Closed}
use Rattle.skills_peaks.specs.Peaks.{Sorted}
use Rattle.skills_peaks.specs.Placed.{with_peak_lem, value_open, with_peak_sorted}
use Rattle.skills.proofs.Closing.{close_more, close_stop}

-- ---- one peak more
sum_with : (s : Float) (ps : List Float) (x : Float) → sum_from s (ps ++ (x ∷ [])) ≡ sum_from s ps ⊕ x
unfolding sum_from
sum_with s [] x = refl
sum_with s (p ∷ ps) x = sum_with (s ⊕ p) ps x

kept_with_lem : (k : Skill) (ps : List Float) (x : Float) → kept_with k (kept_of k ps) x ≡ kept_of k (ps ++ (x ∷ []))
unfolding kept_of kept_with
kept_with_lem Aim ps x = with_peak_lem ps x
kept_with_lem AimNoSliders ps x = with_peak_lem ps x
kept_with_lem Speed ps x = with_peak_lem ps x
kept_with_lem Flashlight ps x = refl

kept_with_sorted : (k : Skill) (s : List Float) (x : Float) → Sorted s → Sorted (kept_with k s x)
unfolding kept_with
kept_with_sorted Aim s x h = with_peak_sorted s x h
kept_with_sorted AimNoSliders s x h = with_peak_sorted s x h
kept_with_sorted Speed s x h = with_peak_sorted s x h
kept_with_sorted Flashlight s x h = h

-- the definition's total, from what is kept
pub open_total_lem : (k : Skill) (ps : List Float) (x : Float) → open_total k (kept_of k ps) (sum_from zero64 ps) x ≡ difficulty_of k (ps ++ (x ∷ []))
unfolding open_total kept_of difficulty_of
open_total_lem Aim ps x = value_open 10 ps x
open_total_lem AimNoSliders ps x = value_open 10 ps x
open_total_lem Speed ps x = value_open 5 ps x
open_total_lem Flashlight ps x = sym (sum_with zero64 ps x)

-- ---- the walk
-- a walk that s and p show, and from which the closing comes out as from w₀
pub record Toward (k : Skill) (initial : Float → Float) (start : Float) (n₀ : ℕ) (w₀ : Walk) (p : List Float) (s : Played) : Type 0 where
  pub w : Walk
  pub shows : Shows k p s w
  pub same : close_to (room - s.count) initial start w ≡ close_to (room - n₀) initial start w₀

pub record Closing (k : Skill) (last start : Float) (p₀ : List Float) (from : Played) (p : List Float) (s : Played) : Type 0 where
  pub fit : Fit p s
  pub kept : length p ≡ length p₀
  pub same_current : s.current ≡ from.current
  pub same_strain : s.strain ≡ from.strain
  pub toward : (w : Walk) → Shows k p₀ from w → Toward k (initial_strain k from.strain last) start from.count w p s

pub closing_first : (k : Skill) (last start : Float) (p : List Float) (from : Played) → Fit p from → Closing k last start p from p from
closing_first k last start p from f = record {
  fit = f;
  kept = refl;
  same_current = refl;
  same_strain = refl;
  toward = λ w h. record { w = w; shows = h; same = refl };
}

module _ {k : Skill} {last start : Float} {p₀ : List Float} {from : Played} {p : List Float} {s : Played} (c : Closing k last start p₀ from p s) where
  module _ (h : s.count < room) (t : lt s.end start ≡ true) (p' : List Float) (n : ℕ) (l : length p' ≡ length p) (few : n ≤ s.kept + 1)
      (list : take n p' ≡ kept_with k (take s.kept p) s.peak) (i : Float) (ei : i ≡ initial_strain k from.strain last s.end) where
    abbrev closed_one : Played
    closed_one = record { kept = n; count = s.count + 1; sum = s.sum ⊕ s.peak; peak = i; end = s.end ⊕ section_length; current = s.current; strain = s.strain }

    shows_next : (w : Walk) → Shows k p s w → Shows k p' closed_one (close_one (initial_strain k from.strain last) w)
    unfolding close_one
    shows_next w e = record {
      count_is = ap (λ (z : ℕ). z + 1) e.count_is ∙ sym (length-append w.peaks (w.peak ∷ []));
      kept_is = list ∙ ap (λ (z : List Float). kept_with k z s.peak) e.kept_is ∙ ap (kept_with k (kept_of k w.peaks)) e.peak_is ∙ kept_with_lem k w.peaks w.peak;
      sum_is = ap (λ (z : Float). z ⊕ s.peak) e.sum_is ∙ ap (λ (z : Float). sum_from zero64 w.peaks ⊕ z) e.peak_is ∙ sym (sum_with zero64 w.peaks w.peak);
      peak_is = ei ∙ ap (initial_strain k from.strain last) e.end_is;
      end_is = ap (λ (z : Float). z ⊕ section_length) e.end_is;
    }

    pub closing_next : Closing k last start p₀ from p' closed_one
    closing_next = record {
      fit = record {
        within = omega arith;
        few = omega (arith, c.fit.few);
        long = omega (arith, c.fit.long);
        sorted = subst Sorted (sym list) (kept_with_sorted k (take s.kept p) s.peak c.fit.sorted);
      };
      kept = l ∙ c.kept;
      same_current = c.same_current;
      same_strain = c.same_strain;
      toward = λ w e. (let q = c.toward w e in
          let m : room - s.count ≡ suc (room - (s.count + 1)) = omega arith in
          record {
            w = close_one (initial_strain k from.strain last) q.w;
            shows = shows_next q.w q.shows;
            same = sym (close_more (initial_strain k from.strain last) start (room - s.count) (room - (s.count + 1)) q.w m (ap (λ (z : Float). lt z start) (sym q.shows.end_is) ∙ t)) ∙ q.same;
          });
    }

  closed_with : ((w : Walk) (h : Shows k p₀ from w) → (c.toward w h).w ≡ close_to (room - from.count) (initial_strain k from.strain last) start w) → Closed k last start p₀ from p s
  closed_with e = record {
    fit = c.fit;
    same_current = c.same_current;
    same_strain = c.same_strain;
    shows = λ w h. subst (λ (v : Walk). Shows k p s v) (e w h) (c.toward w h).shows;
  }

  pub closing_stop : lt s.end start ≡ false → Closed k last start p₀ from p s
  closing_stop t = closed_with (λ w h. (let q = c.toward w h in
      sym (close_stop (initial_strain k from.strain last) start (room - s.count) q.w (ap (λ (z : Float). lt z start) (sym q.shows.end_is) ∙ t)) ∙ q.same))

  pub closing_full : room ≤ s.count → Closed k last start p₀ from p s
  unfolding close_to
  closing_full g = closed_with (λ w h. (let q = c.toward w h in
      let e : room - s.count ≡ 0 = omega arith in
      ap (λ (n : ℕ). close_to n (initial_strain k from.strain last) start q.w) (sym e) ∙ q.same))
