-- The bound on the number of sections is never the reason why `close_to` stops: where every start is at most 400 × (q + 8191), q × 400 being the first
-- section's end, each place's start is at most its section's end after the walk over that place. Assumes nothing.
use Prim.Native.Nat.{ℕ, zero, suc, ◌+◌, ◌-◌, ◌*◌, ◌^◌, ◌≤◌}
use native.Mathlib.Nat.{add-zero}
use native.Mathlib.Omega.{arith}
use mathlib.Core.Path.{◌≡◌, refl, sym, ap, ◌∙◌, subst}
use mathlib.Core.Bool.{Bool, true, false, cond}
use mathlib.Core.List.{[], ◌∷◌, ◌++◌}
use lib.ListN.{length, length-append}
use lib.Ieee as Ieee
use lib.Ieee.{Float, binary64, lt, round}
use lib.Ieee.Back.{round_whole}
use Rattle.num_floats.specs.Numbers.{◌⊕◌}
use Rattle.num_whole.specs.WholeValues.{add_at}
use Rattle.skills.specs.declared.Skill.{Skill}
use Rattle.skills.specs.Strains.{section_length, initial_strain, room, Walk, first_end, close_one, close_to, reached, walk}

-- the f64 of a whole number
abbrev pub whole : ℕ → Float
whole n = round binary64 false n 1

four_hundred : section_length ≡ whole 400
unfolding Ieee.of_bits round
four_hundred = refl

next_end : (n : ℕ) → n + 400 ≤ 2 ^ 53 → whole n ⊕ section_length ≡ whole (n + 400)
next_end n h =
    ap (λ (x : Float). whole n ⊕ x) four_hundred
    ∙ add_at binary64 (whole n) (whole 400) n 400 (round_whole binary64 false n (omega arith)) (round_whole binary64 false 400 (omega arith))

-- x is the end n of a section: it compares and adds as n does. The first end can be -0, which does so for 0
pub record EndAt (n : ℕ) (x : Float) : Type 0 where
  pub below : (y : Float) → lt x y ≡ lt (whole n) y
  pub next : n + 400 ≤ 2 ^ 53 → x ⊕ section_length ≡ whole (n + 400)

pub end_at : (n : ℕ) (x : Float) → x ≡ whole n → EndAt n x
end_at n x e = record {
  below = λ y. ap (λ (z : Float). lt z y) e;
  next = λ h. ap (λ (z : Float). z ⊕ section_length) e ∙ next_end n h;
}

-- the open section ends at 400 × (q + the number of closed sections)
abbrev Ends : ℕ → Walk → Type 0
Ends q w = EndAt (400 * (q + length w.peaks)) w.end

module _ (q : ℕ) (initial : Float → Float) (start : Float) where
  closed_length : (w : Walk) → length (close_one initial w).peaks ≡ length w.peaks + 1
  unfolding close_one
  closed_length w = length-append w.peaks (w.peak ∷ [])

  ends_next : (w : Walk) → Ends q w → 400 * (q + length w.peaks) + 400 ≤ 2 ^ 53 → Ends q (close_one initial w)
  unfolding close_one
  ends_next w e h =
      let k = length-append w.peaks (w.peak ∷ []) in
      let n : 400 * (q + length w.peaks) + 400 ≡ 400 * (q + length (w.peaks ++ (w.peak ∷ []))) = omega arith in
      end_at _ _ (e.next h ∙ ap whole n)

  -- what holds after at most n closings
  record Closed (n : ℕ) (w w' : Walk) : Type 0 where
    ends : Ends q w'
    most : length w'.peaks ≤ length w.peaks + n
    done : lt (whole (400 * (q + length w.peaks + n))) start ≡ false → lt w'.end start ≡ false

  step_bound : (l n b : ℕ) → l ≡ b + 1 → 400 * (q + b + suc n) ≤ 2 ^ 53 → 400 * (q + l + n) ≤ 2 ^ 53
  step_bound l n b e h = omega arith

  step_sum : (l n b : ℕ) → l ≡ b + 1 → 400 * (q + b + suc n) ≡ 400 * (q + l + n)
  step_sum l n b e = omega arith

  first_bound : (n b : ℕ) → 400 * (q + b + suc n) ≤ 2 ^ 53 → 400 * (q + b) + 400 ≤ 2 ^ 53
  first_bound n b h = omega arith

  close_ends : (n : ℕ) (w : Walk) → Ends q w → 400 * (q + length w.peaks + n) ≤ 2 ^ 53 → Closed n w (close_to n initial start w)
  unfolding close_to
  close_ends zero w e h = record {
    ends = e;
    most = omega arith;
    done = λ d. e.below start ∙ subst (λ (k : ℕ). lt (whole (400 * k)) start ≡ false) (add-zero (q + length w.peaks)) d;
  }
  close_ends (suc n) w e h =
      go (close_ends n (close_one initial w) (ends_next w e (first_bound n (length w.peaks) h)) (step_bound _ n (length w.peaks) (closed_length w) h)) (lt w.end start) refl
    where
      go : Closed n (close_one initial w) (close_to n initial start (close_one initial w)) → (b : Bool) → lt w.end start ≡ b
          → Closed (suc n) w (cond b (close_to n initial start (close_one initial w)) w)
      go r true t = record {
        ends = r.ends;
        most = omega (arith, r.most, closed_length w);
        done = λ d. r.done (subst (λ (k : ℕ). lt (whole k) start ≡ false) (step_sum _ n (length w.peaks) (closed_length w)) d);
      }
      go r false t = record { ends = e; most = omega arith; done = λ d. t }

-- ---- the walk, where the first section ends at 400 × q
module _ (q : ℕ) (k : Skill) (starts strains : ℕ → Float) (fits : 400 * (q + room) ≤ 2 ^ 53) (first : EndAt (400 * q) (first_end (starts 1))) where
  record At (w : Walk) : Type 0 where
    ends : Ends q w
    most : length w.peaks ≤ room

  room_left : (l : ℕ) → l ≤ room → q + room ≡ q + l + (room - l)
  room_left l h = omega arith

  record After (j : ℕ) (w : Walk) : Type 0 where
    at : At w
    settled : lt w.end (starts j) ≡ false

  one : (j : ℕ) (w : Walk) → At w → lt (whole (400 * (q + room))) (starts j) ≡ false → After j (reached k starts strains j w)
  unfolding reached
  one j w a h =
      let l = length w.peaks in
      let e = room_left l a.most in
      let c = close_ends q (initial_strain k (strains (j - 1)) (starts (j - 1))) (starts j) (room - l) w a.ends (subst (λ (i : ℕ). 400 * i ≤ 2 ^ 53) e fits) in
      record {
        at = record { ends = c.ends; most = omega (arith, c.most, a.most) };
        settled = c.done (subst (λ (i : ℕ). lt (whole (400 * i)) (starts j) ≡ false) e h);
      }

  at_place : (n : ℕ) → ((j : ℕ) → 1 ≤ j → j ≤ n → lt (whole (400 * (q + room))) (starts j) ≡ false) → At (walk k starts strains n)
  unfolding walk
  at_place zero all = record {
    ends = subst (λ (i : ℕ). EndAt (400 * i) (first_end (starts 1))) (sym (add-zero q)) first;
    most = omega arith;
  }
  at_place (suc n) all =
      let r = one (suc n) (walk k starts strains n) (at_place n (λ j a b. all j a (omega arith))) (all (suc n) (omega arith) (omega arith)) in
      record { ends = r.at.ends; most = r.at.most }

  pub settled_at : (j : ℕ) → ((i : ℕ) → 1 ≤ i → i ≤ suc j → lt (whole (400 * (q + room))) (starts i) ≡ false)
      → lt (reached k starts strains (suc j) (walk k starts strains j)).end (starts (suc j)) ≡ false
  settled_at j all = (one (suc j) (walk k starts strains j) (at_place j (λ i a b. all i a (omega arith))) (all (suc j) (omega arith) (omega arith))).settled
