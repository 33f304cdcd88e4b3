-- The loops of `walk` and `strains_into` on lists: what they hold before place j is what the definitions have at place j - 1. Assumes nothing.
use Prim.Native.Nat.{ℕ, zero, suc, ◌≤◌, ◌<◌, ◌+◌, ◌-◌, ◌*◌}
use native.Mathlib.Nat.{one-mul}
use native.Mathlib.Numerals.{add-one}
use native.Mathlib.Omega.{arith}
use mathlib.Core.Path.{◌≡◌, refl, sym, ap, ◌∙◌, subst}
use mathlib.Core.List.{List, [], ◌∷◌}
use lib.ListN.{length, take, set, length-set}
use lib.Seq.{take-suc-set, length-take-le}
use lib.Ieee.{Float}
use Rattle.num_floats.specs.Numbers.{◌⊖◌, ◌⊘◌, zero64}
use Rattle.chart_fields.specs.Objects.{fields_of}
use Rattle.chart_fields.specs.declared.Layout.{Layout}
use Rattle.num_tables.specs.Parts.{row, put, fill}
use Rattle.num_tables.proofs.Rows.{sets_put, fill_none, fill_step}
use Rattle.skills.specs.declared.Sections.{Sections}
use Rattle.skills.specs.declared.Skill.{Skill}
use Rattle.skills.specs.Strains.{strain_next, joined, initial_strain, room, Walk, close_to, join, closed, reached, walk, peaks_to, current, strain_at}
use Rattle.skills.specs.Chart.{start_at, delta_at, strain_row}
use Rattle.skills.specs.Shown as Shown
use Rattle.skills.specs.Shown.{shown, opened}

-- ---- the definitions at a place from 1 up
back : (j : ℕ) → suc j - 1 ≡ j
back j = omega arith

pub current_at : (deltas : ℕ → Float) (vs : ℕ → List Float) (k : Skill) (j : ℕ) → 1 ≤ j → current deltas vs k j ≡ strain_next k (current deltas vs k (j - 1)) (deltas j) (vs j)
unfolding current
current_at deltas vs k zero h = absurd (omega arith)
current_at deltas vs k (suc j) h = ap (λ (i : ℕ). strain_next k (current deltas vs k i) (deltas (suc j)) (vs (suc j))) (sym (back j))

pub strain_at_lem : (deltas : ℕ → Float) (vs : ℕ → List Float) (k : Skill) (j : ℕ) → 1 ≤ j → strain_at deltas vs k j ≡ joined k (current deltas vs k j) (vs j)
unfolding strain_at
strain_at_lem deltas vs k zero h = absurd (omega arith)
strain_at_lem deltas vs k (suc j) h = refl

pub walk_at : (k : Skill) (starts strains : ℕ → Float) (j : ℕ) → 1 ≤ j → walk k starts strains j ≡ join (strains j) (reached k starts strains j (walk k starts strains (j - 1)))
unfolding walk
walk_at k starts strains zero h = absurd (omega arith)
walk_at k starts strains (suc j) h = ap (λ (i : ℕ). join (strains (suc j)) (reached k starts strains (suc j) (walk k starts strains i))) (sym (back j))

pub start_at_lem : (s : List ℕ) (lay : Layout) (clock : Float) (j : ℕ) → 1 ≤ j → start_at s lay clock j ≡ (fields_of s lay j).start ⊘ clock
unfolding start_at
start_at_lem s lay clock zero h = absurd (omega arith)
start_at_lem s lay clock (suc j) h = refl

module _ (s : List ℕ) (lay : Layout) (clock : Float) (values : List Float) (k : Skill) where
  abbrev starts : ℕ → Float
  starts j = start_at s lay clock j

  abbrev currents : ℕ → Float
  currents j = current (delta_at s lay clock) (row 5 values) k j

  abbrev strains : ℕ → Float
  strains j = strain_at (delta_at s lay clock) (row 5 values) k j

  -- ---- what both loops carry: the start as stored and the decaying strain of the place before
  pub record Carried (raw c : Float) (j : ℕ) : Type 0 where
    pub from : 1 ≤ j
    pub raw_is : raw ≡ (fields_of s lay (j - 1)).start
    pub current_is : c ≡ currents (j - 1)

  pub carried_first : (raw : Float) → raw ≡ (fields_of s lay 0).start → Carried raw zero64 1
  unfolding current
  carried_first raw e = record { from = omega arith; raw_is = e; current_is = refl }

  module _ {raw c : Float} {j : ℕ} (m : Carried raw c j) (raw' c' : Float) (er : raw' ≡ (fields_of s lay j).start) (ec : c' ≡ strain_next k c ((raw' ⊖ raw) ⊘ clock) (row 5 values j)) where
    current_here : c' ≡ currents j
    unfolding delta_at
    current_here = ec ∙ (rw (er, m.raw_is, m.current_is) refl) ∙ sym (current_at (delta_at s lay clock) (row 5 values) k j m.from)

    pub carried_next : Carried raw' c' (j + 1)
    carried_next =
        let e : j ≡ j + 1 - 1 = omega arith in
        record {
          from = omega arith;
          raw_is = er ∙ ap (λ (i : ℕ). (fields_of s lay i).start) e;
          current_is = current_here ∙ ap currents e;
        }

    pub strain_here : (t : Float) → t ≡ joined k c' (row 5 values j) → t ≡ strains j
    strain_here t et = et ∙ ap (λ (x : Float). joined k x (row 5 values j)) current_here ∙ sym (strain_at_lem (delta_at s lay clock) (row 5 values) k j m.from)

  -- ---- `walk`
  pub record Walked (p₀ : List Float) (n : ℕ) (p : List Float) (w : Sections) (raw last c t : Float) (j : ℕ) : Type 0 where
    pub carried : Carried raw c j
    pub to : j ≤ n
    pub within : w.count ≤ room
    pub kept : length p ≡ length p₀
    pub last_is : last ≡ starts (j - 1)
    pub joined_is : t ≡ strains (j - 1)
    pub walk_is : shown p w ≡ walk k starts strains (j - 1)

  pub walked_first : (p : List Float) (n : ℕ) (raw : Float) (w : Sections) → 2 ≤ n → raw ≡ (fields_of s lay 0).start → w ≡ opened ((fields_of s lay 1).start ⊘ clock)
      → Walked p n p w raw zero64 zero64 zero64 1
  unfolding walk strain_at start_at
  walked_first p n raw w h er ew = record {
    carried = carried_first raw er;
    to = omega arith;
    within = subst (λ (v : Sections). v.count ≤ room) (sym ew) (omega arith);
    kept = refl;
    last_is = refl;
    joined_is = refl;
    walk_is = ap (shown p) ew;
  }

  module _ {p₀ : List Float} {n : ℕ} {p : List Float} {w : Sections} {raw last c t : Float} {j : ℕ} (m : Walked p₀ n p w raw last c t j) (r : 8192 ≤ length p₀) where
    -- the sections that `close_sections` leaves, where the walk has them
    reached_is : (start : Float) → start ≡ starts j → close_to (room - w.count) (initial_strain k t last) start (shown p w) ≡ reached k starts strains j (walk k starts strains (j - 1))
    unfolding reached
    reached_is start e =
        let l : w.count ≡ length (take w.count p) = sym (length-take-le w.count p (omega (arith, m.kept, m.within))) in
        ap (λ (i : ℕ). close_to (room - i) (initial_strain k t last) start (shown p w)) l
        ∙ (rw (e, m.joined_is, m.last_is) refl)
        ∙ ap (λ (v : Walk). close_to (room - length v.peaks) (initial_strain k (strains (j - 1)) (starts (j - 1))) (starts j) v) m.walk_is

    pub walked_step : j < n → (raw' : Float) → raw' ≡ (fields_of s lay j).start → (p' : List Float) (w'' : Sections) → length p' ≡ length p → w''.count ≤ room
        → (c' t' : Float) → c' ≡ strain_next k c ((raw' ⊖ raw) ⊘ clock) (row 5 values j) → t' ≡ joined k c' (row 5 values j)
        → shown p' w'' ≡ join t' (close_to (room - w.count) (initial_strain k t last) (raw' ⊘ clock) (shown p w))
        → Walked p₀ n p' w'' raw' (raw' ⊘ clock) c' t' (j + 1)
    walked_step h raw' er p' w'' kp wi c' t' ec et sh =
        let e : j ≡ j + 1 - 1 = omega arith in
        let es : raw' ⊘ clock ≡ starts j = ap (λ (x : Float). x ⊘ clock) er ∙ sym (start_at_lem s lay clock j m.carried.from) in
        let est = strain_here m.carried raw' c' er ec t' et in
        record {
          carried = carried_next m.carried raw' c' er ec;
          to = omega arith;
          within = wi;
          kept = kp ∙ m.kept;
          last_is = es ∙ ap starts e;
          joined_is = est ∙ ap strains e;
          walk_is =
              sh
              ∙ ap (join t') (reached_is (raw' ⊘ clock) es)
              ∙ ap (λ (x : Float). join x (reached k starts strains j (walk k starts strains (j - 1)))) est
              ∙ sym (walk_at k starts strains j m.carried.from)
              ∙ ap (walk k starts strains) e;
        }

    pub walked_next : j < n → (raw' : Float) → raw' ≡ (fields_of s lay j).start → (p' : List Float) (w' : Sections) → length p' ≡ length p → w'.count ≤ room
        → shown p' w' ≡ close_to (room - w.count) (initial_strain k t last) (raw' ⊘ clock) (shown p w)
        → (c' t' : Float) (w'' : Sections) → c' ≡ strain_next k c ((raw' ⊖ raw) ⊘ clock) (row 5 values j) → t' ≡ joined k c' (row 5 values j) → w'' ≡ Shown.joined w' t'
        → Walked p₀ n p' w'' raw' (raw' ⊘ clock) c' t' (j + 1)
    walked_next h raw' er p' w' kp wi sh c' t' w'' ec et ew =
        walked_step h raw' er p' w'' kp (subst (λ (v : Sections). v.count ≤ room) (sym ew) wi) c' t' ec et (ap (shown p') ew ∙ ap (join t') sh)

    pub walked_done : n ≤ j → take (w.count + 1) (set p w.count w.peak) ≡ peaks_to k starts strains (n - 1)
    unfolding peaks_to
    walked_done h =
        let q : w.count < length p = omega (arith, m.kept, m.within) in
        let e : j - 1 ≡ n - 1 = omega (arith, m.to) in
        rw add-one (take-suc-set p w.count w.peak q) ∙ ap closed (m.walk_is ∙ ap (walk k starts strains) e)

  -- ---- `strains_into`
  pub record Strained (out₀ : List Float) (n : ℕ) (out : List Float) (raw c : Float) (j : ℕ) : Type 0 where
    pub carried : Carried raw c j
    pub to : j ≤ n
    pub kept : length out ≡ length out₀
    pub filled : out ≡ fill 1 (strain_row s lay clock values k) 1 (j - 1) out₀

  pub strained_first : (out : List Float) (n : ℕ) (raw : Float) → 2 ≤ n → raw ≡ (fields_of s lay 0).start → Strained out n out raw zero64 1
  strained_first out n raw h er = record {
    carried = carried_first raw er;
    to = omega arith;
    kept = refl;
    filled = fill_none 1 (strain_row s lay clock values k) 1 out;
  }

  module _ {out₀ : List Float} {n : ℕ} {out : List Float} {raw c : Float} {j : ℕ} (m : Strained out₀ n out raw c j) where
    pub strained_next : j < n → n ≤ length out₀ → (raw' : Float) → raw' ≡ (fields_of s lay j).start → (c' t : Float) → c' ≡ strain_next k c ((raw' ⊖ raw) ⊘ clock) (row 5 values j)
        → t ≡ joined k c' (row 5 values j) → Strained out₀ n (set out j t) raw' c' (j + 1)
    strained_next h l raw' er c' t ec et =
        let q : j + 1 ≤ length out = omega (arith, m.kept) in
        let est = strain_here m.carried raw' c' er ec t et in
        let stored : set out j t ≡ put (1 * j) (strain_row s lay clock values k j) out =
        sets_put (t ∷ []) out j q ∙ ap (λ (x : Float). put j (x ∷ []) out) est ∙ ap (λ (i : ℕ). put i (strain_row s lay clock values k j) out) (sym (one-mul j)) in
        record {
          carried = carried_next m.carried raw' c' er ec;
          to = omega arith;
          kept = simp length-set m.kept;
          filled = fill_step 1 (strain_row s lay clock values k) 1 j out₀ out (set out j t) m.carried.from m.filled stored;
        }

    pub strained_done : n ≤ j → out ≡ fill 1 (strain_row s lay clock values k) 1 (n - 1) out₀
    strained_done h =
        let e : j - 1 ≡ n - 1 = omega (arith, m.to) in
        m.filled ∙ ap (λ (i : ℕ). fill 1 (strain_row s lay clock values k) 1 i out₀) e

  -- below two places nothing is written
  pub strained_none : (out : List Float) (n : ℕ) → n < 2 → out ≡ fill 1 (strain_row s lay clock values k) 1 (n - 1) out
  unfolding fill
  strained_none out n h = let e : n - 1 ≡ 0 = omega arith in rw e
