-- The loop of `play` on lists: before place j the rows 2 to j are written. Assumes nothing.
use Prim.Native.Nat.{ℕ, suc, ◌≤◌, ◌<◌, ◌+◌, ◌-◌, ◌*◌}
use native.Mathlib.Omega.{arith}
use mathlib.Core.Path.{◌≡◌, refl, sym, ap, ◌∙◌, subst}
use mathlib.Core.List.{List}
use lib.ListN.{length}
use lib.Ieee.{Float}
use Rattle.num_floats.specs.Numbers.{◌⊖◌, ◌⊘◌, zero64}
use Rattle.chart_fields.specs.Objects.{fields_of}
use Rattle.chart_fields.specs.declared.Layout.{Layout}
use Rattle.num_tables.specs.Parts.{row, put, fill}
use Rattle.num_tables.proofs.Rows.{fill_none, fill_step}
use Rattle.skills.specs.Chart.{start_at, delta_at}
use Rattle.skills.specs.Strains.{total, total_to}
use Rattle.skills.specs.declared.Skill.{Skill}
use Rattle.skills.specs.declared.Skill.TheVariants.{Aim, AimNoSliders, Speed, Flashlight}
use Rattle.skills.specs.declared.Skills.{Skills}
use Rattle.skills.proofs.Places.{start_at_lem}
use Rattle.skills_playing.specs.declared.Played.{Played}
use Rattle.skills_playing.specs.declared.Four.{Four}
use Rattle.skills_playing.proofs.Places.{played_first, fit_first, total_at}
use Rattle.skills_playing.proofs.Rows.{skills_same}
use Rattle.skills_playing.specs.Kept.{Fit, PlayedAt, first_played, FourFit, FourStepped, four_totals, no_totals}
use Rattle.skills_playing.specs.Playing.{total_row, row_after}
use Rattle.skills.specs.Chart.{Roomy}

module _ (s : List ℕ) (lay : Layout) (clock : Float) (values : List Float) where
  -- a skill's walk over the chart's places
  abbrev At : Skill → List Float → Played → ℕ → Type 0
  At k p r j = PlayedAt k (start_at s lay clock) (delta_at s lay clock) (row 5 values) p r j

  pub record Walking (list₀ : List Float) (n : ℕ) (a b c d list : List Float) (f : Four) (raw last : Float) (j : ℕ) : Type 0 where
    pub from : 1 ≤ j
    pub to : j ≤ n
    pub kept : length list ≡ length list₀
    pub raw_is : raw ≡ (fields_of s lay (j - 1)).start
    pub last_is : last ≡ start_at s lay clock (j - 1)
    pub fit : FourFit a b c d f
    pub first : At Aim a f.aim (j - 1)
    pub second : At AimNoSliders b f.aim_no_sliders (j - 1)
    pub third : At Speed c f.speed (j - 1)
    pub fourth : At Flashlight d f.flashlight (j - 1)
    pub filled : list ≡ fill 4 (row_after s lay clock values) 2 (j + 1 - 2) list₀

  abbrev all : Played → Four
  all r = record { aim = r; aim_no_sliders = r; speed = r; flashlight = r }

  pub walking_first : (list : List Float) (n : ℕ) (a b c d : List Float) → Roomy a → Roomy b → Roomy c → Roomy d → 2 ≤ n → (raw : Float) → raw ≡ (fields_of s lay 0).start
      → (r : Played) → r ≡ first_played ((fields_of s lay 1).start ⊘ clock) → Walking list n a b c d list (all r) raw zero64 1
  unfolding start_at
  walking_first list n a b c d ha hb hc hd l raw er r e =
      let at : (k : Skill) (p : List Float) → At k p r 0 = λ k p. subst (λ (z : Played). At k p z 0) (sym e) (played_first k (start_at s lay clock) (delta_at s lay clock) (row 5 values) p) in
      let fits : (p : List Float) → 8192 ≤ length p → Fit p r = λ p q. subst (λ (z : Played). Fit p z) (sym e) (fit_first ((fields_of s lay 1).start ⊘ clock) p q) in
      record {
        from = omega arith;
        to = omega arith;
        kept = refl;
        raw_is = er;
        last_is = refl;
        fit = record { first = fits a ha; second = fits b hb; third = fits c hc; fourth = fits d hd };
        first = at Aim a;
        second = at AimNoSliders b;
        third = at Speed c;
        fourth = at Flashlight d;
        filled = fill_none 4 (row_after s lay clock values) 2 list;
      }

  module _ {list₀ : List Float} {n : ℕ} {a b c d list : List Float} {f : Four} {raw last : Float} {j : ℕ} (m : Walking list₀ n a b c d list f raw last j) where
    pub walking_next : j < n → (raw' : Float) → raw' ≡ (fields_of s lay j).start → (a' b' c' d' : List Float) (f' : Four)
        → FourStepped (row 5 values) j last (raw' ⊘ clock) ((raw' ⊖ raw) ⊘ clock) a b c d f a' b' c' d' f'
        → (t : Skills) → t ≡ four_totals f' a' b' c' d' → (list' : List Float) → list' ≡ put (4 * (j + 1)) (total_row t) list → length list' ≡ length list
        → Walking list₀ n a' b' c' d' list' f' raw' (raw' ⊘ clock) (j + 1)
    unfolding delta_at total
    walking_next h raw' er a' b' c' d' f' g t et list' eo lo =
        let es : raw' ⊘ clock ≡ start_at s lay clock j = ap (λ (z : Float). z ⊘ clock) er ∙ sym (start_at_lem s lay clock j m.from) in
        let ed : (raw' ⊖ raw) ⊘ clock ≡ delta_at s lay clock j = rw (er, m.raw_is) refl in
        let e : j ≡ j + 1 - 1 = omega arith in
        let p1 = g.first.at (start_at s lay clock) (delta_at s lay clock) m.last_is es ed m.first in
        let p2 = g.second.at (start_at s lay clock) (delta_at s lay clock) m.last_is es ed m.second in
        let p3 = g.third.at (start_at s lay clock) (delta_at s lay clock) m.last_is es ed m.third in
        let p4 = g.fourth.at (start_at s lay clock) (delta_at s lay clock) m.last_is es ed m.fourth in
        let tot : t ≡ total (start_at s lay clock) (delta_at s lay clock) (row 5 values) (j + 1) =
        et ∙ skills_same (four_totals f' a' b' c' d') (total (start_at s lay clock) (delta_at s lay clock) (row 5 values) (j + 1))
        (total_at Aim _ _ _ a' f'.aim j m.from p1)
        (total_at AimNoSliders _ _ _ b' f'.aim_no_sliders j m.from p2)
        (total_at Speed _ _ _ c' f'.speed j m.from p3)
        (total_at Flashlight _ _ _ d' f'.flashlight j m.from p4) in
        record {
          from = omega arith;
          to = omega arith;
          kept = lo ∙ m.kept;
          raw_is = er ∙ ap (λ (i : ℕ). (fields_of s lay i).start) e;
          last_is = es ∙ ap (start_at s lay clock) e;
          fit = record { first = g.first.fit; second = g.second.fit; third = g.third.fit; fourth = g.fourth.fit };
          first = subst (λ (i : ℕ). At Aim a' f'.aim i) e p1;
          second = subst (λ (i : ℕ). At AimNoSliders b' f'.aim_no_sliders i) e p2;
          third = subst (λ (i : ℕ). At Speed c' f'.speed i) e p3;
          fourth = subst (λ (i : ℕ). At Flashlight d' f'.flashlight i) e p4;
          filled = fill_step 4 (row_after s lay clock values) 2 (j + 1) list₀ list list' (omega (arith, m.from)) m.filled (eo ∙ ap (λ (z : Skills). put (4 * (j + 1)) (total_row z) list) tot);
        }

    pub walking_done : n ≤ j → list ≡ fill 4 (row_after s lay clock values) 2 (n - 1) list₀
    walking_done h =
        let e : j + 1 - 2 ≡ n - 1 = omega (arith, m.to, m.from) in
        m.filled ∙ ap (λ (i : ℕ). fill 4 (row_after s lay clock values) 2 i list₀) e

  -- ---- the first two rows
  abbrev no_row : List Float
  no_row = total_row no_totals

  none_first : no_row ≡ row_after s lay clock values 0
  unfolding total total_to
  none_first = refl

  none_second : no_row ≡ row_after s lay clock values 1
  unfolding total total_to
  none_second = refl

  module _ (list₀ list₁ : List Float) (n : ℕ) (p₁ : list₁ ≡ put (4 * 0) no_row list₀) where
    e₁ : list₁ ≡ put (4 * 0) (row_after s lay clock values 0) list₀
    e₁ = p₁ ∙ ap (λ (r : List Float). put (4 * 0) r list₀) none_first

    pub only_row : n < 1 → list₁ ≡ fill 4 (row_after s lay clock values) 0 (n + 1) list₀
    unfolding fill
    only_row h = let e : n + 1 ≡ 1 = omega arith in e₁ ∙ ap (λ (i : ℕ). fill 4 (row_after s lay clock values) 0 i list₀) (sym e)

    module _ (list₂ : List Float) (p₂ : list₂ ≡ put (4 * 1) no_row list₁) where
      e₂ : list₂ ≡ put (4 * 1) (row_after s lay clock values 1) list₁
      e₂ = p₂ ∙ ap (λ (r : List Float). put (4 * 1) r list₁) none_second

      two_rows : fill 4 (row_after s lay clock values) 0 2 list₀ ≡ list₂
      unfolding fill
      two_rows = ap (put (4 * 1) (row_after s lay clock values 1)) (sym e₁) ∙ sym e₂

      pub first_rows : n < 2 → 1 ≤ n → list₂ ≡ fill 4 (row_after s lay clock values) 0 (n + 1) list₀
      first_rows h g = let e : n + 1 ≡ 2 = omega arith in sym two_rows ∙ ap (λ (i : ℕ). fill 4 (row_after s lay clock values) 0 i list₀) (sym e)

      pub all_rows : 2 ≤ n → (list : List Float) → list ≡ fill 4 (row_after s lay clock values) 2 (n - 1) list₂ → list ≡ fill 4 (row_after s lay clock values) 0 (n + 1) list₀
      unfolding fill
      all_rows h list eo =
          let e : n + 1 ≡ suc (suc (n - 1)) = omega arith in
          eo ∙ ap (fill 4 (row_after s lay clock values) 2 (n - 1)) (sym two_rows) ∙ ap (λ (i : ℕ). fill 4 (row_after s lay clock values) 0 i list₀) (sym e)
