-- One turn of `fill_range`. Assumes nothing.
use Prim.Native.Nat.{ℕ, ◌+◌, ◌*◌, ◌-◌, ◌≤◌, ◌<◌}
use mathlib.Core.Path.{◌≡◌, refl, sym, ap, ◌∙◌}
use mathlib.Core.List.{List}
use native.Mathlib.Omega.{arith}
use lib.ListN.{length}
use lib.Ieee.{Float}
use Rattle.chart_fields.specs.declared.Layout.{Layout}
use Rattle.chart_opening.specs.declared.Settings.{Settings}
use Rattle.osu_object.specs.Osu.{object_of}
use Rattle.osu_difficulty_object.specs.Record.{placed_of, new_record, record_of, chart_record}
use Rattle.osu_difficulty_object.proofs.Laws.{place_capped}
use Rattle.osu_difficulty_object.specs.declared.Placed.{Placed}
use Rattle.osu_difficulty_object.specs.declared.OsuDifficultyObject.{OsuDifficultyObject}
use Rattle.num_tables.specs.Parts.{fill}
use Rattle.num_tables.proofs.Rows.{length_put, fill_none, fill_step}
use Rattle.osu_records.specs.Rows.{row_of, put_record}
use Rattle.osu_records.specs.Fill.{chart_row, filled_range}
use Rattle.osu_records.proofs.Laws.{row_length}

-- place 0 is both the place before 1 and the one before that
pub no_second : (s : List ℕ) (lay : Layout) (radius : Float) (j : ℕ) → j < 2 → placed_of radius (object_of s lay (j - 1)) ≡ placed_of radius (object_of s lay (j - 2))
no_second s lay radius j h = let e : j - 1 ≡ j - 2 = omega arith in ap (λ (i : ℕ). placed_of radius (object_of s lay i)) e

module _ (s : List ℕ) (lay : Layout) (set : Settings) where
  -- what a turn keeps of the object at a place
  abbrev pub kept : ℕ → Placed
  kept i = placed_of set.radius (object_of s lay i)

  record_is : (j : ℕ) → new_record set j (kept j) (kept (j - 1)) (kept (j - 2)) ≡ chart_record s lay set j
  unfolding chart_record record_of
  record_is j = sym (place_capped set j (kept j) (kept (j - 1)) (kept (j - 2)))

  -- places from a to j - 1 are filled, and the two objects before j are kept
  pub record Filled (a b : ℕ) (t₀ t : List Float) (last before : Placed) (j : ℕ) : Type 0 where
    pub some : 0 < j
    pub from : a ≤ j
    pub within : j ≤ b
    pub len : length t ≡ length t₀
    pub last_is : last ≡ kept (j - 1)
    pub before_is : before ≡ kept (j - 2)
    pub so_far : t ≡ fill 16 (chart_row s lay set) a (j - a) t₀

  pub begin : (a b : ℕ) (t : List Float) (last before : Placed) → 0 < a → a ≤ b → last ≡ kept (a - 1) → before ≡ kept (a - 2) → Filled a b t t last before a
  begin a b t last before h l e f =
      record { some = h; from = omega arith; within = l; len = refl; last_is = e; before_is = f; so_far = fill_none 16 (chart_row s lay set) a t }

  pub turn : {a b j : ℕ} {t₀ t : List Float} {last before : Placed} → Filled a b t₀ t last before j → j < b → 16 * j + 16 ≤ length t
      → (u : List Float) (o : Placed) (r : OsuDifficultyObject) → o ≡ kept j → r ≡ new_record set j o last before → u ≡ put_record t j r → Filled a b t₀ u o last (j + 1)
  turn {a} {b} {j} {t₀} {t} {last} {before} f h m u o r x y z =
      let p : j ≡ j + 1 - 1 = omega arith in
      let g : 0 < j = f.some in
      let q : j - 1 ≡ j + 1 - 2 = omega arith in
      let w : r ≡ chart_record s lay set j = y ∙ simp (x, f.last_is, f.before_is) (record_is j) in
      record {
        some = omega arith;
        from = omega (arith, f.from);
        within = omega arith;
        len = ap length z ∙ length_put (16 * j) (row_of r) t (rw (row_length r) m) ∙ f.len;
        last_is = x ∙ ap kept p;
        before_is = f.last_is ∙ ap kept q;
        so_far = fill_step 16 (chart_row s lay set) a j t₀ t u f.from f.so_far (z ∙ ap (λ (v : OsuDifficultyObject). put_record t j v) w);
      }

  pub done : {a b j : ℕ} {t₀ t : List Float} {last before : Placed} → Filled a b t₀ t last before j → b ≤ j → t ≡ filled_range s lay set a b t₀
  unfolding filled_range
  done {a} {b} {j} {t₀} {t} f h =
      let e : j ≡ b = omega (arith, f.within) in
      f.so_far ∙ ap (λ (i : ℕ). fill 16 (chart_row s lay set) a (i - a) t₀) e

  pub nothing : (a b : ℕ) (t : List Float) → b ≤ a → t ≡ filled_range s lay set a b t
  unfolding filled_range
  nothing a b t h =
      let e : a - a ≡ b - a = omega arith in
      fill_none 16 (chart_row s lay set) a t ∙ ap (λ (n : ℕ). fill 16 (chart_row s lay set) a n t) e

pub room : (j b n a l : ℕ) → j < b → b ≤ n → n ≤ 16384 → 16 * b ≤ a → l ≡ a → (j < 65536) × (16 * j + 16 ≤ l)
room j b n a l h g k m e = (omega arith, omega arith)
