-- What opening and rating the listed charts leave. Assumes nothing.
use Prim.Native.Nat.{ℕ, suc, ◌+◌, ◌-◌, ◌*◌, ◌≤◌, ◌<◌}
use mathlib.Core.Path.{◌≡◌, refl, sym, ap, ◌∙◌}
use mathlib.Core.List.{List, []}
use native.Mathlib.Numerals.{add-one}
use native.Mathlib.Omega.{arith}
use lib.Ieee.{Float}
use lib.ListN.{length, take, drop, get_or, drop_of_length-le}
use lib.Seq.{drop-cons}
use Rattle.num_tables.specs.Parts.{row, put, fill}
use Rattle.num_tables.proofs.Rows.{fill_suc}
use Rattle.chart_opening.specs.Header.{layout_of, settings_of}
use Rattle.skills.specs.Chart as Chart
use Rattle.skills.specs.declared.Skills.{Skills}
use Rattle.skills_stars.specs.declared.Asked.{Asked}
use Rattle.calls.specs.Tables.{record_width, value_width}
use Rattle.calls.specs.Afresh.{count, fresh_values, totals_of}
use Rattle.calls.specs.Calls.{opened}
use Rattle.calls.proofs.Locality.{totals_local, open_fresh}
use Rattle.pack_order.specs.Listing.{key_width, length_at, chart_at, Inside}
use Rattle.pack.specs.Pack.{Tables, key_row, key_from, key_of, fresh_totals, opened_into, tables_after}

-- ---- One chart: the totals over the values that opening left are those worked out afresh

pub key_fresh : (asked : Asked) (b : List ℕ) (t : Tables) → record_width * count b ≤ length t.records → value_width * count b ≤ length t.values
    → key_row (key_from asked (count b) (Chart.totals_of b (layout_of b) (settings_of b).clock_rate (opened_into b t).values)) ≡ key_of asked b
unfolding key_of fresh_totals opened_into opened totals_of
key_fresh asked b t rh vh =
    ap (λ (x : Skills). key_row (key_from asked (count b) x))
    (totals_local (settings_of b) b (row value_width (opened_into b t).values) (fresh_values (settings_of b) b) (open_fresh (settings_of b) b t.records t.values rh vh).values)

-- ---- The chart at an offset, as a part of the pack

module _ (pack : List ℕ) (o : ℕ) {n : ℕ} (e : n ≡ length_at pack o) where
  pub part_chart : take (o + n - o) (drop o pack) ≡ chart_at pack o
  unfolding chart_at
  part_chart = let m : o + n - o ≡ n = omega arith in ap (λ (k : ℕ). take k (drop o pack)) (m ∙ e)

  pub part_end : Inside pack o → o + n ≤ length pack
  part_end h = rw e h.1

-- ---- All of them: the first i are opened and rated

pub record Rating (asked : Asked) (pack list : List ℕ) (keys₀ : List Float) (t₀ : Tables) (keys : List Float) (t : Tables) (n i : ℕ) : Type 0 where
  pub within : i ≤ n
  pub count : n ≡ length list
  pub filled : keys ≡ fill key_width (λ j. key_of asked (chart_at pack (get_or list j 0))) 0 i keys₀
  pub rest : tables_after pack (drop i list) t ≡ tables_after pack list t₀

module _ (asked : Asked) (pack list : List ℕ) (keys₀ : List Float) (t₀ : Tables) where
  abbrev key_at : ℕ → List Float
  key_at j = key_of asked (chart_at pack (get_or list j 0))

  pub start : Rating asked pack list keys₀ t₀ keys₀ t₀ (length list) 0
  unfolding fill
  start = record { within = omega arith; count = refl; filled = refl; rest = refl }

  module _ {keys : List Float} {t : Tables} {n i : ℕ} (g : Rating asked pack list keys₀ t₀ keys t n i) where
    pub next : i < n → (keys' row : List Float) (t' : Tables) → keys' ≡ put (key_width * i) row keys → row ≡ key_at i
        → t' ≡ opened_into (chart_at pack (get_or list i 0)) t → Rating asked pack list keys₀ t₀ keys' t' n (i + 1)
    unfolding tables_after
    next h keys' row t' k e o =
        let j : i < length list = omega (arith, g.count) in
        record {
          within = omega arith;
          count = g.count;
          filled = k ∙ (ap (λ (x : List Float). put (key_width * i) x keys) e ∙ (ap (put (key_width * i) (key_at i)) g.filled ∙ one_more));
          rest = rw add-one (ap (tables_after pack (drop (suc i) list)) o ∙ (sym (split j) ∙ g.rest));
        }
      where
        one_more : put (key_width * i) (key_at i) (fill key_width key_at 0 i keys₀) ≡ fill key_width key_at 0 (i + 1) keys₀
        one_more =
            let z : i ≡ 0 + i = omega arith in
            rw add-one (ap (λ (m : ℕ). put (key_width * m) (key_at m) (fill key_width key_at 0 i keys₀)) z ∙ sym (fill_suc key_width key_at 0 i keys₀))

        split : i < length list → tables_after pack (drop i list) t ≡ tables_after pack (drop (suc i) list) (opened_into (chart_at pack (get_or list i 0)) t)
        split j = rw (drop-cons list i 0 j)

    pub end : n ≤ i → (keys ≡ fill key_width key_at 0 (length list) keys₀) × (t ≡ tables_after pack list t₀)
    unfolding tables_after
    end h =
        let k : length list ≤ i = omega (arith, g.count) in
        let e : i ≡ length list = omega (arith, g.count, g.within) in
        let d : drop i list ≡ [] = drop_of_length-le list k in
        (g.filled ∙ ap (λ (m : ℕ). fill key_width key_at 0 m keys₀) e, sym (rw d) ∙ g.rest)
