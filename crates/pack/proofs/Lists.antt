-- A ranking, by what its checks answer: refused it changes nothing, carried out it leaves the listing. Assumes nothing.
use Rattle.std.specs.Prelude.{Ok, Err}
use Prim.Native.Nat.{ℕ, ◌*◌, ◌≤◌, ◌<◌}
use mathlib.Core.Path.{◌≡◌, refl, ap, ◌∙◌}
use mathlib.Core.Bool.{Bool}
use mathlib.Core.List.{List, map}
use lib.Ieee.{Float}
use lib.ListN.{length, get_or, replicate}
use Rattle.num_floats.specs.Numbers.{zero64}
use Rattle.num_tables.specs.Parts.{fill}
use Rattle.chart_opening.specs.Conditions.{first_of, if_accepted}
use Rattle.chart_opening.specs.declared.Refusal.{Refusal}
use Rattle.chart_opening.specs.Verdict.{Verdict}
use Rattle.skills_stars.specs.Stars.{finite_asked}
use Rattle.skills_stars.specs.declared.Asked.{Asked}
use Rattle.calls.specs.Tables.{entries_of}
use Rattle.calls.specs.Conditions.{Scratch, Lengths, lengths, scratch_short}
use Rattle.calls.specs.Calls.{cleared}
use Rattle.pack_order.specs.Listing as Listing
use Rattle.pack_order.specs.Listing.{most_charts, key_width, chart_at, Inside, ranked, ranked_by}
use Rattle.pack_order.specs.Laws.{ranked_rated}
use Rattle.pack.specs.Pack.{key_of, listed_verdict, rank_verdict, Tables, tables_after, buffers, rank_answer, ranked_buffers, rank_leaves, listed_check}
use Rattle.pack.proofs.Checks.{lies, checks, each, not_many, accepted}

pub four : (asked : Asked) (b : List ℕ) → length (key_of asked b) ≡ key_width
unfolding key_of
four asked b = refl

-- scratch is cleared by its lengths
cleared_same : (x y : Scratch) → lengths x ≡ lengths y → cleared x ≡ cleared y
unfolding cleared
cleared_same x y e =
    λ i. record { aim = replicate (e i).aim zero64; aim_no_sliders = replicate (e i).aim_no_sliders zero64; speed = replicate (e i).speed zero64; flashlight = replicate (e i).flashlight zero64 }

-- ---- The answer

module _ (asked : Asked) (r v : ℕ) (l : Lengths) (pack list : List ℕ) where
  pub checked : length list ≤ most_charts → {entries : ℕ} {short finite : Bool} {w : Verdict}
      → entries ≡ entries_of r v → short ≡ scratch_short l → finite ≡ finite_asked asked
      → w ≡ first_of (map (listed_check entries short finite pack) list) → w ≡ rank_verdict asked r v l pack list
  checked h e s f w =
      w ∙ ((λ i. first_of (map (listed_check (e i) (s i) (f i) pack) list)) ∙ (ap first_of (checks asked r v l pack list) ∙ not_many asked r v l pack list h))

module _ (asked : Asked) (pack list : List ℕ) (t : Tables) (x : Scratch) where
  -- ---- What is left
  pub refused_leaves : {q : Refusal} → Err q ≡ rank_answer asked pack (buffers list t x) → buffers list t x ≡ rank_leaves asked pack (buffers list t x)
  unfolding rank_leaves if_accepted
  refused_leaves e = ap (λ (v : Verdict). if_accepted v (ranked_buffers asked pack (buffers list t x)) (λ r. buffers list t x)) e

  pub carried_leaves : (Ok tt) ≡ rank_answer asked pack (buffers list t x) → ranked_buffers asked pack (buffers list t x) ≡ rank_leaves asked pack (buffers list t x)
  unfolding rank_leaves if_accepted
  carried_leaves e = ap (λ (v : Verdict). if_accepted v (ranked_buffers asked pack (buffers list t x)) (λ r. buffers list t x)) e

  -- ---- Carried out
  module _ (a : rank_answer asked pack (buffers list t x) ≡ Ok tt) where
    pub few : length list ≤ most_charts
    unfolding rank_answer
    few = (accepted asked (length t.records) (length t.values) (lengths x) pack list a).0

    pub all_pass : first_of (map (listed_verdict asked (length t.records) (length t.values) (lengths x) pack) list) ≡ Ok tt
    unfolding rank_answer
    all_pass = (accepted asked (length t.records) (length t.values) (lengths x) pack list a).1

    pub all-inside : (i : ℕ) → i < length list → Inside pack (get_or list i 0)
    all-inside i h =
        (lies asked (length t.records) (length t.values) (lengths x) pack (get_or list i 0)
        (each (listed_verdict asked (length t.records) (length t.values) (lengths x) pack) list all_pass i h)).0

    pub sortable : (keys : List Float) → key_width * length list ≤ length keys → Listing.Sortable keys pack list
    sortable keys h = record { room = h; inside = all-inside }

  pub listing : (keys₀ : List Float) → key_width * length list ≤ length keys₀ → {keys : List Float}
      → keys ≡ fill key_width (λ i. key_of asked (chart_at pack (get_or list i 0))) 0 (length list) keys₀ → ranked_by keys pack list ≡ ranked (key_of asked) pack list
  listing keys₀ h e = ap (λ (k : List Float). ranked_by k pack list) e ∙ ranked_rated (key_of asked) (four asked) pack list keys₀ h

  pub all_listed : {l : List ℕ} {u : Tables} (y : Scratch) {z : Scratch} → l ≡ ranked (key_of asked) pack list → u ≡ tables_after pack list t → z ≡ cleared y
      → length y.aim ≡ length x.aim → length y.aim_no_sliders ≡ length x.aim_no_sliders → length y.speed ≡ length x.speed
      → length y.flashlight ≡ length x.flashlight
      → buffers l u z ≡ ranked_buffers asked pack (buffers list t x)
  unfolding ranked_buffers
  all_listed y e f g j k m n = λ i. buffers (e i) (f i) ((g ∙ cleared_same y x (λ p. record { aim = j p; aim_no_sliders = k p; speed = m p; flashlight = n p })) i)
