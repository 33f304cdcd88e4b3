-- Document 01, "What each call answers": the conditions that a call tries, in their order, each with its number and place. Definitions only.
use Rattle.std.specs.Prelude.{ℕ, ◌≡◌, Bool, cond, not, ◌||◌, List, [], ◌∷◌, ◌++◌, ltb, Float, Ok, Err}
use Rattle.chart_fields.specs.Search.{first_below}
use Rattle.chart_fields.specs.Objects.{bad_fields, falls}
use Rattle.chart_fields.specs.declared.Layout.{Layout}
use Rattle.chart_entries.specs.Entries.{bad_entries}
use Rattle.chart_opening.specs.Header.{layout_of, header_ok, settings_of, settings_ok, too_long}
use Rattle.chart_opening.specs.declared.Settings.{Settings}
use Rattle.chart_opening.specs.declared.Refusal.{Refusal}
use Rattle.chart_opening.specs.declared.Refusal.TheVariants.{Header, Setting, Object, Entries, Order, Length, Table, Place, Room, NotFinite}
use Rattle.chart_opening.specs.Verdict.{Verdict}

-- the number of a refusal in the list of conditions
abbrev pub refusal_number : Refusal → ℕ
refusal_number Header = 1
refusal_number Setting = 2
refusal_number (Object i) = 3
refusal_number (Entries i) = 4
refusal_number (Order i) = 5
refusal_number Length = 6
refusal_number Table = 7
refusal_number Place = 8
refusal_number Room = 9
refusal_number NotFinite = 10

-- "3, 4 and 5 also return the lowest offending place, others 0"
abbrev pub refusal_place : Refusal → ℕ
refusal_place Header = 0
refusal_place Setting = 0
refusal_place (Object i) = i
refusal_place (Entries i) = i
refusal_place (Order i) = i
refusal_place Length = 0
refusal_place Table = 0
refusal_place Place = 0
refusal_place Room = 0
refusal_place NotFinite = 0

-- ---- A list of conditions

-- a condition that is met where a test holds
abbrev pub refuse_if : Bool → Refusal → Verdict
refuse_if test r = cond test (Err r) (Ok tt)

-- a condition that is met at the lowest of places 0 to n - 1 at which a test holds
abbrev pub refuse_at : (ℕ → Refusal) → (ℕ → Bool) → ℕ → Verdict
refuse_at r bad n = refuse_if (ltb (first_below bad n) n) (r (first_below bad n))

-- "In this order": the first condition of a list that is met; "A call that meets no condition of its list is carried out"
unfoldable pub first_of : List Verdict → Verdict
first_of [] = Ok tt
first_of ((Ok tt) ∷ vs) = first_of vs
first_of (Err r ∷ vs) = Err r

-- x where a call is carried out, and what is made of the refusal where it is not
unfoldable pub if_accepted {ℓ} : {X : Type ℓ} → Verdict → X → (Refusal → X) → X
if_accepted (Ok tt) x f = x
if_accepted (Err r) x f = f r

-- ---- The chart

-- an object that meets condition 3, 4 or 5
unfoldable pub at_fault : List ℕ → Layout → ℕ → Bool
at_fault s lay i = (bad_fields s lay i || falls s lay i) || bad_entries s lay i

-- conditions 3 to 6; "Each is tried over the whole chart before the next"
unfoldable pub body_conditions : List ℕ → Layout → Float → List Verdict
body_conditions s lay clock =
    refuse_at Object (bad_fields s lay) lay.n
    ∷ refuse_at Entries (bad_entries s lay) lay.n
    ∷ refuse_at Order (falls s lay) lay.n
    ∷ refuse_if (too_long s lay clock) Length
    ∷ []

-- of a chart, by its own header
abbrev pub body_of : List ℕ → List Verdict
body_of s = body_conditions s (layout_of s) (settings_of s).clock_rate

-- conditions 1 to 6
unfoldable pub chart_conditions : List ℕ → List Verdict
chart_conditions s = refuse_if (not (header_ok s)) Header ∷ refuse_if (not (settings_ok (settings_of s))) Setting ∷ body_of s

-- the chart meets none of them
abbrev pub Opens : List ℕ → Type 0
Opens s = first_of (chart_conditions s) ≡ Ok tt

-- ---- Opening

-- "7 a lent table with fewer than N entries", where `entries` is the number of entries of the shortest lent table
abbrev pub too_few : ℕ → ℕ → Verdict
too_few entries n = refuse_if (ltb entries n) Table

-- conditions 2 to 7 under given settings
unfoldable pub under_conditions : List ℕ → Settings → ℕ → List Verdict
under_conditions s t entries =
    refuse_if (not (settings_ok t)) Setting ∷ body_conditions s (layout_of s) t.clock_rate ++ (too_few entries (layout_of s).n ∷ [])

-- conditions 1 to 7
unfoldable pub open_conditions : List ℕ → ℕ → List Verdict
open_conditions s entries = chart_conditions s ++ (too_few entries (layout_of s).n ∷ [])

abbrev pub open_verdict : List ℕ → ℕ → Verdict
open_verdict s entries = first_of (open_conditions s entries)
