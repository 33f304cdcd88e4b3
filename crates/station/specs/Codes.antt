-- A call's answer as one number, and the numbers that it writes. Definitions only.
use Rattle.std.specs.Prelude.{List, [], ◌∷◌, Bool, cond, ◌||◌, ℕ, ◌+◌, ◌*◌, ◌/◌, ◌%◌, ltb, eqb, Float, pos, length, get_or, Ok, Err}
use Rattle.std.specs.Float.Ieee as Ieee
use Rattle.std.specs.Float.{nan, binary64}
use Rattle.chart_opening.specs.Header.{header_ok}
use Rattle.chart_opening.specs.Conditions.{refusal_number, refusal_place, if_accepted}
use Rattle.chart_opening.specs.declared.Refusal.{Refusal}
use Rattle.chart_opening.specs.declared.Refusal.TheVariants.{Header, Table}
use Rattle.chart_opening.specs.Verdict.{Verdict}
use Rattle.num_floats.specs.Numbers.{zero64, one64, two64, three64}
use Rattle.osu_records.specs.Rows.{row_of}
use Rattle.eval_aim.specs.declared.AimRule.{AimRule}
use Rattle.eval_aim.specs.declared.AimRule.TheVariants.{TooFew, Spinner, Acute, Wide}
use Rattle.skills.specs.declared.Skills.{Skills}
use Rattle.skills_counts.specs.declared.ObjectCounts.{ObjectCounts}
use Rattle.skills_rating.specs.Mods.{mods_of}
use Rattle.skills_stars.specs.declared.Asked.{Asked}
use Rattle.skills_stars.specs.declared.Ratings.{Ratings}
use Rattle.calls.specs.Tables.{value_entries}
use Rattle.calls.specs.Afresh.{Finding, aim_is, rhythm_is, Figure, Amount, totals_are, counts_are, played_are, ratings_are}
use Rattle.calls.specs.Conditions.{Scratch, Lengths, lengths, scratch_short, Operation, figure, figure_verdict}
use Rattle.chart_players.specs.Second.{under, second_verdict}
use Rattle.calls_players.specs.Second.{seen, outcome_as}
use Rattle.calls.specs.Calls.{Answer, refused, replaced, inserted, removed, record_is, values_are, detail_is, figure_is, State, Outcome, refuse, execute, outcome, cleared}
use Rattle.pack.specs.Pack.{Buffers, rank_verdict, ranked_buffers}

-- 2^32
abbrev pub place_span : ℕ
place_span = 4294967296

-- a refusal's number times 2^32 plus its place; `told` of proofs/Told reads both back
abbrev pub code_of : Refusal → ℕ
code_of r = refusal_number r * place_span + refusal_place r % place_span

-- of opening, 0 where it is carried out
abbrev pub verdict_code : Verdict → ℕ
verdict_code (Ok tt) = 0
verdict_code (Err r) = code_of r

-- of the other calls
abbrev pub answer_code : Answer → ℕ
answer_code (refused r) = code_of r
answer_code replaced = 0
answer_code inserted = 0
answer_code removed = 0
answer_code (record_is x) = 0
answer_code (values_are v) = 0
answer_code (detail_is x) = 0
answer_code (figure_is a) = 0

-- in document 01's order: aim, aim without sliders, speed, flashlight
abbrev pub totals_row : Skills → List Float
totals_row t = t.aim ∷ t.aim_no_sliders ∷ t.speed ∷ t.flashlight ∷ []

-- document 02's order 2: weighted strains of aim, aim without sliders, speed; weighted sliders of the last two; difficult sliders; relevant notes
abbrev pub counts_row : ObjectCounts → List Float
counts_row c =
    c.aim_difficult_strain_count ∷ c.aim_no_sliders_difficult_strain_count ∷ c.speed_difficult_strain_count
    ∷ c.aim_no_sliders_top_weighted_slider_count ∷ c.speed_top_weighted_slider_count ∷ c.aim_difficult_slider_count ∷ c.speed_note_count ∷ []

abbrev pub counts_width : ℕ
counts_width = 7

-- order 5: aim, speed and flashlight ratings, then the stars
abbrev pub ratings_row : Ratings → List Float
ratings_row r = r.aim ∷ r.speed ∷ r.flashlight ∷ r.stars ∷ []

abbrev pub ratings_width : ℕ
ratings_width = 4

-- totals while playing go into a list of their own (`list_after`)
abbrev pub amount_row : Amount → List Float
amount_row (totals_are t) = totals_row t
amount_row (counts_are c) = counts_row c
amount_row (played_are ts) = []
amount_row (ratings_are r) = ratings_row r

-- the rule that answered: 0 too few predecessors, 1 a spinner, 2 the acute side of the last max, 3 its wide side
abbrev pub rule_number : AimRule → Float
rule_number TooFew = zero64
rule_number Spinner = one64
rule_number Acute = two64
rule_number Wide = three64

-- aim: its value, both velocities, the five bonuses and the rule, then the same without sliders; rhythm: its value and the comparisons
abbrev pub finding_row : Finding → List Float
finding_row (aim_is x p y q) =
    x ∷ p.curr_vel ∷ p.prev_vel ∷ p.wide ∷ p.acute ∷ p.wiggle ∷ p.vel_change ∷ p.slider ∷ rule_number p.rule
    ∷ y ∷ q.curr_vel ∷ q.prev_vel ∷ q.wide ∷ q.acute ∷ q.wiggle ∷ q.vel_change ∷ q.slider ∷ rule_number q.rule ∷ []
finding_row (rhythm_is x n) = x ∷ Ieee.of_int binary64 (pos n) ∷ []

abbrev pub aim_width : ℕ
aim_width = 18

abbrev pub rhythm_width : ℕ
rhythm_width = 2

-- the numbers that a call writes
abbrev pub numbers_of : Answer → List Float
numbers_of (refused r) = []
numbers_of replaced = []
numbers_of inserted = []
numbers_of removed = []
numbers_of (record_is x) = row_of x
numbers_of (values_are v) = v
numbers_of (detail_is x) = finding_row x
numbers_of (figure_is a) = amount_row a

-- ---- Room for the answer: a slice that is too short counts in condition 7

-- of a reading, 7 right after 1
abbrev pub no_room : List ℕ → Refusal
no_room b = cond (header_ok b) Table Header

unfoldable pub read_into : ℕ → ℕ → Operation → State → Outcome
read_into need room a st = cond (ltb room need) (refuse st (no_room st.chart)) (outcome a st)

-- of a figure, as scratch does
unfoldable pub into_verdict : Figure → Bool → Scratch → State → Verdict
into_verdict f cramped x st = figure_verdict f st.chart (value_entries (length st.values)) (cramped || scratch_short (lengths x))

unfoldable pub figure_into : Figure → Bool → Scratch → State → Outcome
figure_into f cramped x st = if_accepted (into_verdict f cramped x st) (execute (figure f (lengths x)) st) (refuse st)

unfoldable pub scratch_into : Figure → Bool → Scratch → State → Scratch
scratch_into f cramped x st = if_accepted (into_verdict f cramped x st) (cleared x) (λ r. x)

-- ---- The same for the second player, whose settings t come with the call: 7 comes right after 1 and settings of another length

unfoldable pub read_into_as : List ℕ → ℕ → ℕ → Operation → State → Outcome
read_into_as t need room a st =
    cond (ltb room need) (if_accepted (second_verdict t st.chart (Err Table)) (outcome_as t a st) (refuse st)) (outcome_as t a st)

unfoldable pub into_verdict_as : List ℕ → Figure → Bool → Scratch → State → Verdict
into_verdict_as t f cramped x st =
    second_verdict t st.chart (figure_verdict f (under t st.chart) (value_entries (length st.values)) (cramped || scratch_short (lengths x)))

unfoldable pub figure_into_as : List ℕ → Figure → Bool → Scratch → State → Outcome
figure_into_as t f cramped x st =
    if_accepted (into_verdict_as t f cramped x st) (record { answer = (execute (figure f (lengths x)) (seen t st)).answer; leaves = st }) (refuse st)

unfoldable pub scratch_into_as : List ℕ → Figure → Bool → Scratch → State → Scratch
scratch_into_as t f cramped x st = if_accepted (into_verdict_as t f cramped x st) (cleared x) (λ r. x)

-- ---- What comes with ratings: a word of mods, a word whose bits 0 and 1 say whether attraction strength and start scale are given, and five numbers

abbrev pub numbers_width : ℕ
numbers_width = 5

unfoldable pub asked_of : ℕ → ℕ → List Float → Asked
asked_of mods given numbers = record {
  mods = mods_of mods (eqb (given % 2) 1) (get_or numbers 3 nan) (eqb (given / 2 % 2) 1) (get_or numbers 4 nan);
  approach_rate = get_or numbers 0 nan;
  overall_difficulty = get_or numbers 1 nan;
  base_multiplier = get_or numbers 2 nan;
}

-- no room for the ratings, or too few numbers
unfoldable pub ratings_cramped : ℕ → ℕ → Bool
ratings_cramped room numbers = ltb room ratings_width || ltb numbers numbers_width

-- ---- Packs (order 13): too few numbers count in condition 7, as short scratch does

abbrev pub no_scratch : Lengths
no_scratch = record { aim = 0; aim_no_sliders = 0; speed = 0; flashlight = 0 }

unfoldable pub rank_verdict_into : Asked → Bool → List ℕ → Buffers → Verdict
rank_verdict_into asked cramped pack x =
    rank_verdict asked (length x.tables.records) (length x.tables.values) (cond cramped no_scratch (lengths x.scratch)) pack x.list

unfoldable pub rank_into : Asked → Bool → List ℕ → Buffers → Buffers
rank_into asked cramped pack x = if_accepted (rank_verdict_into asked cramped pack x) (ranked_buffers asked pack x) (λ r. x)
