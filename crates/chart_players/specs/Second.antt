-- Document 02, order 8: "The first player's settings are the header's; the second's are 48 lent bytes, checked and used as if in header bytes 32 to 79".
-- Definitions only.
use Rattle.std.specs.Prelude.{ℕ, Bool, cond, not, List, [], ◌∷◌, ◌++◌, leb, eqb, length, replicate}
use Rattle.num_tables.specs.Parts.{put}
use Rattle.chart_fields.specs.Limits.{header_size}
use Rattle.chart_opening.specs.Limits.{settings_start, settings_size}
use Rattle.chart_opening.specs.Header.{header_ok}
use Rattle.chart_opening.specs.Conditions.{refuse_if, first_of}
use Rattle.chart_opening.specs.declared.Refusal.TheVariants.{Header, Setting}
use Rattle.chart_opening.specs.Verdict.{Verdict}

abbrev pub is_settings : List ℕ → Bool
is_settings t = eqb (length t) settings_size

-- bytes of another length are no settings; zeros stand for them, so that no flag is wrong
unfoldable pub settings_for : List ℕ → List ℕ
settings_for t = cond (is_settings t) t (replicate settings_size 0)

-- the second player's chart: the one that is lent, with those bytes in its header
unfoldable pub under : List ℕ → List ℕ → List ℕ
under t b = cond (leb header_size (length b)) (put settings_start (settings_for t) b) b

-- "any other length is 2 for that player, in readings right after 1"
unfoldable pub size_conditions : List ℕ → List ℕ → List Verdict
size_conditions t b = refuse_if (not (header_ok (under t b))) Header ∷ refuse_if (not (is_settings t)) Setting ∷ []

-- what a call answers the second player, where it answers v of that player's chart
unfoldable pub second_verdict : List ℕ → List ℕ → Verdict → Verdict
second_verdict t b v = first_of (size_conditions t b ++ (v ∷ []))

-- "An edit refused under either setting is refused for both"; "The answer names the first player's refusal if both refuse"
unfoldable pub both_verdict : Verdict → Verdict → Verdict
both_verdict first second = first_of (first ∷ second ∷ [])
