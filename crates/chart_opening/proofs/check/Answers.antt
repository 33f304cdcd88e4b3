-- `chart_opening::check` meets its contract. Assumes nothing.
use mathlib.Core.Path.{sym, ◌∙◌}
use Rattle.chart_opening.specs.Conditions.{first_of, chart_conditions, under_conditions, open_conditions}
use Rattle.chart_opening.proofs.Header.{parts, holds}
use Rattle.chart_opening.proofs.check.Goals as goal

pub returns-then-not-header_ok : goal.returns-then-not-header_ok
unfolding first_of chart_conditions open_conditions
returns-then-not-header_ok c = simp (sym c.header_ok.ensures ∙ c.if-not-header_ok.true)

pub settings_at-requires : goal.settings_at-requires
settings_at-requires c = (parts _ (sym c.header_ok.ensures ∙ c.if-not-header_ok.false)).long

pub check_under-requires : goal.check_under-requires
check_under-requires c = let h = sym c.header_ok.ensures ∙ c.if-not-header_ok.false in ((parts _ h).long, holds _ h)

pub returns : goal.returns
unfolding first_of chart_conditions open_conditions under_conditions
returns c = rw c.settings_at.ensures at c.check_under.ensures ∙ simp (sym c.header_ok.ensures ∙ c.if-not-header_ok.false)
