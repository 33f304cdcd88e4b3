-- `station::difficulty_open` meets its contract: the header has the settings. Assumes nothing.
use mathlib.Core.Path.{sym, ap, ◌∙◌}
use lib.ListN.{length}
use Rattle.num_tables.specs.Parts.{part}
use Rattle.calls.specs.Calls.{state}
use Rattle.chart_opening.specs.Conditions.{if_accepted}
use Rattle.chart_opening.specs.Verdict.{Verdict}
use Rattle.calls.specs.Calls.{opened, open_answer, open_leaves}
use Rattle.calls_players.proofs.Own.{opening_short, own_opening, own_leaves}
use Rattle.station.specs.Codes.{verdict_code}
use Rattle.station.proofs.difficulty_open.Goals as goal

pub returns-then-chart-lt-HEADER_SIZE : goal.returns-then-chart-lt-HEADER_SIZE
unfolding open_answer open_leaves if_accepted
returns-then-chart-lt-HEADER_SIZE c =
    let a = c.args in
    let e = opening_short (length a.records.now) (length a.values.now) a.chart.now c.if-chart-lt-HEADER_SIZE.true in
    record {
      answer = c.code.ensures ∙ ap verdict_code (sym e);
      leaves = sym (ap (λ (v : Verdict). if_accepted v (opened (state a.chart.now a.records.now a.values.now)) (λ q. (state a.chart.now a.records.now a.values.now))) e);
    }

pub returns : goal.returns
unfolding part
returns c =
    let a = c.args in
    let h = c.if-chart-lt-HEADER_SIZE.false in
    let e = c.difficulty_open_as.ensures in
    record {
      answer = e.answer ∙ ap verdict_code (own_opening (state a.chart.now a.records.now a.values.now) h);
      leaves = e.leaves ∙ own_leaves (state a.chart.now a.records.now a.values.now) h;
    }
