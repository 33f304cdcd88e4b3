-- `station::difficulty_totals_while_playing` meets its contract: the header has the settings. Assumes nothing.
use mathlib.Core.Path.{sym, ap, ◌∙◌}
use mathlib.Core.List.{[]}
use lib.ListN.{length}
use Rattle.num_tables.specs.Parts.{part}
use Rattle.calls.specs.Calls.{Outcome, refuse, state}
use Prim.Native.Nat.{◌/◌}
use Rattle.calls.specs.Tables.{totals_width}
use Rattle.calls.specs.Afresh.{playing}
use Rattle.calls.specs.Conditions.{lengths, figure}
use Rattle.calls.specs.Calls.{list_after}
use Rattle.calls_figures.specs.Answers.{scratch_of}
use Rattle.calls_players.specs.Statement.{Reads}
use Rattle.calls_players.proofs.Own.{verdict_short, outcome_short, scratch_short_lem, own_verdict, own_outcome, own_scratch}
use Rattle.station.specs.Codes.{verdict_code}
use Rattle.station.proofs.difficulty_totals_while_playing.Goals as goal

pub returns-then-chart-lt-HEADER_SIZE : goal.returns-then-chart-lt-HEADER_SIZE
unfolding refuse list_after
returns-then-chart-lt-HEADER_SIZE c =
    let a = c.args in
    let x = (scratch_of a.aim.now a.aim_no_sliders.now a.speed.now a.flashlight.now) in
    let h = c.if-chart-lt-HEADER_SIZE.true in record {
      answer = c.code.ensures ∙ ap verdict_code (sym (verdict_short (figure (playing (length a.list.now / totals_width)) (lengths x)) (state a.chart.now [] a.values.now) h));
      list = ap (λ (o : Outcome). list_after o.answer a.list.now) (sym (outcome_short (figure (playing (length a.list.now / totals_width)) (lengths x)) (state a.chart.now [] a.values.now) h));
      scratch = sym (scratch_short_lem (playing (length a.list.now / totals_width)) (state a.chart.now [] a.values.now) x h);
    }

pub returns : goal.returns
unfolding part Reads
returns c =
    let a = c.args in
    let x = (scratch_of a.aim.now a.aim_no_sliders.now a.speed.now a.flashlight.now) in
    let h = c.if-chart-lt-HEADER_SIZE.false in
    let e = c.difficulty_totals_while_playing_as.ensures in record {
      answer = e.answer ∙ ap verdict_code (own_verdict (state a.chart.now [] a.values.now) h (figure (playing (length a.list.now / totals_width)) (lengths x)));
      list = e.list ∙ ap (λ (o : Outcome). list_after o.answer a.list.now) (own_outcome (state a.chart.now [] a.values.now) h (figure (playing (length a.list.now / totals_width)) (lengths x)) tt);
      scratch = e.scratch ∙ (own_scratch (state a.chart.now [] a.values.now) h (playing (length a.list.now / totals_width)) x);
    }
