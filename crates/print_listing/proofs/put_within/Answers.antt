-- `print_listing::put_within` meets its contract: the tables are long enough, so that opening answers by conditions 1 to 6. Assumes nothing.
use Rattle.print_text.specs.Buffer.{same_text}
use Rattle.print_listing.proofs.Calls.{refused_text, accepted_text, accepted_filled}
use Rattle.print_listing.proofs.put_within.Goals as goal

pub put_opened-requires : goal.put_opened-requires
put_opened-requires c =
    let a = c.args in
    let m = c.requires.chart_len_bound in (
      accepted_filled a.chart.now a.records.now a.values.now m.0 m.1 _ c.in-Ok.is c.open.ensures.answer _ c.open.ensures.leaves,
      c.requires.scratch_room,
    )

pub returns-in-Err : goal.returns-in-Err
returns-in-Err c =
    let a = c.args in
    let m = c.requires.chart_len_bound in
    same_text (refused_text a.chart.now a.records.now a.values.now m.0 m.1 _ _ c.in-Err.is c.open.ensures.answer) c.put_refusal.ensures

pub returns-in-Ok : goal.returns-in-Ok
returns-in-Ok c =
    let a = c.args in
    let m = c.requires.chart_len_bound in
    same_text (accepted_text a.chart.now a.records.now a.values.now m.0 m.1 _ c.in-Ok.is c.open.ensures.answer) c.put_opened.ensures
