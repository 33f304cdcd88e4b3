-- `print_listing::put_place` meets its contract: the reading is carried out, and gives the table's row. Assumes nothing.
use mathlib.Core.Path.{ap}
use Rattle.print_text.specs.Buffer.{same_text}
use Rattle.calls.specs.Calls.{Outcome}
use Rattle.print_lines.specs.Lines.{place_text}
use Rattle.print_listing.proofs.Calls.{read_row, read_carried_out}
use Rattle.print_listing.proofs.put_place.Goals as goal

pub returns-in-Err : goal.returns-in-Err
returns-in-Err c =
    let a = c.args in
    absurd (read_carried_out a.chart.now a.values.now c.requires.0 a.j c.requires.1 c.requires.2 _ _ c.in-Err.is (ap (λ (x : Outcome). x.answer) c.read_values.ensures))

pub returns-in-Ok : goal.returns-in-Ok
returns-in-Ok c =
    let a = c.args in
    same_text (ap (place_text a.j) (read_row a.chart.now a.values.now c.requires.0 a.j c.requires.1 c.requires.2 _ _ c.in-Ok.is (ap (λ (x : Outcome). x.answer) c.read_values.ensures))) c.put_values.ensures
