-- `print_lines::open` meets its contract: what `check` accepts is ready to be read. Assumes nothing.
use Rattle.print_lines.proofs.Opened.{long, fits}
use Rattle.print_lines.proofs.tables.open.Goals as goal

pub layout_of-lay-requires : goal.layout_of-lay-requires
layout_of-lay-requires c = long _ _ _ c.check.ensures c.in_ok-check.was

pub settings_at-set-requires : goal.settings_at-set-requires
settings_at-set-requires c = long _ _ _ c.check.ensures c.in_ok-check.was

pub returns : goal.returns
returns c = fits _ _ _ c.check.ensures c.in_ok-check.was _ _ c.layout_of-lay.ensures c.settings_at-set.ensures
