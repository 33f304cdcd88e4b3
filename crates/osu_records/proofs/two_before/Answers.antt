-- `osu_records::two_before` meets its contract. Assumes nothing.
use mathlib.Core.Path.{◌∙◌}
use Rattle.osu_records.proofs.Filling.{no_second}
use Rattle.osu_records.proofs.two_before.Goals as goal

pub returns-then-j-lt2 : goal.returns-then-j-lt2
returns-then-j-lt2 c = c.requires.2 ∙ no_second _ _ _ _ c.if-j-lt2.true
