-- `station::asked_of` meets its contract. Assumes nothing.
use Rattle.station.specs.Codes.{asked_of}
use Rattle.station.proofs.asked_of.Goals as goal

pub returns : goal.returns
unfolding asked_of
returns c =
    rw (c.from_word-mods.ensures, c.number_at-scale.ensures, c.number_at-strength.ensures, c.number_at-base_multiplier.ensures, c.number_at-overall_difficulty.ensures, c.number_at-approach_rate.ensures)
