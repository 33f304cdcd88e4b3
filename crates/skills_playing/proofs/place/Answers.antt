-- `skills_playing::place` meets its contract. Assumes nothing.
use Rattle.num_tables.specs.Parts.{row}
use Rattle.skills_playing.proofs.Places.{stepped}
use Rattle.skills_playing.proofs.place.Goals as goal

pub returns : goal.returns
returns c = stepped {vs = row 5 c.args.values.now} c.requires.1 c.close_sections-closed.ensures c.current_strain-current.result c.strain_value_at-strain.result c.max.result c.current_strain-current.ensures c.strain_value_at-strain.ensures c.max.ensures
