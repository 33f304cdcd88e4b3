-- `skills_playing::first_played` meets its contract. Assumes nothing.
use Rattle.skills_playing.proofs.Places.{played_opened}
use Rattle.skills_playing.proofs.first_played.Goals as goal

pub returns : goal.returns
returns c = played_opened c.open_first-count.result c.args.start c.open_first-count.ensures
