-- `chart_inserting::put_word` meets its contract. Assumes nothing.
use Rattle.chart_inserting.specs.Insert.{word_bytes}
use Rattle.chart_inserting.proofs.put_word.Goals as goal

pub returns : goal.returns
unfolding word_bytes
returns c = rw c.to_le_bytes.ensures at c.put.ensures
