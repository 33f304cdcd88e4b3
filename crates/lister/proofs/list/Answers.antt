-- `lister::list` meets its contract: 65,536 bytes are enough for every listing. Assumes nothing.
use Rattle.print_listing.proofs.Room.{listed}
use Rattle.lister.proofs.list.Goals as goal

pub returns : goal.returns
returns c = listed c.args.chart.now c.put_chart.ensures c.requires
