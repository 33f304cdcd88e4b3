-- `chart_players::length_verdict` meets its contract. Assumes nothing.
use Rattle.chart_players.proofs.length_verdict.Goals as goal

pub returns-then-long : goal.returns-then-long
returns-then-long c = simp c.if-long.true
