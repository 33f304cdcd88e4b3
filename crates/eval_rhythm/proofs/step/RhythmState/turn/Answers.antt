-- `eval_rhythm::step::RhythmState::turn` meets its contract. Assumes nothing.
use Rattle.eval_rhythm.specs.Step.{walk_of}
use Rattle.eval_rhythm.proofs.History.{turn_switch, turn_other}
use Rattle.eval_rhythm.proofs.step.RhythmState.turn.Goals as goal

pub returns-then-switches-clause-turn : goal.returns-then-switches-clause-turn
returns-then-switches-clause-turn c =
    (turn_switch (walk_of c.args.self c.args.counts.now) _ _ _ _ _ _ _ _ _ c.new-d.ensures c.switches.ensures _ c.if-switches.true c.switch_step.ensures.turn c.switch_step.ensures.compared).0

pub returns-then-switches-clause-compared : goal.returns-then-switches-clause-compared
returns-then-switches-clause-compared c =
    (turn_switch (walk_of c.args.self c.args.counts.now) _ _ _ _ _ _ _ _ _ c.new-d.ensures c.switches.ensures _ c.if-switches.true c.switch_step.ensures.turn c.switch_step.ensures.compared).1

pub returns-clause-turn : goal.returns-clause-turn
returns-clause-turn c =
    (turn_other (walk_of c.args.self c.args.counts.now) _ _ _ _ _ _ _ _ _ c.new-d.ensures c.switches.ensures c.if-switches.false (c.other_step.ensures c.args.counts.now c.args.decay c.args.window)).0

pub returns-clause-compared : goal.returns-clause-compared
returns-clause-compared c =
    (turn_other (walk_of c.args.self c.args.counts.now) _ _ _ _ _ _ _ _ _ c.new-d.ensures c.switches.ensures c.if-switches.false (c.other_step.ensures c.args.counts.now c.args.decay c.args.window)).1
