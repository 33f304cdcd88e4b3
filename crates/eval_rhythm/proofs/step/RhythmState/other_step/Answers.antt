-- `eval_rhythm::step::RhythmState::other_step` meets its contract. Assumes nothing.
use Rattle.eval_rhythm.specs.Step.{step_by}
use Rattle.eval_rhythm.proofs.Signed.{back_ok}
use Rattle.eval_rhythm.proofs.History.{near_when}
use Rattle.eval_rhythm.proofs.step.RhythmState.other_step.Goals as goal

pub returns-then-self : goal.returns-then-self
unfolding step_by
returns-then-self c =
    let near = near_when c.args.self c.args.d c.args.eps c.requires.0 c.if-self.true in
    λ es decay window.
    simp (c.progressed.ensures, near, c.if-self.true)
    (simp (back_ok c.to_i32.result c.to_i32.type_inv) (simp c.to_i32.ensures))

pub returns-then-d-eps : goal.returns-then-d-eps
unfolding step_by
returns-then-d-eps c =
    λ es decay window.
    simp (c.began.ensures, c.scaled-r.ensures, c.scaled.ensures, c.effective-ratio.ensures, c.if-d-eps.true, c.if-self.false)
    (simp (back_ok c.to_i32-then-d-eps.result c.to_i32-then-d-eps.type_inv) (simp c.to_i32-then-d-eps.ensures))

pub returns : goal.returns
unfolding step_by
returns c = λ es decay window. simp (c.if-d-eps.false, c.if-self.false)
