-- `osu_difficulty_object::opacity_at` meets its contract. Assumes nothing.
use Rattle.osu_difficulty_object.specs.Reading.{opacity_at}
use Rattle.osu_difficulty_object.proofs.opacity_at.Goals as goal

pub returns-then-time-start_time : goal.returns-then-time-start_time
unfolding opacity_at
returns-then-time-start_time c = simp c.if-time-start_time.true

pub returns-then-hidden : goal.returns-then-hidden
unfolding opacity_at
returns-then-hidden c = simp (c.min.ensures, c.fade_out.ensures, c.if-hidden.true, c.fade_in-shown.ensures, c.if-time-start_time.false)

pub returns : goal.returns
unfolding opacity_at
returns c = simp (c.if-hidden.false, c.fade_in-shown.ensures, c.if-time-start_time.false)
