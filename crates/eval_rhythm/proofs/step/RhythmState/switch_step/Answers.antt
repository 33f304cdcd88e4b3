-- `eval_rhythm::step::RhythmState::switch_step` meets its contract. Assumes nothing.
use Prim.Native.Nat.{ℕ}
use mathlib.Core.Path.{refl, sym, ap, ◌∙◌}
use mir.Syntax.{w32}
use mir.Val.{SFits}
use lib.Dec.{ltb}
use Rattle.eval_rhythm.specs.Counts.{entry_of}
use Rattle.eval_rhythm.specs.Step.{walk_of}
use Rattle.eval_rhythm.proofs.Signed.{back, back_ok}
use Rattle.eval_rhythm.proofs.History.{switch_is}
use borrow.Author.Rules.{rules}
use Rattle.eval_rhythm.proofs.step.RhythmState.switch_step.Goals as goal

pub returns-clause-turn : goal.returns-clause-turn
returns-clause-turn c =
    let s = c.args.self in
    let z : SFits w32 s.island.delta = search rules in
    let place = c.unwrap_or-place.ensures ∙ c.search-found.ensures.place in
    let repeated = c.is_some-repeated.ensures ∙ c.search-found.ensures.found ∙ ap (λ (k : ℕ). ltb k s.n) (sym place) in
    let entry = c.entry_of-entry.ensures ∙ ap (λ (k : ℕ). entry_of c.args.counts.now s.n k s.island s.prev_island) (sym c.unwrap_or-place.ensures) in
    let last = rw repeated at (simp (back _ z) at c.last_ratio-last.ensures) in
    let next = rw repeated at (simp c.to_i32.ensures at (simp (back_ok c.to_i32.result c.to_i32.type_inv) at c.switched-state.ensures)) in
    switch_is (walk_of s c.args.counts.now) _ _ _ _ _ _ _ _ _ _ _ _ _ _ _
    place entry refl c.ratio-ratio.ensures c.window_of-tap_window.ensures c.tapness-tap.ensures last next
