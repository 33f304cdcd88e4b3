-- `num_elementary::log_bits` meets its contract. What is left of the steps, run from where the loop is, gives the same as all of them from the start. Assumes nothing.
use Rattle.std.proofs.Common.{◌≡◌, ℕ, ◌+◌, ◌-◌, ◌*◌, ◌^◌, ◌<◌, ap, ◌∙◌, add-zero, arith, le-leb}
use borrow.Author.Tests.{lt-leb}
use Rattle.num_elementary.specs.Log.{squared, step_bit, step_next, log_bits}
use Rattle.num_elementary.specs.LogLaws.{log_turn}
use Rattle.num_elementary.proofs.log_bits.Goals as goal
use Rattle.num_elementary.proofs.log_bits.Goals.{then-s-ge-TWO, else-s-ge-TWO}

-- a turn, after k of them
turn : (k m acc m₀ s m' acc' : ℕ) → k < 40 → log_bits (40 - k) m acc ≡ log_bits 40 m₀ 0 → s ≡ squared m → m' ≡ step_next s → acc' ≡ acc * 2 + step_bit s
    → (acc' < 2 ^ 40) × (log_bits (40 - (k + 1)) m' acc' ≡ log_bits 40 m₀ 0)
turn k m acc m₀ s m' acc' h e es em ea =
    let t = log_turn (40 - k) m acc m₀ s m' acc' (omega arith) e es em ea in
    let less : 40 - (k + 1) ≡ 40 - k - 1 = omega arith in
    (t.0, ap (λ (n : ℕ). log_bits n m' acc') less ∙ t.1)

pub loop-preserved : goal.loop-preserved
loop-preserved c =
    let l = c.loop in
    let s = c.mul_shift62-s.result in
    let es : s ≡ squared l.m = c.mul_shift62-s.ensures in
    elim c.if-s-ge-TWO.branch [
      | then-s-ge-TWO w ↦
          let t = turn l.counter l.m l.bits _ s c.if-s-ge-TWO.m c.if-s-ge-TWO.bits (omega arith) l.invariant.2 es
          (w.m-is ∙ simp (le-leb (2 ^ 63) s w.if-s-ge-TWO.true)) (w.bits-is ∙ simp (le-leb (2 ^ 63) s w.if-s-ge-TWO.true)) in
          (omega arith, t.0, t.1)
      | else-s-ge-TWO w ↦
          let t = turn l.counter l.m l.bits _ s c.if-s-ge-TWO.m c.if-s-ge-TWO.bits (omega arith) l.invariant.2 es
          (w.m-is ∙ simp (lt-leb (2 ^ 63) s w.if-s-ge-TWO.false)) (w.bits-is ∙ simp (lt-leb (2 ^ 63) s w.if-s-ge-TWO.false, add-zero)) in
          (omega arith, t.0, t.1)
    ]

pub returns : goal.returns
unfolding log_bits
returns c =
    let l = c.loop in
    let none : 0 ≡ 40 - l.counter = omega arith in
    let e : l.bits ≡ log_bits 40 c.args.m 0 = ap (λ (k : ℕ). log_bits k l.m l.bits) none ∙ l.invariant.2 in
    (e, l.invariant.1)
