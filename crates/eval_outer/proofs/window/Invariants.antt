-- `eval_outer::window`: the slots from k on hold their records.
use Prim.Native.Nat.{◌+◌}
use Rattle.osu_records.specs.Part.{first_place}
use Rattle.eval_outer.specs.Records.{record_at, record_of}
use Rattle.eval_outer.proofs.Slots.{Filled}
use Rattle.eval_outer.proofs.window.Given as goal

abbrev pub invariant-loop-k : goal.invariant-loop-k
invariant-loop-k l = Filled (λ k. record_of l.rs (first_place l.j + k)) (record_at l.rs l.first) l.k l.w
