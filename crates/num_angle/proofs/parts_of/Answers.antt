-- `num_angle::parts_of` meets its contract: the pattern of a finite number is below the infinity's. Assumes nothing.
use Prim.Native.Nat.{ℕ, ◌*◌, ◌^◌}
use native.Mathlib.Omega.{arith}
use mathlib.Core.Path.{ap₂, ◌∙◌}
use borrow.Author.Rules.{rules}
use Rattle.num_angle.proofs.Reading.{reads_units}
use Rattle.num_angle.proofs.parts_of.Goals as goal

pub returns : goal.returns
returns c =
    let b = c.bits-b in
    let p = c.parts in
    (ap₂ (λ (i j : ℕ). i * 2 ^ j) p.ensures.fact_1 p.ensures.fact_2 ∙ reads_units c.args.x b.result b.ensures.fact_2 (omega arith) c.requires, search rules)
