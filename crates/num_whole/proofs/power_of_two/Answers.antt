-- `num_whole::power_of_two` meets its contract: nothing is shifted out for a d below 64. Assumes nothing.
use Rattle.std.proofs.Common.{◌^◌, ◌∙◌, one-mul, arith, lit<, shl_exact}
use Rattle.num_whole.proofs.power_of_two.Goals as goal

pub returns : goal.returns
returns c = shl_exact 1 c.args.d 64 (lit< tt) (omega (arith, c.requires)) ∙ one-mul (2 ^ c.args.d)
