-- `num_whole::below_two` meets its contract: below 2^53 the whole part is halved and doubled again; from there on a is even, or not finite. Assumes nothing.
use Rattle.std.proofs.Common.{T, rules}
use lib.Ieee.{binary64, fits}
use Rattle.num_whole.proofs.Rest.{two_below, two_above}
use Rattle.num_whole.proofs.below_two.Goals as goal

pub returns-then-a : goal.returns-then-a
returns-then-a c =
    let a = c.args.a in
    let F : T (fits binary64 a) = search rules in
    two_below a c.trunc.result c.trunc-h.result F c.requires c.if-a.true c.trunc.ensures c.trunc-h.ensures

pub returns-else-a : goal.returns-else-a
returns-else-a c =
    let a = c.args.a in
    let F : T (fits binary64 a) = search rules in
    two_above a F c.requires c.if-a.false
