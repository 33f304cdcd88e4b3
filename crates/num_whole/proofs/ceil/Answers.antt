-- `num_whole::ceil` meets its contract: proofs/ByClass.antt has a law for each class. Assumes nothing.
use Rattle.std.proofs.Common.{◌%◌, ◌^◌, ap, ◌∙◌, subst, arith}
use lib.Ieee.{binary64}
use Rattle.num_whole.specs.Whole.{ceil_of}
use Rattle.num_whole.specs.Classes.{InClass}
use Rattle.num_whole.proofs.ByClass.{below_clear, below_set, ceil_kept}
use Rattle.num_whole.proofs.ceil.Goals as goal

pub away-requires : goal.away-requires
away-requires c = subst (InClass (c.bits-b.result % 2 ^ 63)) c.in-Mixed.is c.class_of.ensures

pub toward_zero-requires : goal.toward_zero-requires
toward_zero-requires c = subst (InClass (c.bits-b.result % 2 ^ 63)) c.in-Mixed.is c.class_of.ensures

pub returns-then-b-lt-SIGN : goal.returns-then-b-lt-SIGN
returns-then-b-lt-SIGN c = (below_clear c.bits-b.result (omega arith) (subst (InClass (c.bits-b.result % 2 ^ 63)) c.in-BelowOne.is c.class_of.ensures) c.if-b-lt-SIGN.true).1.ceil_is c.if-b-lt-SIGN.true ∙ ap (ceil_of binary64) c.bits-b.ensures.fact_2

pub returns-else-b-lt-SIGN : goal.returns-else-b-lt-SIGN
returns-else-b-lt-SIGN c = (below_set c.bits-b.result (omega arith) (subst (InClass (c.bits-b.result % 2 ^ 63)) c.in-BelowOne.is c.class_of.ensures) c.if-b-lt-SIGN.false).0.ceil_is c.if-b-lt-SIGN.false ∙ ap (ceil_of binary64) c.bits-b.ensures.fact_2

pub returns-then-b-lt-SIGN-2 : goal.returns-then-b-lt-SIGN-2
returns-then-b-lt-SIGN-2 c = c.away.ensures.ceil_is c.if-b-lt-SIGN-2.true ∙ ap (ceil_of binary64) c.bits-b.ensures.fact_2

pub returns-else-b-lt-SIGN-2 : goal.returns-else-b-lt-SIGN-2
returns-else-b-lt-SIGN-2 c = c.toward_zero.ensures.ceil_is c.if-b-lt-SIGN-2.false ∙ ap (ceil_of binary64) c.bits-b.ensures.fact_2

pub returns-in-Nan : goal.returns-in-Nan
returns-in-Nan c = ceil_kept c.bits-b.result (omega arith) c.class_of.result c.class_of.ensures c.in-Nan.is c.args.x c.bits-b.ensures.fact_2
