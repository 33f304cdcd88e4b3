-- `num_floats::Binary::bits` meets its contract at f32: the pattern is read back. Assumes nothing.
use Rattle.std.proofs.Common.{ap, subst, sym, ◌∙◌, T}
use Rattle.std.specs.Float.{binary32}
use Rattle.std.specs.Float.Ieee.{of_bits}
use Rattle.std.specs.Float.Ieee.Bits.{of_bits-to_bits}
use Rattle.num_floats.proofs.F32Binary.bits.Goals as goal

pub returns-clause-fact_2 : goal.returns-clause-fact_2
returns-clause-fact_2 c = ap (of_bits binary32) c.f32_to_bits_with_nan.ensures ∙ of_bits-to_bits binary32 c.args.self (subst T (sym c.well_formed.0.1) tt)
