-- `print_text::put_decimal` meets its contract: the digits of crate io are those of `decimal_text`. Assumes nothing.
use mathlib.Core.Path.{◌∙◌}
use Rattle.print_text.specs.Buffer.{same_text}
use Rattle.print_text.proofs.Digits.{decimal_is}
use Rattle.print_text.proofs.put_decimal.Goals as goal

pub returns : goal.returns
returns c = same_text (c.decimal-n.ensures.digits ∙ decimal_is _ _ c.ranges.v.fits c.decimal-n.ensures.len) c.put_all.ensures
