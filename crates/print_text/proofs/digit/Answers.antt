-- `print_text::digit` meets its contract. Assumes nothing.
use Rattle.print_text.proofs.Digits.{digit_low, digit_high}
use borrow.Author.Rules.{rules}
use Rattle.print_text.proofs.digit.Goals as goal

pub returns-then-d-lt10 : goal.returns-then-d-lt10
returns-then-d-lt10 c = digit_low _ (search rules)

pub returns-else-d-lt10 : goal.returns-else-d-lt10
returns-else-d-lt10 c = digit_high _ (search rules)
