-- The table of Two as text. Definitions only.
use Rattle.std.specs.Prelude.{ℕ, zero, suc, List, [], ◌++◌}
use Rattle.print_text.specs.Text.{ascii, decimal_text, hex_text}
use Rattle.num_elementary.specs.Two.{two_root}

-- "each j in decimal, a space and T(j) in hex as floats are shown": sixteen digits
unfoldable pub root_text : ℕ → ℕ → List ℕ
root_text j t = decimal_text j ++ ascii " " ++ hex_text 16 t ++ ascii "\n"

-- the lines of T(1) to T(n)
unfoldable pub table_text : ℕ → List ℕ
table_text zero = []
table_text (suc n) = table_text n ++ root_text (suc n) (two_root (suc n))
