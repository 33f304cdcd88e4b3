-- What the programs print: words, numbers in decimal and hex, and the bits of floats, each as its bytes in ASCII. Definitions, and a few texts computed.
-- Assumes nothing.
use Rattle.std.specs.Prelude.{ℕ, zero, suc, ◌+◌, ◌/◌, ◌%◌, ◌≡◌, refl, cond, List, [], ◌∷◌, ◌++◌, ltb, Float}
use Prim.Native.String as Quoted
use Prim.Native.String.{String}
use Prim.Native.Char.{code}
use Rattle.std.specs.Float.Ieee as Ieee
use Rattle.std.specs.Float.{binary32, binary64}

-- a quoted text's bytes
abbrev pub ascii : String → List ℕ
ascii Quoted.[] = []
ascii (Quoted.◌∷◌ c s) = code c ∷ ascii s

-- a digit below 16: `0` to `9`, then `A` to `F`
unfoldable pub digit : ℕ → ℕ
digit d = cond (ltb d 10) (48 + d) (55 + d)

-- the lowest n hex digits of v, highest first
unfoldable pub hex_text : ℕ → ℕ → List ℕ
hex_text zero v = []
hex_text (suc n) v = hex_text n (v / 16) ++ (digit (v % 16) ∷ [])

-- v in decimal, with no zeros in front, where it has at most so many digits
unfoldable pub decimal_up_to : ℕ → ℕ → List ℕ
decimal_up_to zero v = []
decimal_up_to (suc n) v = cond (ltb v 10) (digit v ∷ []) (decimal_up_to n (v / 10) ++ (digit (v % 10) ∷ []))

-- 20 digits are enough below 2^64
unfoldable pub decimal_text : ℕ → List ℕ
decimal_text v = decimal_up_to 20 v

-- the bits of a float; those of the one NaN are 7FF8000000000000 and 7FC00000
unfoldable pub f64_text : Float → List ℕ
f64_text x = hex_text 16 (Ieee.to_bits binary64 x)

unfoldable pub f32_text : Float → List ℕ
f32_text x = hex_text 8 (Ieee.to_bits binary32 x)

-- ---- Computed

hex_shown : hex_text 16 0x0123456789ABCDEF ≡ ascii "0123456789ABCDEF"
unfolding hex_text digit
hex_shown = refl

decimal_shown : decimal_text 1234567890 ≡ ascii "1234567890"
unfolding decimal_text decimal_up_to digit
decimal_shown = refl

zero_shown : decimal_text 0 ≡ ascii "0"
unfolding decimal_text decimal_up_to digit
zero_shown = refl

largest_shown : decimal_text 0xFFFF_FFFF_FFFF_FFFF ≡ ascii "18446744073709551615"
unfolding decimal_text decimal_up_to digit
largest_shown = refl
