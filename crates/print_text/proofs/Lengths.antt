-- How long the texts are. Assumes nothing.
use Rattle.std.specs.Prelude.{ℕ, zero, suc, ◌/◌, ◌%◌, ◌≤◌, ◌≡◌, refl, Bool, true, false, cond, [], ◌∷◌, ◌++◌, ltb, Float, length}
use Rattle.std.proofs.Common.{arith, length-append}
use Rattle.std.specs.Float.{binary32, binary64}
use Rattle.std.specs.Float.Ieee.{to_bits}
use Rattle.print_text.specs.Text.{digit, hex_text, decimal_up_to, decimal_text, f64_text, f32_text}

pub hex_length : (n v : ℕ) → length (hex_text n v) ≡ n
unfolding hex_text
hex_length zero v = refl
hex_length (suc n) v = simp (length-append, hex_length n (v / 16)) (omega arith)

pub decimal_most : (n v : ℕ) → length (decimal_up_to n v) ≤ n
unfolding decimal_up_to
decimal_most zero v = omega arith
decimal_most (suc n) v = go (ltb v 10) (decimal_most n (v / 10))
  where
    go : (b : Bool) → length (decimal_up_to n (v / 10)) ≤ n → length (cond b (digit v ∷ []) (decimal_up_to n (v / 10) ++ (digit (v % 10) ∷ []))) ≤ suc n
    go true h = omega arith
    go false h = simp length-append (omega arith)

pub decimal_length : (v : ℕ) → length (decimal_text v) ≤ 20
unfolding decimal_text
decimal_length v = decimal_most 20 v

pub f64_length : (x : Float) → length (f64_text x) ≡ 16
unfolding f64_text
f64_length x = hex_length 16 (to_bits binary64 x)

pub f32_length : (x : Float) → length (f32_text x) ≡ 8
unfolding f32_text
f32_length x = hex_length 8 (to_bits binary32 x)
