-- Digits one by one: how the loops' texts grow, and that the digits of crate io are those of `decimal_text`. Assumes nothing.
use Prim.Native.Nat.{ℕ, zero, suc, ◌+◌, ◌-◌, ◌*◌, ◌/◌, ◌%◌, ◌^◌, ◌≤◌, ◌<◌}
use native.Mathlib.Nat.{div-one, sub-zero, mod-eq_of_lt, mod-lt, pow-succ', le-div_iff_mul-le, div-lt_iff_lt-mul, mul_comm}
use native.Mathlib.Decide.{dec_le}
use native.Mathlib.Omega.{arith}
use mathlib.Core.Path.{◌≡◌, sym, ap, subst, ◌∙◌}
use mathlib.Core.Bool.{Bool, cond}
use mathlib.Core.List.{List, [], ◌∷◌, ◌++◌}
use borrow.Author.Tests.{lt-ltb, le-ltb}
use lib.ListN.{length, take, get_or}
use lib.Pow.{shr-shr, pow-add}
use lib.Seq.{take-suc, take_all}
use Rattle.io.specs.Digits.{hex_digit_ascii, last_digits, IsDigitCount}
use Rattle.print_text.specs.Text.{digit, hex_text, decimal_up_to, decimal_text}
use Rattle.print_text.specs.Buffer.{Puts, none, then, same_text}

-- ---- The code's digit

pub digit_low : (d : ℕ) → d < 10 → 48 + d ≡ digit d
unfolding digit
digit_low d h = simp (lt-ltb d 10 h)

pub digit_high : (d : ℕ) → 10 ≤ d → 65 + (d - 10) ≡ digit d
unfolding digit
digit_high d h = simp (le-ltb d 10 h) (omega arith)

-- ---- One more byte of a text, and one more hex digit

pub byte_turn : {out out₁ out₂ : List ℕ} {at e₁ e₂ : ℕ} (s : List ℕ) (i : ℕ) → i < length s → Puts (take i s) out at out₁ e₁
    → Puts (get_or s i 0 ∷ []) out₁ e₁ out₂ e₂ → Puts (take (i + 1) s) out at out₂ e₂
byte_turn s i h p q =
    let e : i + 1 ≡ suc i = omega arith in
    same_text (sym (ap (λ (k : ℕ). take k s) e ∙ take-suc s i 0 h)) (then p q)

pub bytes_whole : {out out₁ : List ℕ} {at e₁ : ℕ} (s : List ℕ) (i : ℕ) → length s ≤ i → Puts (take i s) out at out₁ e₁ → Puts s out at out₁ e₁
bytes_whole s i h p = same_text (take_all i s h) p

-- with `left` digits of n to come
pub hex_none : (v n : ℕ) (out : List ℕ) (at : ℕ) → Puts (hex_text (n - n) (v / 2 ^ (n * 4))) out at out at
unfolding hex_text
hex_none v n out at = let e : n - n ≡ 0 = omega arith in rw e (none out at)

pub hex_turn : {out out₁ out₂ : List ℕ} {at e₁ e₂ : ℕ} (v n left d : ℕ) → 0 < left → left ≤ n → d ≡ digit (v / 2 ^ ((left - 1) * 4) % 16)
    → Puts (hex_text (n - left) (v / 2 ^ (left * 4))) out at out₁ e₁ → Puts (d ∷ []) out₁ e₁ out₂ e₂
    → Puts (hex_text (n - (left - 1)) (v / 2 ^ ((left - 1) * 4))) out at out₂ e₂
unfolding hex_text
hex_turn v n left d h k f p q =
    let l : ℕ = (left - 1) * 4 in
    let e : n - (left - 1) ≡ suc (n - left) = omega arith in
    let g : left * 4 ≡ l + 4 = omega arith in
    let w : v / 2 ^ (left * 4) ≡ v / 2 ^ l / 16 = ap (λ (i : ℕ). v / 2 ^ i) g ∙ sym (shr-shr v l 4) in
    let t : hex_text (n - left) (v / 2 ^ (left * 4)) ++ (d ∷ []) ≡ hex_text (n - left) (v / 2 ^ l / 16) ++ (digit (v / 2 ^ l % 16) ∷ []) =
    λ i. hex_text (n - left) (w i) ++ (f i ∷ []) in
    rw e (same_text t (then p q))

pub hex_whole : {out out₁ : List ℕ} {at e₁ : ℕ} (v n left : ℕ) → left ≤ 0 → Puts (hex_text (n - left) (v / 2 ^ (left * 4))) out at out₁ e₁
    → Puts (hex_text n v) out at out₁ e₁
hex_whole v n left h p =
    let e : left ≡ 0 = omega arith in
    same_text (ap (λ (l : ℕ). hex_text (n - l) (v / 2 ^ (l * 4))) e ∙ (λ i. hex_text (sub-zero n i) (div-one v i))) p

-- ---- Decimal

glyph_is : (d : ℕ) → d < 10 → hex_digit_ascii d ≡ digit d
glyph_is d h = simp (lt-ltb d 10 h) (digit_low d h)

last_digit : (v : ℕ) → hex_digit_ascii (v % 10) ≡ digit (v % 10)
last_digit v = glyph_is (v % 10) (mod-lt v (omega arith))

at_least : (k v : ℕ) → IsDigitCount 10 1 v (suc (suc k)) → 10 ^ suc k ≤ v
at_least k v f = let e : suc (suc k) - 1 ≡ suc k = omega arith in subst (λ (i : ℕ). 10 ^ i ≤ v) e (f.2 (omega arith))

fewer : (k v : ℕ) → IsDigitCount 10 1 v (suc (suc k)) → IsDigitCount 10 1 (v / 10) (suc k)
fewer k v f = (
  omega arith,
  (div-lt_iff_lt-mul {k = 10} {x = v} {y = 10 ^ suc k} (omega arith)).1 (subst (λ (w : ℕ). v < w) (pow-succ' 10 (suc k) ∙ mul_comm 10 (10 ^ suc k)) f.1),
  λ h. let e : k ≡ suc k - 1 = omega arith in subst (λ (i : ℕ). 10 ^ i ≤ v / 10) e ((le-div_iff_mul-le {k = 10} {x = 10 ^ k} {y = v} (omega arith)).1 (subst (λ (w : ℕ). w ≤ v) (pow-succ' 10 k ∙ mul_comm 10 (10 ^ k)) (at_least k v f))),
)

ten_power : (k : ℕ) → 10 ≤ 10 ^ suc k
ten_power zero = omega arith
ten_power (suc k) = omega (arith, ten_power k, pow-succ' 10 (suc k))

ten_at_least : (k v : ℕ) → IsDigitCount 10 1 v (suc (suc k)) → 10 ≤ v
ten_at_least k v f = omega (arith, ten_power k, at_least k v f)

digits_are : (n k v : ℕ) → k ≤ n → IsDigitCount 10 1 v k → last_digits 10 k v ≡ decimal_up_to n v
unfolding decimal_up_to
digits_are n zero v h f = absurd (omega (arith, f.0))
digits_are zero (suc k) v h f = absurd (omega arith)
digits_are (suc n) (suc zero) v h f =
    let l : v < 10 = f.1 in
    ap (λ (d : ℕ). d ∷ []) (ap hex_digit_ascii (mod-eq_of_lt l) ∙ glyph_is v l)
    ∙ sym (ap (λ (b : Bool). cond b (digit v ∷ []) (decimal_up_to n (v / 10) ++ (digit (v % 10) ∷ []))) (lt-ltb v 10 l))
digits_are (suc n) (suc (suc k)) v h f =
    ap (λ (d : ℕ). last_digits 10 (suc k) (v / 10) ++ (d ∷ [])) (last_digit v)
    ∙ ap (λ (t : List ℕ). t ++ (digit (v % 10) ∷ [])) (digits_are n (suc k) (v / 10) (omega arith) (fewer k v f))
    ∙ sym (ap (λ (b : Bool). cond b (digit v ∷ []) (decimal_up_to n (v / 10) ++ (digit (v % 10) ∷ []))) (le-ltb v 10 (ten_at_least k v f)))

power_at_least : (k : ℕ) → 1 ≤ 10 ^ k
power_at_least zero = omega arith
power_at_least (suc k) = omega (arith, power_at_least k, pow-succ' 10 k)

-- 10^20 is beyond 2^64
few : (k v : ℕ) → v < 2 ^ 64 → IsDigitCount 10 1 v k → k ≤ 20
few k v l f = go (dec_le k 20)
  where
    go : Dec (k ≤ 20) → k ≤ 20
    go (yes h) = h
    go (no h) =
        let j : ℕ = k - 21 in
        let e : k - 1 ≡ 20 + j = omega arith in
        let m : 10 ^ (20 + j) ≤ v = subst (λ (i : ℕ). 10 ^ i ≤ v) e (f.2 (omega arith)) in
        absurd (omega (arith, m, pow-add 10 20 j, power_at_least j, l))

pub decimal_is : (k v : ℕ) → v < 2 ^ 64 → IsDigitCount 10 1 v k → last_digits 10 k v ≡ decimal_text v
unfolding decimal_text
decimal_is k v l f = digits_are 20 k v (few k v l f) f
