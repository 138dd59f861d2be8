-- The bytes of a word.
-- Assumes nothing.
use mathlib.Core.Path.{◌≡◌, ap, sym, ◌∙◌}
use mathlib.Core.Bool.{Bool, true, false, cond}
use Prim.Native.Nat.{ℕ, ◌+◌, ◌*◌, ◌/◌, ◌%◌, ◌^◌, ◌<◌, ◌≤◌}
use native.Mathlib.Nat.{one-mul, zero-mul, add-mul, mul_assoc, mul-le-mul, mul-le-mul_left, mul-add-div, mul-add-mod_self_left, div-add-mod, div-eq_of_lt, mod-eq_of_lt}
use native.Mathlib.Omega.{arith}
use lib.Bits.{bit_and, bit_xor, and_le_r, and_shr, and_mod, xor_shr, xor_mod}
use lib.Dec.{eqb, ltb, eqb→eq, ltb→lt, lit<}
use lib.Pow.{pow_pos}
use Rattle.lemmas.proofs.Finite.{all, at}
use Rattle.stipples.specs.Stipples.{bit_in}
use Rattle.stipples.specs.Words.{byte_in, eight_of, ones_of, spread_of}

pub byte-and : (k a b : ℕ) → byte_in k (bit_and a b) ≡ bit_and (byte_in k a) (byte_in k b)
byte-and k a b = ap (λ x. x % 256) (and_shr a b (8 * k)) ∙ and_mod (a / 2 ^ (8 * k)) (b / 2 ^ (8 * k)) 8

pub byte-xor : (k a b : ℕ) → byte_in k (bit_xor a b) ≡ bit_xor (byte_in k a) (byte_in k b)
byte-xor k a b = ap (λ x. x % 256) (xor_shr a b (8 * k)) ∙ xor_mod (a / 2 ^ (8 * k)) (b / 2 ^ (8 * k)) 8

-- by a test of every byte and every place
pub byte-eight : (k x : ℕ) → k < 8 → x < 256 → byte_in k (eight_of x) ≡ x
byte-eight k x hk hx =
    eqb→eq (byte_in k (eight_of x)) x
    (at 8 (λ k. eqb (byte_in k (eight_of x)) x) (at 256 (λ x. all 8 (λ k. eqb (byte_in k (eight_of x)) x)) tt x hx) k hk)

-- ---- products of bytes 1 and 0

byte-ones : (k bits : ℕ) → k < 8 → bits < 256 → byte_in k (ones_of bits) ≡ cond (bit_in k bits) 1 0
unfolding ones_of
byte-ones k bits hk hb =
    eqb→eq (byte_in k (ones_of bits)) (cond (bit_in k bits) 1 0)
    (at 8 (λ k. eqb (byte_in k (ones_of bits)) (cond (bit_in k bits) 1 0))
    (at 256 (λ bits. all 8 (λ k. eqb (byte_in k (ones_of bits)) (cond (bit_in k bits) 1 0))) tt bits hb) k hk)

-- what is below a byte is small
below_each : (k : ℕ) → k < 8 → 0x0101_0101_0101_0101 % 2 ^ (8 * k) * 255 < 2 ^ (8 * k)
below_each k h =
    ltb→lt (0x0101_0101_0101_0101 % 2 ^ (8 * k) * 255) (2 ^ (8 * k))
    (at 8 (λ k. ltb (0x0101_0101_0101_0101 % 2 ^ (8 * k) * 255) (2 ^ (8 * k))) tt k h)

below-ones : (k bits : ℕ) → k < 8 → ones_of bits % 2 ^ (8 * k) * 255 < 2 ^ (8 * k)
unfolding ones_of
below-ones k bits h =
    let word = (bit_and (eight_of bits) 0x0102_0408_1020_4080 + 0x7F7F_7F7F_7F7F_7F7F) / 2 ^ 7 in
    let p = 2 ^ (8 * k) in
    let most : ones_of bits % p ≤ 0x0101_0101_0101_0101 % p =
    rw (and_mod word 0x0101_0101_0101_0101 (8 * k)) (and_le_r (word % p) (0x0101_0101_0101_0101 % p)) in
    omega (arith, most, below_each k h)

chosen-byte : (one : Bool) (c : ℕ) → c < 256 → cond one 1 0 * c % 256 ≡ cond one c 0
chosen-byte true c h = ap (λ x. x % 256) (one-mul c) ∙ mod-eq_of_lt h
chosen-byte false c h = ap (λ x. x % 256) (zero-mul c)

-- so a product with a byte has it where there was a 1
product-byte : (p o c : ℕ) → 0 < p → c < 256 → o % p * 255 < p → o * c / p % 256 ≡ o / p % 256 * c % 256
product-byte p o c some small low =
    let q = o / p in
    let l = o % p in
    let rest : l * c < p = omega (arith, low, mul-le-mul_left {m = c} {n = 255} l (omega arith)) in
    let parts : o * c ≡ p * (q * c) + l * c =
    ap (λ o. o * c) (sym (div-add-mod o p)) ∙ add-mul (p * q) l c ∙ ap (λ x. x + l * c) (mul_assoc p q c) in
    let none : l * c / p ≡ 0 = div-eq_of_lt rest in
    let whole : o * c / p ≡ q * c =
    ap (λ x. x / p) parts ∙ mul-add-div {m = p} some (q * c) (l * c) ∙ ap (λ x. q * c + x) none
    ∙ (let e : q * c + 0 ≡ q * c = omega arith in e) in
    let bytes : q * c ≡ 256 * (q / 256 * c) + q % 256 * c =
    ap (λ q. q * c) (sym (div-add-mod q 256)) ∙ add-mul (256 * (q / 256)) (q % 256) c
    ∙ ap (λ x. x + q % 256 * c) (mul_assoc 256 (q / 256) c) in
    ap (λ x. x % 256) (whole ∙ bytes) ∙ mul-add-mod_self_left 256 (q / 256 * c) (q % 256 * c)

pub byte-product : (k bits c : ℕ) → k < 8 → bits < 256 → c < 256 → byte_in k (ones_of bits * c) ≡ cond (bit_in k bits) c 0
byte-product k bits c hk hb hc =
    product-byte (2 ^ (8 * k)) (ones_of bits) c (pow_pos (8 * k)) hc (below-ones k bits hk)
    ∙ ap (λ x. x * c % 256) (byte-ones k bits hk hb)
    ∙ chosen-byte (bit_in k bits) c hc

pub byte-spread : (k bits : ℕ) → k < 8 → bits < 256 → byte_in k (spread_of bits) ≡ cond (bit_in k bits) 255 0
unfolding spread_of
byte-spread k bits hk hb = byte-product k bits 255 hk hb (lit< tt)

-- and is not too large
pub ones-most : (bits : ℕ) → ones_of bits ≤ 0x0101_0101_0101_0101
unfolding ones_of
ones-most bits = and_le_r ((bit_and (eight_of bits) 0x0102_0408_1020_4080 + 0x7F7F_7F7F_7F7F_7F7F) / 2 ^ 7) 0x0101_0101_0101_0101

pub product-fits : (o bits c : ℕ) → o ≡ ones_of bits → o * (c % 256) < 18446744073709551616
product-fits o bits c e =
    let most : o * (c % 256) ≤ 0x0101_0101_0101_0101 * 255 =
    mul-le-mul {n₁ = o} {m₁ = c % 256} {n₂ = 0x0101_0101_0101_0101} {m₂ = 255} (omega (arith, e, ones-most bits)) (omega arith) in
    omega arith
