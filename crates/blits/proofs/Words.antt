-- Bits of bytes, and bytes of words.
-- Assumes nothing.
use mathlib.Core.Path.{◌≡◌, refl, ap, ap₂, sym, ◌∙◌}
use mathlib.Core.Bool.{Bool, cond}
use mathlib.Core.List.{List}
use Prim.Native.Nat.{ℕ, zero, suc, ◌+◌, ◌-◌, ◌*◌, ◌/◌, ◌%◌, ◌^◌, ◌≤◌, ◌<◌}
use native.Mathlib.Nat.{one-mul, div-eq_of_lt, mod-lt, lt_of_lt_of_le}
use native.Mathlib.Omega.{arith}
use borrow.Author.Tests.{ltb-true, ltb-false, lt-ltb}
use lib.Bits.{bit_xor, differ, xor_zero_r, xor_lt}
use lib.Dec.{eqb, ltb, lit<}
use lib.ListN.{get_or}
use Rattle.std.specs.Int.{to_le_bytes}
use Rattle.std.proofs.Common.{w64}
use lib.Pow.{pow_pos, pow_mono, shl_exact, shr-shr, field, mod-mod-pow}
use Rattle.lemmas.proofs.Booleans.{by_cases}
use Rattle.raster.specs.Raster.{bit}
use Rattle.raster.proofs.Bits.{bit-ind, bit-low, bit-xor, same_bits}
use Rattle.stipples.specs.Stipples.{bit_in, bit_at}
use Rattle.stipples.specs.Words.{byte_in}
use Rattle.stipples.proofs.Bytes.{byte-xor}

shifted-bit : (n i x : ℕ) → bit i (x / 2 ^ n) ≡ bit (n + i) x
shifted-bit n i x = ap (λ y. y % 2) (shr-shr x n i)

-- eight bits from bit `first` of two bytes on
module _ (high low first : ℕ) (small : low < 256) (in-byte : first < 8) where
  abbrev both : ℕ
  both = high * 256 + low

  joined_as : (i j t : ℕ) → j < 8 → 8 - first + (7 - j) ≡ i → bit i both ≡ t → bit (7 - j) (both / 2 ^ (8 - first) % 256) ≡ t
  joined_as i j t h e g =
      bit-low (7 - j) (both / 2 ^ (8 - first)) (omega arith) ∙ shifted-bit (8 - first) (7 - j) both ∙ ap (λ i. bit i both) e ∙ g

  pub joined-bit : (j : ℕ) → j < 8
      → bit_in j (both / 2 ^ (8 - first) % 256) ≡ cond (ltb (first + j) 8) (bit_in (first + j) high) (bit_in (first + j - 8) low)
  joined-bit j h =
      by_cases (ltb (first + j) 8)
      (λ t.
      let few = ltb-true (first + j) 8 t in
      let rest : both / 2 ^ 8 ≡ high = omega arith in
      rw t
      (ap (λ b. eqb b 1)
      (joined_as (8 + (7 - (first + j))) j (bit (7 - (first + j)) high) h (omega arith)
      (sym (shifted-bit 8 (7 - (first + j)) both) ∙ ap (bit (7 - (first + j))) rest))))
      (λ t.
      let many = ltb-false (first + j) 8 t in
      let rest : both % 256 ≡ low = omega arith in
      rw t
      (ap (λ b. eqb b 1)
      (joined_as (7 - (first + j - 8)) j (bit (7 - (first + j - 8)) low) h (omega arith)
      (sym (bit-low (7 - (first + j - 8)) both (omega arith)) ∙ ap (bit (7 - (first + j - 8))) rest))))

-- a bit of a buffer by its byte
module _ (l : List ℕ) (byte first j : ℕ) where
  bit-as : (i k : ℕ) → (8 * byte + first + j) / 8 ≡ i → (8 * byte + first + j) % 8 ≡ k → bit_in k (get_or l i 0) ≡ bit_at l (8 * byte + first + j)
  bit-as i k p q = ap₂ (λ i k. bit_in k (get_or l i 0)) (sym p) (sym q)

  bit-here : first + j < 8 → bit_in (first + j) (get_or l byte 0) ≡ bit_at l (8 * byte + first + j)
  bit-here h = bit-as byte (first + j) (omega arith) (omega arith)

  bit-next : 8 ≤ first + j → first + j < 16 → bit_in (first + j - 8) (get_or l (byte + 1) 0) ≡ bit_at l (8 * byte + first + j)
  bit-next h g = bit-as (byte + 1) (first + j - 8) (omega arith) (omega arith)

  -- a bit of two bytes joined
  pub here-bit : (t : Bool) (low : ℕ) → t ≡ cond (ltb (first + j) 8) (bit_in (first + j) (get_or l byte 0)) (bit_in (first + j - 8) low)
      → first + j < 8 → t ≡ bit_at l (8 * byte + first + j)
  here-bit t low e h = e ∙ rw (lt-ltb (first + j) 8 h) (bit-here h)

  pub either-bit : (t : Bool) → t ≡ cond (ltb (first + j) 8) (bit_in (first + j) (get_or l byte 0)) (bit_in (first + j - 8) (get_or l (byte + 1) 0))
      → first + j < 16 → t ≡ bit_at l (8 * byte + first + j)
  either-bit t e g =
      by_cases (ltb (first + j) 8)
      (λ u. here-bit t (get_or l (byte + 1) 0) e (ltb-true (first + j) 8 u))
      (λ u. e ∙ rw u (bit-next (ltb-false (first + j) 8 u) g))

-- the bytes of a word one after the other
pub le-byte : (word k : ℕ) → k < 8 → get_or (to_le_bytes w64 word) k 0 ≡ byte_in k word
le-byte word zero h = omega arith
le-byte word (suc zero) h = omega arith
le-byte word (suc (suc zero)) h = omega arith
le-byte word (suc (suc (suc zero))) h = omega arith
le-byte word (suc (suc (suc (suc zero)))) h = omega arith
le-byte word (suc (suc (suc (suc (suc zero))))) h = omega arith
le-byte word (suc (suc (suc (suc (suc (suc zero)))))) h = omega arith
le-byte word (suc (suc (suc (suc (suc (suc (suc zero))))))) h = omega arith
le-byte word (suc (suc (suc (suc (suc (suc (suc (suc k)))))))) h = absurd (omega arith)

-- the first number with more than m bytes
pub shifted_one : (m : ℕ) → m < 8 → (1 * 2 ^ (8 * m)) % 2 ^ 64 ≡ 2 ^ (8 * m)
shifted_one m h = shl_exact 1 (8 * m) 64 (lit< tt) (omega arith) ∙ one-mul (2 ^ (8 * m))

-- the bytes of the low part of a word
byte-below : (x m k : ℕ) → k < m → byte_in k (x % 2 ^ (8 * m)) ≡ byte_in k x
byte-below x m k h =
    let n = 8 * (m - (k + 1)) in
    let e : 8 * m ≡ n + 8 + 8 * k = omega arith in
    ap (λ e. x % 2 ^ e / 2 ^ (8 * k) % 256) e ∙ ap (λ y. y % 256) (field x (n + 8) (8 * k)) ∙ mod-mod-pow (x / 2 ^ (8 * k)) n 8

byte_above : (x m k : ℕ) → m ≤ k → byte_in k (x % 2 ^ (8 * m)) ≡ 0
byte_above x m k h =
    let low : x % 2 ^ (8 * m) < 2 ^ (8 * k) = lt_of_lt_of_le (mod-lt x (pow_pos (8 * m))) (pow_mono (omega arith)) in
    ap (λ y. y % 256) (div-eq_of_lt low)

-- a byte that is changed where it differs
changed-bit : (a b : ℕ) → a < 2 → b < 2 → differ a (differ a b) ≡ b
changed-bit a b h g =
    bit-ind (λ (a : ℕ). differ a (differ a b) ≡ b) (bit-ind (λ (b : ℕ). differ 0 (differ 0 b) ≡ b) refl refl b g)
    (bit-ind (λ (b : ℕ). differ 1 (differ 1 b) ≡ b) refl refl b g) a h

changed : (a b : ℕ) → a < 256 → b < 256 → bit_xor a (bit_xor a b) ≡ b
changed a b h g =
    same_bits (bit_xor a (bit_xor a b)) b (xor_lt 8 a (bit_xor a b) h (xor_lt 8 a b h g)) g
    (λ k l. simp bit-xor (changed-bit (bit k a) (bit k b) (omega arith) (omega arith)))

-- the low m bytes of one word and the others of another
module _ (old new m : ℕ) where
  abbrev mixed : ℕ
  mixed = bit_xor old (bit_xor old new % 2 ^ (8 * m))

  pub mixed-below : (k : ℕ) → k < m → byte_in k mixed ≡ byte_in k new
  mixed-below k h =
      byte-xor k old (bit_xor old new % 2 ^ (8 * m))
      ∙ ap (bit_xor (byte_in k old)) (byte-below (bit_xor old new) m k h ∙ byte-xor k old new)
      ∙ changed (byte_in k old) (byte_in k new) (omega arith) (omega arith)

  pub mixed-above : (k : ℕ) → m ≤ k → byte_in k mixed ≡ byte_in k old
  mixed-above k h =
      byte-xor k old (bit_xor old new % 2 ^ (8 * m)) ∙ ap (bit_xor (byte_in k old)) (byte_above (bit_xor old new) m k h) ∙ xor_zero_r (byte_in k old)
