-- The bits of a number that is put together by & | ^, each from the bits of its parts; a byte is known by its bits.
-- Assumes nothing.
use mathlib.Core.Path.{◌≡◌, ap, sym, ◌∙◌}
use Prim.Native.Nat.{ℕ, zero, suc, ◌*◌, ◌/◌, ◌%◌, ◌^◌, ◌<◌, min, max}
use native.Mathlib.Omega.{arith}
use lib.Bits.{bit_and, bit_or, bit_xor, differ, and_step, or_step, xor_step, and_shr, or_shr, xor_shr}
use lib.Arith.{digits_mod}
use lib.Dec.{eqb, eqb→eq, lit<}
use Rattle.raster.specs.Raster.{bit, byte_of}
use Rattle.lemmas.proofs.Finite.{all, at}

-- what holds of 0 and of 1 holds of a bit
pub bit-ind : (P : ℕ → Type 0) → P 0 → P 1 → (x : ℕ) → x < 2 → P x
bit-ind P p q zero h = p
bit-ind P p q (suc zero) h = q
bit-ind P p q (suc (suc x)) h = absurd (omega arith)

pub differ-lt : (x y : ℕ) → x < 2 → y < 2 → differ x y < 2
differ-lt x y h k =
    bit-ind (λ (x : ℕ). differ x y < 2) k (bit-ind (λ (y : ℕ). differ 1 y < 2) (omega arith) (omega arith) y k) x h

pub bit-and : (k a b : ℕ) → bit k (bit_and a b) ≡ min (bit k a) (bit k b)
bit-and k a b =
    ap (λ (x : ℕ). x % 2) (and_shr a b k ∙ and_step (a / 2 ^ k) (b / 2 ^ k))
    ∙ digits_mod (bit_and (a / 2 ^ k / 2) (b / 2 ^ k / 2)) (omega arith)

pub bit-or : (k a b : ℕ) → bit k (bit_or a b) ≡ max (bit k a) (bit k b)
bit-or k a b =
    ap (λ (x : ℕ). x % 2) (or_shr a b k ∙ or_step (a / 2 ^ k) (b / 2 ^ k))
    ∙ digits_mod (bit_or (a / 2 ^ k / 2) (b / 2 ^ k / 2)) (omega arith)

pub bit-xor : (k a b : ℕ) → bit k (bit_xor a b) ≡ differ (bit k a) (bit k b)
bit-xor k a b =
    ap (λ (x : ℕ). x % 2) (xor_shr a b k ∙ xor_step (a / 2 ^ k) (b / 2 ^ k))
    ∙ digits_mod (bit_xor (a / 2 ^ k / 2) (b / 2 ^ k / 2)) (differ-lt (bit k a) (bit k b) (omega arith) (omega arith))

-- each bit of 255 times a bit is that bit
pub bit-fill : (k b : ℕ) → k < 8 → b < 2 → bit k (b * 255) ≡ b
bit-fill k b hk hb =
    eqb→eq (bit k (b * 255)) b
    (at 8 (λ k. eqb (bit k (b * 255)) b) (at 2 (λ b. all 8 (λ k. eqb (bit k (b * 255)) b)) tt b hb) k hk)

-- a byte is the number of its bits: by a test of all 256
byte-bits : (x : ℕ) → x < 256 → byte_of (λ k. bit k x) ≡ x
byte-bits x h = eqb→eq (byte_of (λ k. bit k x)) x (at 256 (λ x. eqb (byte_of (λ k. bit k x)) x) tt x h)

pub byte-ext : (f g : ℕ → ℕ) → ((k : ℕ) → k < 8 → f k ≡ g k) → byte_of f ≡ byte_of g
byte-ext f g h =
    cc (
      h 0 (lit< tt),
      h 1 (lit< tt),
      h 2 (lit< tt),
      h 3 (lit< tt),
      h 4 (lit< tt),
      h 5 (lit< tt),
      h 6 (lit< tt),
      h 7 (lit< tt),
    )

pub by_bits : (x : ℕ) (f : ℕ → ℕ) → x < 256 → ((k : ℕ) → k < 8 → bit k x ≡ f k) → x ≡ byte_of f
by_bits x f h e = sym (byte-bits x h) ∙ byte-ext (λ k. bit k x) f e

pub same_bits : (x y : ℕ) → x < 256 → y < 256 → ((k : ℕ) → k < 8 → bit k x ≡ bit k y) → x ≡ y
same_bits x y h g e = by_bits x (λ k. bit k y) h e ∙ byte-bits y g

-- the low eight bits are those of the rest by 256
pub bit-low : (k x : ℕ) → k < 8 → bit k (x % 256) ≡ bit k x
bit-low zero x h = omega arith
bit-low (suc zero) x h = omega arith
bit-low (suc (suc zero)) x h = omega arith
bit-low (suc (suc (suc zero))) x h = omega arith
bit-low (suc (suc (suc (suc zero)))) x h = omega arith
bit-low (suc (suc (suc (suc (suc zero))))) x h = omega arith
bit-low (suc (suc (suc (suc (suc (suc zero)))))) x h = omega arith
bit-low (suc (suc (suc (suc (suc (suc (suc zero))))))) x h = omega arith
bit-low (suc (suc (suc (suc (suc (suc (suc (suc k)))))))) x h = absurd (omega arith)
