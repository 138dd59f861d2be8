-- The body of `new_byte` is the raster rule. Its loop goes over the four pairs of a source bit and an old bit; each bit of
-- what it has set is worked out from the bits of its parts, and a test of every code and three bits says that this is the rule.
-- Assumes nothing.
use mathlib.Core.Path.{◌≡◌, ap, ap₂, sym, ◌∙◌}
use mathlib.Core.Bool.{Bool}
use Prim.Native.Nat.{ℕ, zero, suc, ◌+◌, ◌-◌, ◌*◌, ◌/◌, ◌%◌, ◌≤◌, ◌<◌, min, max}
use native.Mathlib.Nat.{lt_of_le_of_lt}
use native.Mathlib.Omega.{arith}
use lib.Bits.{bit_and, bit_or, bit_xor, differ, and_le_l, and_le_r, or_lt}
use lib.Dec.{T, eqb, eqb→eq, lit<}
use Rattle.raster.specs.Raster.{bit, new_bit, new_byte}
use Rattle.lemmas.specs.Turns.{in_turn}
use Rattle.lemmas.proofs.Finite.{all, at}
use Rattle.lemmas.proofs.Turns.{turn_more}
use Rattle.raster.proofs.Bits.{bit-and, bit-or, bit-xor, bit-fill, bit-low, by_bits, byte-ext}

-- what turn n of the loop sets, in a byte and in one bit of it: the source bit is n / 2 and the old bit n % 2
abbrev set_by : ℕ → ℕ → ℕ → ℕ → ℕ
set_by code s d n =
    bit_and (bit (3 - 2 * (n / 2) - n % 2) code * 255) (bit_and (bit_xor s ((1 - n / 2) * 255)) (bit_xor d ((1 - n % 2) * 255)))

abbrev bit_by : ℕ → ℕ → ℕ → ℕ → ℕ
bit_by code s d n = min (bit (3 - 2 * (n / 2) - n % 2) code) (min (differ s (1 - n / 2)) (differ d (1 - n % 2)))

-- a turn, and what the first n turns have set in a byte
abbrev turn : ℕ → ℕ → ℕ → ℕ → ℕ → ℕ
turn code s d n x = bit_or x (set_by code s d n)

abbrev pub set_in : ℕ → ℕ → ℕ → ℕ → ℕ
set_in code s d n = in_turn (turn code s d) n 0

-- what they have set in one bit of it
abbrev bit_in : ℕ → ℕ → ℕ → ℕ → ℕ
bit_in code s d n = in_turn (λ n x. max x (bit_by code s d n)) n 0

-- the loop's next turn, p and q being the bits that are the turn's source bit and its old bit
pub next-turn : (code s d n x p q : ℕ) → x ≡ set_in code s d n → p ≡ bit_xor s ((1 - n / 2) * 255) → q ≡ bit_xor d ((1 - n % 2) * 255)
    → bit_or x (bit_and (bit (3 - 2 * (n / 2) - n % 2) code * 255) (bit_and p q)) ≡ set_in code s d (n + 1)
next-turn code s d n x p q e f g = turn_more (turn code s d) 0 n x _ e (rw (f, g))

bit-by : (k code s d n : ℕ) → k < 8 → n < 4 → bit k (set_by code s d n) ≡ bit_by code (bit k s) (bit k d) n
bit-by k code s d n h l =
    simp (bit-and, bit-xor)
    (rw (
      bit-fill k (bit (3 - 2 * (n / 2) - n % 2) code) h (omega arith),
      bit-fill k (1 - n / 2) h (omega arith),
      bit-fill k (1 - n % 2) h (omega arith),
    ))

bit_in_lem : (k code s d n : ℕ) → k < 8 → n ≤ 4 → bit k (set_in code s d n) ≡ bit_in code (bit k s) (bit k d) n
unfolding in_turn
bit_in_lem k code s d zero h l = bit-fill k 0 h (lit< tt)
bit_in_lem k code s d (suc n) h l =
    bit-or k (set_in code s d n) (set_by code s d n)
    ∙ ap₂ max (bit_in_lem k code s d n h (omega arith)) (bit-by k code s d n h (omega arith))

-- after the loop: the mask
abbrev pub masked : ℕ → ℕ → ℕ → ℕ
masked x d m = bit_or (bit_and x m) (bit_and d (bit_xor m 255))

abbrev bit_masked : ℕ → ℕ → ℕ → ℕ
bit_masked x d m = max (min x m) (min d (differ m 1))

right : (code s d m : ℕ) → code < 256 → s < 2 → d < 2 → m < 2 → bit_masked (bit_in code s d 4) d m ≡ new_bit code s d m
unfolding in_turn new_bit
right code s d m hc hs hd hm =
    let test : ℕ → ℕ → ℕ → ℕ → Bool = λ c s d m. eqb (bit_masked (bit_in c s d 4) d m) (new_bit c s d m) in
    let t1 : T (all 2 (λ s. all 2 (λ d. all 2 (λ m. test code s d m)))) =
    at 256 (λ c. all 2 (λ s. all 2 (λ d. all 2 (λ m. test c s d m)))) tt code hc in
    let t2 : T (all 2 (λ d. all 2 (λ m. test code s d m))) = at 2 (λ s. all 2 (λ d. all 2 (λ m. test code s d m))) t1 s hs in
    let t3 : T (all 2 (λ m. test code s d m)) = at 2 (λ d. all 2 (λ m. test code s d m)) t2 d hd in
    eqb→eq (bit_masked (bit_in code s d 4) d m) (new_bit code s d m) (at 2 (λ m. test code s d m) t3 m hm)

at-bit : (k code s d m : ℕ) → k < 8 → code < 256
    → bit k (masked (set_in code s d 4) d m) ≡ new_bit code (bit k s) (bit k d) (bit k m)
at-bit k code s d m hk hc =
    simp (bit-and, bit-or, bit-xor)
    (rw (bit-fill k 1 hk (lit< tt), bit_in_lem k code s d 4 hk (omega arith))
    (right code (bit k s) (bit k d) (bit k m) hc (omega arith) (omega arith) (omega arith)))

masked-lt : (x d m : ℕ) → d < 256 → m < 256 → masked x d m < 256
masked-lt x d m hd hm =
    or_lt 8 (bit_and x m) (bit_and d (bit_xor m 255)) (lt_of_le_of_lt (and_le_r x m) hm) (lt_of_le_of_lt (and_le_l d (bit_xor m 255)) hd)

-- the body is the rule
pub rule : (code s d m : ℕ) → code < 256 → d < 256 → m < 256 → masked (set_in code s d 4) d m ≡ new_byte code s d m
unfolding new_byte
rule code s d m hc hd hm =
    by_bits (masked (set_in code s d 4) d m) (λ k. new_bit code (bit k s) (bit k d) (bit k m))
    (masked-lt (set_in code s d 4) d m hd hm) (λ k h. at-bit k code s d m h hc)

pub new_byte-lt : (code s d m : ℕ) → code < 256 → d < 256 → m < 256 → new_byte code s d m < 256
new_byte-lt code s d m hc hd hm = rw (← rule code s d m hc hd hm) (masked-lt (set_in code s d 4) d m hd hm)

-- each bit of the new byte is the new bit
pub new_byte-bit : (k code s d m : ℕ) → k < 8 → code < 256 → d < 256 → m < 256
    → bit k (new_byte code s d m) ≡ new_bit code (bit k s) (bit k d) (bit k m)
new_byte-bit k code s d m hk hc hd hm = ap (bit k) (sym (rule code s d m hc hd hm)) ∙ at-bit k code s d m hk hc

pub new_bit-lt : (code s d m : ℕ) → d < 2 → new_bit code s d m < 2
unfolding new_bit
new_bit-lt code s d zero h = h
new_bit-lt code s d (suc m) h = omega arith

-- of source and mask only the low eight bits count
pub new_byte-low : (code s d m : ℕ) → new_byte code (s % 256) d (m % 256) ≡ new_byte code s d m
unfolding new_byte
new_byte-low code s d m =
    byte-ext (λ k. new_bit code (bit k (s % 256)) (bit k d) (bit k (m % 256))) (λ k. new_bit code (bit k s) (bit k d) (bit k m))
    (λ k h. ap₂ (λ a b. new_bit code a (bit k d) b) (bit-low k s h) (bit-low k m h))
