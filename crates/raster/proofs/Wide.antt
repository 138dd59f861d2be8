-- Pens and selectors draw what the rule says of numbers of any size, of which the rule reads the low eight bits.
-- Assumes nothing.
use mathlib.Core.Path.{◌≡◌, ap, sym, ◌∙◌}
use Prim.Native.Nat.{ℕ, ◌%◌, ◌<◌, min}
use native.Mathlib.Omega.{arith}
use lib.Bits.{bit_and, bit_xor, and_le_r, xor_lt}
use lib.Dec.{lit<}
use Rattle.raster.specs.Raster.{bit, new_bit, new_byte}
use Rattle.raster.specs.Selectors.{pen_of, drawn, selectors_of, selected}
use Rattle.raster.proofs.Bits.{bit-and, byte-ext, same_bits, bit-low}
use Rattle.raster.proofs.Rule.{new_byte-lt, new_byte-low}
use Rattle.raster.proofs.Normal.{pen-draws, selectors-give}

and-small : (a b : ℕ) → b < 256 → bit_and a b < 256
and-small a b h = omega (arith, h, and_le_r a b)

and_low : (a b : ℕ) → b < 256 → bit_and (a % 256) b ≡ bit_and a b
and_low a b h =
    same_bits (bit_and (a % 256) b) (bit_and a b) (and-small (a % 256) b h) (and-small a b h)
    (λ k l. bit-and k (a % 256) b ∙ ap (λ x. min x (bit k b)) (bit-low k a l) ∙ sym (bit-and k a b))

old-low : (code s d m : ℕ) → new_byte code s (d % 256) m ≡ new_byte code s d m
unfolding new_byte
old-low code s d m =
    byte-ext (λ k. new_bit code (bit k s) (bit k (d % 256)) (bit k m)) (λ k. new_bit code (bit k s) (bit k d) (bit k m))
    (λ k h. ap (λ x. new_bit code (bit k s) x (bit k m)) (bit-low k d h))

pub new_byte-any-lt : (code s d m : ℕ) → code < 256 → d < 256 → new_byte code s d m < 256
new_byte-any-lt code s d m hc hd = rw (← new_byte-low code s d m) (new_byte-lt code (s % 256) d (m % 256) hc hd (omega arith))

module _ (code m : ℕ) (hc : code < 256) where
  mask-small : m % 256 < 256
  mask-small = omega arith

  flip-small : (s : ℕ) → (pen_of code s (m % 256)).flip < 256
  unfolding pen_of
  flip-small s = new_byte-lt code s 0 (m % 256) hc (lit< tt) mask-small

  keep-small : (s : ℕ) → (pen_of code s (m % 256)).keep < 256
  unfolding pen_of
  keep-small s =
      xor_lt 8 (new_byte code s 255 (m % 256)) (new_byte code s 0 (m % 256)) (new_byte-lt code s 255 (m % 256) hc (lit< tt) mask-small)
      (new_byte-lt code s 0 (m % 256) hc (lit< tt) mask-small)

  drawn-any : (s d : ℕ) → drawn (pen_of code s (m % 256)) d ≡ new_byte code s d (m % 256)
  drawn-any s d =
      ap (λ x. bit_xor x (pen_of code s (m % 256)).flip) (sym (and_low d (pen_of code s (m % 256)).keep (keep-small s)))
      ∙ pen-draws code s (d % 256) (m % 256) hc (omega arith) mask-small ∙ old-low code s d (m % 256)

  pub pen-as : (s d : ℕ) → drawn (pen_of code (s % 256) (m % 256)) d ≡ new_byte code s d m
  pen-as s d = drawn-any (s % 256) d ∙ new_byte-low code s d m

  selected-low : (s : ℕ) → selected (selectors_of code (m % 256)) s ≡ selected (selectors_of code (m % 256)) (s % 256)
  unfolding selectors_of
  selected-low s =
      let q = selectors_of code (m % 256) in
      let both = sym (and_low s q.both (xor_lt 8 (pen_of code 255 (m % 256)).keep (pen_of code 0 (m % 256)).keep (keep-small 255) (keep-small 0))) in
      let source = sym (and_low s q.source (xor_lt 8 (pen_of code 255 (m % 256)).flip (pen_of code 0 (m % 256)).flip (flip-small 255) (flip-small 0))) in
      λ i. record { keep = bit_xor (both i) q.old; flip = bit_xor (source i) q.none }

  pub selectors-as : (s d : ℕ) → drawn (selected (selectors_of code (m % 256)) s) d ≡ new_byte code s d m
  selectors-as s d =
      ap (λ p. drawn p d) (selected-low s ∙ selectors-give code (m % 256) hc mask-small (s % 256) (omega arith)) ∙ pen-as s d
