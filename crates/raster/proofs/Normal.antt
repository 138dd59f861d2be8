-- The pen and the selectors draw what the raster rule says: both are the exclusive-or normal form in one variable of a
-- function that works bit by bit, the pen's in the old byte and the selectors' in the source byte.
-- Assumes nothing.
use mathlib.Core.Path.{◌≡◌, refl, ap, ap₂, ◌∙◌}
use Prim.Native.Nat.{ℕ, ◌*◌, ◌<◌, min}
use native.Mathlib.Nat.{zero-min}
use native.Mathlib.Omega.{arith}
use lib.Bits.{bit_and, bit_xor, differ, and_lt, xor_lt}
use lib.Dec.{lit<}
use Rattle.raster.specs.Raster.{bit, new_bit, new_byte}
use Rattle.raster.specs.Selectors.{pen_of, drawn, selectors_of, selected, PenDraws, SelectorsDraw}
use Rattle.raster.proofs.Bits.{bit-ind, bit-and, bit-xor, bit-fill, differ-lt, same_bits}
use Rattle.raster.proofs.Rule.{new_byte-lt, new_byte-bit, new_bit-lt}

-- f works bit by bit, on bit k as g k does
record Bitwise (f : ℕ → ℕ) (g : ℕ → ℕ → ℕ) : Type 0 where
  byte : (x : ℕ) → x < 256 → f x < 256
  at : (k x : ℕ) → k < 8 → x < 256 → bit k (f x) ≡ g k (bit k x)
  digit : (k x : ℕ) → x < 2 → g k x < 2

abbrev normal : (ℕ → ℕ) → ℕ → ℕ
normal f x = bit_xor (bit_and x (bit_xor (f 255) (f 0))) (f 0)

-- on a bit
pub taken : (a b : ℕ) → a < 2 → b < 2 → differ (min 1 (differ a b)) b ≡ a
taken a b h k =
    bit-ind (λ (a : ℕ). differ (min 1 (differ a b)) b ≡ a) (bit-ind (λ (b : ℕ). differ (min 1 (differ 0 b)) b ≡ 0) refl refl b k)
    (bit-ind (λ (b : ℕ). differ (min 1 (differ 1 b)) b ≡ 1) refl refl b k) a h

left : (a b : ℕ) → differ (min 0 a) b ≡ b
left a b = ap (λ (x : ℕ). differ x b) (zero-min a)

on_bit : (g : ℕ → ℕ) → g 0 < 2 → g 1 < 2 → (x : ℕ) → x < 2 → differ (min x (differ (g 1) (g 0))) (g 0) ≡ g x
on_bit g h k x l =
    bit-ind (λ (x : ℕ). differ (min x (differ (g 1) (g 0))) (g 0) ≡ g x) (left (differ (g 1) (g 0)) (g 0)) (taken (g 1) (g 0) k h) x l

module _ (f : ℕ → ℕ) (g : ℕ → ℕ → ℕ) (w : Bitwise f g) where
  at-bit : (k x : ℕ) → k < 8 → x < 256 → bit k (normal f x) ≡ bit k (f x)
  at-bit k x h l =
      simp (bit-and, bit-xor)
      (rw (w.at k 255 h (lit< tt), w.at k 0 h (lit< tt), w.at k x h l, bit-fill k 1 h (lit< tt), bit-fill k 0 h (lit< tt))
      (on_bit (g k) (w.digit k 0 (lit< tt)) (w.digit k 1 (lit< tt)) (bit k x) (omega arith)))

  normal-form : (x : ℕ) → x < 256 → normal f x ≡ f x
  normal-form x h =
      let zeros : f 0 < 256 = w.byte 0 (lit< tt) in
      let ones : f 255 < 256 = w.byte 255 (lit< tt) in
      same_bits (normal f x) (f x)
      (xor_lt 8 (bit_and x (bit_xor (f 255) (f 0))) (f 0) (and_lt 8 x (bit_xor (f 255) (f 0)) h (xor_lt 8 (f 255) (f 0) ones zeros)) zeros)
      (w.byte x h) (λ k l. at-bit k x l h)

-- the exclusive or of two such functions is one
differs : {f h : ℕ → ℕ} {g i : ℕ → ℕ → ℕ} → Bitwise f g → Bitwise h i → Bitwise (λ x. bit_xor (f x) (h x)) (λ k x. differ (g k x) (i k x))
differs {f} {h} {g} {i} w v =
    record {
      byte = λ x l. xor_lt 8 (f x) (h x) (w.byte x l) (v.byte x l);
      at = λ k x hk l. bit-xor k (f x) (h x) ∙ ap₂ differ (w.at k x hk l) (v.at k x hk l);
      digit = λ k x l. differ-lt (g k x) (i k x) (w.digit k x l) (v.digit k x l);
    }

module _ (code mask : ℕ) (hc : code < 256) (hm : mask < 256) where
  in-old : (s : ℕ) → Bitwise (λ d. new_byte code s d mask) (λ k d. new_bit code (bit k s) d (bit k mask))
  in-old s =
      record {
        byte = λ d h. new_byte-lt code s d mask hc h hm;
        at = λ k d hk h. new_byte-bit k code s d mask hk hc h hm;
        digit = λ k d h. new_bit-lt code (bit k s) d (bit k mask) h;
      }

  -- a pen draws the new byte
  draws : (s d : ℕ) → d < 256 → drawn (pen_of code s mask) d ≡ new_byte code s d mask
  unfolding pen_of
  draws s d h = normal-form (λ d. new_byte code s d mask) (λ k d. new_bit code (bit k s) d (bit k mask)) (in-old s) d h

  -- with the old byte all ones or all zeros
  spread : (b : ℕ) → b < 2 → b * 255 < 256 → Bitwise (λ s. new_byte code s (b * 255) mask) (λ k s. new_bit code s b (bit k mask))
  spread b hb h =
      record {
        byte = λ s _. new_byte-lt code s (b * 255) mask hc h hm;
        at = λ k s hk _. new_byte-bit k code s (b * 255) mask hk hc h hm ∙ ap (λ d. new_bit code (bit k s) d (bit k mask)) (bit-fill k b hk hb);
        digit = λ k s _. new_bit-lt code s b (bit k mask) hb;
      }

  in-flip : Bitwise (λ s. (pen_of code s mask).flip) (λ k s. new_bit code s 0 (bit k mask))
  unfolding pen_of
  in-flip = spread 0 (lit< tt) (lit< tt)

  in-keep : Bitwise (λ s. (pen_of code s mask).keep) (λ k s. differ (new_bit code s 1 (bit k mask)) (new_bit code s 0 (bit k mask)))
  unfolding pen_of
  in-keep = differs (spread 1 (lit< tt) (lit< tt)) (spread 0 (lit< tt) (lit< tt))

  -- the selectors give each source byte its pen
  pub selectors-give : (s : ℕ) → s < 256 → selected (selectors_of code mask) s ≡ pen_of code s mask
  unfolding selectors_of
  selectors-give s h =
      let keeps = normal-form (λ s. (pen_of code s mask).keep) (λ k s. differ (new_bit code s 1 (bit k mask)) (new_bit code s 0 (bit k mask))) in-keep s h in
      let flips = normal-form (λ s. (pen_of code s mask).flip) (λ k s. new_bit code s 0 (bit k mask)) in-flip s h in
      λ i. record { keep = keeps i; flip = flips i }

pub pen-draws : PenDraws
pen-draws code s d mask hc hd hm = draws code mask hc hm s d hd

pub selectors-draw : SelectorsDraw
selectors-draw code s d mask hc hs hd hm =
    ap (λ p. drawn p d) (selectors-give code mask hc hm s hs) ∙ pen-draws code s d mask hc hd hm
