-- Each byte of eight pixels is drawn by its bit.
-- Assumes nothing.
use mathlib.Core.Path.{◌≡◌, refl, ap, ap₂, sym, ◌∙◌}
use mathlib.Core.Bool.{Bool, true, false, cond}
use Prim.Native.Nat.{ℕ, ◌*◌, ◌%◌, ◌<◌}
use native.Mathlib.Nat.{mod-eq_of_lt}
use native.Mathlib.Omega.{arith}
use lib.Bits.{bit_and, bit_xor, and_comm, and_zero_l, xor_zero_l, xor_zero_r, and_mask, and_lt, xor_lt}
use lib.Dec.{lit<}
use Rattle.std.specs.Prelude.{Option, None, Some}
use Rattle.std.specs.Option.{unwrap_or}
use Rattle.raster.specs.Raster.{bit}
use Rattle.raster.specs.Selectors.{drawn}
use Rattle.raster.specs.declared.Pen.{Pen}
use Rattle.raster.proofs.Bits.{bit-and, bit-xor, bit-fill, same_bits}
use Rattle.raster.proofs.Normal.{taken}
use Rattle.stipples.specs.Stipples.{bit_in, drawn_if, stippled}
use Rattle.stipples.specs.Words.{byte_in, eight_of, ones_of, spread_of, zero_pen, inks_of, inked, Bytes, InksDraw}
use Rattle.stipples.specs.declared.Stipple.{Stipple}
use Rattle.stipples.specs.declared.Inks.{Inks}
use Rattle.stipples.proofs.Bytes.{byte-and, byte-xor, byte-eight, byte-spread, byte-product}

-- of two bytes, by where they differ
chosen-one : (a b : ℕ) → a < 256 → b < 256 → bit_xor (bit_and 255 (bit_xor a b)) b ≡ a
chosen-one a b ha hb =
    same_bits (bit_xor (bit_and 255 (bit_xor a b)) b) a (xor_lt 8 (bit_and 255 (bit_xor a b)) b (and_lt 8 255 (bit_xor a b) (lit< tt) (xor_lt 8 a b ha hb)) hb) ha
    (λ k h. simp (bit-and, bit-xor) (rw (bit-fill k 1 h (lit< tt)) (taken (bit k a) (bit k b) (omega arith) (omega arith))))

chosen : (one : Bool) (a b : ℕ) → a < 256 → b < 256 → bit_xor (bit_and (cond one 255 0) (bit_xor a b)) b ≡ cond one a b
chosen true a b ha hb = chosen-one a b ha hb
chosen false a b ha hb = ap (λ x. bit_xor x b) (and_zero_l (bit_xor a b)) ∙ xor_zero_l b

masked : (one : Bool) (c : ℕ) → c < 256 → cond one c 0 ≡ bit_and (cond one 255 0) c
masked true c h = sym (and_comm 255 c ∙ and_mask c 8 ∙ mod-eq_of_lt h)
masked false c h = sym (and_zero_l c)

-- the pen of a 0 on a byte
zero-draws : (back : Option Pen) (d : ℕ) → d < 256 → drawn (unwrap_or back (record { keep = 255; flip = 0 })) d ≡ drawn_if back d
zero-draws None d h = xor_zero_r (bit_and d 255) ∙ and_mask d 8 ∙ mod-eq_of_lt h
zero-draws (Some p) d h = refl

by_bit_lem : (s : Stipple) (one : Bool) (d : ℕ) → d < 256
    → bit_xor (bit_and d (cond one s.fore.keep (zero_pen s).keep)) (cond one s.fore.flip (zero_pen s).flip) ≡ stippled s one d
by_bit_lem s true d h = refl
by_bit_lem s false d h = zero-draws s.back d h

module _ (k bits : ℕ) (hk : k < 8) (hb : bits < 256) where
  -- a byte that a 1 and a 0 choose, in a word of eight
  word-chosen : (a b : ℕ) → a < 256 → b < 256 → byte_in k (bit_xor (bit_and (spread_of bits) (eight_of (bit_xor a b))) (eight_of b)) ≡ cond (bit_in k bits) a b
  word-chosen a b ha hb' =
      byte-xor k (bit_and (spread_of bits) (eight_of (bit_xor a b))) (eight_of b)
      ∙ ap₂ bit_xor
      (byte-and k (spread_of bits) (eight_of (bit_xor a b))
      ∙ ap₂ bit_and (byte-spread k bits hk hb) (byte-eight k (bit_xor a b) hk (xor_lt 8 a b ha hb')))
      (byte-eight k b hk hb')
      ∙ chosen (bit_in k bits) a b ha hb'

  -- the same by a product
  word-product : (a b : ℕ) → a < 256 → b < 256
      → byte_in k (bit_xor (ones_of bits * (eight_of (bit_xor a b) % 256)) (eight_of b)) ≡ cond (bit_in k bits) a b
  word-product a b ha hb' =
      let change = bit_xor a b in
      let small : change < 256 = xor_lt 8 a b ha hb' in
      let low : eight_of change % 256 ≡ change = omega arith in
      byte-xor k (ones_of bits * (eight_of change % 256)) (eight_of b)
      ∙ ap₂ bit_xor
      (ap (λ c. byte_in k (ones_of bits * c)) low ∙ byte-product k bits change hk hb small ∙ masked (bit_in k bits) change small)
      (byte-eight k b hk hb')
      ∙ chosen (bit_in k bits) a b ha hb'

-- a byte by the pens that its bit chooses
module _ (s : Stipple) (bits old k : ℕ) (keep flip : ℕ) (kept : byte_in k keep ≡ cond (bit_in k bits) s.fore.keep (zero_pen s).keep)
    (flipped : byte_in k flip ≡ cond (bit_in k bits) s.fore.flip (zero_pen s).flip) where
  byte-drawn : byte_in k (bit_xor (bit_and old keep) flip) ≡ stippled s (bit_in k bits) (byte_in k old)
  byte-drawn =
      byte-xor k (bit_and old keep) flip
      ∙ ap₂ bit_xor (byte-and k old keep ∙ ap (bit_and (byte_in k old)) kept) flipped
      ∙ by_bit_lem s (bit_in k bits) (byte_in k old) (omega arith)

pub inks-draw : InksDraw
unfolding inked inks_of
inks-draw s bits old k (fk, ff, bk, bf) hb hk =
    byte-drawn s bits old k (bit_xor (bit_and (spread_of bits) (inks_of s).keep_change) (inks_of s).keep)
    (bit_xor (bit_and (spread_of bits) (inks_of s).flip_change) (inks_of s).flip)
    (word-chosen k bits hk hb s.fore.keep (zero_pen s).keep fk bk)
    (word-chosen k bits hk hb s.fore.flip (zero_pen s).flip ff bf)

abbrev by_products : Inks → ℕ → ℕ → ℕ
by_products q o old =
    bit_xor (bit_and old (bit_xor (o * (q.keep_change % 256)) q.keep)) (bit_xor (o * (q.flip_change % 256)) q.flip)

pub products-draw : (s : Stipple) (q : Inks) (o bits old : ℕ) → o ≡ ones_of bits → bits < 256 → Bytes s → q ≡ inks_of s → (k : ℕ) → k < 8
    → byte_in k (by_products q o old) ≡ stippled s (bit_in k bits) (byte_in k old)
unfolding inks_of
products-draw s q o bits old e hb (fk, ff, bk, bf) is k hk =
    ap₂ (λ q o. byte_in k (by_products q o old)) is e
    ∙ byte-drawn s bits old k (bit_xor (ones_of bits * ((inks_of s).keep_change % 256)) (inks_of s).keep)
    (bit_xor (ones_of bits * ((inks_of s).flip_change % 256)) (inks_of s).flip)
    (word-product k bits hk hb s.fore.keep (zero_pen s).keep fk bk)
    (word-product k bits hk hb s.fore.flip (zero_pen s).flip ff bf)
