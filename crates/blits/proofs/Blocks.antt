-- At most eight pixels by the bits of one byte, drawn in a word.
-- Assumes nothing.
use mathlib.Core.Path.{◌≡◌, refl, ap, sym, ◌∙◌}
use mathlib.Core.List.{List}
use Prim.Native.Nat.{ℕ, ◌+◌, ◌-◌, ◌*◌, ◌%◌, ◌^◌, ◌≤◌, ◌<◌}
use native.Mathlib.Nat.{mod-eq_of_lt}
use native.Mathlib.Omega.{arith}
use lib.Bits.{bit_xor, and_zero_l, and_zero_r}
use lib.ListN.{get_or}
use lib.Pow.{shl-shr}
use Rattle.lemmas.specs.Sweeps.{sweep}
use Rattle.lemmas.proofs.Sweeps.{sweep-agree, sweep-join, sweep-stays, sweep-idle}
use Rattle.stipples.specs.Stipples.{bit_in, stippled}
use Rattle.stipples.specs.Words.{byte_in, inks_of, inked, Bytes}
use Rattle.stipples.specs.declared.Stipple.{Stipple}
use Rattle.stipples.specs.declared.Inks.{Inks}
use Rattle.stipples.proofs.Drawing.{inks-draw}
use Rattle.blits.specs.Bits.{Plain, by_byte}
use Rattle.blits.proofs.Words.{shifted_one, mixed-below, mixed-above}

-- a byte of eight pixels drawn at once
pub inks-byte : (s : Stipple) (q : Inks) (bits old word : ℕ) → q ≡ inks_of s → Bytes s → bits < 256 → word ≡ inked q bits old → (k : ℕ) → k < 8
    → byte_in k word ≡ stippled s (bit_in k bits) (byte_in k old)
inks-byte s q bits old word e bytes small g k h =
    ap (byte_in k) (g ∙ ap (λ q. inked q bits old) e) ∙ inks-draw s bits old k bytes small h

-- m of the eight bytes of a word are drawn by their bits, the others are as they stand
module _ (s : Stipple) (bits old word m : ℕ) (l r : List ℕ) (at : ℕ) (few : m ≤ 8)
    (stood : (k : ℕ) → k < 8 → byte_in k old ≡ get_or l (at + k) 0)
    (drawn : (k : ℕ) → k < m → byte_in k word ≡ stippled s (bit_in k bits) (byte_in k old))
    (kept : (k : ℕ) → m ≤ k → k < 8 → byte_in k word ≡ byte_in k old) where
  abbrev place : ℕ → ℕ
  place k = at + k

  abbrev value : ℕ → List ℕ → ℕ
  value k w = stippled s (bit_in k bits) (get_or w (at + k) 0)

  first-drawn : sweep place (λ k w. byte_in k word) m l ≡ by_byte s m l at bits
  first-drawn =
      sweep-agree place (λ k w. byte_in k word) l place value m (λ k p. refl)
      (λ k p.
      drawn k p
      ∙ ap (stippled s (bit_in k bits))
      (stood k (omega arith) ∙ sym (sweep-stays place (λ k w. byte_in k word) l k (at + k) (λ j q e. omega arith))))

  rest-kept : (w : List ℕ) → w ≡ by_byte s m l at bits → sweep (λ k. place (m + k)) (λ k w. byte_in (m + k) word) (8 - m) w ≡ w
  rest-kept w e =
      sweep-idle (λ k. place (m + k)) (λ k w. byte_in (m + k) word) w (8 - m)
      (λ k p.
      kept (m + k) (omega arith) (omega arith) ∙ stood (m + k) (omega arith)
      ∙ sym (ap (λ w. get_or w (at + (m + k)) 0) e ∙ sweep-stays place value l m (at + (m + k)) (λ j q e. omega arith)))

  pub word-drawn : r ≡ sweep place (λ k w. byte_in k word) 8 l → r ≡ by_byte s m l at bits
  word-drawn e =
      let whole : m + (8 - m) ≡ 8 = omega arith in
      e ∙ ap (λ n. sweep place (λ k w. byte_in k word) n l) (sym whole) ∙ sym (sweep-join place (λ k w. byte_in k word) l m (8 - m))
      ∙ rest-kept (sweep place (λ k w. byte_in k word) m l) first-drawn ∙ first-drawn

-- eight bytes of which m are drawn
module _ (s : Stipple) (q : Inks) (bits old new m : ℕ) (l r : List ℕ) (at : ℕ) (few : m < 8) (same : q ≡ inks_of s) (bytes : Bytes s)
    (small : bits < 256) (stood : (k : ℕ) → k < 8 → byte_in k old ≡ get_or l (at + k) 0) (drew : new ≡ inked q bits old) where
  pub some-drawn : r ≡ sweep (λ k. at + k) (λ k w. byte_in k (bit_xor old (bit_xor old new % ((1 * 2 ^ (8 * m)) % 2 ^ 64)))) 8 l → r ≡ by_byte s m l at bits
  some-drawn e =
      word-drawn s bits old (bit_xor old (bit_xor old new % 2 ^ (8 * m))) m l r at (omega arith) stood
      (λ k p. mixed-below old new m k p ∙ inks-byte s q bits old new same bytes small drew k (omega arith))
      (λ k p h. mixed-above old new m k p)
      (e ∙ ap (λ x. sweep (λ k. at + k) (λ k w. byte_in k (bit_xor old (bit_xor old new % x))) 8 l) (shifted_one m few))

-- where no byte is kept the old bytes are no matter
plain_word : (q : Inks) (bits old : ℕ) → Plain q → inked q bits 0 ≡ inked q bits old
unfolding inked
plain_word q bits old (keep, change) = simp (keep, change, and_zero_l, and_zero_r)

byte-in : (d k : ℕ) → d < 256 → byte_in k (d * 2 ^ (8 * k)) ≡ d
byte-in d k h = ap (λ x. x % 256) (shl-shr d (8 * k)) ∙ mod-eq_of_lt h

module _ (s : Stipple) (q : Inks) (bits word : ℕ) (l r : List ℕ) (at : ℕ) (same : q ≡ inks_of s) (bytes : Bytes s) (small : bits < 256) (plain : Plain q)
    (drew : word ≡ inked q bits 0) (stood : (i : ℕ) → get_or l i 0 < 256) where
  plain_byte : (k d : ℕ) → k < 8 → d < 256 → byte_in k word ≡ stippled s (bit_in k bits) d
  plain_byte k d h small-d =
      inks-byte s q bits (d * 2 ^ (8 * k)) word same bytes small (drew ∙ plain_word q bits (d * 2 ^ (8 * k)) plain) k h
      ∙ ap (stippled s (bit_in k bits)) (byte-in d k small-d)

  pub plain-drawn : r ≡ sweep (λ k. at + k) (λ k w. byte_in k word) 8 l → r ≡ by_byte s 8 l at bits
  plain-drawn e =
      e
      ∙ sweep-agree (λ k. at + k) (λ k w. byte_in k word) l (λ k. at + k) (λ k w. stippled s (bit_in k bits) (get_or w (at + k) 0)) 8 (λ k p. refl)
      (λ k p.
      plain_byte k (get_or l (at + k) 0) p (stood (at + k))
      ∙ ap (stippled s (bit_in k bits)) (sym (sweep-stays (λ k. at + k) (λ k w. byte_in k word) l k (at + k) (λ j q e. omega arith))))
