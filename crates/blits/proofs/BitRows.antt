-- Rows of bits, by the byte that each begins in: eight times its place, and the same bit of a byte for all rows.
-- Assumes nothing.
use mathlib.Core.Path.{◌≡◌, refl, ap, ◌∙◌}
use mathlib.Core.Bool.{Bool, true, false}
use mathlib.Core.List.{List, []}
use mathlib.Core.Logic.{inl, inr}
use Prim.Native.Nat.{ℕ, ◌+◌, ◌*◌, ◌/◌, ◌%◌, ◌≤◌, ◌<◌}
use native.Mathlib.Nat.{mul_assoc}
use native.Mathlib.Omega.{arith}
use Rattle.lemmas.proofs.Turns.{turn_agree}
use Rattle.geometry.specs.Blit.{away}
use Rattle.stipples.specs.declared.Stipple.{Stipple}
use Rattle.blits.specs.Bits.{expanded, BitsFit, BitsStay, Apart}
use Rattle.blits.specs.Rows.{row_of, row_at, row_place, source_place, rows_drawn, rows_of, byte_rows, TargetFits, SourceFits}
use Rattle.blits.specs.declared.row_loops.Rows.{Rows}
use Rattle.blits.specs.declared.Paint.TheVariants.{Stippled, StippledWithin}
use Rattle.blits.proofs.Painted.{stippled-from, stippled-within, within-same}
use Rattle.blits.proofs.Expanded.{own-apart, apart-stay}

bit_place : (up : Bool) (from p q : ℕ) → q ≡ 8 * p → (up ≡ true → q ≤ from) → 8 * away up (from / 8) p + from % 8 ≡ away up from q
bit_place true from p q e above = let h = above refl in omega arith
bit_place false from p q e above = omega arith

-- rows are as far apart as their bits
apart-on : (up : Bool) (at b p n : ℕ) → (up ≡ true → p ≤ at) → (up ≡ true → p ≤ b) → Apart at b n → Apart (away up at p) (away up b p) n
apart-on true at b p n f g (inl a) = inl (omega (arith, f refl))
apart-on true at b p n f g (inr a) = inr (omega (arith, g refl))
apart-on false at b p n f g (inl a) = inl (omega arith)
apart-on false at b p n f g (inr a) = inr (omega arith)

module _ (r : Rows) (bits : ℕ) (wide : r.stride ≡ 8 * r.width) (f : SourceFits r (8 * bits)) where
  as-bits : (k : ℕ) → r.stride * k ≡ 8 * (r.width * k)
  as-bits k = ap (λ s. s * k) wide ∙ mul_assoc 8 r.width k

  pub place-bits : (k : ℕ) → k < r.count → 8 * source_place (byte_rows r) k + r.from % 8 ≡ source_place r k
  place-bits k h = bit_place r.up r.from (r.width * k) (r.stride * k) (as-bits k) (λ u. f.above u k h)

  pub bits-fit : (k : ℕ) → k < r.count → BitsFit (source_place (byte_rows r) k) (r.from % 8) r.n bits
  bits-fit k h = record { in-byte = omega arith; within = omega (arith, place-bits k h, f.within k h) }

  pub bytes-far : (byte_rows r).from + (byte_rows r).stride * (byte_rows r).count < 18446744073709551616
  bytes-far = omega (arith, f.far, as-bits r.count)

  -- as rows of a paint
  pub stippled-rows : (s : Stipple) (back : Bool) (other l : List ℕ)
      → rows_drawn (λ at byte l. expanded s r.n l at other (8 * byte + r.from % 8)) (byte_rows r) r.count l ≡ rows_of (Stippled s) back other r l
  stippled-rows s back other l =
      turn_agree (λ k l. expanded s r.n l (row_place r k) other (8 * source_place (byte_rows r) k + r.from % 8))
      (row_at (Stippled s) back r.up r.width r.stride other r.at r.from r.n) r.count l
      (λ k h t.
      ap (λ from. expanded s r.n t (row_place r k) other from) (place-bits k h)
      ∙ stippled-from back s other t (expanded s r.n t (row_place r k) other (source_place r k)) (row_place r k) (source_place r k) r.n refl)

  pub within-rows : (s : Stipple) (back : Bool) (other l : List ℕ)
      → rows_drawn (λ at byte. row_of (StippledWithin s) back [] at (8 * byte + r.from % 8) r.n) (byte_rows r) r.count l
      ≡ rows_of (StippledWithin s) back other r l
  within-rows s back other l =
      turn_agree (λ k. row_of (StippledWithin s) back [] (row_place r k) (8 * source_place (byte_rows r) k + r.from % 8) r.n)
      (row_at (StippledWithin s) back r.up r.width r.stride other r.at r.from r.n) r.count l
      (λ k h t.
      ap (λ from. row_of (StippledWithin s) back [] (row_place r k) from r.n t) (place-bits k h)
      ∙ within-same back s other (row_place r k) (source_place r k) r.n t)

  -- where no pixel of the first row is a byte that its bits lie in
  module _ (own : ℕ) (target : TargetFits r own) (apart : Apart r.at (r.from / 8) r.n) where
    rows-apart : (k : ℕ) → k < r.count → Apart (row_place r k) (source_place (byte_rows r) k) r.n
    rows-apart k h =
        apart-on r.up r.at (r.from / 8) (r.width * k) r.n (λ u. target.above u k h) (λ u. omega (arith, f.above u k h, as-bits k)) apart

    pub rows-stay : (k : ℕ) → k < r.count → BitsStay (λ l. l) (row_place r k) (source_place (byte_rows r) k) (r.from % 8) r.n
    rows-stay k h = apart-stay (row_place r k) (source_place (byte_rows r) k) (r.from % 8) r.n (omega arith) (rows-apart k h)

    pub apart-rows : (s : Stipple) (back : Bool) (other l : List ℕ)
        → rows_drawn (λ at byte l. expanded s r.n l at l (8 * byte + r.from % 8)) (byte_rows r) r.count l ≡ rows_of (StippledWithin s) back other r l
    apart-rows s back other l =
        turn_agree (λ k l. expanded s r.n l (row_place r k) l (8 * source_place (byte_rows r) k + r.from % 8))
        (row_at (StippledWithin s) back r.up r.width r.stride other r.at r.from r.n) r.count l
        (λ k h t.
        let byte = source_place (byte_rows r) k in
        stippled-within back s t (expanded s r.n t (row_place r k) t (8 * byte + r.from % 8)) (row_place r k) (8 * byte + r.from % 8) r.n
        (own-apart s r.n (row_place r k) byte (r.from % 8) (omega arith) (rows-apart k h) t back _ refl) other
        ∙ ap (λ from. row_of (StippledWithin s) back other (row_place r k) from r.n t) (place-bits k h))
