-- Rows by the paint: one drawn is a row of visits, from whatever source where nothing is read; and what the loops need.
-- Assumes nothing.
use mathlib.Core.Path.{◌≡◌, refl, ap, sym, ◌∙◌}
use mathlib.Core.Bool.{Bool, true, false, cond}
use mathlib.Core.List.{List, []}
use Prim.Native.Nat.{ℕ, ◌+◌, ◌≤◌}
use native.Mathlib.Omega.{arith}
use lib.ListN.{length, get_or}
use Rattle.raster.specs.declared.Pen.{Pen}
use Rattle.rows.specs.Rows.{mixed, filled_row, copied_row, moved_row, moved_back_row, shifted_row}
use Rattle.rows.specs.declared.Mix.{Mix}
use Rattle.lemmas.proofs.Orders.{turned-from}
use Rattle.rows.proofs.Orders.{fill-turned, copy-turned}
use Rattle.rows.proofs.Fitting.{filled_row_lem, copied-row, moved-row, moved-back-row, shifted_row_lem}
use Rattle.stipples.specs.Stipples.{bit_at, stippled}
use Rattle.stipples.specs.declared.Stipple.{Stipple}
use Rattle.blits.specs.Blits.{painted, reads}
use Rattle.blits.specs.Rows.{row_of}
use Rattle.blits.specs.Bits.{expanded, expanded_within, expanded_back}
use Rattle.blits.specs.declared.Paint.{Paint}
use Rattle.blits.specs.declared.Paint.TheVariants.{Solid, Copied, Moved, Stippled, StippledWithin}

pub solid-row : (back : Bool) (pen : Pen) (other l r : List ℕ) (at from n : ℕ) → at + n ≤ length l → r ≡ filled_row pen n l at
    → r ≡ row_of (Solid pen) back other at from n l
unfolding row_of
solid-row false pen other l r at from n h e = e ∙ sym (filled_row_lem pen n l at h)
solid-row true pen other l r at from n h e = e ∙ sym (filled_row_lem pen n l at h) ∙ sym (fill-turned pen n l at)

pub copied-from : (back : Bool) (mix : Mix) (other l r : List ℕ) (at from n : ℕ) → at + n ≤ length l → from + n ≤ length other
    → r ≡ copied_row mix n l at other from → r ≡ row_of (Copied mix) back other at from n l
unfolding row_of
copied-from false mix other l r at from n h k e = e ∙ sym (copied-row mix n l at other from h k)
copied-from true mix other l r at from n h k e =
    e ∙ sym (copied-row mix n l at other from h k) ∙ sym (copy-turned (mixed mix) n l at other from)

pub moved-right : (back : Bool) (mix : Mix) (l r : List ℕ) (at from n : ℕ) → back ≡ false → at + n ≤ length l → from + n ≤ length l
    → r ≡ moved_row mix n l at from → (other : List ℕ) → r ≡ row_of (Moved mix) back other at from n l
unfolding row_of
moved-right back mix l r at from n b h k e other =
    e ∙ sym (moved-row mix n l at from h k) ∙ ap (λ b. row_of (Moved mix) b other at from n l) (sym b)

pub moved-left : (back : Bool) (mix : Mix) (l r : List ℕ) (at from n : ℕ) → back ≡ true → at + n ≤ length l → from + n ≤ length l
    → r ≡ moved_back_row mix n l (at + n) (from + n) → (other : List ℕ) → r ≡ row_of (Moved mix) back other at from n l
unfolding row_of
moved-left back mix l r at from n b h k e other =
    e ∙ sym (moved-back-row mix n l (at + n) (from + n) (omega arith) (omega arith) h k) ∙ ap (λ b. row_of (Moved mix) b other at from n l) (sym b)

pub shifted-from : (back : Bool) (mix : Mix) (l r : List ℕ) (at from n : ℕ) → at + n ≤ length l → from + n ≤ length l
    → r ≡ shifted_row back mix n l at from → (other : List ℕ) → r ≡ row_of (Moved mix) back other at from n l
unfolding row_of
shifted-from false mix l r at from n h k e other = e ∙ sym (shifted_row_lem false mix n l at from h k)
shifted-from true mix l r at from n h k e other = e ∙ sym (shifted_row_lem true mix n l at from h k)

pub stippled-from : (back : Bool) (s : Stipple) (other l r : List ℕ) (at from n : ℕ) → r ≡ expanded s n l at other from
    → r ≡ row_of (Stippled s) back other at from n l
unfolding row_of
stippled-from false s other l r at from n e = e
stippled-from true s other l r at from n e = e ∙ sym (turned-from (λ i. stippled s (bit_at other i)) n l at from)

pub stippled-within : (back : Bool) (s : Stipple) (l r : List ℕ) (at from n : ℕ)
    → r ≡ cond back (expanded_back s n l at from) (expanded_within s n l at from) → (other : List ℕ)
    → r ≡ row_of (StippledWithin s) back other at from n l
unfolding row_of
stippled-within false s l r at from n e other = e
stippled-within true s l r at from n e other = e

-- the new byte is the same from another source where nothing is read
pub same_source : (paint : Paint) (other own : List ℕ) (x y d : ℕ) → (reads paint ≡ true → x ≡ y) → painted paint other own x d ≡ painted paint other own y d
same_source (Solid pen) other own x y d h = refl
same_source (Copied mix) other own x y d h = ap (λ x. mixed mix (get_or other x 0) d) (h refl)
same_source (Moved mix) other own x y d h = ap (λ x. mixed mix (get_or own x 0) d) (h refl)
same_source (Stippled s) other own x y d h = ap (λ x. stippled s (bit_at other x) d) (h refl)
same_source (StippledWithin s) other own x y d h = ap (λ x. stippled s (bit_at own x) d) (h refl)

-- a row is the same from another place where nothing is read
pub same-source-row : (paint : Paint) (back : Bool) (other : List ℕ) (at x y n : ℕ) (l : List ℕ) → (reads paint ≡ true → x ≡ y)
    → row_of paint back other at x n l ≡ row_of paint back other at y n l
unfolding row_of
same-source-row (Solid pen) false other at x y n l h = refl
same-source-row (Solid pen) true other at x y n l h = refl
same-source-row (Copied mix) back other at x y n l h = ap (λ x. row_of (Copied mix) back other at x n l) (h refl)
same-source-row (Moved mix) back other at x y n l h = ap (λ x. row_of (Moved mix) back other at x n l) (h refl)
same-source-row (Stippled s) back other at x y n l h = ap (λ x. row_of (Stippled s) back other at x n l) (h refl)
same-source-row (StippledWithin s) back other at x y n l h = ap (λ x. row_of (StippledWithin s) back other at x n l) (h refl)

-- one pen draws the same in either direction, from whatever source; and so do the others where their source is told
pub solid-same : (back : Bool) (pen : Pen) (other : List ℕ) (at from n : ℕ) (l : List ℕ)
    → row_of (Solid pen) false [] at 0 n l ≡ row_of (Solid pen) back other at from n l
unfolding row_of
solid-same false pen other at from n l = refl
solid-same true pen other at from n l = sym (fill-turned pen n l at)

pub copied-same : (back : Bool) (mix : Mix) (other : List ℕ) (at from n : ℕ) (l : List ℕ)
    → row_of (Copied mix) false other at from n l ≡ row_of (Copied mix) back other at from n l
unfolding row_of
copied-same false mix other at from n l = refl
copied-same true mix other at from n l = sym (copy-turned (mixed mix) n l at other from)

pub moved-same : (back : Bool) (mix : Mix) (other : List ℕ) (at from n : ℕ) (l : List ℕ)
    → row_of (Moved mix) back [] at from n l ≡ row_of (Moved mix) back other at from n l
unfolding row_of
moved-same false mix other at from n l = refl
moved-same true mix other at from n l = refl

pub within-same : (back : Bool) (s : Stipple) (other : List ℕ) (at from n : ℕ) (l : List ℕ)
    → row_of (StippledWithin s) back [] at from n l ≡ row_of (StippledWithin s) back other at from n l
unfolding row_of
within-same false s other at from n l = refl
within-same true s other at from n l = refl
