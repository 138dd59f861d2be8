-- White space, digits and other bytes at the front of a text; digits that make a number.
-- Assumes nothing.
use mathlib.Core.Path.{◌≡◌, refl, sym, ◌∙◌}
use mathlib.Core.Bool.{true, false, false≢true}
use mathlib.Core.List.{List, [], ◌∷◌}
use Prim.Native.Nat.{ℕ, ◌≤◌, ◌<◌}
use native.Mathlib.Omega.{arith}
use borrow.Author.Tests.{ltb-true, ltb-false, leb-true, lt-leb, ne_eqb}
use lib.Dec.{eqb, leb, ltb}
use Rattle.lemmas.proofs.Booleans.{by_cases, and_left}
use Rattle.pictures.specs.Texts.{is_white, is_digit, with_digit, value_from, reads}

not_white : (b : ℕ) → 48 ≤ b → is_white b ≡ false
not_white b h =
    rw (ne_eqb b 32 (λ e. omega arith), ne_eqb b 9 (λ e. omega arith), ne_eqb b 10 (λ e. omega arith), ne_eqb b 13 (λ e. omega arith))

white-below : (b : ℕ) → is_white b ≡ true → b < 48
white-below b e =
    by_cases (ltb b 48) (λ t. ltb-true b 48 t) (λ t. absurd (false≢true (sym (not_white b (ltb-false b 48 t)) ∙ e)))

pub digit-least : (b : ℕ) → is_digit b ≡ true → 48 ≤ b
digit-least b e = leb-true 48 b (and_left (leb 48 b) (leb b 57) e)

pub digit-not-white : (b : ℕ) → is_digit b ≡ true → is_white b ≡ false
digit-not-white b e = not_white b (digit-least b e)

pub white-not-digit : (b : ℕ) → is_white b ≡ true → is_digit b ≡ false
white-not-digit b e = rw (lt-leb 48 b (white-below b e))

-- numbers start with white space
pub reads_other : (ns : List ℕ) (b : ℕ) (t : List ℕ) → is_white b ≡ false → reads ns (b ∷ t) ≡ false
unfolding reads
reads_other [] b t e = refl
reads_other (n ∷ ns) b t e = rw e

-- a number past n stays past it
value-least : (l : List ℕ) (v : ℕ) → v ≤ value_from v l
value-least [] v = omega arith
value-least (b ∷ l) v = omega (arith, value-least l (with_digit v b))

pub value-past : (v n : ℕ) (l : List ℕ) → n < v → eqb (value_from v l) n ≡ false
value-past v n l h = ne_eqb (value_from v l) n (λ e. omega (arith, value-least l v))
