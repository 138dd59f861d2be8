-- The digits of a number: the last after those of its tenth; all are digits, and they make the number.
-- Assumes nothing.
use mathlib.Core.Path.{◌≡◌, refl, ap, sym, ◌∙◌}
use mathlib.Core.Bool.{Bool, true, false, ◌&&◌}
use mathlib.Core.List.{List, [], ◌∷◌, ◌++◌, foldl-append}
use Prim.Native.Nat.{ℕ, zero, suc, ◌+◌, ◌/◌, ◌%◌, ◌≤◌, ◌<◌}
use native.Mathlib.Nat.{not-suc-le-zero}
use native.Mathlib.Omega.{arith}
use borrow.Author.Tests.{lt-ltb, le-ltb, ne_eqb, ltb-true, ltb-false, le-leb}
use lib.Dec.{eqb, ltb}
use lib.ListN.{length, length-append}
use Rattle.lemmas.proofs.Booleans.{by_cases, and_left, and_right, both}
use Rattle.pictures.specs.Texts.{is_digit, starts_with, with_digit, value_from}
use Rattle.pictures.specs.Pictures.{decimal_by, decimal_of}

by_last : (a n : ℕ) → n < 10 → decimal_by (suc a) n ≡ (48 + n) ∷ []
unfolding decimal_by
by_last a n h = rw (lt-ltb n 10 h)

by-tenth : (a n : ℕ) → 10 ≤ n → decimal_by (suc a) n ≡ decimal_by a (n / 10) ++ ((48 + n % 10) ∷ [])
unfolding decimal_by
by-tenth a n h = rw (le-ltb n 10 h)

-- more digits than a number has change nothing
enough : (a b n : ℕ) → n < a → n < b → decimal_by a n ≡ decimal_by b n
enough zero b n h k = absurd (not-suc-le-zero h)
enough (suc a) zero n h k = absurd (not-suc-le-zero k)
enough (suc a) (suc b) n h k =
    by_cases (ltb n 10)
    (λ t. let l : n < 10 = ltb-true n 10 t in by_last a n l ∙ sym (by_last b n l))
    (λ t.
    let l : 10 ≤ n = ltb-false n 10 t in
    by-tenth a n l
    ∙ ap (λ (x : List ℕ). x ++ ((48 + n % 10) ∷ [])) (enough a b (n / 10) (omega arith) (omega arith))
    ∙ sym (by-tenth b n l))

pub decimal-last : (n : ℕ) → n < 10 → decimal_of n ≡ (48 + n) ∷ []
unfolding decimal_of
decimal-last n h = by_last n n h

pub decimal-tenth : (n : ℕ) → 10 ≤ n → decimal_of n ≡ decimal_of (n / 10) ++ ((48 + n % 10) ∷ [])
unfolding decimal_of
decimal-tenth n h =
    by-tenth n n h ∙ ap (λ (x : List ℕ). x ++ ((48 + n % 10) ∷ [])) (enough n (suc (n / 10)) (n / 10) (omega arith) (omega arith))

pub length_last : (n : ℕ) → n < 10 → length (decimal_of n) ≡ 1
length_last n h = ap length (decimal-last n h)

pub length-tenth : (n : ℕ) → 10 ≤ n → length (decimal_of n) ≡ length (decimal_of (n / 10)) + 1
length-tenth n h = ap length (decimal-tenth n h) ∙ length-append (decimal_of (n / 10)) ((48 + n % 10) ∷ [])

-- what holds of one digit, and goes on from a tenth to the number, holds of all numbers
all-decimals : (P : List ℕ → ℕ → Type 0) → ((n : ℕ) → n < 10 → P ((48 + n) ∷ []) n)
    → ((n : ℕ) (x : List ℕ) → 10 ≤ n → P x (n / 10) → P (x ++ ((48 + n % 10) ∷ [])) n) → (n : ℕ) → P (decimal_of n) n
all-decimals P one more n = up_to (suc n) n (omega arith)
  where
    up_to : (a n : ℕ) → n < a → P (decimal_of n) n
    up_to zero n h = absurd (not-suc-le-zero h)
    up_to (suc a) n h =
        by_cases (ltb n 10)
        (λ t. let l : n < 10 = ltb-true n 10 t in rw (decimal-last n l) (one n l))
        (λ t.
        let l : 10 ≤ n = ltb-false n 10 t in
        rw (decimal-tenth n l) (more n (decimal_of (n / 10)) l (up_to a (n / 10) (omega arith))))

abbrev pub all_digits : List ℕ → Bool
all_digits [] = true
all_digits (b ∷ l) = is_digit b && all_digits l

digit-is : (d : ℕ) → d < 10 → is_digit (48 + d) ≡ true
digit-is d h = both (le-leb 48 (48 + d) (omega arith)) (le-leb (48 + d) 57 (omega arith))

all_append : (x y : List ℕ) → all_digits x ≡ true → all_digits y ≡ true → all_digits (x ++ y) ≡ true
all_append [] y p q = q
all_append (b ∷ x) y p q =
    both (and_left (is_digit b) (all_digits x) p) (all_append x y (and_right (is_digit b) (all_digits x) p) q)

-- a text with something in it starts as it does with more after it
pub starts-append : (p : ℕ → Bool) (x y : List ℕ) → 1 ≤ length x → starts_with p (x ++ y) ≡ starts_with p x
starts-append p [] y h = absurd (omega arith)
starts-append p (b ∷ x) y h = refl

pub record Decimal (x : List ℕ) (n : ℕ) : Type 0 where
  pub digits : all_digits x ≡ true
  pub some : 1 ≤ length x
  pub few : length x ≤ n + 1
  pub value : value_from 0 x ≡ n
  pub unpadded : 1 ≤ n → starts_with (eqb 48) x ≡ false

pub decimal : (n : ℕ) → Decimal (decimal_of n) n
decimal n = all-decimals Decimal one more n
  where
    one : (n : ℕ) → n < 10 → Decimal ((48 + n) ∷ []) n
    one n h =
        record {
          digits = both (digit-is n h) refl;
          some = omega arith;
          few = omega arith;
          value = omega arith;
          unpadded = λ l. ne_eqb 48 (48 + n) (λ e. omega arith);
        }

    more : (n : ℕ) (x : List ℕ) → 10 ≤ n → Decimal x (n / 10) → Decimal (x ++ ((48 + n % 10) ∷ [])) n
    more n x h p =
        let last = (48 + n % 10) ∷ [] in
        let long = length-append x last in
        record {
          digits = all_append x last p.digits (both (digit-is (n % 10) (omega arith)) refl);
          some = omega arith;
          few = omega (arith, p.few);
          value = foldl-append with_digit 0 x last ∙ ap (λ (v : ℕ). with_digit v (48 + n % 10)) p.value ∙ omega arith;
          unpadded = λ l. starts-append (eqb 48) x last p.some ∙ p.unpadded (omega arith);
        }

-- far fewer digits than the number says
pub length_most : (n : ℕ) → length (decimal_of n) ≤ n / 10 + 2
length_most n =
    by_cases (ltb n 10) (λ t. omega (arith, length_last n (ltb-true n 10 t)))
    (λ t. omega (arith, length-tenth n (ltb-false n 10 t), (decimal (n / 10)).few))
