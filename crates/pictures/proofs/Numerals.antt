-- A number as it is written, at the front of a text.
-- Assumes nothing.
use mathlib.Core.Path.{◌≡◌, refl, ap, ◌∙◌}
use mathlib.Core.Bool.{true, false}
use mathlib.Core.List.{List, [], ◌∷◌, ◌++◌, append-nil}
use Prim.Native.Nat.{ℕ, ◌≤◌}
use native.Mathlib.Omega.{arith}
use borrow.Author.Tests.{eq-eqb, ne_eqb}
use lib.ListN.{length}
use Rattle.lemmas.proofs.Booleans.{and_left, and_right}
use Rattle.pictures.specs.Texts.{is_white, is_digit, without_comments, take_while, drop_while, starts_with, value_from, reads}
use Rattle.pictures.specs.Pictures.{decimal_of}
use Rattle.pictures.proofs.Texts.{digit-least, digit-not-white}
use Rattle.pictures.proofs.Decimals.{all_digits, starts-append, decimal}

-- what passes over each digit passes over all, and what keeps each keeps all
pub passes : {A : Type 0} (F : List ℕ → A) → ((d : ℕ) (t : List ℕ) → is_digit d ≡ true → F (d ∷ t) ≡ F t)
    → (x : List ℕ) → all_digits x ≡ true → (rest : List ℕ) → F (x ++ rest) ≡ F rest
passes F f [] p rest = refl
passes F f (d ∷ x) p rest =
    f d (x ++ rest) (and_left (is_digit d) (all_digits x) p) ∙ passes F f x (and_right (is_digit d) (all_digits x) p) rest

pub keeps : (F : List ℕ → List ℕ) → ((d : ℕ) (t : List ℕ) → is_digit d ≡ true → F (d ∷ t) ≡ d ∷ F t)
    → (x : List ℕ) → all_digits x ≡ true → (rest : List ℕ) → F (x ++ rest) ≡ x ++ F rest
keeps F f [] p rest = refl
keeps F f (d ∷ x) p rest =
    f d (x ++ rest) (and_left (is_digit d) (all_digits x) p)
    ∙ ap (λ (t : List ℕ). d ∷ t) (keeps F f x (and_right (is_digit d) (all_digits x) p) rest)

pub no-comment : (d : ℕ) (t : List ℕ) → is_digit d ≡ true → without_comments false (d ∷ t) ≡ d ∷ without_comments false t
unfolding without_comments
no-comment d t e = let h : 48 ≤ d = digit-least d e in rw (ne_eqb d 35 (λ q. omega arith))

pub drop-digit : (d : ℕ) (t : List ℕ) → is_digit d ≡ true → drop_while is_digit (d ∷ t) ≡ drop_while is_digit t
unfolding drop_while
drop-digit d t e = rw e

take-digit : (d : ℕ) (t : List ℕ) → is_digit d ≡ true → take_while is_digit (d ∷ t) ≡ d ∷ take_while is_digit t
unfolding take_while
take-digit d t e = rw e

-- a text by how it starts
no-white : (t : List ℕ) → starts_with is_digit t ≡ true → drop_while is_white t ≡ t
unfolding drop_while
no-white [] e = refl
no-white (b ∷ t) e = rw (digit-not-white b e)

no-digits : (t : List ℕ) → starts_with is_digit t ≡ false → (take_while is_digit t ≡ []) × (drop_while is_digit t ≡ t)
unfolding take_while drop_while
no-digits [] e = (refl, refl)
no-digits (b ∷ t) e = (rw e, rw e)

starts-digit : (x : List ℕ) → all_digits x ≡ true → 1 ≤ length x → starts_with is_digit x ≡ true
starts-digit [] p q = absurd (omega arith)
starts-digit (d ∷ x) p q = and_left (is_digit d) (all_digits x) p

-- a number as it is written, after white space and before something that is no digit
pub reads-decimal : (n b : ℕ) (ns rest : List ℕ) → is_white b ≡ true → starts_with is_digit rest ≡ false
    → reads (n ∷ ns) (b ∷ (decimal_of n ++ rest)) ≡ reads ns rest
unfolding reads drop_while
reads-decimal n b ns rest p q =
    let x = decimal_of n in
    let d = decimal n in
    let front : starts_with is_digit (x ++ rest) ≡ true =
    starts-append is_digit x rest d.some ∙ starts-digit x d.digits d.some in
    let number : take_while is_digit (x ++ rest) ≡ x =
    keeps (take_while is_digit) take-digit x d.digits rest ∙ ap (λ (t : List ℕ). x ++ t) (no-digits rest q).0 ∙ append-nil x in
    let after : drop_while is_digit (x ++ rest) ≡ rest =
    passes (drop_while is_digit) drop-digit x d.digits rest ∙ (no-digits rest q).1 in
    rw (p, no-white (x ++ rest) front, front, number, after, eq-eqb (value_from 0 x) n d.value)
