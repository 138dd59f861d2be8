-- Searches that find nothing, and tests that hold of all.
-- Assumes nothing.
use mathlib.Core.Path.{◌≡◌, refl, ap, sym, ◌∙◌}
use mathlib.Core.Bool.{Bool, true, false}
use Prim.Native.Nat.{ℕ, zero, suc, ◌+◌, ◌≤◌, ◌<◌}
use native.Mathlib.Numerals.{add-one}
use native.Mathlib.Omega.{arith}
use borrow.Author.Tests.{eqb-true, eqb-false}
use lib.Dec.{eqb}
use Rattle.lemmas.proofs.Booleans.{by_cases, and_left, and_right, and_both}
use Rattle.std.specs.Prelude.{Option, Some, None, MatchOption}
use Rattle.packing.specs.Conversions.{first_not, holds}
use Rattle.packing.specs.Passes.{leading}

-- a search that ends at the first place where the test fails, or past places where it holds
pub search-is : (f : ℕ → Bool) (r : Option ℕ) (p end n : ℕ) → end ≡ p + n
    → MatchOption r ((i : ℕ) → p ≤ i → i < end → f i ≡ true)
    (λ k. (p ≤ k) × (k < end) × (f k ≡ false) × ((i : ℕ) → p ≤ i → i < k → f i ≡ true))
    → r ≡ first_not f p n
unfolding first_not
search-is f None p end zero e h = refl
search-is f None p end (suc n) e h =
    rw (h p (omega arith) (omega arith)) (search-is f None (suc p) end n (omega arith) (λ i a b. h i (omega arith) b))
search-is f (Some k) p end zero e h = absurd (omega arith)
search-is f (Some k) p end (suc n) e h =
    by_cases (eqb p k)
    (λ t. let q = eqb-true p k t in rw (q, h.2))
    (λ t.
    let d = eqb-false p k t in
    rw (h.3 p (omega arith) (omega (arith, d)))
    (search-is f (Some k) (suc p) end n (omega arith) (omega (arith, d), h.1, h.2, λ i a b. h.3 i (omega arith) b)))

-- ---- where a search ends
pub lead-over : (f : ℕ → Bool) (p n : ℕ) → n ≡ 0 → leading f p n ≡ p
unfolding leading
lead-over f p n e = rw e

pub lead-stops : (f : ℕ → Bool) (p n m : ℕ) → n ≡ m + 1 → f p ≡ false → leading f p n ≡ p
unfolding leading
lead-stops f p n m h e = rw (h, add-one m, e)

pub lead-goes : (f : ℕ → Bool) (p n m : ℕ) → n ≡ m + 1 → f p ≡ true → leading f p n ≡ leading f (p + 1) m
unfolding leading
lead-goes f p n m h e = rw (h, add-one m, add-one p, e)

pub lead-most : (f : ℕ → Bool) (p n : ℕ) → leading f p n ≤ p + n
unfolding leading
lead-most f p zero = omega arith
lead-most f p (suc n) =
    by_cases (f p) (λ t. rw t (omega (arith, lead-most f (suc p) n))) (λ t. rw t (omega arith))

-- ---- all of them
pub none_found : (f : ℕ → Bool) (p n : ℕ) → ((q : ℕ) → p ≤ q → q < p + n → f q ≡ true) → first_not f p n ≡ None
unfolding first_not
none_found f p zero h = refl
none_found f p (suc n) h = rw (h p (omega arith) (omega arith)) (none_found f (suc p) n (λ q a b. h q (omega arith) (omega arith)))

stopped : (f : ℕ → Bool) (p n : ℕ) (t : Bool) → f p ≡ t → first_not f p (suc n) ≡ None → (f p ≡ true) × (first_not f (suc p) n ≡ None)
unfolding first_not
stopped f p n true e s = (e, rw e at s)
stopped f p n false e s =
    let k : Some p ≡ None = rw e at s in cc

pub all_pass : (f : ℕ → Bool) (p n : ℕ) → first_not f p n ≡ None → (q : ℕ) → p ≤ q → q < p + n → f q ≡ true
all_pass f p zero s q a b = absurd (omega arith)
all_pass f p (suc n) s q a b =
    let k = stopped f p n (f p) refl s in
    by_cases (eqb p q) (λ t. ap f (sym (eqb-true p q t)) ∙ k.0)
    (λ t. let d = eqb-false p q t in all_pass f (suc p) n k.1 q (omega (arith, d)) (omega arith))

pub all_hold : (f : ℕ → Bool) (p n : ℕ) → ((q : ℕ) → p ≤ q → q < p + n → f q ≡ true) → holds f p n ≡ true
unfolding holds
all_hold f p zero h = refl
all_hold f p (suc n) h =
    and_both (f p) (holds f (suc p) n) (h p (omega arith) (omega arith)) (all_hold f (suc p) n (λ q a b. h q (omega arith) (omega arith)))

pub each_holds : (f : ℕ → Bool) (p n : ℕ) → holds f p n ≡ true → (q : ℕ) → p ≤ q → q < p + n → f q ≡ true
unfolding holds
each_holds f p zero s q a b = absurd (omega arith)
each_holds f p (suc n) s q a b =
    by_cases (eqb p q) (λ t. ap f (sym (eqb-true p q t)) ∙ and_left (f p) (holds f (suc p) n) s)
    (λ t. let d = eqb-false p q t in each_holds f (suc p) n (and_right (f p) (holds f (suc p) n) s) q (omega (arith, d)) (omega arith))
