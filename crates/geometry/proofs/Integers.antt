-- Sums, products and order of integers that are differences of naturals: sub_ℕ a b is a - b.
-- Assumes nothing.
use mathlib.Core.Path.{◌≡◌, ap, sym, ◌∙◌}
use Prim.Native.Nat.{ℕ, zero, suc, ◌+◌, ◌-◌, ◌*◌, ◌≤◌, ◌<◌}
use native.Mathlib.Nat.{mul-sub, mul-le-mul_left}
use native.Mathlib.Omega.{arith}
use borrow.Author.Tests.{ltb-true, ltb-false, leb-true, leb-false, lt-ltb, le-ltb, le-leb, lt-leb}
use lib.Dec.{leb, ltb}
use lib.IntN.{ℤ, pos, negsuc, neg_ℤ, sub_ℕ, ◌+ℤ◌, ◌-ℤ◌, ◌*ℤ◌}
use lib.Signed.{le_z, lt_z}
use Rattle.lemmas.proofs.Booleans.{by_cases}

-- a claim about a - b, by its sign
pub by_sign : (P : ℤ → Type 0) (a b : ℕ) → (b ≤ a → P (pos (a - b))) → (a < b → P (negsuc (b - suc a))) → P (sub_ℕ a b)
by_sign P a b up down =
    by_cases (ltb a b) (λ e. rw e (down (ltb-true a b e))) (λ e. rw e (up (ltb-false a b e)))

pub sub-up : (a b : ℕ) → b ≤ a → sub_ℕ a b ≡ pos (a - b)
sub-up a b h = rw (le-ltb a b h)

pub sub-down : (a b : ℕ) → a < b → sub_ℕ a b ≡ negsuc (b - suc a)
sub-down a b h = rw (lt-ltb a b h)

-- two differences are one where the sums crosswise are
pub sub_same : (a b c d : ℕ) → a + d ≡ c + b → sub_ℕ a b ≡ sub_ℕ c d
sub_same a b c d e =
    by_sign (λ z. z ≡ sub_ℕ c d) a b (λ h. sym (sub-up c d (omega arith) ∙ ap pos (omega arith)))
    (λ h. sym (sub-down c d (omega arith) ∙ ap negsuc (omega arith)))

pub sub-zero : (a : ℕ) → sub_ℕ a 0 ≡ pos a
sub-zero a = sub-up a 0 (omega arith) ∙ ap pos (omega arith)

pub sub-neg : (a b : ℕ) → neg_ℤ (sub_ℕ a b) ≡ sub_ℕ b a
sub-neg a b = by_sign (λ z. neg_ℤ z ≡ sub_ℕ b a) a b (λ h. neg-pos (a - b) (omega arith)) (λ h. sym (sub-up b a (omega arith) ∙ ap pos (omega arith)))
  where
    neg-pos : (k : ℕ) → b + k ≡ a → neg_ℤ (pos k) ≡ sub_ℕ b a
    neg-pos zero e = sym (sub-up b a (omega arith) ∙ ap pos (omega arith))
    neg-pos (suc k) e = sym (sub-down b a (omega arith) ∙ ap negsuc (omega arith))

pub sub-add : (a b c d : ℕ) → sub_ℕ a b +ℤ sub_ℕ c d ≡ sub_ℕ (a + c) (b + d)
sub-add a b c d =
    by_sign (λ z. z +ℤ sub_ℕ c d ≡ sub_ℕ (a + c) (b + d)) a b
    (λ h.
    by_sign (λ z. pos (a - b) +ℤ z ≡ sub_ℕ (a + c) (b + d)) c d
    (λ g. sym (sub-up (a + c) (b + d) (omega arith) ∙ ap pos (omega arith)))
    (λ g. sub_same (a - b) (suc (d - suc c)) (a + c) (b + d) (omega arith)))
    (λ h.
    by_sign (λ z. negsuc (b - suc a) +ℤ z ≡ sub_ℕ (a + c) (b + d)) c d
    (λ g. sub_same (c - d) (suc (b - suc a)) (a + c) (b + d) (omega arith))
    (λ g. sym (sub-down (a + c) (b + d) (omega arith) ∙ ap negsuc (omega arith))))

pub sub-sub : (a b c d : ℕ) → sub_ℕ a b -ℤ sub_ℕ c d ≡ sub_ℕ (a + d) (b + c)
sub-sub a b c d = ap (λ z. sub_ℕ a b +ℤ z) (sub-neg c d) ∙ sub-add a b d c

pub sub-mul : (n a b : ℕ) → pos n *ℤ sub_ℕ a b ≡ sub_ℕ (n * a) (n * b)
sub-mul n a b =
    by_sign (λ z. pos n *ℤ z ≡ sub_ℕ (n * a) (n * b)) a b
    (λ h. ap pos (mul-sub n a b) ∙ sym (sub-up (n * a) (n * b) (mul-le-mul_left n h)))
    (λ h.
    let less : suc (b - suc a) ≡ b - a = omega arith in
    let most : n * a ≤ n * b = mul-le-mul_left n (omega arith) in
    ap (λ (k : ℕ). neg_ℤ (pos (n * k))) less ∙ ap neg_ℤ (sym (sub-zero (n * (b - a)))) ∙ sub-neg (n * (b - a)) 0
    ∙ sub_same 0 (n * (b - a)) (n * a) (n * b) (omega (arith, mul-sub n b a)))

-- a test and its answer, either way
pub leb-is : (m n k l : ℕ) → (m ≤ n → k ≤ l) → (n < m → l < k) → leb m n ≡ leb k l
leb-is m n k l low high =
    by_cases (leb m n) (λ e. e ∙ sym (le-leb k l (low (leb-true m n e)))) (λ e. e ∙ sym (lt-leb k l (high (leb-false m n e))))

pub sub-le : (a b c d : ℕ) → le_z (sub_ℕ a b) (sub_ℕ c d) ≡ leb (a + d) (c + b)
sub-le a b c d =
    by_sign (λ z. le_z z (sub_ℕ c d) ≡ leb (a + d) (c + b)) a b
    (λ h.
    by_sign (λ z. le_z (pos (a - b)) z ≡ leb (a + d) (c + b)) c d
    (λ g. leb-is (a - b) (c - d) (a + d) (c + b) (λ l. omega arith) (λ l. omega arith))
    (λ g. sym (lt-leb (a + d) (c + b) (omega arith))))
    (λ h.
    by_sign (λ z. le_z (negsuc (b - suc a)) z ≡ leb (a + d) (c + b)) c d (λ g. sym (le-leb (a + d) (c + b) (omega arith)))
    (λ g. leb-is (d - suc c) (b - suc a) (a + d) (c + b) (λ l. omega arith) (λ l. omega arith)))

pub sub-lt : (a b c d : ℕ) → lt_z (sub_ℕ a b) (sub_ℕ c d) ≡ ltb (a + d) (c + b)
sub-lt a b c d =
    by_sign (λ z. lt_z z (sub_ℕ c d) ≡ ltb (a + d) (c + b)) a b
    (λ h.
    by_sign (λ z. lt_z (pos (a - b)) z ≡ ltb (a + d) (c + b)) c d
    (λ g. leb-is (suc (a - b)) (c - d) (suc (a + d)) (c + b) (λ l. omega arith) (λ l. omega arith))
    (λ g. sym (lt-leb (suc (a + d)) (c + b) (omega arith))))
    (λ h.
    by_sign (λ z. lt_z (negsuc (b - suc a)) z ≡ ltb (a + d) (c + b)) c d (λ g. sym (le-leb (suc (a + d)) (c + b) (omega arith)))
    (λ g. leb-is (suc (d - suc c)) (b - suc a) (suc (a + d)) (c + b) (λ l. omega arith) (λ l. omega arith)))
