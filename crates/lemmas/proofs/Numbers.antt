-- Numbers in order, those of them that pass a test, and the steps taken at them in turn.
-- Assumes nothing.
use mathlib.Core.Path.{◌≡◌, refl, ap, ap₂, sym, ◌∙◌}
use mathlib.Core.Bool.{Bool, true, false, cond}
use mathlib.Core.List.{List, [], ◌∷◌, ◌++◌, map, append-nil, append_assoc, foldl, foldl-append}
use Prim.Native.Nat.{ℕ, zero, suc, ◌+◌, ◌-◌, ◌≤◌, ◌<◌}
use native.Mathlib.Omega.{arith}
use borrow.Author.Tests.{leb-true, leb-false, ltb-true, ltb-false}
use lib.Dec.{leb, ltb}
use lib.ListN.{length, get_or, length-append, length-map, get_or-append, get_or-eq_default}
use Rattle.lemmas.specs.Turns.{in_turn}
use Rattle.lemmas.specs.Numbers.{numbers, below, filtered}
use Rattle.lemmas.proofs.Booleans.{by_cases}
use Rattle.lemmas.proofs.Turns.{turn-join, turn-idle}

pub map-append : {A B : Type 0} (f : A → B) (l m : List A) → map f (l ++ m) ≡ map f l ++ map f m
map-append f [] m = refl
map-append f (x ∷ l) m = ap (λ r. f x ∷ r) (map-append f l m)

pub numbers-join : (a m n : ℕ) → numbers a (m + n) ≡ numbers a m ++ numbers (a + m) n
unfolding numbers
numbers-join a m zero = let e : m + 0 ≡ m = omega arith in rw e (sym (append-nil (numbers a m)))
numbers-join a m (suc n) =
    let e : m + suc n ≡ suc (m + n) = omega arith in
    let g : a + (m + n) ≡ a + m + n = omega arith in
    rw (e, numbers-join a m n, g) (append_assoc (numbers a m) (numbers (a + m) n) ((a + m + n) ∷ []))

-- so many, and each at its place
pub length-numbers : (a n : ℕ) → length (numbers a n) ≡ n
unfolding numbers
length-numbers a zero = refl
length-numbers a (suc n) =
    let e : n + 1 ≡ suc n = omega arith in
    length-append (numbers a n) ((a + n) ∷ []) ∙ ap (λ m. m + 1) (length-numbers a n) ∙ e

-- element k of what a function gives of the numbers below n
pub map-below-length : {B : Type 0} (f : ℕ → B) (n : ℕ) → length (map f (below n)) ≡ n
map-below-length f n = length-map (below n) f ∙ length-numbers 0 n

get_d-last : {B : Type 0} (l : List B) (x d : B) (k : ℕ) → k ≡ length l → get_or (l ++ (x ∷ [])) k d ≡ x
get_d-last [] x d k h = rw h
get_d-last (y ∷ l) x d zero h = absurd (omega arith)
get_d-last (y ∷ l) x d (suc k) h = get_d-last l x d k (omega arith)

pub map-below-at : {B : Type 0} (f : ℕ → B) (n : ℕ) (d : B) (k : ℕ) → k < n → get_or (map f (below n)) k d ≡ f k
unfolding numbers
map-below-at f zero d k h = absurd (omega arith)
map-below-at f (suc n) d k h =
    ap (λ l. get_or l k d) (map-append f (below n) ((0 + n) ∷ []))
    ∙ by_cases (ltb k n)
    (λ t.
    let less : k < n = ltb-true k n t in
    get_or-append (map f (below n)) (f (0 + n) ∷ []) d k (rw (map-below-length f n) less) ∙ map-below-at f n d k less)
    (λ t.
    let last : k ≡ n = omega (arith, ltb-false k n t) in
    let e : 0 + n ≡ k = omega arith in
    get_d-last (map f (below n)) (f (0 + n)) d k (last ∙ sym (map-below-length f n)) ∙ ap f e)

pub map-below-past : {B : Type 0} (f : ℕ → B) (n : ℕ) (d : B) (k : ℕ) → n ≤ k → get_or (map f (below n)) k d ≡ d
map-below-past f n d k h = get_or-eq_default (map f (below n)) d (rw (map-below-length f n) h)

-- the same function of the same places
pub map-agree : {B : Type 0} (f g : ℕ → B) (a b n : ℕ) → ((i : ℕ) → i < n → f (a + i) ≡ g (b + i)) → map f (numbers a n) ≡ map g (numbers b n)
unfolding numbers
map-agree f g a b zero h = refl
map-agree f g a b (suc n) h =
    map-append f (numbers a n) ((a + n) ∷ [])
    ∙ ap₂ (λ l x. l ++ (x ∷ [])) (map-agree f g a b n (λ i k. h i (omega arith))) (h n (omega arith))
    ∙ sym (map-append g (numbers b n) ((b + n) ∷ []))

pub map_same : (l : List ℕ) → map (λ k. k) l ≡ l
map_same [] = refl
map_same (x ∷ l) = ap (λ r. x ∷ r) (map_same l)

pub map-numbers : (f : ℕ → ℕ) (a b n : ℕ) → ((i : ℕ) → i < n → f (a + i) ≡ b + i) → map f (numbers a n) ≡ numbers b n
map-numbers f a b n h = map-agree f (λ k. k) a b n h ∙ map_same (numbers b n)

pub filtered-append : {A : Type 0} (p : A → Bool) (l m : List A) → filtered p (l ++ m) ≡ filtered p l ++ filtered p m
unfolding filtered
filtered-append p [] m = refl
filtered-append p (x ∷ l) m =
    ap (λ r. cond (p x) (x ∷ r) r) (filtered-append p l m) ∙ (by (p x) (filtered p l))
  where
    by : (t : Bool) (r : List _) → cond t (x ∷ (r ++ filtered p m)) (r ++ filtered p m) ≡ cond t (x ∷ r) r ++ filtered p m
    by true r = refl
    by false r = refl

-- a test of what a function gives
pub filtered-map : {A B : Type 0} (p : B → Bool) (f : A → B) (l : List A) → filtered p (map f l) ≡ map f (filtered (λ x. p (f x)) l)
unfolding filtered
filtered-map p f [] = refl
filtered-map p f (x ∷ l) =
    by_cases (p (f x)) (λ t. rw (t, filtered-map p f l)) (λ t. rw (t, filtered-map p f l))

-- two tests that agree, on everything and on what is tested
pub filtered-same : {A : Type 0} (p q : A → Bool) → ((x : A) → p x ≡ q x) → (l : List A) → filtered p l ≡ filtered q l
unfolding filtered
filtered-same p q h [] = refl
filtered-same p q h (x ∷ l) = ap₂ (λ t r. cond t (x ∷ r) r) (h x) (filtered-same p q h l)

pub filtered-agree : (p q : ℕ → Bool) (n : ℕ) → ((k : ℕ) → k < n → p k ≡ q k) → filtered p (below n) ≡ filtered q (below n)
unfolding numbers filtered
filtered-agree p q zero h = refl
filtered-agree p q (suc n) h =
    let same : p (0 + n) ≡ q (0 + n) = h (0 + n) (omega arith) in
    filtered-append p (below n) ((0 + n) ∷ [])
    ∙ ap₂ (λ l t. l ++ cond t ((0 + n) ∷ []) []) (filtered-agree p q n (λ k l. h k (omega arith))) same
    ∙ sym (filtered-append q (below n) ((0 + n) ∷ []))

pub filtered-one : (p : ℕ → Bool) (k : ℕ) → filtered p (k ∷ []) ≡ cond (p k) (k ∷ []) []
unfolding filtered
filtered-one p k = refl

pub filtered-all : (p : ℕ → Bool) (a n : ℕ) → ((i : ℕ) → i < n → p (a + i) ≡ true) → filtered p (numbers a n) ≡ numbers a n
unfolding numbers filtered
filtered-all p a zero h = refl
filtered-all p a (suc n) h =
    filtered-append p (numbers a n) ((a + n) ∷ [])
    ∙ ap₂ ◌++◌ (filtered-all p a n (λ i k. h i (omega arith))) (filtered-one p (a + n) ∙ ap (λ t. cond t ((a + n) ∷ []) []) (h n (omega arith)))

pub filtered-none : (p : ℕ → Bool) (a n : ℕ) → ((i : ℕ) → i < n → p (a + i) ≡ false) → filtered p (numbers a n) ≡ []
unfolding numbers filtered
filtered-none p a zero h = refl
filtered-none p a (suc n) h =
    filtered-append p (numbers a n) ((a + n) ∷ [])
    ∙ ap₂ ◌++◌ (filtered-none p a n (λ i k. h i (omega arith))) (filtered-one p (a + n) ∙ ap (λ t. cond t ((a + n) ∷ []) []) (h n (omega arith)))

-- those from `from` to before `past` pass
pub filtered-span : (p : ℕ → Bool) (a n from past : ℕ) → past ≤ n
    → ((i : ℕ) → from ≤ i → i < past → p (a + i) ≡ true)
    → ((i : ℕ) → i < from → i < n → p (a + i) ≡ false)
    → ((i : ℕ) → past ≤ i → i < n → p (a + i) ≡ false)
    → filtered p (numbers a n) ≡ numbers (a + from) (past - from)
unfolding numbers
filtered-span p a n from past le mid-pass low high =
    by_cases (leb from past)
    (λ t.
    let h : from ≤ past = leb-true from past t in
    let e : n ≡ from + ((past - from) + (n - past)) = omega arith in
    let first = numbers a from in
    let mid = numbers (a + from) (past - from) in
    let rest = numbers (a + from + (past - from)) (n - past) in
    ap (λ n. filtered p (numbers a n)) e
    ∙ ap (filtered p) (numbers-join a from ((past - from) + (n - past)) ∙ ap (λ l. first ++ l) (numbers-join (a + from) (past - from) (n - past)))
    ∙ filtered-append p first (mid ++ rest)
    ∙ ap₂ ◌++◌ (filtered-none p a from (λ i k. low i k (omega arith)))
    (filtered-append p mid rest
    ∙ ap₂ ◌++◌ (filtered-all p (a + from) (past - from) (λ i k. let g : a + from + i ≡ a + (from + i) = omega arith in rw g (mid-pass (from + i) (omega arith) (omega arith))))
    (filtered-none p (a + from + (past - from)) (n - past)
    (λ i k. let g : a + from + (past - from) + i ≡ a + (past + i) = omega arith in rw g (high (past + i) (omega arith) (omega arith))))
    ∙ append-nil mid))
    (λ t.
    let h : past < from = leb-false from past t in
    let e : past - from ≡ 0 = omega arith in
    rw e
    (filtered-none p a n
    (λ i k. by_cases (leb from i) (λ s. high i (omega (arith, leb-true from i s)) k) (λ s. low i (leb-false from i s) k))))

-- steps at the numbers of a list, in turn
abbrev pub over : {S : Type 0} → (ℕ → S → S) → S → List ℕ → S
over act s l = foldl (λ s k. act k s) s l

module _ {S : Type 0} (act : ℕ → S → S) (s : S) where
  pub over-map : (f : ℕ → ℕ) (n : ℕ) → over act s (map f (below n)) ≡ in_turn (λ k. act (f k)) n s
  unfolding numbers in_turn
  over-map f zero = refl
  over-map f (suc n) =
      ap (over act s) (map-append f (below n) ((0 + n) ∷ []))
      ∙ foldl-append (λ s k. act k s) s (map f (below n)) (f (0 + n) ∷ [])
      ∙ (let e : 0 + n ≡ n = omega arith in rw e (ap (act (f n)) (over-map f n)))

  -- a test that only steps which change nothing fail
  pub over-filtered : (p : ℕ → Bool) (n : ℕ) → ((k : ℕ) → k < n → p k ≡ false → (t : S) → act k t ≡ t)
      → over act s (filtered p (below n)) ≡ in_turn act n s
  unfolding numbers filtered in_turn
  over-filtered p zero h = refl
  over-filtered p (suc n) h =
      let e : 0 + n ≡ n = omega arith in
      let step : over act s (filtered p (below n)) ≡ in_turn act n s = over-filtered p n (λ k l. h k (omega arith)) in
      ap (over act s) (filtered-append p (below n) ((0 + n) ∷ []))
      ∙ foldl-append (λ s k. act k s) s (filtered p (below n)) (filtered p ((0 + n) ∷ []))
      ∙ rw e
      (by_cases (p n) (λ t. rw t (ap (act n) step)) (λ t. rw t (step ∙ sym (h n (omega arith) t (in_turn act n s)))))

  -- All n steps, of which those that fail the test change nothing, leave what the m steps that pass it leave.
  pub same-turns : (p : ℕ → Bool) (f : ℕ → ℕ) (m n : ℕ) → map f (below m) ≡ filtered p (below n)
      → ((k : ℕ) → k < n → p k ≡ false → (t : S) → act k t ≡ t)
      → in_turn (λ k. act (f k)) m s ≡ in_turn act n s
  same-turns p f m n e h = sym (over-map f m) ∙ ap (over act s) e ∙ over-filtered p n h

-- Steps at f a, f (a + 1), .. f (a + n), which grows, leave what all steps from the first to the last of these leave, where
-- those between two of them change nothing.
module _ {S : Type 0} (act : ℕ → S → S) (f : ℕ → ℕ) (m : ℕ) (grows : (k : ℕ) → suc k < m → f k < f (suc k))
    (idle : (k j : ℕ) → suc k < m → f k < j → j < f (suc k) → (t : S) → act j t ≡ t) where
  grows-to : (a n : ℕ) → a + n < m → f a ≤ f (a + n)
  grows-to a zero l = let e : a + 0 ≡ a = omega arith in rw e (omega arith)
  grows-to a (suc n) l =
      let e : a + suc n ≡ suc (a + n) = omega arith in
      let h = grows-to a n (omega arith) in
      let s = grows (a + n) (omega arith) in
      rw e (omega (arith, h, s))

  -- one more of them
  stretch-more : (x y z : ℕ) → x ≤ y → y < z → ((j : ℕ) → y < j → j < z → (t : S) → act j t ≡ t) → (t : S)
      → in_turn (λ i. act (x + i)) (z + 1 - x) t ≡ act z (in_turn (λ i. act (x + i)) (y + 1 - x) t)
  unfolding in_turn
  stretch-more x y z le lt none t =
      let first = y + 1 - x in
      let gap = z - y - 1 in
      let g : z + 1 - x ≡ first + suc gap = omega arith in
      let at : x + (first + gap) ≡ z = omega arith in
      let before = in_turn (λ i. act (x + i)) first t in
      ap (λ k. in_turn (λ i. act (x + i)) k t) g
      ∙ sym (turn-join (λ i. act (x + i)) t first (suc gap))
      ∙ ap (λ s. act (x + (first + gap)) s)
      (turn-idle (λ i. act (x + (first + i))) gap before (λ k l s. none (x + (first + k)) (omega arith) (omega arith) s))
      ∙ ap (λ k. act k before) at

  pub stretch : (a n : ℕ) → a + n < m → (t : S) → in_turn (λ i. act (f a + i)) (f (a + n) + 1 - f a) t ≡ in_turn (λ i. act (f (a + i))) (n + 1) t
  unfolding in_turn
  stretch a zero l t =
      let e : a + 0 ≡ a = omega arith in
      let z : f a + 0 ≡ f a = omega arith in
      let one : f a + 1 - f a ≡ 1 = omega arith in
      rw (e, one) (ap (λ k. act k t) z)
  stretch a (suc n) l t =
      let e : a + suc n ≡ suc (a + n) = omega arith in
      let more : n + 1 ≡ suc n = omega arith in
      let last : suc n + 1 ≡ suc (suc n) = omega arith in
      let so_far : in_turn (λ i. act (f a + i)) (f (a + n) + 1 - f a) t ≡ in_turn (λ i. act (f (a + i))) (suc n) t =
      stretch a n (omega arith) t ∙ ap (λ k. in_turn (λ i. act (f (a + i))) k t) more in
      ap (λ k. in_turn (λ i. act (f a + i)) (f k + 1 - f a) t) e
      ∙ stretch-more (f a) (f (a + n)) (f (suc (a + n))) (grows-to a n (omega arith)) (grows (a + n) (omega arith))
      (λ j after before s. idle (a + n) j (omega arith) after before s) t
      ∙ ap₂ (λ k s. act (f k) s) (sym e) so_far
      ∙ ap (λ k. in_turn (λ i. act (f (a + i))) k t) (sym last)
