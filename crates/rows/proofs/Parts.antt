-- A row drawn in two parts that may overlap, one of them aside from the old bytes.
-- Assumes nothing.
use mathlib.Core.Path.{◌≡◌, refl, ap, sym, ◌∙◌}
use mathlib.Core.List.{List}
use mathlib.Core.Logic.{◌⊎◌, inl, inr, ⊎_elim}
use mathlib.Core.Bool.{Bool, true, false, cond}
use Prim.Native.Nat.{ℕ, ◌+◌, ◌-◌, ◌≤◌, ◌<◌}
use native.Mathlib.Omega.{arith}
use borrow.Author.Tests.{leb-true, leb-false}
use lib.Dec.{leb}
use lib.ListN.{length, get_or}
use lib.Seq.{ext_get_or}
use Rattle.lemmas.proofs.Booleans.{by_cases}
use Rattle.raster.specs.Selectors.{drawn}
use Rattle.raster.specs.declared.Pen.{Pen}
use Rattle.lemmas.specs.Sweeps.{sweep}
use Rattle.rows.specs.Rows.{filled, copied, shifted, Clear, Ends}
use Rattle.lemmas.proofs.Sweeps.{sweep-length, sweep-stays, sweep-wrote}
use Rattle.lemmas.proofs.Orders.{right}
use Rattle.rows.proofs.Within.{clear-copied, clear-part}

-- whether i is one of n places from `at` on
inside : {A : Type 0} (at n i : ℕ) → (at ≤ i → i < at + n → A) → ((i < at) ⊎ (at + n ≤ i) → A) → A
inside at n i yes-case no-case =
    by_cases (leb at i)
    (λ t. by_cases (leb (at + n) i) (λ u. no-case (inr (leb-true _ _ u))) (λ u. yes-case (leb-true _ _ t) (leb-false _ _ u)))
    (λ t. no-case (inl (leb-false _ _ t)))

module _ (f : ℕ → ℕ → ℕ) (n : ℕ) (l : List ℕ) (at : ℕ) where
  right-length : length (right f n l at) ≡ length l
  right-length = sweep-length (λ k. at + k) (λ k m. f k (get_or m (at + k) 0)) l n

  right-out : (i : ℕ) → (i < at) ⊎ (at + n ≤ i) → get_or (right f n l at) i 0 ≡ get_or l i 0
  right-out i c =
      sweep-stays (λ k. at + k) (λ k m. f k (get_or m (at + k) 0)) l n i (λ k p e. ⊎_elim (λ h. omega arith) (λ h. omega arith) c)

  right-in : at + n ≤ length l → (i : ℕ) → at ≤ i → i < at + n → get_or (right f n l at) i 0 ≡ f (i - at) (get_or l i 0)
  right-in h i p q =
      let k = i - at in
      let e : at + k ≡ i = omega arith in
      rw e at
      (sweep-wrote (λ k. at + k) (λ k m. f k (get_or m (at + k) 0)) l n k (omega arith) (omega arith) (λ j a b o. omega arith)
      ∙ ap (f k) (sweep-stays (λ k. at + k) (λ k m. f k (get_or m (at + k) 0)) l k (at + k) (λ j a o. omega arith)))

-- the row: k places from place p on, and then b places from place z on, by h and q; what q writes is the row's byte on the old one
module _ (f h q : ℕ → ℕ → ℕ) (n p k z b : ℕ) (l m r : List ℕ) (at o u : ℕ) (fits : at + n ≤ length l) (eo : o ≡ at + p)
    (eu : u ≡ at + z) (first : p + k ≤ n) (second : z + b ≤ n)
    (cover : (i : ℕ) → i < n → (i < p) ⊎ (p + k ≤ i) → (z ≤ i) × (i < z + b)) (early : (j : ℕ) → j < k → h j (get_or l (o + j) 0) ≡ f (p + j) (get_or l (o + j) 0))
    (late : (j d : ℕ) → j < b → q j d ≡ f (z + j) (get_or l (u + j) 0)) (em : m ≡ right h k l o) (er : r ≡ right q b m u) where
  as_long : length m ≡ length l
  as_long = ap length em ∙ right-length h k l o

  first-at : (i : ℕ) → at ≤ i → i < at + n → (i < u) ⊎ (u + b ≤ i) → get_or m i 0 ≡ f (i - at) (get_or l i 0)
  first-at i x y c =
      rw em
      (inside o k i
      (λ v w.
      let turn : p + (i - o) ≡ i - at = omega arith in
      let place : o + (i - o) ≡ i = omega arith in
      right-in h k l o (omega arith) i v w ∙ rw (turn, place) at (early (i - o) (omega arith)))
      (λ v.
      let there = cover (i - at) (omega arith) (⊎_elim (λ w. inl (omega arith)) (λ w. inr (omega arith)) v) in
      absurd (⊎_elim (λ w. omega arith) (λ w. omega arith) c)))

  second_at : (i : ℕ) → u ≤ i → i < u + b → get_or (right q b m u) i 0 ≡ f (i - at) (get_or l i 0)
  second_at i v w =
      let turn : z + (i - u) ≡ i - at = omega arith in
      let place : u + (i - u) ≡ i = omega arith in
      right-in q b m u (omega (arith, as_long)) i v w ∙ rw (turn, place) at (late (i - u) (get_or m i 0) (omega arith))

  pub parts : r ≡ right f n l at
  parts =
      er
      ∙ ext_get_or 0 (right q b m u) (right f n l at) (right-length q b m u ∙ as_long ∙ sym (right-length f n l at))
      (λ i _.
      inside at n i
      (λ x y.
      inside u b i (λ v w. second_at i v w) (λ v. right-out q b m u i v ∙ first-at i x y v) ∙ sym (right-in f n l at fits i x y))
      (λ v.
      right-out q b m u i (⊎_elim (λ w. inl (omega arith)) (λ w. inr (omega arith)) v)
      ∙ rw em (right-out h k l o i (⊎_elim (λ w. inl (omega arith)) (λ w. inr (omega arith)) v))
      ∙ sym (right-out f n l at i v)))

-- what was drawn aside
pub kept : (g : ℕ → ℕ → ℕ) (b : ℕ) (w t : List ℕ) → b ≤ length w → t ≡ right g b w 0 → (j : ℕ) → j < b → get_or t (0 + j) 0 ≡ g j (get_or w (0 + j) 0)
kept g b w t room et j v =
    let e : 0 + j - 0 ≡ j = omega arith in
    rw et (rw e at (right-in g b w 0 (omega arith) (0 + j) (omega arith) (omega arith)))

-- the same on a copy s of the old bytes
aside : (f g : ℕ → ℕ → ℕ) (z b : ℕ) (l w s t : List ℕ) (u : ℕ) → b ≤ length w → ((j d : ℕ) → j < b → g j d ≡ f (z + j) d)
    → s ≡ copied (λ s d. s) b w 0 l u → t ≡ right g b s 0 → (j d : ℕ) → j < b → get_or t (0 + j) 0 ≡ f (z + j) (get_or l (u + j) 0)
aside f g z b l w s t u room same es et j d v =
    let long : length s ≡ length w = ap length es ∙ right-length (λ j d. get_or l (u + j) 0) b w 0 in
    kept g b s t (omega arith) et j v ∙ ap (g j) (kept (λ j d. get_or l (u + j) 0) b w s room es j v) ∙ same j (get_or l (u + j) 0) v

-- one byte, k pixels or more and then the last b
pub filled-twice : (x n k b : ℕ) (l m r : List ℕ) (at : ℕ) → at + n ≤ length l → b ≤ n → n ≤ k + b → k ≤ n
    → m ≡ sweep (λ j. at + j) (λ j w. x) k l → r ≡ sweep (λ j. at + (n - b) + j) (λ j w. x) b m → r ≡ sweep (λ j. at + j) (λ j w. x) n l
filled-twice x n k b l m r at fits small enough part =
    parts (λ j d. x) (λ j d. x) (λ j d. x) n 0 k (n - b) b l m r at at (at + (n - b)) fits (omega arith) refl (omega arith) (omega arith)
    (λ i v c. ⊎_elim (λ x. (omega arith, omega arith)) (λ x. (omega arith, omega arith)) c) (λ j v. refl) (λ j d v. refl)

-- k pixels of a row or more, and its last b aside
module _ (n k z b : ℕ) (l m w s t r : List ℕ) (at : ℕ) (fits : at + n ≤ length l) (whole : z + b ≡ n) (enough : z ≤ k) (part : k ≤ n)
    (room : b ≤ length w) (es : s ≡ copied (λ s d. s) b w 0 l (at + z)) (er : r ≡ copied (λ s d. s) b m (at + z) t 0) where
  pub last-aside : (f g h : ℕ → ℕ → ℕ) → ((j d : ℕ) → h j d ≡ f (0 + j) d) → ((j d : ℕ) → j < b → g j d ≡ f (z + j) d)
      → m ≡ right h k l at → t ≡ right g b s 0 → r ≡ right f n l at
  last-aside f g h early late em et =
      parts f h (λ j d. get_or t (0 + j) 0) n 0 k z b l m r at at (at + z) fits (omega arith) refl (omega arith) (omega arith)
      (λ i v c. ⊎_elim (λ x. (omega arith, omega arith)) (λ x. (omega arith, omega arith)) c) (λ j v. early j (get_or l (at + j) 0))
      (aside f g z b l w s t (at + z) room late es et) em er

  pub filled-last : (p : Pen) → m ≡ filled p k l at → t ≡ filled p b s 0 → r ≡ filled p n l at
  filled-last p = last-aside (λ j. drawn p) (λ j. drawn p) (λ j. drawn p) (λ j d. refl) (λ j d v. refl)

  pub copied-last : (f : ℕ → ℕ → ℕ) (source : List ℕ) (from : ℕ) → m ≡ copied f k l at source from → t ≡ copied f b s 0 source (from + z)
      → r ≡ copied f n l at source from
  copied-last f source from =
      last-aside (λ j. f (get_or source (from + j) 0)) (λ j. f (get_or source (from + z + j) 0)) (λ j. f (get_or source (from + j) 0))
      (λ j d. let e : from + j ≡ from + (0 + j) = omega arith in rw e)
      (λ j d v. let e : from + z + j ≡ from + (z + j) = omega arith in rw e)

-- within one buffer, where no visit reads what another wrote: k pixels from place y on, and b from place z on aside
module _ (f : ℕ → ℕ → ℕ) (n k b : ℕ) (l m w s t r : List ℕ) (at from : ℕ) (fits : at + n ≤ length l) (small : b ≤ n) (enough : n ≤ k + b)
    (part : k ≤ n) (room : b ≤ length w) where
  beside-last : (y z : ℕ) → y + k ≤ n → z + b ≤ n → ((i : ℕ) → i < n → (i < y) ⊎ (y + k ≤ i) → (z ≤ i) × (i < z + b))
      → m ≡ copied f k l (at + y) l (from + y) → s ≡ copied (λ s d. s) b w 0 l (at + z) → t ≡ copied f b s 0 l (from + z)
      → r ≡ copied (λ s d. s) b m (at + z) t 0 → r ≡ copied f n l at l from
  beside-last y z first second cover em es et er =
      parts (λ j. f (get_or l (from + j) 0)) (λ j. f (get_or l (from + y + j) 0)) (λ j d. get_or t (0 + j) 0) n y k z b l m r at (at + y) (at + z)
      fits refl refl first second cover
      (λ j v. let e : from + y + j ≡ from + (y + j) = omega arith in rw e)
      (aside (λ j. f (get_or l (from + j) 0)) (λ j. f (get_or l (from + z + j) 0)) z b l w s t (at + z) room
      (λ j d v. let e : from + z + j ≡ from + (z + j) = omega arith in rw e) es et)
      em er

  pub shifted-last : (back : Bool) (y z : ℕ) → y ≡ cond back (n - k) 0 → z ≡ cond back 0 (n - b) → Clear back at from n
      → m ≡ shifted back f k l (at + y) (from + y) → s ≡ copied (λ s d. s) b w 0 l (at + z) → t ≡ copied f b s 0 l (from + z)
      → r ≡ copied (λ s d. s) b m (at + z) t 0 → r ≡ shifted back f n l at from
  shifted-last back y z ey ez c em es et er =
      let place = by back ey ez in
      beside-last y z place.0 place.1 place.2
      (em ∙ clear-copied back f k l (at + y) (from + y) (clear-part back at from n y k part c)) es et er
      ∙ sym (clear-copied back f n l at from c)
    where
      by : (back : Bool) → y ≡ cond back (n - k) 0 → z ≡ cond back 0 (n - b)
          → (y + k ≤ n) × (z + b ≤ n) × ((i : ℕ) → i < n → (i < y) ⊎ (y + k ≤ i) → (z ≤ i) × (i < z + b))
      by true ey ez = (omega arith, omega arith, λ i p c. ⊎_elim (λ x. (omega arith, omega arith)) (λ x. (omega arith, omega arith)) c)
      by false ey ez = (omega arith, omega arith, λ i p c. ⊎_elim (λ x. (omega arith, omega arith)) (λ x. (omega arith, omega arith)) c)

-- the first eight bytes of a row and its last eight, side by side
pub ends-beside : (w a b source : List ℕ) (from n : ℕ) → 16 ≤ length w → a ≡ copied (λ s d. s) 8 w 0 source from
    → b ≡ copied (λ s d. s) 8 a 8 source (from + (n - 8)) → Ends source from n b
ends-beside w a b source from n room ea eb =
    let first : ℕ → ℕ → ℕ = (λ j d. get_or source (from + j) 0) in
    let second : ℕ → ℕ → ℕ = (λ j d. get_or source (from + (n - 8) + j) 0) in
    let long : length a ≡ length w = ap length ea ∙ right-length first 8 w 0 in
    record {
      first = λ j v.
          let here : j - 0 ≡ j = omega arith in
          ap (λ b. get_or b j 0) eb ∙ right-out second 8 a 8 j (inl v) ∙ ap (λ a. get_or a j 0) ea
          ∙ rw here at (right-in first 8 w 0 (omega arith) j (omega arith) (omega arith));
      final = λ j v.
          let there : 8 + j - 8 ≡ j = omega arith in
          ap (λ b. get_or b (8 + j) 0) eb ∙ rw there at (right-in second 8 a 8 (omega arith) (8 + j) (omega arith) (omega arith));
    }

-- 8 to 16 pixels, drawn side by side from the ends p of the source on the ends o of what stood there
pub ends-mixed : (f : ℕ → ℕ → ℕ) (n : ℕ) (l : List ℕ) (at : ℕ) (source : List ℕ) (from : ℕ) (p o t m r : List ℕ) → 8 ≤ n → n ≤ 16
    → at + n ≤ length l → length o ≡ 16 → Ends source from n p → Ends l at n o → t ≡ copied f 16 o 0 p 0
    → m ≡ copied (λ s d. s) 8 l at t 0 → r ≡ copied (λ s d. s) 8 m (at + (n - 8)) t 8 → r ≡ copied f n l at source from
ends-mixed f n l at source from p o t m r small enough fits long ep eo et em er =
    let z = n - 8 in
    let new : (i : ℕ) → i < 16 → get_or t i 0 ≡ f (get_or p i 0) (get_or o i 0) = (λ i y.
    let e : i - 0 ≡ i = omega arith in
    let g : 0 + i ≡ i = omega arith in
    ap (λ t. get_or t i 0) et ∙ rw (e, g) at (right-in (λ k. f (get_or p (0 + k) 0)) 16 o 0 (omega arith) i (omega arith) (omega arith))) in
    parts (λ j. f (get_or source (from + j) 0)) (λ j d. get_or t (0 + j) 0) (λ j d. get_or t (8 + j) 0) n 0 8 z 8 l m r at at (at + z) fits (omega arith) refl
    (omega arith) (omega arith) (λ i v c. ⊎_elim (λ x. (omega arith, omega arith)) (λ x. (omega arith, omega arith)) c)
    (λ j y. let e : 0 + j ≡ j = omega arith in rw e (new j (omega arith) ∙ rw (ep.first j y, eo.first j y)))
    (λ j d y.
    let e : from + z + j ≡ from + (z + j) = omega arith in
    new (8 + j) (omega arith) ∙ rw (ep.final j y, eo.final j y, e))
    em er
