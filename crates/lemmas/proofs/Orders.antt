-- Changes of bytes, each at a place of its own: the order in which they are made is no matter, and made twice they leave what
-- stood there where each of them undoes itself.
-- Assumes nothing.
use mathlib.Core.Path.{◌≡◌, refl, ap, sym, ◌∙◌}
use mathlib.Core.Bool.{Bool, true, false, cond}
use mathlib.Core.List.{List, [], ◌∷◌}
use Prim.Native.Nat.{ℕ, zero, suc, ◌+◌, ◌-◌, ◌<◌}
use native.Mathlib.Omega.{arith}
use lib.ListN.{get_or, set}
use Rattle.lemmas.specs.Turns.{in_turn}
use Rattle.lemmas.specs.Sweeps.{sweep}
use Rattle.lemmas.proofs.Turns.{Commute, turn-back, turn_twice}
use Rattle.lemmas.proofs.Sweeps.{sweep-agree, all-sweep}

-- the byte at a place, changed by what stands there
abbrev changed : (ℕ → ℕ) → ℕ → List ℕ → List ℕ
changed f i l = set l i (f (get_or l i 0))

changes-commute : (f g : ℕ → ℕ) (i j : ℕ) (l : List ℕ) → (i ≡ j → ⊥) → changed f i (changed g j l) ≡ changed g j (changed f i l)
changes-commute f g i j [] d = refl
changes-commute f g zero zero (x ∷ l) d = absurd (d refl)
changes-commute f g zero (suc j) (x ∷ l) d = refl
changes-commute f g (suc i) zero (x ∷ l) d = refl
changes-commute f g (suc i) (suc j) (x ∷ l) d = ap (λ m. x ∷ m) (changes-commute f g i j l (λ e. d (ap suc e)))

change-undone : (f : ℕ → ℕ) (i : ℕ) (l : List ℕ) → f (f (get_or l i 0)) ≡ get_or l i 0 → changed f i (changed f i l) ≡ l
change-undone f i [] e = refl
change-undone f zero (x ∷ l) e = ap (λ y. y ∷ l) e
change-undone f (suc i) (x ∷ l) e = ap (λ m. x ∷ m) (change-undone f i l e)

-- n changes at places that are all different, of which some are not made
module _ (made : ℕ → Bool) (place : ℕ → ℕ) (f : ℕ → ℕ → ℕ) (n : ℕ)
    (differ : (i j : ℕ) → i < n → j < n → made i ≡ true → made j ≡ true → place i ≡ place j → i ≡ j) where
  abbrev change : ℕ → List ℕ → List ℕ
  change k l = cond (made k) (changed (f k) (place k) l) l

  commute : Commute change n
  commute i j h k d l = by (made i) (made j) (λ p q e. d (differ i j h k p q e))
    where
      by : (s t : Bool) → (s ≡ true → t ≡ true → place i ≡ place j → ⊥) →
          let one : List ℕ → List ℕ = λ l. cond s (changed (f i) (place i) l) l in
          let two : List ℕ → List ℕ = λ l. cond t (changed (f j) (place j) l) l in
          one (two l) ≡ two (one l)
      by true true e = changes-commute (f i) (f j) (place i) (place j) l (e refl refl)
      by true false e = refl
      by false t e = refl

  pub either_order : (l : List ℕ) → in_turn (λ k. change (n - suc k)) n l ≡ in_turn change n l
  either_order l = turn-back change n l commute

  pub twice-undone : (l : List ℕ) → ((k : ℕ) → k < n → f k (f k (get_or l (place k) 0)) ≡ get_or l (place k) 0)
      → in_turn change n (in_turn change n l) ≡ l
  twice-undone l undoes = turn_twice change n l commute (λ k h. by k (made k) (undoes k h))
    where
      by : (k : ℕ) (t : Bool) → f k (f k (get_or l (place k) 0)) ≡ get_or l (place k) 0 →
          let one : List ℕ → List ℕ = λ l. cond t (changed (f k) (place k) l) l in
          one (one l) ≡ l
      by k true e = change-undone (f k) (place k) l e
      by k false e = refl

-- ---- a row, from left to right and from right to left
abbrev pub right : (ℕ → ℕ → ℕ) → ℕ → List ℕ → ℕ → List ℕ
right f n l at = sweep (λ k. at + k) (λ k m. f k (get_or m (at + k) 0)) n l

abbrev pub left : (ℕ → ℕ → ℕ) → ℕ → List ℕ → ℕ → List ℕ
left f n l at = sweep (λ k. at - (k + 1)) (λ k m. f (n - (k + 1)) (get_or m (at - (k + 1)) 0)) n l

pub turned : (f : ℕ → ℕ → ℕ) (n : ℕ) (l : List ℕ) (at : ℕ) → left f n l (at + n) ≡ right f n l at
turned f n l at =
    let change : ℕ → List ℕ → List ℕ = λ k. changed (f k) (at + k) in
    sym
    (all-sweep (λ k. change (n - suc k)) (λ k. at + n - (k + 1)) (λ k m. f (n - (k + 1)) (get_or m (at + n - (k + 1)) 0)) l n
    (λ k h m.
    let j : n - suc k ≡ n - (k + 1) = omega arith in
    let i : at + (n - (k + 1)) ≡ at + n - (k + 1) = omega arith in
    rw (j, i)))
    ∙ either_order (λ k. true) (λ k. at + k) f n (λ i j h k p q e. omega arith) l
    ∙ all-sweep change (λ k. at + k) (λ k m. f k (get_or m (at + k) 0)) l n (λ k h m. refl)

-- by what a source has at a place of its own
pub turned-from : (f : ℕ → ℕ → ℕ) (n : ℕ) (l : List ℕ) (at from : ℕ)
    → sweep (λ k. at + n - (k + 1)) (λ k m. f (from + n - (k + 1)) (get_or m (at + n - (k + 1)) 0)) n l ≡ right (λ k. f (from + k)) n l at
turned-from f n l at from =
    sweep-agree (λ k. at + n - (k + 1)) (λ k m. f (from + n - (k + 1)) (get_or m (at + n - (k + 1)) 0)) l
    (λ k. at + n - (k + 1)) (λ k m. f (from + (n - (k + 1))) (get_or m (at + n - (k + 1)) 0)) n
    (λ k p. refl)
    (λ k p. let w : from + n - (k + 1) ≡ from + (n - (k + 1)) = omega arith in rw w)
    ∙ turned (λ k. f (from + k)) n l at
