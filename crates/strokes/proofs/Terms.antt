-- The error term: at each pixel the coordinate is the nearest, and a step leads to the next pixel's.
-- Assumes nothing.
use mathlib.Core.Path.{◌≡◌, ap, sym, ◌∙◌}
use mathlib.Core.Logic.{⊎_elim, inl, inr}
use Prim.Native.Nat.{ℕ, zero, suc, ◌+◌, ◌-◌, ◌*◌, ◌/◌, ◌%◌, ◌≤◌, ◌<◌}
use native.Mathlib.Nat.{add-mul, mul-add, mul-suc, mul_assoc, mul_left_comm, one-mul, mul-le-mul_left}
use native.Mathlib.Nat.{div-add-mod, mod-lt}
use native.Mathlib.Omega.{arith}
use borrow.Author.Tests.{ltb-true, ltb-false}
use lib.Dec.{ltb}
use Rattle.lemmas.proofs.Booleans.{by_cases}
use Rattle.geometry.specs.Line.{exact, distance, nearest_of}
use Rattle.geometry.proofs.Lines.{Near, near, near-unique, below, le_of_not_lt, parts}
use Rattle.strokes.specs.declared.tracers.Stepper.{Stepper}
use Rattle.strokes.specs.Tracers.{Axis, Up, Down, On, Room, stepped, grown, stepped_by, Leaps}

-- a coordinate is at most the larger end's
pub nearest-below : (n i a b m : ℕ) → 0 < n → i ≤ n → a < m → b < m → nearest_of n i a b < m
nearest-below n i a b m some l p q =
    let v : ℕ = nearest_of n i a b in
    let most : exact n i a b ≤ n * (m - 1) =
    omega (arith, mul-le-mul_left {m = a} {n = m - 1} (n - i) (omega arith), mul-le-mul_left {m = b} {n = m - 1} i (omega arith), parts n i (m - 1) l) in
    let le : v ≤ m - 1 = le_of_not_lt (λ g. omega (arith, near n i a b some, below n (m - 1) v g)) in
    omega arith

exact-next : (n i a b : ℕ) → i < n → exact n (i + 1) a b + a ≡ exact n i a b + b
exact-next n i a b l =
    let same : (n - i) * a ≡ (n - (i + 1) + 1) * a = ap (λ (k : ℕ). k * a) (omega arith) in
    omega (arith, same, add-mul (n - (i + 1)) 1 a, one-mul a, add-mul i 1 b, one-mul b)

module _ (n i a b : ℕ) (g : Stepper) (o : On n i a b g) where
  near_up : Up n (exact n i a b) a b g → Near n (exact n i a b) g.coordinate
  near_up w = record { low = omega (arith, o.small, w.term); high = omega (arith, o.small, w.term) }

  near_down : Down n (exact n i a b) a b g → Near n (exact n i a b) g.coordinate
  near_down w = record { low = omega (arith, o.small, w.term); high = omega (arith, o.small, w.term) }

  pub on-nearest : 0 < n → g.coordinate ≡ nearest_of n i a b
  on-nearest some =
      near-unique n (exact n i a b) g.coordinate (nearest_of n i a b)
      (⊎_elim (λ w. near_up w) (λ w. near_down w) o.way)
      (near n i a b some)

  pub on_room : Axis n a b → i ≤ n → Room (2 * n) g
  on_room x l =
      record {
        full-most = omega (arith, x.steps-few);
        error-less = o.small;
        growth-most = omega (arith, o.grows, o.slope);
        coordinate-most = omega (arith, on-nearest x.some, nearest-below n i a b 131072 x.some l x.from-small x.to-small);
        up-most = ⊎_elim (λ w. omega (arith, w.up_is)) (λ w. omega (arith, w.up_is)) o.way;
        down-most = ⊎_elim (λ w. omega (arith, w.down_is)) (λ w. omega (arith, w.down_is)) o.way;
      }

module _ (n i a b : ℕ) (g : Stepper) (more : i < n) (o : On n i a b g) where
  -- where a step down is due there is one to take
  above_zero : Down n (exact n i a b) a b g → 2 * n ≤ g.error + g.growth → g.coordinate ≡ suc (g.coordinate - 1)
  above_zero w p = cases g.coordinate (omega (arith, o.grows, o.small, w.order, w.term, exact-next n i a b more))
    where
      cases : (k : ℕ) → n ≤ 2 * (n * k) → k ≡ suc (k - 1)
      cases zero q = omega (arith, q)
      cases (suc k) q = omega arith

  stays : g.error + g.growth < 2 * n
      → On n (i + 1) a b (record { coordinate = g.coordinate; error = g.error + g.growth; growth = g.growth; up = g.up; down = g.down })
  stays h =
      record {
        small = h;
        slope = o.slope;
        grows = o.grows;
        way =
            ⊎_elim
            (λ w. inl (record { order = w.order; up_is = w.up_is; down_is = w.down_is; term = omega (arith, o.grows, w.order, w.term, exact-next n i a b more) }))
            (λ w. inr (record { order = w.order; up_is = w.up_is; down_is = w.down_is; term = omega (arith, o.grows, w.order, w.term, exact-next n i a b more) }))
            o.way;
      }

  steps : 2 * n ≤ g.error + g.growth
      → On n (i + 1) a b (record { coordinate = g.coordinate + g.up - g.down; error = g.error + g.growth - 2 * n; growth = g.growth; up = g.up; down = g.down })
  steps h =
      record {
        small = omega (arith, o.grows, o.slope, o.small);
        slope = o.slope;
        grows = o.grows;
        way =
            ⊎_elim
            (λ w.
            let on : g.coordinate + g.up - g.down ≡ suc g.coordinate = omega (arith, w.up_is, w.down_is) in
            let whole : n * (g.coordinate + g.up - g.down) ≡ n * suc g.coordinate = ap (λ (k : ℕ). n * k) on in
            inl (record { order = w.order; up_is = w.up_is; down_is = w.down_is; term = omega (arith, h, whole, mul-suc n g.coordinate, o.grows, w.order, w.term, exact-next n i a b more) }))
            (λ w.
            let v = above_zero w h in
            let back : g.coordinate + g.up - g.down ≡ g.coordinate - 1 = omega (arith, v, w.up_is, w.down_is) in
            let whole : n * g.coordinate ≡ n * suc (g.coordinate - 1) = ap (λ (k : ℕ). n * k) v in
            let less : n * (g.coordinate + g.up - g.down) ≡ n * (g.coordinate - 1) = ap (λ (k : ℕ). n * k) back in
            inr (record { order = w.order; up_is = w.up_is; down_is = w.down_is; term = omega (arith, h, less, whole, mul-suc n (g.coordinate - 1), o.grows, w.order, w.term, exact-next n i a b more) }))
            o.way;
      }

  pub on-next : On n (i + 1) a b (stepped (2 * n) g)
  unfolding stepped
  on-next =
      by_cases (ltb (g.error + g.growth) (2 * n)) (λ t. rw t (stays (ltb-true (g.error + g.growth) (2 * n) t)))
      (λ t. rw t (steps (ltb-false (g.error + g.growth) (2 * n) t)))

-- the exact line: at its first pixel, up and down
first-exact : (n a b : ℕ) → exact n 0 a b ≡ n * a
first-exact n a b = omega (arith, parts n 0 a (omega arith))

pub exact-up : (n i a b : ℕ) → i ≤ n → a ≤ b → exact n i a b ≡ n * a + i * (b - a)
exact-up n i a b l o =
    let same : i * b ≡ i * (a + (b - a)) = ap (λ (k : ℕ). i * k) (omega arith) in
    omega (arith, same, mul-add i a (b - a), parts n i a l)

pub exact-down : (n i a b : ℕ) → i ≤ n → b ≤ a → exact n i a b + i * (a - b) ≡ n * a
exact-down n i a b l o =
    let same : i * a ≡ i * (b + (a - b)) = ap (λ (k : ℕ). i * k) (omega arith) in
    omega (arith, same, mul-add i b (a - b), parts n i a l)

-- i pixels on from the first
module _ (n i a b : ℕ) (g : Stepper) (x : Axis n a b) (l : i ≤ n) (o : On n 0 a b g) where
  abbrev turns : ℕ
  turns = grown i g / (2 * n)

  -- what the term has grown to, parted by the division
  divided : (2 * (n * turns) + grown i g % (2 * n) ≡ g.error + 2 * (i * distance a b)) × (grown i g % (2 * n) < 2 * n)
  divided =
      let grew : i * g.growth ≡ 2 * (i * distance a b) = ap (λ (k : ℕ). i * k) o.grows ∙ mul_left_comm i 2 (distance a b) in
      let twice : 2 * n * turns ≡ 2 * (n * turns) = mul_assoc 2 n turns in
      (omega (arith, div-add-mod (grown i g) (2 * n), grew, twice), mod-lt (grown i g) (omega (arith, x.some)))

  -- how far the coordinate goes, by what an axis steps by
  gone : (u v : ℕ) → g.up ≡ u → g.down ≡ v → (g.up * turns ≡ u * turns) × (g.down * turns ≡ v * turns)
  gone u v e f = (ap (λ (k : ℕ). k * turns) e, ap (λ (k : ℕ). k * turns) f)

  abbrev there : ℕ
  there = g.coordinate + g.up * turns - g.down * turns

  up-term : Up n (exact n 0 a b) a b g → 2 * (n * there) + grown i g % (2 * n) + 1 ≡ 2 * exact n i a b + n
  up-term w =
      let on : there ≡ g.coordinate + turns = omega (arith, gone 1 0 w.up_is w.down_is) in
      let whole : n * there ≡ n * g.coordinate + n * turns = ap (λ (k : ℕ). n * k) on ∙ mul-add n g.coordinate turns in
      let way : i * distance a b ≡ i * (b - a) = ap (λ (k : ℕ). i * k) (omega (arith, w.order)) in
      omega (arith, whole, way, divided.0, w.term, first-exact n a b, exact-up n i a b l w.order)

  module _ (w : Down n (exact n 0 a b) a b g) where
    fall : i * distance a b ≡ i * (a - b)
    fall = ap (λ (k : ℕ). i * k) (omega (arith, w.order))

    down-room : turns ≤ g.coordinate
    down-room =
        le_of_not_lt
        (λ h.
        let more = below n g.coordinate turns h in
        omega (arith, x.some, divided, fall, w.term, first-exact n a b, exact-down n i a b l w.order, more))

    down-term : 2 * (n * there) + n ≡ 2 * exact n i a b + grown i g % (2 * n)
    down-term =
        let back : there + turns ≡ g.coordinate = omega (arith, gone 0 1 w.up_is w.down_is, down-room) in
        let whole : n * there + n * turns ≡ n * g.coordinate = sym (mul-add n there turns) ∙ ap (λ (k : ℕ). n * k) back in
        omega (arith, whole, fall, divided.0, w.term, first-exact n a b, exact-down n i a b l w.order)

  pub can-leap : Leaps (2 * n) i g
  can-leap =
      record {
        full-some = omega (arith, x.some);
        room = on_room n 0 a b g o x (omega arith);
        pixels-few = omega (arith, x.steps-few);
        down-enough =
            ⊎_elim (λ w. omega (arith, gone 1 0 w.up_is w.down_is))
            (λ w. omega (arith, gone 0 1 w.up_is w.down_is, down-room w)) o.way;
      }

  pub leaps-on : (r : Stepper) → r ≡ stepped_by (2 * n) i g → On n i a b r
  unfolding stepped_by
  leaps-on r e =
      rw e
      (record {
        small = divided.1;
        slope = o.slope;
        grows = o.grows;
        way =
            ⊎_elim
            (λ w. inl (record { order = w.order; up_is = w.up_is; down_is = w.down_is; term = up-term w }))
            (λ w. inr (record { order = w.order; up_is = w.up_is; down_is = w.down_is; term = down-term w }))
            o.way;
      })
