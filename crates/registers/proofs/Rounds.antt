-- Many moves of the pattern in one go: repeat and place go round, each like a wheel.
-- Assumes nothing.
use mathlib.Core.Path.{◌≡◌, refl, ap, ap₂, sym, ◌∙◌}
use mathlib.Core.Bool.{false, cond}
use Prim.Native.Nat.{ℕ, zero, suc, ◌+◌, ◌-◌, ◌*◌, ◌/◌, ◌%◌, ◌<◌, ◌≤◌, min}
use native.Mathlib.Nat.{div-eq_of_lt, div_self, mod-lt, mod-eq_of_lt, mod_self, mod-add-div, mod-add-mod, add-mul-mod_self_left, add-mul-div_left}
use native.Mathlib.Omega.{arith}
use borrow.Author.Tests.{eqb-true, ltb-true, ltb-false, lt-ltb, le-ltb, ne_eqb}
use lib.Dec.{eqb, ltb}
use Rattle.lemmas.specs.Turns.{in_turn}
use Rattle.lemmas.proofs.Booleans.{by_cases, and_left, and_right}
use Rattle.entries.specs.declared.fields.PatternControl.{PatternControl}
use Rattle.registers.specs.Patterns.{next_of, moves_of, in_range, MovesInOneGo}
use Rattle.registers.specs.declared.dashes.Pattern.{Pattern}

-- A number that goes up by one, round a wheel of m places.
module _ (m x : ℕ) (some : 0 < m) where
  split : x + 1 ≡ x % m + 1 + m * (x / m)
  split = omega (arith, mod-add-div x m)

  wheel-mod : (x + 1) % m ≡ (x % m + 1) % m
  wheel-mod = ap (λ (y : ℕ). y % m) split ∙ add-mul-mod_self_left (x % m + 1) m (x / m)

  wheel-div : (x + 1) / m ≡ (x % m + 1) / m + x / m
  wheel-div = ap (λ (y : ℕ). y / m) split ∙ add-mul-div_left (x % m + 1) (x / m) some

  on-mod : x % m + 1 < m → (x + 1) % m ≡ x % m + 1
  on-mod h = wheel-mod ∙ mod-eq_of_lt h

  on-div : x % m + 1 < m → (x + 1) / m ≡ x / m
  on-div h = let none : (x % m + 1) / m ≡ 0 = div-eq_of_lt h in omega (arith, wheel-div, none)

  full : m ≤ x % m + 1 → x % m + 1 ≡ m
  full h = omega (arith, h, mod-lt x some)

  round-mod : m ≤ x % m + 1 → (x + 1) % m ≡ 0
  round-mod h = wheel-mod ∙ ap (λ (y : ℕ). y % m) (full h) ∙ mod_self m

  round-div : m ≤ x % m + 1 → (x + 1) / m ≡ x / m + 1
  round-div h = let once : (x % m + 1) / m ≡ 1 = ap (λ (y : ℕ). y / m) (full h) ∙ div_self some in omega (arith, wheel-div, once)

-- The place goes round the length; one past the end moves on as the last one does.
abbrev place_after : PatternControl → ℕ → Pattern → ℕ
place_after c turns p = cond (eqb turns 0) p.place ((min p.place (c.length - 1) + turns) % (c.length - 1 + 1))

-- The state g pixels after the last time that the repeat was 0.
abbrev round_to : PatternControl → ℕ → Pattern → Pattern
round_to c g p = record { place = place_after c (g / (c.scale - 1 + 1)) p; repeat = g % (c.scale - 1 + 1) }

place-on : (length y : ℕ) → cond (ltb (y + 1) length) (y + 1) 0 ≡ (min y (length - 1) + 1) % (length - 1 + 1)
place-on length y =
    by_cases (ltb (y + 1) length)
    (λ t.
    let h = ltb-true (y + 1) length t in
    rw t (sym (ap (λ (x : ℕ). x % (length - 1 + 1)) (omega (arith, h)) ∙ mod-eq_of_lt (omega (arith, h)))))
    (λ t.
    let h = ltb-false (y + 1) length t in
    rw t (sym (ap (λ (x : ℕ). x % (length - 1 + 1)) (omega (arith, h)) ∙ mod_self (length - 1 + 1))))

place-next : (c : PatternControl) (turns : ℕ) (p : Pattern)
    → cond (ltb (place_after c turns p + 1) c.length) (place_after c turns p + 1) 0 ≡ place_after c (turns + 1) p
place-next c turns p =
    let l : ℕ = c.length - 1 + 1 in
    let x : ℕ = min p.place (c.length - 1) + turns in
    let later : eqb (turns + 1) 0 ≡ false = ne_eqb (turns + 1) 0 (λ e. omega (arith, e)) in
    by_cases (eqb turns 0)
    (λ t.
    rw (t, later)
    (place-on c.length p.place ∙ ap (λ (y : ℕ). (min p.place (c.length - 1) + y) % l) (omega (arith, eqb-true turns 0 t))))
    (λ t.
    rw (t, later)
    (place-on c.length (x % l) ∙ ap (λ (y : ℕ). (y + 1) % l) (omega (arith, mod-lt x {m = l} (omega arith)))
    ∙ mod-add-mod x l 1 ∙ ap (λ (y : ℕ). y % l) (omega arith)))

-- the scale counts as 1 where it is 0
same_test : (scale y : ℕ) → ltb (y + 1) scale ≡ ltb (y + 1) (scale - 1 + 1)
same_test scale y =
    by_cases (ltb (y + 1) scale) (λ t. t ∙ sym (lt-ltb (y + 1) (scale - 1 + 1) (omega (arith, ltb-true (y + 1) scale t))))
    (λ t. t ∙ sym (le-ltb (y + 1) (scale - 1 + 1) (omega (arith, ltb-false (y + 1) scale t))))

round-next : (c : PatternControl) (g : ℕ) (p : Pattern) → next_of c (round_to c g p) ≡ round_to c (g + 1) p
unfolding next_of
round-next c g p =
    let s : ℕ = c.scale - 1 + 1 in
    let some : 0 < s = omega arith in
    by_cases (ltb (g % s + 1) s)
    (λ t.
    let h = ltb-true (g % s + 1) s t in
    rw (same_test c.scale (g % s), t)
    (λ i. record { place = place_after c (sym (on-div s g some h) i) p; repeat = sym (on-mod s g some h) i }))
    (λ t.
    let h = ltb-false (g % s + 1) s t in
    rw (same_test c.scale (g % s), t)
    (λ i.
    record {
      place = (place-next c (g / s) p ∙ ap (λ turns. place_after c turns p) (sym (round-div s g some h))) i;
      repeat = sym (round-mod s g some h) i;
    }))

-- a state moves as the one does whose repeat is below the scale
least-repeat : (c : PatternControl) (p : Pattern) → next_of c p ≡ next_of c (record { place = p.place; repeat = min p.repeat (c.scale - 1) })
unfolding next_of
least-repeat c p =
    let g : ℕ = min p.repeat (c.scale - 1) in
    by_cases (ltb (p.repeat + 1) c.scale)
    (λ t.
    let e : p.repeat ≡ g = omega (arith, ltb-true (p.repeat + 1) c.scale t) in
    ap (λ (r : ℕ). next_of c (record { place = p.place; repeat = r })) e)
    (λ t. rw (t, le-ltb (g + 1) c.scale (omega (arith, ltb-false (p.repeat + 1) c.scale t))))

round-first : (c : PatternControl) (p : Pattern) → next_of c p ≡ round_to c (min p.repeat (c.scale - 1) + 1) p
round-first c p =
    let g : ℕ = min p.repeat (c.scale - 1) in
    let small : g < c.scale - 1 + 1 = omega arith in
    least-repeat c p
    ∙ ap (next_of c) (λ i. record { place = place_after c (sym (div-eq_of_lt small) i) p; repeat = sym (mod-eq_of_lt small) i })
    ∙ round-next c g p

moves-round : (c : PatternControl) (n : ℕ) (p : Pattern) → 0 < n → moves_of c n p ≡ round_to c (min p.repeat (c.scale - 1) + n) p
unfolding in_turn
moves-round c zero p h = absurd (omega arith)
moves-round c (suc zero) p h = round-first c p
moves-round c (suc (suc n)) p h =
    ap (next_of c) (moves-round c (suc n) p (omega arith)) ∙ round-next c (min p.repeat (c.scale - 1) + suc n) p
    ∙ ap (λ g. round_to c g p) (omega arith)

pub moves-none : (c : PatternControl) (n : ℕ) (p : Pattern) → n ≡ 0 → p ≡ moves_of c n p
unfolding in_turn
moves-none c n p e = rw e

-- of a state in range
module _ (c : PatternControl) (p : Pattern) (place-in : p.place < c.length) (repeat-in : p.repeat < c.scale) where
  place_still : (p.place + 0) % c.length ≡ p.place
  place_still = let in-still : p.place + 0 < c.length = omega (arith, place-in) in mod-eq_of_lt in-still ∙ omega arith

  placed-in : (turns : ℕ) → place_after c turns p ≡ (p.place + turns) % c.length
  placed-in turns =
      by_cases (eqb turns 0)
      (λ t. rw (t, eqb-true turns 0 t) (sym place_still))
      (λ t.
      let least : min p.place (c.length - 1) ≡ p.place = omega (arith, place-in) in
      let long : c.length - 1 + 1 ≡ c.length = omega (arith, place-in) in
      rw (t, least, long))

  in-one-go : (n : ℕ)
      → moves_of c n p ≡ record { place = (p.place + (p.repeat + n) / c.scale) % c.length; repeat = (p.repeat + n) % c.scale }
  in-one-go zero =
      let still : p.repeat + 0 < c.scale = omega (arith, repeat-in) in
      sym (moves-none c 0 p refl)
      ∙ (λ i.
      record {
        place = sym (ap (λ (y : ℕ). (p.place + y) % c.length) (div-eq_of_lt still) ∙ place_still) i;
        repeat = (let same : p.repeat ≡ (p.repeat + 0) % c.scale = omega (arith, mod-eq_of_lt still) in same) i;
      })
  in-one-go (suc n) =
      let gone : min p.repeat (c.scale - 1) + suc n ≡ p.repeat + suc n = omega (arith, repeat-in) in
      let scale : c.scale - 1 + 1 ≡ c.scale = omega (arith, repeat-in) in
      moves-round c (suc n) p (omega arith)
      ∙ (λ i.
      record {
        place = (ap₂ (λ (g m : ℕ). place_after c (g / m) p) gone scale ∙ placed-in ((p.repeat + suc n) / c.scale)) i;
        repeat = ap₂ (λ (g m : ℕ). g % m) gone scale i;
      })

pub moves-in-one-go : MovesInOneGo
unfolding in_range
moves-in-one-go c n p h =
    let place-in = ltb p.place c.length in
    let repeat-in = ltb p.repeat c.scale in
    in-one-go c p (ltb-true p.place c.length (and_left place-in repeat-in h)) (ltb-true p.repeat c.scale (and_right place-in repeat-in h)) n

-- a place on a wheel is in the machine's numbers
pub turned-small : (x last n : ℕ) → last ≡ n - 1 → n < 4294967296 → x % (last + 1) < 4294967296
turned-small x last n e h = let small : x % (last + 1) < last + 1 = mod-lt x {m = last + 1} (omega arith) in omega arith

-- what the sums of one go give
module _ (c : PatternControl) (p : Pattern) (n last g : ℕ) (some : n ≡ 0 → ⊥) (last-is : last ≡ c.scale - 1) (g-is : g ≡ min p.repeat last) where
  rounds : round_to c (g + n) p ≡ moves_of c n p
  rounds =
      ap (λ (x : ℕ). round_to c (x + n) p) (g-is ∙ ap (min p.repeat) last-is)
      ∙ sym (moves-round c n p (positive n some))
    where
      positive : (n : ℕ) → (n ≡ 0 → ⊥) → 0 < n
      positive zero h = absurd (h refl)
      positive (suc n) h = omega arith

  same-repeat : (g + n) % (last + 1) ≡ (round_to c (g + n) p).repeat
  same-repeat = ap (λ (x : ℕ). (g + n) % (x + 1)) last-is

  same-turns : (g + n) / (last + 1) ≡ (g + n) / (c.scale - 1 + 1)
  same-turns = ap (λ (x : ℕ). (g + n) / (x + 1)) last-is

  pub after-within : (g + n) / (last + 1) ≡ 0 → record { place = p.place; repeat = (g + n) % (last + 1) } ≡ moves_of c n p
  after-within h =
      (λ i. record { place = place_after c ((sym h ∙ same-turns) i) p; repeat = same-repeat i })
      ∙ rounds

  pub after-rounds : ((g + n) / (last + 1) ≡ 0 → ⊥) → (top m : ℕ) → top ≡ c.length - 1 → m ≡ min p.place top
      → record { place = (m + (g + n) / (last + 1)) % (top + 1); repeat = (g + n) % (last + 1) } ≡ moves_of c n p
  after-rounds h top m top-is m-is =
      let turns : ℕ = (g + n) / (last + 1) in
      let later : place_after c turns p ≡ (min p.place (c.length - 1) + turns) % (c.length - 1 + 1) = rw (ne_eqb turns 0 h) in
      (λ i.
      record {
        place =
            (ap (λ (x : ℕ). (x + turns) % (top + 1)) m-is ∙ ap (λ (x : ℕ). (min p.place x + turns) % (x + 1)) top-is ∙ sym later
            ∙ ap (λ (x : ℕ). place_after c x p) same-turns)
            i;
        repeat = same-repeat i;
      })
      ∙ rounds
