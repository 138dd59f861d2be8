-- The drawn visits of one row are one row of bytes.
-- Assumes nothing.
use mathlib.Core.Path.{◌≡◌, ap, sym, subst, ◌∙◌}
use mathlib.Core.Bool.{Bool, true, false, cond}
use mathlib.Core.List.{List}
use mathlib.Core.Logic.{⊎_elim}
use Prim.Native.Nat.{ℕ, ◌+◌, ◌-◌, ◌*◌, ◌≤◌, ◌<◌, min, max}
use native.Mathlib.Nat.{add_assoc}
use native.Mathlib.Omega.{arith}
use lib.ListN.{get_or}
use Rattle.geometry.specs.Coordinates.{origin, point_of}
use Rattle.geometry.specs.Blit.{width_of, right_to_left, away}
use Rattle.lemmas.specs.Sweeps.{sweep}
use Rattle.lemmas.proofs.Sweeps.{sweep-agree, turn-sweep}
use Rattle.lemmas.specs.Turns.{in_turn}
use Rattle.geometry.specs.Clip.{place_in}
use Rattle.blits.specs.Blits.{painted, reads, source_width, target_at, source_at, visible_at, visited}
use Rattle.blits.specs.Ranges.{visible_columns}
use Rattle.blits.specs.Places.{target_row, source_row, left_edge}
use Rattle.blits.specs.Rows.{row_of}
use Rattle.blits.specs.declared.Blit.{Blit}
use Rattle.blits.specs.declared.Paint.{Paint}
use Rattle.lemmas.proofs.Turns.{turn-idle}
use Rattle.blits.proofs.Painted.{same_source}
use Rattle.blits.proofs.Visits.{x-from, visit-drawn, visit-hidden}
use Rattle.blits.proofs.Axes.{ColumnIn, RowIn, column-of, column-by, target_is, source_is, in-visible, visible-in}

-- a sweep over the places of a row, in either direction
sweep-row : (paint : Paint) (back : Bool) (other : List ℕ) (at from n : ℕ) (place source : ℕ → ℕ)
    → ((k : ℕ) → k < n → place k ≡ cond back (at + n - (k + 1)) (at + k))
    → ((k : ℕ) → k < n → reads paint ≡ true → source k ≡ cond back (from + n - (k + 1)) (from + k)) → (l : List ℕ)
    → sweep place (λ k m. painted paint other m (source k) (get_or m (place k) 0)) n l ≡ row_of paint back other at from n l
unfolding row_of
sweep-row paint false other at from n place source p q l =
    sweep-agree place (λ k m. painted paint other m (source k) (get_or m (place k) 0)) l (λ k. at + k)
    (λ k m. painted paint other m (from + k) (get_or m (at + k) 0)) n p
    (λ k h.
    let m = sweep place (λ k m. painted paint other m (source k) (get_or m (place k) 0)) k l in
    ap (λ x. painted paint other m (source k) (get_or m x 0)) (p k h) ∙ same_source paint other m (source k) (from + k) (get_or m (at + k) 0) (q k h))
sweep-row paint true other at from n place source p q l =
    sweep-agree place (λ k m. painted paint other m (source k) (get_or m (place k) 0)) l (λ k. at + n - (k + 1))
    (λ k m. painted paint other m (from + n - (k + 1)) (get_or m (at + n - (k + 1)) 0)) n p
    (λ k h.
    let m = sweep place (λ k m. painted paint other m (source k) (get_or m (place k) 0)) k l in
    ap (λ x. painted paint other m (source k) (get_or m x 0)) (p k h)
    ∙ same_source paint other m (source k) (from + n - (k + 1)) (get_or m (at + n - (k + 1)) 0) (q k h))

-- the columns beyond column a + k
beyond : (a k z : ℕ) → a + k < z → z ≡ a + k + 1 + (z - (a + k + 1))
beyond a k z h = omega arith

beyond-left : (x a k z : ℕ) → a + k < z → origin ≤ x - (z - 1) → x ≡ origin + (x - (z - 1) - origin) + (a + k + (z - (a + k + 1)))
beyond-left x a k z h far = omega arith

back-place : (base x a z k d u : ℕ) → z ≡ a + k + 1 + d → x ≡ origin + u + (a + k + d)
    → base + (x - (a + k) - origin) ≡ base + (x - (z - 1) - origin) + (z - a) - (k + 1)
back-place base x a z k d u ez ex =
    let here : x - (a + k) - origin ≡ u + d = rw ex (omega arith) in
    let left : x - (z - 1) - origin ≡ u = rw (ex, ez) (omega arith) in
    let count : z - a ≡ k + 1 + d = rw ez (omega arith) in
    rw (here, left, count) (counted base u k d)
  where
    counted : (base u k d : ℕ) → base + (u + d) ≡ base + u + (k + 1 + d) - (k + 1)
    counted base u k d = omega arith

-- how many of m columns from c on are from a to before z
count_of : (m c a z : ℕ) → c ≤ a → a < z → z ≤ c + m → min m (z - c) - (a - c) ≡ z - a
count_of m c a z low some high = omega arith

pub from-least : (c from a : ℕ) → a ≡ max c from → (c ≤ a) × (from ≤ a)
from-least c from a e = (omega arith, omega arith)

pub past-most : (e past z : ℕ) → z ≡ min e past → (z ≤ e) × (z ≤ past)
past-most e past z h = (omega arith, omega arith)

-- column i of a stretch that begins at c, by a and z
from_in : (c from a i : ℕ) → a ≡ max c from → a - c ≤ i → from ≤ c + i
from_in c from a i e h = omega arith

past-in : (c m past z i : ℕ) → z ≡ min (c + m) past → i < z - c → c + i < past
past-in c m past z i e h = omega arith

pub before-from : (c from a i : ℕ) → a ≡ max c from → i < a - c → from ≤ c + i → ⊥
before-from c from a i e h f = omega arith

pub after-past : (c m past z i : ℕ) → z ≡ min (c + m) past → z - c ≤ i → i < m → c + i < past → ⊥
after-past c m past z i e h q f = omega arith

-- the place of column a + k, of those from a to before z
column-place : (back : Bool) (base x a z k : ℕ) → 65536 ≤ x → z ≤ 65536 → a + k < z → origin ≤ away back x a → origin ≤ away back x (z - 1)
    → base + (away back x (a + k) - origin) ≡ cond back (base + (left_edge back x a z - origin) + (z - a) - (k + 1)) (base + (left_edge back x a z - origin) + k)
column-place true base x a z k high small h low far =
    back-place base x a z k (z - (a + k + 1)) (x - (z - 1) - origin) (beyond a k z h) (beyond-left x a k z h far)
column-place false base x a z k high small h low far = omega arith

module _ (b : Blit) (other : List ℕ) (r c m : ℕ) (fits : c + m ≤ width_of b.size) (size_small : b.size < 4294967296) where
  abbrev visit : ℕ → List ℕ → List ℕ
  visit i l = visited b other (width_of b.size * r + c + i) l

  at-index : (i : ℕ) → width_of b.size * r + c + i ≡ width_of b.size * r + (c + i)
  at-index i = add_assoc (width_of b.size * r) c i

  abbrev InRanges : ℕ → Type 0
  InRanges i = RowIn b r × ((visible_columns b).from ≤ c + i) × (c + i < (visible_columns b).past)

  ranges-of : (i : ℕ) → i < m → visible_at b (width_of b.size * r + c + i) ≡ true → InRanges i
  ranges-of i q d =
      let visible = visible-in b r (c + i) (omega (arith, q, fits)) size_small (subst (λ k. visible_at b k ≡ true) (at-index i) d) in
      let columns = column-by b (c + i) (omega (arith, q, fits, size_small)) visible.1 in
      (visible.0, columns.0, columns.1)

  ranges-by : (i : ℕ) → i < m → InRanges i → visible_at b (width_of b.size * r + c + i) ≡ true
  ranges-by i q s =
      subst (λ k. visible_at b k ≡ true) (sym (at-index i))
      (in-visible b r (c + i) (omega (arith, q, fits)) size_small s.0 (column-of b (c + i) (omega (arith, q, fits, size_small)) s.1 s.2))

  -- a row of which nothing is visible
  pub row-hidden : (l : List ℕ) → ((i : ℕ) → i < m → InRanges i → ⊥) → l ≡ in_turn visit m l
  row-hidden l h =
      sym (turn-idle visit m l (λ i q k. visit-hidden b other (width_of b.size * r + c + i) k (λ d. h i q (ranges-of i q d))))

  -- a row of which the columns from a to before z are visible
  module _ (a z : ℕ) (starts : a ≡ max c (visible_columns b).from) (ends : z ≡ min (c + m) (visible_columns b).past) (some : a < z)
      (visible : RowIn b r) (window-in : origin ≤ b.window.left) where
    abbrev place : ℕ → ℕ
    place i = place_in b.width (target_at b (width_of b.size * r + c + i))

    abbrev source : ℕ → ℕ
    source i = place_in (source_width b) (source_at b (width_of b.size * r + c + i))

    row-swept : (l : List ℕ) → in_turn visit m l
        ≡ sweep (λ k. place (a - c + k)) (λ k m. painted b.paint other m (source (a - c + k)) (get_or m (place (a - c + k)) 0)) (z - a) l
    row-swept l =
        let count = count_of m c a z (from-least c (visible_columns b).from a starts).0 some (past-most (c + m) (visible_columns b).past z ends).0 in
        turn-sweep visit place (λ i m. painted b.paint other m (source i) (get_or m (place i) 0)) (a - c) (z - c) l m
        (λ i q k from to.
        visit-drawn b other (width_of b.size * r + c + i) k
        (ranges-by i q (visible, from_in c (visible_columns b).from a i starts from, past-in c m (visible_columns b).past z i ends to)))
        (λ i q k out.
        visit-hidden b other (width_of b.size * r + c + i) k
        (λ d.
        let s = ranges-of i q d in
        ⊎_elim (λ h. before-from c (visible_columns b).from a i starts h s.1) (λ h. after-past c m (visible_columns b).past z i ends h q s.2) out))
        ∙ ap (λ n. sweep (λ k. place (a - c + k)) (λ k m. painted b.paint other m (source (a - c + k)) (get_or m (place (a - c + k)) 0)) n l) count

    -- column a + k of the row
    column : (k : ℕ) → k < z - a → (width_of b.size * r + c + (a - c + k) ≡ width_of b.size * r + (a + k)) × (a + k < width_of b.size)
    column k h =
        let e : c + (a - c + k) ≡ a + k = omega (arith, starts) in
        (at-index (a - c + k) ∙ ap (λ j. width_of b.size * r + j) e, omega (arith, ends, fits, h))

    within : (j : ℕ) → a ≤ j → j < z → ColumnIn b j
    within j from to = column-of b j (omega (arith, ends, to, fits, size_small)) (omega (arith, starts, from)) (omega (arith, ends, to))

    abbrev target_base : ℕ
    target_base = (target_row b r - origin) * b.width

    abbrev source_base : ℕ
    source_base = (source_row b r - origin) * source_width b

    place_is : (k : ℕ) → k < z - a →
        let at = target_base + (left_edge (right_to_left b.direction) (point_of b.to).x a z - origin) in
        place (a - c + k) ≡ cond (right_to_left b.direction) (at + (z - a) - (k + 1)) (at + k)
    place_is k h =
        let j = column k h in
        let first = within a (omega arith) some in
        let last = within (z - 1) (omega (arith, some)) (omega (arith, some)) in
        ap (λ i. place_in b.width (target_at b i)) j.0 ∙ ap (place_in b.width) (target_is b r (a + k) j.1 size_small)
        ∙ column-place (right_to_left b.direction) target_base (point_of b.to).x a z k (x-from b.to) (omega (arith, ends, fits, size_small))
        (omega (arith, h)) (omega (arith, window-in, first.low)) (omega (arith, window-in, last.low))

    source-place : (k : ℕ) → k < z - a → reads b.paint ≡ true →
        let from = source_base + (left_edge (right_to_left b.direction) (point_of b.from).x a z - origin) in
        source (a - c + k) ≡ cond (right_to_left b.direction) (from + (z - a) - (k + 1)) (from + k)
    source-place k h t =
        let j = column k h in
        let first = (within a (omega arith) some).source t in
        let last = (within (z - 1) (omega (arith, some)) (omega (arith, some))).source t in
        ap (λ i. place_in (source_width b) (source_at b i)) j.0 ∙ ap (place_in (source_width b)) (source_is b r (a + k) j.1 size_small)
        ∙ column-place (right_to_left b.direction) source_base (point_of b.from).x a z k (x-from b.from) (omega (arith, ends, fits, size_small))
        (omega (arith, h)) first.0 last.0

    pub row-drawn : (l : List ℕ) →
        row_of b.paint (right_to_left b.direction) other
        (target_base + (left_edge (right_to_left b.direction) (point_of b.to).x a z - origin))
        (source_base + (left_edge (right_to_left b.direction) (point_of b.from).x a z - origin)) (z - a) l
        ≡ in_turn visit m l
    row-drawn l =
        sym
        (row-swept l
        ∙ sweep-row b.paint (right_to_left b.direction) other
        (target_base + (left_edge (right_to_left b.direction) (point_of b.to).x a z - origin))
        (source_base + (left_edge (right_to_left b.direction) (point_of b.from).x a z - origin)) (z - a) (λ k. place (a - c + k))
        (λ k. source (a - c + k)) place_is source-place l)
