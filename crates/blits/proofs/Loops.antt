-- Visits row after row: those that are drawn at once, what their loop keeps, and the tests before them.
-- Assumes nothing.
use mathlib.Core.Path.{◌≡◌, refl, ap, sym, ◌∙◌}
use mathlib.Core.Bool.{true, false, cond, ◌&&◌}
use mathlib.Core.List.{List}
use Prim.Native.Nat.{ℕ, suc, ◌+◌, ◌-◌, ◌*◌, ◌/◌, ◌%◌, ◌≤◌, ◌<◌, min}
use native.Mathlib.Nat.{add_assoc, mul-add, mul-suc, mul_comm, mul-le-mul_left, div-add-mod, mod-lt}
use native.Mathlib.Omega.{arith}
use borrow.Author.Tests.{leb-true, leb-false, eqb-true}
use lib.Dec.{leb, eqb}
use lib.ListN.{length}
use Rattle.lemmas.proofs.Booleans.{by_cases, and_left, and_right}
use Rattle.geometry.specs.Blit.{width_of, height_of, blit_count}
use Rattle.geometry.proofs.Blits.{factor-pos}
use Rattle.lemmas.specs.Turns.{in_turn}
use Rattle.blits.specs.Blits.{visited, window_inside, blit_fits, blitted, Fitting, AtOnce}
use Rattle.blits.specs.declared.Blit.{Blit}
use Rattle.lemmas.proofs.Turns.{turn-none, turn-join, turn_agree}
use Rattle.blits.proofs.Rooms.{RowFits}

pub fitting-of : (b : Blit) (first n other own : ℕ) → blit_fits b first n other own ≡ true → Fitting b first n other own
fitting-of b first n other own h =
    let p = eqb own (b.width * b.height) in
    let q = eqb other (b.width * b.height) in
    let r = window_inside b.width b.height b.window in
    let s = leb (first + n) (blit_count b.size) in
    let three = and_left (p && q && r) s h in
    let two = and_left (p && q) r three in
    record {
      own-area = eqb-true own (b.width * b.height) (and_left p q two);
      other-area = eqb-true other (b.width * b.height) (and_right p q two);
      inside = and_right (p && q) r three;
      visits = leb-true (first + n) (blit_count b.size) (and_right (p && q && r) s h);
    }

-- a blit with visits has columns
pub across-some : (b : Blit) (first n other own : ℕ) → Fitting b first n other own → 0 < n → 0 < width_of b.size
across-some b first n other own f some = factor-pos (width_of b.size) (height_of b.size) first (omega (arith, f.visits, some))

-- where a visit stands
pub record Stands (w first k row column : ℕ) : Type 0 where
  pub here : first + k ≡ w * row + column
  pub short : column < w

stands-first : (w first : ℕ) → 0 < w → Stands w first 0 (first / w) (first % w)
stands-first w first h =
    record { here = (let e : first + 0 ≡ first = omega arith in e) ∙ sym (div-add-mod first w); short = mod-lt first h }

stands-next : (w first n k row column m rows : ℕ) → AtOnce w column m (n - k) rows → k + m * rows < n → Stands w first k row column
    → Stands w first (k + m * rows) (row + rows) 0
stands-next w first n k row column m rows q h s =
    record { here = omega (arith, s.here, mul-add w row rows, q.ended (omega arith)); short = omega (arith, s.short) }

pub row_below : (w h k r c : ℕ) → k < w * h → k ≡ w * r + c → r < h
row_below w h k r c l e =
    by_cases (leb (suc r) h) (λ t. leb-true (suc r) h t)
    (λ t.
    let far = leb-false (suc r) h t in
    absurd (omega (arith, l, e, mul-le-mul_left {m = h} {n = r} w (omega (arith, far)))))

-- m visits from column c on in each of so many rows from `row` on, one after the other
pub record PartFits (b : Blit) (row rows c m other own : ℕ) : Type 0 where
  pub some : 0 < rows
  pub even : (k : ℕ) → k < rows → width_of b.size * k ≡ m * k
  pub each : (r : ℕ) → row ≤ r → r < row + rows → RowFits b r c m other own

-- all visits of a blit
pub whole_part : (b : Blit) (first n other own : ℕ) → 0 < blit_count b.size → b.size < 4294967296 → Fitting b first n other own
    → PartFits b 0 (height_of b.size) 0 (width_of b.size) other own
whole_part b first n other own some small f =
    record {
      some = factor-pos (height_of b.size) (width_of b.size) 0 (omega (arith, some, mul_comm (width_of b.size) (height_of b.size)));
      even = λ k p. refl;
      each =
          λ r p q. record {
            size_small = small;
            row_small = omega arith;
            columns = omega arith;
            own-area = f.own-area;
            other-area = f.other-area;
            inside = f.inside;
          };
    }

pub whole-fitting : (b : Blit) (first n other own : ℕ) → Fitting b first n other own → Fitting b 0 (blit_count b.size) other own
whole-fitting b first n other own f =
    record { own-area = f.own-area; other-area = f.other-area; inside = f.inside; visits = omega arith }

pub whole-first : (b : Blit) (first n : ℕ) (other l k : List ℕ) → n ≡ blit_count b.size → first + n ≤ blit_count b.size
    → k ≡ in_turn (visited b other) (blit_count b.size) l → k ≡ in_turn (λ i. visited b other (first + i)) n l
whole-first b first n other l k all fit e =
    e
    ∙ turn_agree (visited b other) (λ i. visited b other (first + i)) (blit_count b.size) l
    (λ i p t. let same : i ≡ first + i = omega (arith, all, fit) in ap (λ j. visited b other j t) same)
    ∙ ap (λ n. in_turn (λ i. visited b other (first + i)) n l) (sym all)

pub no-visits : (b : Blit) (first n : ℕ) (other l : List ℕ) → n ≡ 0 → l ≡ in_turn (λ i. visited b other (first + i)) n l
no-visits b first n other l e = turn-none (λ i. visited b other (first + i)) l ∙ ap (λ n. in_turn (λ i. visited b other (first + i)) n l) (sym e)

-- more visits
pub visits-more : (b : Blit) (other l k₁ k₂ : List ℕ) (first k start m : ℕ) → k₁ ≡ in_turn (λ i. visited b other (first + i)) k l
    → first + k ≡ start → k₂ ≡ in_turn (λ i. visited b other (start + i)) m k₁ → k₂ ≡ in_turn (λ i. visited b other (first + i)) (k + m) l
visits-more b other l k₁ k₂ first k start m e s g =
    g
    ∙ turn_agree (λ i. visited b other (start + i)) (λ i. visited b other (first + (k + i))) m k₁
    (λ i p t. ap (λ j. visited b other j t) (ap (λ j. j + i) (sym s) ∙ add_assoc first k i))
    ∙ ap (in_turn (λ i. visited b other (first + (k + i))) m) e
    ∙ turn-join (λ i. visited b other (first + i)) l k m

-- the loop over rows: k of n visits are done, which left t, and the next stands in its row and column
pub record Visiting (b : Blit) (other : List ℕ) (first n : ℕ) (l t : List ℕ) (row column k : ℕ) : Type 0 where
  pub few : k ≤ n
  pub long : length t ≡ length l
  pub fits : Fitting b first n (length other) (length l)
  pub small : b.size < 4294967296
  pub stands : k < n → Stands (width_of b.size) first k row column
  pub done : t ≡ in_turn (λ i. visited b other (first + i)) k l

pub visiting-start : (b : Blit) (other : List ℕ) (first n : ℕ) (l : List ℕ) → 0 < n → b.size < 4294967296 → Fitting b first n (length other) (length l)
    → Visiting b other first n l l (first / width_of b.size) (first % width_of b.size) 0
visiting-start b other first n l some small f =
    record {
      few = omega arith;
      long = refl;
      fits = f;
      small = small;
      stands = λ _. stands-first (width_of b.size) first (across-some b first n (length other) (length l) f some);
      done = turn-none (λ i. visited b other (first + i)) l;
    }

module _ {b : Blit} {other : List ℕ} {first n : ℕ} {l t : List ℕ} {row column k : ℕ} (v : Visiting b other first n l t row column k) where
  -- how many are next, by a size that is the blit's
  pub visiting-next : (size m rows : ℕ) → size ≡ b.size → k < n → m ≡ min (n - k) (size / 65536 - column)
      → ((column : ℕ) → column < size / 65536 → m ≡ min (n - k) (size / 65536 - column) → AtOnce (size / 65536) column m (n - k) rows)
      → (m ≡ min (n - k) (width_of b.size - column)) × AtOnce (width_of b.size) column m (n - k) rows
  visiting-next size m rows same h e q = (rw same at e, rw (← same) (q column (omega (arith, (v.stands h).short, same)) e))

  -- the next visits, m in each of so many rows
  module _ (h : k < n) (m rows : ℕ) (e : m ≡ min (n - k) (width_of b.size - column))
      (q : AtOnce (width_of b.size) column m (n - k) rows) where
    visiting-some : 0 < m
    visiting-some = omega (arith, (v.stands h).short)

    -- each row of them ends before they do
    row_ends : (j : ℕ) → j < rows → m * j + m ≤ m * rows
    row_ends j p = omega (arith, mul-suc m j, mul-le-mul_left {m = suc j} {n = rows} m (omega (arith, p)))

    pub visiting-more : (0 < m * rows) × (k + m * rows ≤ n)
    visiting-more = (omega (arith, visiting-some, row_ends 0 q.some), omega (arith, q.fit))

    next_row : (j : ℕ) → j < rows → row + j < height_of b.size
    next_row j p =
        let w = width_of b.size in
        row_below w (height_of b.size) (w * (row + j) + column) (row + j) column
        (omega (arith, (v.stands h).here, mul-add w row j, q.even j p, row_ends j p, visiting-some, q.fit, v.fits.visits)) refl

    pub visiting-low : row + rows ≤ 65536
    visiting-low = omega (arith, next_row (rows - 1) (omega (arith, q.some)), q.some)

    pub visiting-part : PartFits b row rows column m (length other) (length t)
    visiting-part =
        record {
          some = q.some;
          even = q.even;
          each =
              λ r low high.
              let j = r - row in
              let here : row + j ≡ r = omega arith in
              record {
                size_small = v.small;
                row_small = omega (arith, v.small, next_row j (omega arith), here);
                columns = omega (arith, e, (v.stands h).short);
                own-area = v.long ∙ v.fits.own-area;
                other-area = v.fits.other-area;
                inside = v.fits.inside;
              };
        }

    pub visiting-turn : (u : List ℕ) → length u ≡ length t
        → u ≡ in_turn (λ i. visited b other (width_of b.size * row + column + i)) (m * rows) t → Visiting b other first n l u
        (row + rows) 0 (k + m * rows)
    visiting-turn u s g =
        record {
          few = visiting-more.1;
          long = s ∙ v.long;
          fits = v.fits;
          small = v.small;
          stands = λ p. stands-next (width_of b.size) first n k row column m rows q p (v.stands h);
          done = visits-more b other l t u first k (width_of b.size * row + column) (m * rows) v.done (v.stands h).here g;
        }

-- a blit by the tests that it passes
pub blit-out : (b : Blit) (first n : ℕ) (other l : List ℕ) → blit_fits b first n (length other) (length l) ≡ false → l ≡ blitted b first n other l
unfolding blitted
blit-out b first n other l e = ap (λ t. cond t (in_turn (λ i. visited b other (first + i)) n l) l) (sym e)

pub blit-in : (b : Blit) (first n : ℕ) (other l : List ℕ) → blit_fits b first n (length other) (length l) ≡ true
    → in_turn (λ i. visited b other (first + i)) n l ≡ blitted b first n other l
unfolding blitted
blit-in b first n other l e = ap (λ t. cond t (in_turn (λ i. visited b other (first + i)) n l) l) (sym e)

-- where they pass: no visits, all of them, and some
module _ (b : Blit) (first n : ℕ) (other l : List ℕ) (h : blit_fits b first n (length other) (length l) ≡ true) where
  pub blit-none : n ≡ 0 → l ≡ blitted b first n other l
  blit-none none = no-visits b first n other l none ∙ blit-in b first n other l h

  pub blit-whole : n ≡ blit_count b.size → (k : List ℕ) → k ≡ in_turn (visited b other) (blit_count b.size) l → k ≡ blitted b first n other l
  blit-whole all k e =
      whole-first b first n other l k all (fitting-of b first n (length other) (length l) h).visits e ∙ blit-in b first n other l h

  pub blit-some : (k : List ℕ) → k ≡ in_turn (λ i. visited b other (first + i)) n l → k ≡ blitted b first n other l
  blit-some k e = e ∙ blit-in b first n other l h
