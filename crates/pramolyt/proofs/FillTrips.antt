-- A fill comes back from its words, and its words from the fill.
-- Assumes nothing.
use mathlib.Core.Path.{◌≡◌, refl, ap, sym, ◌∙◌}
use mathlib.Core.Bool.{Bool, true, false, cond, ◌||◌}
use mathlib.Core.List.{List, ◌∷◌, ◌++◌, map, append-nil}
use Prim.Native.Nat.{ℕ, zero, suc, ◌+◌, ◌*◌, ◌/◌, ◌%◌, ◌<◌}
use native.Mathlib.Omega.{arith}
use borrow.Author.Tests.{eqb-true, eqb-false, ltb-true, ltb-false}
use lib.Dec.{eqb, ltb}
use lib.ListN.{length, get_or, set, take, drop, replicate, get_or-replicate, length-drop, take-append-drop, drop_of_length-le}
use lib.Seq.{ext_get_or, get_or-drop, drop_at, sets-eq}
use Rattle.lemmas.specs.Numbers.{numbers, below}
use Rattle.lemmas.specs.Turns.{in_turn}
use Rattle.lemmas.proofs.Booleans.{by_cases, and_left, and_right, first_of, second-of, or-first}
use Rattle.lemmas.proofs.Numbers.{map-below-length, map-below-at}
use Rattle.tiles.specs.Tiles.{no_row, pixel_of, no_fill, filled_with, all_below}
use Rattle.tiles.specs.declared.Row.{Row}
use Rattle.tiles.specs.declared.Tile.{Tile}
use Rattle.tiles.specs.declared.Fill.{Fill}
use Rattle.pramolyt.specs.FillImage.{fill_at, tile_at, word_of, tile_word, fill_words, pixel_in, row_in, tile_in, fill_in, tile_blank_in, Kept}

-- ---- the four pixels of a word
by-four : (P : ℕ → Type 0) → P 0 × P 1 × P 2 × P 3 → (m : ℕ) → m < 4 → P m
by-four P p zero h = p.0
by-four P p (suc zero) h = p.1
by-four P p (suc (suc zero)) h = p.2
by-four P p (suc (suc (suc zero))) h = p.3
by-four P p (suc (suc (suc (suc m)))) h = absurd (omega arith)

-- pixel m of a word of the pixels p 0 to p 3
pixel-word : (p : ℕ → ℕ) → ((m : ℕ) → p m < 256) → (m : ℕ) → m < 4 → pixel_in (word_of (p 0) (p 1) (p 2) (p 3)) m ≡ p m
pixel-word p h =
    by-four (λ m. pixel_in (word_of (p 0) (p 1) (p 2) (p 3)) m ≡ p m)
    (omega (arith, h 0, h 1, h 2, h 3), omega (arith, h 0, h 1, h 2, h 3), omega (arith, h 0, h 1, h 2, h 3), omega (arith, h 0, h 1, h 2, h 3))

joined : (x y z w a b c d : ℕ) → x ≡ 256 * y + a → y ≡ 256 * z + b → z ≡ 256 * w + c → w ≡ d → word_of a b c d ≡ x
joined x y z w a b c d e f g h = omega arith

word-pixels : (x : ℕ) → word_of (pixel_in x 0) (pixel_in x 1) (pixel_in x 2) (pixel_in x 3) ≡ x
word-pixels x =
    let y : x / 256 / 256 ≡ x / 65536 = omega arith in
    let z : x / 65536 / 256 ≡ x / 16777216 = omega arith in
    joined x (x / 256) (x / 65536) (x / 16777216) (pixel_in x 0) (pixel_in x 1) (pixel_in x 2) (pixel_in x 3) (omega arith) (omega (arith, y))
    (omega (arith, z)) refl

-- ---- from words, and back to them
-- pixel m of word i
decoded-at : (w : List ℕ) (i m : ℕ) → i < 32 → m < 4 → pixel_of (tile_in w) (4 * i + m) (i / 4) ≡ pixel_in (get_or w (tile_at + i) 0) m
decoded-at w i m p q =
    let j = i / 4 % 8 in
    let k = (4 * i + m) % 16 in
    let place : tile_at + 4 * j + k / 4 ≡ tile_at + i = omega arith in
    let byte : k % 4 ≡ m = omega arith in
    ap (λ (r : Row). get_or r.pixels k 0) (map-below-at (row_in w) 8 no_row j (omega arith))
    ∙ map-below-at (λ i. pixel_in (get_or w (tile_at + 4 * j + i / 4) 0) (i % 4)) 16 0 k (omega arith)
    ∙ ap (λ (n : ℕ). pixel_in (get_or w n 0) (k % 4)) place ∙ ap (pixel_in (get_or w (tile_at + i) 0)) byte

word-of : (x : ℕ) (p : ℕ → ℕ) → ((m : ℕ) → m < 4 → p m ≡ pixel_in x m) → word_of (p 0) (p 1) (p 2) (p 3) ≡ x
word-of x p h =
    (λ i. word_of (h 0 (omega arith) i) (h 1 (omega arith) i) (h 2 (omega arith) i) (h 3 (omega arith) i)) ∙ word-pixels x

-- a word by its four pixels
as-four : (t : Tile) (i : ℕ) → let p : ℕ → ℕ = λ m. pixel_of t (4 * i + m) (i / 4) in tile_word t i ≡ word_of (p 0) (p 1) (p 2) (p 3)
as-four t i =
    let first : 4 * i ≡ 4 * i + 0 = omega arith in
    ap (λ (n : ℕ). word_of (pixel_of t n (i / 4)) (pixel_of t (4 * i + 1) (i / 4)) (pixel_of t (4 * i + 2) (i / 4)) (pixel_of t (4 * i + 3) (i / 4))) first

word-decoded : (w : List ℕ) (i : ℕ) → i < 32 → tile_word (tile_in w) i ≡ get_or w (tile_at + i) 0
word-decoded w i p =
    as-four (tile_in w) i ∙ word-of (get_or w (tile_at + i) 0) (λ m. pixel_of (tile_in w) (4 * i + m) (i / 4)) (λ m q. decoded-at w i m p q)

all_pass : (n : ℕ) (test : ℕ → Bool) → all_below n test ≡ true → (k : ℕ) → k < n → test k ≡ true
unfolding in_turn
all_pass zero test h k p = absurd (omega arith)
all_pass (suc n) test h k p =
    by_cases (ltb k n) (λ t. all_pass n test (and_left (all_below n test) (test n) h) k (ltb-true k n t))
    (λ t. let e : n ≡ k = omega (arith, ltb-false k n t) in rw e at (and_right (all_below n test) (test n) h))

-- word by word: the flag, and what stands after it
words-by : (w l : List ℕ) (x : ℕ) → length w ≡ 61 → length l ≡ 32 → get_or w fill_at 0 ≡ x
    → ((k : ℕ) → k < 32 → get_or l k 0 ≡ get_or w (tile_at + k) 0) → x ∷ l ≡ drop fill_at w
words-by w l x long n flag each =
    ext_get_or 0 (x ∷ l) (drop fill_at w) (omega (arith, n, length-drop fill_at w, long)) by
  where
    by : (k : ℕ) → k < length (x ∷ l) → get_or (x ∷ l) k 0 ≡ get_or (drop fill_at w) k 0
    by zero p = sym flag ∙ sym (get_or-drop fill_at w 0 0)
    by (suc k) p =
        let place : tile_at + k ≡ fill_at + suc k = omega arith in
        each k (omega (arith, n)) ∙ ap (λ (j : ℕ). get_or w j 0) place ∙ sym (get_or-drop fill_at w (suc k) 0)

pub fill-encoded : (w : List ℕ) → length w ≡ 61 → ltb (get_or w fill_at 0) 2 ≡ true → (eqb (get_or w fill_at 0) 1 || tile_blank_in w) ≡ true
    → fill_words (fill_in w) ≡ drop fill_at w
fill-encoded w long flag blank =
    by_cases (eqb (get_or w fill_at 0) 1)
    (λ t.
    sym (ap fill_words (first_of (eqb (get_or w fill_at 0) 1) (filled_with (tile_in w)) no_fill t))
    ∙ words-by w (map (tile_word (tile_in w)) (below 32)) 1 long (map-below-length (tile_word (tile_in w)) 32) (eqb-true (get_or w fill_at 0) 1 t)
    (λ k p. map-below-at (tile_word (tile_in w)) 32 0 k p ∙ word-decoded w k p))
    (λ t.
    let zeros = all_pass 32 (λ i. eqb (get_or w (tile_at + i) 0) 0) (or-first (eqb (get_or w fill_at 0) 1) (tile_blank_in w) blank t) in
    sym (ap fill_words (second-of (eqb (get_or w fill_at 0) 1) (filled_with (tile_in w)) no_fill t))
    ∙ words-by w (replicate 32 0) 0 long refl (none (get_or w fill_at 0) (ltb-true (get_or w fill_at 0) 2 flag) (eqb-false (get_or w fill_at 0) 1 t))
    (λ k p. get_or-replicate 32 k 0 0 p ∙ sym (eqb-true (get_or w (tile_at + k) 0) 0 (zeros k p))))
  where
    none : (x : ℕ) → x < 2 → (x ≡ 1 → ⊥) → x ≡ 0
    none zero p q = refl
    none (suc zero) p q = absurd (q refl)
    none (suc (suc x)) p q = absurd (omega arith)

-- ---- from a fill, and back to it
module _ (head : List ℕ) (long : length head ≡ fill_at) where
  -- the words of an image after its head
  past : (l : List ℕ) (k n : ℕ) → n ≡ fill_at + k → get_or (head ++ l) n 0 ≡ get_or l k 0
  past l k n e = ap (λ (n : ℕ). get_or (head ++ l) n 0) e ∙ sym (get_or-drop fill_at (head ++ l) k 0) ∙ ap (λ (m : List ℕ). get_or m k 0) (drop_at head l fill_at long)

  module _ (t : Tile) (kept : Kept (filled_with t)) where
    abbrev words : List ℕ
    words = head ++ (1 ∷ map (tile_word t) (below 32))

    encoded-at : (j i : ℕ) → j < 8 → i < 16
        → pixel_in (get_or words (tile_at + 4 * j + i / 4) 0) (i % 4) ≡ get_or (get_or t.rows j no_row).pixels i 0
    encoded-at j i p q =
        let n = 4 * j + i / 4 in
        let row : n / 4 % 8 ≡ j = omega arith in
        let column : (4 * n + i % 4) % 16 ≡ i = omega arith in
        ap (λ (x : ℕ). pixel_in x (i % 4))
        (past (1 ∷ map (tile_word t) (below 32)) (suc n) (tile_at + 4 * j + i / 4) (omega arith) ∙ map-below-at (tile_word t) 32 0 n (omega arith)
        ∙ as-four t n)
        ∙ pixel-word (λ m. pixel_of t (4 * n + m) (n / 4)) (λ m. kept.bytes (4 * n + m) (n / 4)) (i % 4) (omega arith)
        ∙ rw (row, column)

    row-encoded : (j : ℕ) → j < 8 → row_in words j ≡ get_or t.rows j no_row
    row-encoded j p =
        let f : ℕ → ℕ = λ i. pixel_in (get_or words (tile_at + 4 * j + i / 4) 0) (i % 4) in
        let row = get_or t.rows j no_row in
        ap (λ (l : List ℕ). record { pixels = l })
        (ext_get_or 0 (map f (below 16)) row.pixels (map-below-length f 16 ∙ sym (kept.sized.pixels j p))
        (λ i q.
        let low : i < 16 = omega (arith, map-below-length f 16) in
        map-below-at f 16 0 i low ∙ encoded-at j i p low))

    tile-encoded : tile_in words ≡ t
    tile-encoded =
        ap (λ (l : List Row). record { rows = l })
        (ext_get_or no_row (map (row_in words) (below 8)) t.rows (map-below-length (row_in words) 8 ∙ sym kept.sized.rows)
        (λ j p.
        let low : j < 8 = omega (arith, map-below-length (row_in words) 8) in
        map-below-at (row_in words) 8 no_row j low ∙ row-encoded j low))

  pub fill-decoded : (f : Fill) → Kept f → fill_in (head ++ fill_words f) ≡ f
  fill-decoded f kept = by f.whole f.tile kept
    where
      by : (whole : Bool) (t : Tile) → let f : Fill = record { whole = whole; tile = t } in Kept f → fill_in (head ++ fill_words f) ≡ f
      by true t k =
          let w = words t k in
          ap (λ n. cond (eqb n 1) (filled_with (tile_in w)) no_fill) (past (1 ∷ map (tile_word t) (below 32)) 0 fill_at (omega arith))
          ∙ ap filled_with (tile-encoded t k)
      by false t k =
          let w = head ++ replicate 33 0 in
          ap (λ n. cond (eqb n 1) (filled_with (tile_in w)) no_fill) (past (replicate 33 0) 0 fill_at (omega arith)) ∙ sym (k.none refl)

-- ---- as the code puts them
abbrev pub put_tile : Tile → ℕ → List ℕ → List ℕ
put_tile t i w = set w (tile_at + i) (tile_word t i)

-- none, where zeros stand
pub none-put : (f : Fill) (w : List ℕ) → f.whole ≡ false → drop fill_at w ≡ replicate 33 0 → w ≡ take fill_at w ++ fill_words f
none-put f w h zeros =
    sym (take-append-drop fill_at w) ∙ ap (λ (l : List ℕ). take fill_at w ++ l) zeros
    ∙ ap (λ (l : List ℕ). take fill_at w ++ l) (second-of f.whole (1 ∷ map (tile_word f.tile) (below 32)) (replicate 33 0) h)

pub tile-put : (f : Fill) (w : List ℕ) → f.whole ≡ true → length w ≡ 61
    → in_turn (put_tile f.tile) 32 (set w fill_at 1) ≡ take fill_at w ++ fill_words f
unfolding in_turn numbers
tile-put f w h long =
    let all : List ℕ = 1 ∷ map (tile_word f.tile) (below 32) in
    sets-eq all w fill_at (omega (arith, long))
    ∙ ap (λ (l : List ℕ). take fill_at w ++ all ++ l) (drop_of_length-le w {i = 61} (omega (arith, long)))
    ∙ append-nil (take fill_at w ++ all)
    ∙ ap (λ (l : List ℕ). take fill_at w ++ l) (first_of f.whole all (replicate 33 0) h)
