-- Rows of a tile, whose pixels go round every sixteen: in blocks, and by the last sixteen pixels again.
-- Assumes nothing.
use mathlib.Core.Path.{◌≡◌, refl, ap, sym, ◌∙◌}
use mathlib.Core.List.{List}
use Prim.Native.Nat.{ℕ, zero, suc, ◌+◌, ◌-◌, ◌*◌, ◌/◌, ◌%◌, ◌≤◌, ◌<◌}
use native.Mathlib.Omega.{arith}
use lib.ListN.{length, get_or}
use Rattle.rows.specs.Rows.{copied, tiled, Twice, Periodic}
use Rattle.lemmas.proofs.Sweeps.{sweep-agree, sweep-join}
use Rattle.lemmas.proofs.Orders.{right}
use Rattle.rows.proofs.Parts.{kept, last-aside}

-- b pixels more
right-more : (h g : ℕ → ℕ → ℕ) (a b n : ℕ) (l m r : List ℕ) (at u : ℕ) → a + b ≡ n → u ≡ at + a → ((j d : ℕ) → j < b → g j d ≡ h (a + j) d)
    → m ≡ right h a l at → r ≡ right g b m u → r ≡ right h n l at
right-more h g a b n l m r at u whole on same em er =
    er
    ∙ sweep-agree (λ k. u + k) (λ k w. g k (get_or w (u + k) 0)) m
    (λ k. at + (a + k)) (λ k w. h (a + k) (get_or w (at + (a + k)) 0)) b
    (λ k p. omega arith)
    (λ k p. let e : u + k ≡ at + (a + k) = omega arith in rw e (same k _ p))
    ∙ rw (em, ← whole) (sweep-join (λ k. at + k) (λ k w. h k (get_or w (at + k) 0)) l a b)

-- ---- the same sixteen bytes again and again
abbrev pub again : (ℕ → ℕ → ℕ) → ℕ → List ℕ → ℕ → List ℕ → List ℕ
again f n l at pixels = tiled f n l at (λ k. get_or pixels (k % 16) 0)

module _ (f : ℕ → ℕ → ℕ) (l : List ℕ) (at : ℕ) (pixels : List ℕ) where
  sixteen-more : (k n : ℕ) (m r : List ℕ) (u : ℕ) → k % 16 ≡ 0 → k + 16 ≡ n → u ≡ at + k → m ≡ again f k l at pixels
      → r ≡ copied f 16 m u pixels 0 → r ≡ again f n l at pixels
  sixteen-more k n m r u whole en on em er =
      right-more (λ k. f (get_or pixels (k % 16) 0)) (λ k. f (get_or pixels (0 + k) 0)) k 16 n l m r at u en on
      (λ j d p. let e : 0 + j ≡ (k + j) % 16 = omega arith in ap (λ (i : ℕ). f (get_or pixels i 0) d) e)
      em er

  pub block_more : (k : ℕ) (m s r : List ℕ) → k % 32 ≡ 0 → m ≡ again f k l at pixels → s ≡ copied f 16 m (at + k) pixels 0
      → r ≡ copied f 16 s (at + k + 16) pixels 0 → r ≡ again f (k + 32) l at pixels
  block_more k m s r whole em es er =
      sixteen-more (k + 16) (k + 32) s r (at + k + 16) (omega arith) (omega arith) (omega arith)
      (sixteen-more k (k + 16) m s (at + k) (omega arith) refl refl em es) er

-- a row of n pixels but for its last sixteen at most
pub record Begun (f : ℕ → ℕ → ℕ) (n : ℕ) (l : List ℕ) (at : ℕ) (pixels r : List ℕ) : Type 0 where
  pub k : ℕ
  pub enough : n - 16 ≤ k
  pub part : k ≤ n
  pub done : r ≡ again f k l at pixels

module _ (f : ℕ → ℕ → ℕ) (n : ℕ) (l : List ℕ) (at : ℕ) (pixels m : List ℕ) (em : m ≡ again f (n / 32 * 32) l at pixels) where
  pub begun-blocks : n - 16 ≤ n / 32 * 32 → Begun f n l at pixels m
  begun-blocks h = record { k = n / 32 * 32; enough = h; part = omega arith; done = em }

  pub begun_more : (r : List ℕ) → n / 32 * 32 < n - 16 → r ≡ copied f 16 m (at + n / 32 * 32) pixels 0 → Begun f n l at pixels r
  begun_more r h er =
      record {
        k = n / 32 * 32 + 16;
        enough = omega arith;
        part = omega arith;
        done = sixteen-more f l at pixels (n / 32 * 32) (n / 32 * 32 + 16) m r (at + n / 32 * 32) (omega arith) refl refl em er;
      }

-- ---- pixels that go round
module _ (pixel : ℕ → ℕ) (period : (i : ℕ) → pixel (i + 16) ≡ pixel i) where
  rounds : (q i : ℕ) → pixel (i + 16 * q) ≡ pixel i
  rounds zero i = let e : i + 16 * 0 ≡ i = omega arith in ap pixel e
  rounds (suc q) i = let e : i + 16 * suc q ≡ i + 16 * q + 16 = omega arith in ap pixel e ∙ period (i + 16 * q) ∙ rounds q i

  in-sixteen : (i : ℕ) → pixel i ≡ pixel (i % 16)
  in-sixteen i = let e : i ≡ i % 16 + 16 * (i / 16) = omega arith in ap pixel e ∙ rounds (i / 16) (i % 16)

  round : (i j : ℕ) → i % 16 ≡ j % 16 → pixel i ≡ pixel j
  round i j e = in-sixteen i ∙ ap pixel e ∙ sym (in-sixteen j)

-- at most sixteen pixels
pub few-tiled : (f : ℕ → ℕ → ℕ) (n : ℕ) (l : List ℕ) (at : ℕ) (source : List ℕ) (from last : ℕ) (r : List ℕ) → n ≤ 16
    → r ≡ copied f n l at source from → (pixel : ℕ → ℕ) → Periodic pixel n source from last → r ≡ tiled f n l at pixel
few-tiled f n l at source from last r few er pixel p =
    er
    ∙ sweep-agree (λ k. at + k) (λ k m. f (get_or source (from + k) 0) (get_or m (at + k) 0)) l
    (λ k. at + k) (λ k m. f (pixel k) (get_or m (at + k) 0)) n
    (λ k v. refl)
    (λ k v. ap (λ (s : ℕ). f s (get_or (copied f k l at source from) (at + k) 0)) (p.first k (omega arith)))

-- more: what was begun with the first sixteen, and the last sixteen
module _ (f : ℕ → ℕ → ℕ) (n : ℕ) (l : List ℕ) (at : ℕ) (source : List ℕ) (from last : ℕ) (long : 16 < n) (fits : at + n ≤ length l)
    (w x pixels tail m r : List ℕ) (hw : 16 ≤ length w) (hx : 16 ≤ length x) (ep : pixels ≡ copied (λ s d. s) 16 w 0 source from)
    (et : tail ≡ copied (λ s d. s) 16 x 0 source last) (b : Begun f n l at pixels m) where
  early : (pixel : ℕ → ℕ) → Periodic pixel n source from last → (j d : ℕ) → f (get_or pixels (j % 16) 0) d ≡ f (pixel (0 + j)) d
  early pixel p j d =
      let e : 0 + j % 16 ≡ j % 16 = omega arith in
      let there : get_or pixels (j % 16) 0 ≡ get_or source (from + j % 16) 0 =
      rw e at (kept (λ j d. get_or source (from + j) 0) 16 w pixels hw ep (j % 16) (omega arith)) in
      ap (λ (s : ℕ). f s d) (there ∙ p.first (j % 16) (omega arith) ∙ round pixel p.period (j % 16) (0 + j) (omega arith))

  late : (pixel : ℕ → ℕ) → Periodic pixel n source from last → (j d : ℕ) → j < 16 → f (get_or tail (0 + j) 0) d ≡ f (pixel (n - 16 + j)) d
  late pixel p j d v =
      ap (λ (s : ℕ). f s d)
      (kept (λ j d. get_or source (last + j) 0) 16 x tail hx et j v ∙ p.final j v
      ∙ round pixel p.period (n + j) (n - 16 + j) (omega arith))

  pub mixed-long : (y s t : List ℕ) → 16 ≤ length y → s ≡ copied (λ s d. s) 16 y 0 l (at + (n - 16)) → t ≡ copied f 16 s 0 tail 0
      → r ≡ copied (λ s d. s) 16 m (at + (n - 16)) t 0 → (pixel : ℕ → ℕ) → Periodic pixel n source from last → r ≡ tiled f n l at pixel
  mixed-long y s t hy es ea er pixel p =
      last-aside n b.k (n - 16) 16 l m y s t r at fits (omega arith) b.enough b.part hy es er
      (λ j. f (pixel j)) (λ j. f (get_or tail (0 + j) 0)) (λ j. f (get_or pixels (j % 16) 0)) (early pixel p) (late pixel p) b.done ea

-- ---- rows of a tile
module _ (pixel : ℕ → ℕ) (wide : List ℕ) (y : ℕ) (t : Twice pixel wide y) where
  column : (c i j : ℕ) → c < 16 → i < 16 → (c + i) % 16 ≡ j % 16 → get_or wide (32 * (y % 8) + c + i) 0 ≡ pixel j
  column c i j hc hi e =
      let s : 32 * (y % 8) + c + i ≡ 32 * (y % 8) + (c + i) = omega arith in
      rw s (t.there (c + i) (omega arith)) ∙ round pixel t.again (c + i) j e

  pub from-column : (x n : ℕ)
      → Periodic (λ k. pixel (x + k)) n wide (32 * (y % 8) + x % 16) (32 * (y % 8) + (x % 16 + n % 16) % 16)
  from-column x n =
      record {
        period = λ i. let e : x + (i + 16) ≡ x + i + 16 = omega arith in ap pixel e ∙ t.again (x + i);
        first = λ i v. column (x % 16) i (x + i) (omega arith) v (omega arith);
        final = λ i v. column ((x % 16 + n % 16) % 16) i (x + (n + i)) (omega arith) v (omega arith);
      }

pub tiled-by : (f g : ℕ → ℕ → ℕ) → ((s d : ℕ) → f s d ≡ g s d) → (n : ℕ) (l : List ℕ) (at : ℕ) (pixel : ℕ → ℕ)
    → tiled f n l at pixel ≡ tiled g n l at pixel
tiled-by f g same n l at pixel =
    sweep-agree (λ k. at + k) (λ k m. f (pixel k) (get_or m (at + k) 0)) l (λ k. at + k) (λ k m. g (pixel k) (get_or m (at + k) 0)) n
    (λ k v. refl)
    (λ k v. same (pixel k) _)
