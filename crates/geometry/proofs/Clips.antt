-- A reversed rectangle holds no point; a place lies in its buffer and says which pixel it is of.
-- Assumes nothing.
use mathlib.Core.Path.{◌≡◌, ap, sym, ◌∙◌}
use mathlib.Core.Bool.{false, ◌&&◌, and_assoc, and-false}
use mathlib.Core.Logic.{⊎_elim}
use Prim.Native.Nat.{ℕ, ◌+◌, ◌-◌, ◌*◌, ◌/◌, ◌%◌, ◌^◌, ◌<◌}
use native.Mathlib.Nat.{mul-le-mul_right, add-mul, one-mul, mul_comm}
use native.Mathlib.Omega.{arith}
use borrow.Author.Tests.{leb-true, lt-leb}
use lib.Arith.{digits_div, digits_mod}
use lib.Dec.{leb}
use Rattle.lemmas.proofs.Booleans.{by_cases}
use Rattle.lemmas.proofs.Products.{product-most}
use Rattle.geometry.specs.Coordinates.{origin}
use Rattle.geometry.specs.Clip.{in_buffer, place_in, place_of, ReversedHoldsNothing, PlacesFit, PlacesDiffer}
use Rattle.std.specs.Prelude.{Some, None}
use Rattle.geometry.proofs.Windows.{buffer-of}

-- from a above b, nothing lies between
between : (a b c : ℕ) → b < a → (leb a c && leb c b) ≡ false
between a b c h =
    by_cases (leb a c) (λ e. rw (e, lt-leb c b (omega (arith, leb-true a c e)))) (λ e. rw e)

pub reversed : ReversedHoldsNothing
reversed r h p =
    ⊎_elim (λ l. rw (between r.left r.right p.x l))
    (λ l.
    let wide = leb r.left p.x && leb p.x r.right in
    and_assoc wide (leb r.top p.y) (leb p.y r.bottom) ∙ ap (λ t. wide && t) (between r.top r.bottom p.y l)
    ∙ and-false wide)
    h

-- the place of column x of row y
pub area : (width height x y : ℕ) → x < width → y < height → y * width + x < width * height
area width height x y h l =
    omega (arith, mul-le-mul_right {m = y + 1} {n = height} width (omega arith), add-mul y 1 width, one-mul width, mul_comm height width)

-- the product of two 32-bit numbers fits 64 bits
pub product-fits : (a b : ℕ) → a < 2 ^ 32 → b < 2 ^ 32 → a * b < 2 ^ 64
product-fits a b h l = omega (arith, product-most a b h l)

pub places-fit : PlacesFit
unfolding place_of
places-fit extent p i e =
    let width = extent.width in
    let height = extent.height in
    by_cases (in_buffer width height p)
    (λ t.
    let found : Some (place_in width p) ≡ Some i = rw t at e in
    let same : place_in width p ≡ i = cc in
    let inside = buffer-of width height p t in
    rw (← same) (area width height (p.x - origin) (p.y - origin) inside.2 inside.3))
    (λ t. absurd (none-at (rw t at e)))
  where
    none-at : None ≡ Some i → ⊥
    none-at q = let z : ◌≡◌ {A = ℕ} 0 1 = cc in omega arith

-- column and row are a place's digits to the base of the width
pub places-differ : PlacesDiffer
places-differ extent p q h k e =
    let width = extent.width in
    let one = buffer-of width extent.height p h in
    let two = buffer-of width extent.height q k in
    let column : p.x - origin ≡ q.x - origin =
    sym (digits_mod (p.y - origin) one.2) ∙ ap (λ i. i % width) e ∙ digits_mod (q.y - origin) two.2 in
    let row : p.y - origin ≡ q.y - origin =
    sym (digits_div (p.y - origin) one.2) ∙ ap (λ i. i / width) e ∙ digits_div (q.y - origin) two.2 in
    let x : p.x ≡ q.x = omega (arith, one.0, two.0) in
    let y : p.y ≡ q.y = omega (arith, one.1, two.1) in
    λ i. record { x = x i; y = y i }
