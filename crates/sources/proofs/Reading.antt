-- The source of a visit, by the tests that it passes; of a blit's bits, by the byte that holds the bit.
-- Assumes nothing.
use mathlib.Core.Path.{◌≡◌, ap, ap₂, sym, ◌∙◌}
use mathlib.Core.Bool.{Bool, true, false, cond}
use mathlib.Core.List.{List}
use Prim.Native.Nat.{ℕ, ◌+◌, ◌-◌, ◌*◌, ◌/◌, ◌%◌, ◌≤◌}
use native.Mathlib.Omega.{arith}
use borrow.Author.Tests.{ltb-true, ltb-false, le-leb, lt-ltb, le-ltb}
use lib.Dec.{eqb, ltb}
use lib.ListN.{get_or}
use Rattle.std.specs.Prelude.{Option, Some, None}
use Rattle.raster.specs.Raster.{bit}
use Rattle.lemmas.proofs.Booleans.{by_cases, first_of, second-of}
use Rattle.geometry.specs.Coordinates.{origin, point_of}
use Rattle.geometry.specs.Clip.{in_buffer, place_of}
use Rattle.geometry.specs.Blit.{cell_visit}
use Rattle.geometry.specs.declared.Cell.{Cell}
use Rattle.geometry.specs.declared.Extent.{Extent}
use Rattle.geometry.specs.declared.Point.{Point}
use Rattle.entries.specs.Fields.{is_blit}
use Rattle.entries.specs.declared.fields.Command.{Command}
use Rattle.registers.specs.declared.file.Registers.{Registers}
use Rattle.registers.specs.declared.dashes.Pattern.{Pattern}
use Rattle.tiles.specs.Tiles.{pixel_of}
use Rattle.tiles.specs.declared.Fill.{Fill}
use Rattle.sources.specs.Sources.{by_bit, stippled_at, stippled_of, tiled_at, tiled_of, read_of, blit_of, dash_of, source_of}

-- the byte that holds a bit, as a pixel
abbrev byte_at : Point → Point
byte_at p = record { x = origin + (p.x - origin) / 8; y = p.y }

-- a row of bits is eight times as wide
eighth : (x width : ℕ) → ltb x (8 * width) ≡ ltb (x / 8) width
eighth x width =
    by_cases (ltb (x / 8) width)
    (λ t. rw t (lt-ltb x (8 * width) (omega (arith, ltb-true (x / 8) width t))))
    (λ t. rw t (le-ltb x (8 * width) (omega (arith, ltb-false (x / 8) width t))))

column : (p : Point) → (byte_at p).x - origin ≡ (p.x - origin) / 8
column p = omega arith

bits_in : (width height : ℕ) (p : Point) → origin ≤ p.x → in_buffer (8 * width) height p ≡ in_buffer width height (byte_at p)
bits_in width height p h =
    rw (le-leb origin p.x h, le-leb origin (byte_at p).x (omega arith), column p, eighth (p.x - origin) width)

-- what a bit of the byte at a place draws
abbrev bit_from : Command → Registers → List ℕ → ℕ → Option ℕ → Option ℕ
bit_from c g l k (Some i) = by_bit c g (eqb (bit (7 - k) (get_or l i 0)) 1)
bit_from c g l k None = None

pub bit-by : (c : Command) (g : Registers) (extent : Extent) (l : List ℕ) (p : Point) (x : ℕ) → (origin ≤ p.x) × (x ≡ p.x - origin)
    → (q : Option ℕ) → q ≡ place_of extent (record { x = origin + x / 8; y = p.y })
    → bit_from c g l (x % 8) q ≡ stippled_at c g extent l (Some p)
unfolding place_of
bit-by c g extent l p x h q s =
    let s : q ≡ place_of extent (byte_at p) = rw h.1 at s in
    rw (h.1, s)
    (by_cases (in_buffer extent.width extent.height (byte_at p))
    (λ t. rw (bits_in extent.width extent.height p h.0, t, column p))
    (λ t. rw (bits_in extent.width extent.height p h.0, t)))

-- a bit whose byte lies outside the buffer
pub stippled_outside : (c : Command) (g : Registers) (extent : Extent) (cell : Option Cell) (l : List ℕ) (p : Point) (x : ℕ)
    → Some p ≡ cell_visit (point_of g.xy0) g.xy3 cell → (origin ≤ p.x) × (x ≡ p.x - origin)
    → None ≡ place_of extent (record { x = origin + x / 8; y = p.y }) → None ≡ stippled_of c g extent cell l
unfolding stippled_of
stippled_outside c g extent cell l p x v h s = rw (← v) (bit-by c g extent l p x h None s)

-- a tile's pixel, by where the cell's pixel lies in the destination
pub tiled-by : (g : Registers) (fill : Fill) (cell : Option Cell) (v w : Option Point) → v ≡ cell_visit (point_of g.xy1) g.xy3 cell → v ≡ w
    → tiled_at fill w ≡ tiled_of g fill cell
unfolding tiled_of
tiled-by g fill cell v w p q = ap (tiled_at fill) (sym q ∙ p)

module _ (fill : Fill) (at : Point) where
  pub tile-missing : fill.whole ≡ false → None ≡ tiled_at fill (Some at)
  tile-missing h = second-of fill.whole (Some (pixel_of fill.tile (at.x - origin) (at.y - origin))) None h

  pub tile-pixel : fill.whole ≡ true → (x y v : ℕ) → x ≡ at.x - origin → y ≡ at.y - origin → v ≡ pixel_of fill.tile x y
      → Some v ≡ tiled_at fill (Some at)
  tile-pixel h x y v p q r =
      ap Some (r ∙ ap₂ (pixel_of fill.tile) p q)
      ∙ first_of fill.whole (Some (pixel_of fill.tile (at.x - origin) (at.y - origin))) None h

-- the source, by the tests that it passes
module _ (c : Command) (g : Registers) (p : Pattern) (extent : Extent) (fill : Fill) (cell : Option Cell) (display virt : List ℕ) where
  pub source-solid : c.solid ≡ true → Some g.fore ≡ source_of c g p extent fill cell display virt
  unfolding source_of
  source-solid h =
      first_of c.solid (Some g.fore)
      (cond (is_blit c) (blit_of c g extent fill cell (cond c.from_virtual virt display)) (dash_of c g p)) h

  pub source-blit : c.solid ≡ false → is_blit c ≡ true
      → blit_of c g extent fill cell (cond c.from_virtual virt display) ≡ source_of c g p extent fill cell display virt
  unfolding source_of
  source-blit h k =
      let blit = blit_of c g extent fill cell (cond c.from_virtual virt display) in
      first_of (is_blit c) blit (dash_of c g p) k ∙ second-of c.solid (Some g.fore) (cond (is_blit c) blit (dash_of c g p)) h

  pub source-tiled : c.solid ≡ false → is_blit c ≡ true → c.apat ≡ true → tiled_of g fill cell ≡ source_of c g p extent fill cell display virt
  source-tiled h k a =
      first_of c.apat (tiled_of g fill cell) (read_of c g extent cell (cond c.from_virtual virt display)) a ∙ source-blit h k

  pub source-read : c.solid ≡ false → is_blit c ≡ true → c.apat ≡ false → (b : Bool) → c.from_virtual ≡ b
      → read_of c g extent cell (cond b virt display) ≡ source_of c g p extent fill cell display virt
  source-read h k a b f =
      ap (λ b. read_of c g extent cell (cond b virt display)) (sym f)
      ∙ second-of c.apat (tiled_of g fill cell) (read_of c g extent cell (cond c.from_virtual virt display)) a ∙ source-blit h k

  pub source-dash : c.solid ≡ false → is_blit c ≡ false → dash_of c g p ≡ source_of c g p extent fill cell display virt
  unfolding source_of
  source-dash h k =
      let blit = blit_of c g extent fill cell (cond c.from_virtual virt display) in
      second-of (is_blit c) blit (dash_of c g p) k ∙ second-of c.solid (Some g.fore) (cond (is_blit c) blit (dash_of c g p)) h
