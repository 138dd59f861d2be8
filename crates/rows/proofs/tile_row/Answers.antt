-- The row is in the tile's from its column on (`from-column`); where the old byte does not count, covering is mixing (`tiled-by`).
use mathlib.Core.Path.{◌∙◌, sym}
use Prim.Native.Nat.{ℕ, ◌+◌}
use Rattle.lemmas.proofs.Booleans.{and_left}
use Rattle.rows.specs.Rows.{mixed, unkeyed, covered, tiled_row}
use Rattle.rows.proofs.Tiles.{from-column, tiled-by}
use Rattle.rows.proofs.tile_row.Goals as goal

pub returns-then-covers : goal.returns-then-covers
unfolding tiled_row
returns-then-covers c pixel t =
    let a = c.args in
    let row : ℕ → ℕ = λ k. pixel (a.x + k) in
    rw (sym c.fits.ensures ∙ and_left _ _ c.if-not-fits-wide.false)
    (c.mix_tile.ensures row (from-column pixel a.wide.now a.y t a.x a.n)
    ∙ tiled-by (covered a.selectors) (mixed (unkeyed a.selectors)) (c.covers.ensures c.if-covers.true) a.n a.buffer.now a.at row)

pub returns : goal.returns
unfolding tiled_row
returns c pixel t =
    let a = c.args in
    let row : ℕ → ℕ = λ k. pixel (a.x + k) in
    rw (sym c.fits.ensures ∙ and_left _ _ c.if-not-fits-wide.false)
    (c.mix_tile-2.ensures row (from-column pixel a.wide.now a.y t a.x a.n))
