-- The cells that a blit visits are the visible ones of its rectangle.
-- Assumes nothing.
use Rattle.std.specs.Prelude.{Option, Some, None}
use mathlib.Core.Path.{◌≡◌, refl, ap, sym, ◌∙◌}
use Prim.Native.Nat.{ℕ, ◌≤◌}
use native.Mathlib.Omega.{arith}
use borrow.Author.Tests.{ltb-true, ltb-false}
use lib.Dec.{ltb}
use lib.ListN.{length, get_or}
use Rattle.lemmas.proofs.Booleans.{by_cases}
use Rattle.lemmas.proofs.Numbers.{map-below-length, map-below-at, map-below-past, filtered-same}
use Rattle.geometry.specs.Coordinates.{point_of}
use Rattle.geometry.specs.Blit.{blit_count, blit_cells, blit_cell, cell_point}
use Rattle.geometry.specs.Visible.{cell_shows, visible_count, visible_cell, visible_cells}
use Rattle.geometry.specs.declared.Cell.{Cell}
use Rattle.geometry.specs.declared.Extent.{Extent}
use Rattle.geometry.proofs.Blits.{cell-past}
use Rattle.geometry.proofs.Windows.{window-lets-through}
use Rattle.geometry.proofs.Visibility.{visible-in-order, window-positive, index-past}
use Rattle.entries.specs.Fields.{command_of}
use Rattle.registers.specs.declared.file.Registers.{Registers}
use Rattle.commands.specs.Visits.{window_in, shows, cells_by}
use Rattle.commands.specs.Shown.{ShownCells}

module _ (extent : Extent) (g : Registers) where
  cell-lets-through : (cell : Option Cell) → cell_shows (window_in extent g) (point_of g.xy1) g.xy3 cell ≡ shows extent g cell
  unfolding shows
  cell-lets-through (Some c) =
      window-lets-through extent (command_of g.cmd).clip g.clptl g.clpbr (cell_point (point_of g.xy1) g.xy3 c.column c.row)
  cell-lets-through None = refl

pub shown-cells : ShownCells
shown-cells extent g =
    visible-in-order (point_of g.xy1) g.xy2 g.xy3 (window_in extent g)
    (window-positive extent (command_of g.cmd).clip g.clptl g.clpbr)
    ∙ filtered-same (cell_shows (window_in extent g) (point_of g.xy1) g.xy3) (shows extent g) (cell-lets-through extent g)
    (blit_cells g.xy2)

module _ (extent : Extent) (g : Registers) where
  abbrev cell : ℕ → Option Cell
  cell k = visible_cell (point_of g.xy1) g.xy2 g.xy3 (window_in extent g) k

  abbrev count : ℕ
  count = visible_count (point_of g.xy1) g.xy2 g.xy3 (window_in extent g)

  pub shown-count : count ≡ length (cells_by shows extent g)
  shown-count = sym (map-below-length cell count) ∙ ap length (shown-cells extent g)

  -- past the last there is none
  none-past : (k : ℕ) → count ≤ k → None ≡ cell k
  none-past k h =
      cell-past g.xy2 (blit_count g.xy2) (omega arith)
      ∙ ap (blit_cell g.xy2) (index-past (point_of g.xy1) g.xy2 g.xy3 (window_in extent g) k _ refl h)

  at-list : (k : ℕ) → cell k ≡ get_or (visible_cells (point_of g.xy1) g.xy2 g.xy3 (window_in extent g)) k None
  at-list k =
      by_cases (ltb k count) (λ t. sym (map-below-at cell count None k (ltb-true k count t)))
      (λ t.
      let h = ltb-false k count t in
      sym (map-below-past cell count None k h ∙ none-past k h))

  pub shown-cell : (k : ℕ) → cell k ≡ get_or (cells_by shows extent g) k None
  shown-cell k = at-list k ∙ ap (λ l. get_or l k None) (shown-cells extent g)
