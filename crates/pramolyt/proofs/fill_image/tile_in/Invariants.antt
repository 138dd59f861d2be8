use Rattle.lemmas.proofs.Filling.{Filled}
use Rattle.tiles.specs.Tiles.{no_row}
use Rattle.pramolyt.specs.FillImage.{row_in}
use Rattle.pramolyt.proofs.fill_image.tile_in.Given as goal

abbrev pub invariant-loop-j : goal.invariant-loop-j
invariant-loop-j l = Filled no_row (row_in l.w) 8 l.row-items l.j
