use Prim.Native.Nat.{◌+◌, ◌*◌, ◌/◌, ◌%◌}
use lib.ListN.{get_or}
use Rattle.lemmas.proofs.Filling.{Filled}
use Rattle.pramolyt.specs.FillImage.{tile_at, pixel_in}
use Rattle.pramolyt.proofs.fill_image.row_in.Given as goal

abbrev pub invariant-loop-i : goal.invariant-loop-i
invariant-loop-i l = Filled 0 (λ i. pixel_in (get_or l.w (tile_at + 4 * l.j + i / 4) 0) (i % 4)) 16 l.pixel-items l.i
