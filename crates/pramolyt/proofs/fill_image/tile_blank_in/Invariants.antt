use mathlib.Core.Path.{◌≡◌}
use Prim.Native.Nat.{◌+◌}
use lib.Dec.{eqb}
use lib.ListN.{get_or}
use Rattle.tiles.specs.Tiles.{all_below}
use Rattle.pramolyt.specs.FillImage.{tile_at}
use Rattle.pramolyt.proofs.fill_image.tile_blank_in.Given as goal

abbrev pub invariant-loop-i : goal.invariant-loop-i
invariant-loop-i l = l.blank ≡ all_below l.i (λ i. eqb (get_or l.w (tile_at + i) 0) 0)
