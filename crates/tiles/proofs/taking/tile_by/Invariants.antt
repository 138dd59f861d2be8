use Prim.Native.Nat.{ℕ, ◌<◌}
use mathlib.Core.Path.{◌≡◌}
use lib.ListN.{length, get_or}
use Rattle.tiles.specs.Tiles.{no_row}
use Rattle.tiles.proofs.taking.tile_by.Given as goal

abbrev pub invariant-loop-j : goal.invariant-loop-j
invariant-loop-j g l =
    record {
      long : length l.taken-items ≡ 8;
      each : (k : ℕ) → k < l.j → goal.F-post g l.row k (get_or l.taken-items k no_row);
    }
