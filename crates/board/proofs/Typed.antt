-- What the types say of a board record: the tile of its fill has eight rows of sixteen pixels. A record in a contract has lists of any
-- length; that an argument's have those of its type is part of what its relation says.
-- Assumes nothing.
use mathlib.Core.Path.{◌≡◌}
use mathlib.Core.List.{List, [], ◌∷◌}
use Prim.Native.Nat.{ℕ, zero, suc, ◌<◌}
use native.Mathlib.Omega.{arith}
use denote.Array.{each}
use denote.Shadow.{shadow}
use lib.ListN.{length, get_or}
use mir.Val.{Val}
use Rattle.tiles.specs.Tiles.{no_row, Sized}
use Rattle.tiles.specs.declared.Row.{Row}
use Rattle.tiles.specs.declared.Tile.{Tile}
use Rattle.tiles.specs.contracts.Row as row
use Rattle.tiles.specs.contracts.Tile as tile
use Rattle.board.specs.declared.record.Board.{Board}
use Rattle.board.specs.contracts.record.Board as board

abbrev IsRow : Row → List Val → Type 0
IsRow r vs = shadow ((row.the_row).own_val r vs)

abbrev AreRows : List Row → List Val → Type 0
AreRows rs us = shadow (each (row.the_row).Denot (row.the_row).own_val rs us)

row-long : (r : Row) (vs : List Val) → IsRow r vs → length r.pixels ≡ 16
row-long r vs p = p.1.1.0.1.0.1

rows_long : (rs : List Row) (us : List Val) → AreRows rs us → (j : ℕ) → j < length rs → length (get_or rs j no_row).pixels ≡ 16
rows_long [] us p j h = absurd (omega arith)
rows_long (r ∷ rs) [] p j h = absurd p
rows_long (r ∷ rs) (u ∷ us) p zero h = row-long r (u ∷ []) p.0
rows_long (r ∷ rs) (u ∷ us) p (suc j) h = rows_long rs us p.1 j (omega arith)

abbrev IsTile : Tile → List Val → Type 0
IsTile t vs = shadow ((tile.the_row).own_val t vs)

tile-sized : (t : Tile) (vs : List Val) → IsTile t vs → Sized t
tile-sized t vs p =
    let q = p.1.1.0 in
    let n : length t.rows ≡ 8 = q.1.0.1 in
    record { rows = n; pixels = λ j h. rows_long t.rows q.0 q.1.1 j (omega (arith, n)) }

pub fill-sized : (b : Board) (vs : List Val) → shadow ((board.the_row).own_val b vs) → Sized b.fill.tile
fill-sized b vs p = tile-sized b.fill.tile _ p.1.1.1.1.1.1.0.1.1.1.0
