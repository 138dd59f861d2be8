-- The board record (01, What the engine has), and when it is malformed (01, What the host hears).
use Rattle.std.specs.Prelude.{Bool, not, ◌&&◌, ◌||◌}
use Rattle.commands.specs.Record.{engine_ok, fill_ok}
use Rattle.slots.specs.Slots.{sizes_ok, slot_ok, active_ok}
use Rattle.board.specs.declared.record.Board.{Board}

-- Malformed: "pending is taken or a command under way without active"
abbrev pub order_ok : Board → Bool
order_ok b = b.active.taken || (not b.pending.taken && not b.engine.under_way)

-- "A record is malformed when" one of its parts is: the sizes, the engine, the fill (02, R-7), the active slot, the pending slot, or
-- what they are to one another. Each part's clauses stand in the crate of the part.
unfoldable pub well_formed : Board → Bool
well_formed b =
    sizes_ok b.sizes
    && engine_ok b.sizes.extent b.engine
    && fill_ok b.sizes.extent b.engine b.fill
    && active_ok b.active b.sizes.entries b.engine.under_way
    && slot_ok b.pending b.sizes.entries
    && order_ok b
