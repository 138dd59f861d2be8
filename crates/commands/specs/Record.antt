-- The engine and the fill in a board record, and when they are malformed (01, What the host hears; 02, R-7).
use Rattle.std.specs.Prelude.{◌≡◌, Bool, true, false, cond, ◌&&◌, eqb, ltb}
use Rattle.geometry.specs.declared.Extent.{Extent}
use Rattle.entries.specs.Legality.{entry_legal}
use Rattle.entries.specs.declared.decoding.Entry.{Entry}
use Rattle.registers.specs.States.{state_ok}
use Rattle.tiles.specs.Tiles.{whole_at, no_fill, is_none, Sized}
use Rattle.tiles.specs.declared.Fill.{Fill}
use Rattle.commands.specs.Visits.{count_of}
use Rattle.commands.specs.Hatching.{hatches}
use Rattle.commands.specs.Steps.{Scene, visit_of, taken_of}
use Rattle.commands.specs.declared.Engine.{Engine}

-- "the visited pixels with no command under way are all zero"; malformed: "the count of visited pixels is not below the
-- current command's count where a command is under way"
abbrev pub command_ok : Extent → Engine → Bool
command_ok extent e = cond e.under_way (ltb e.visited (count_of extent e)) (eqb e.visited 0)

-- Registers and pattern, and the command under way.
abbrev pub engine_ok : Extent → Engine → Bool
engine_ok extent e = state_ok e.registers e.pattern && command_ok extent e

-- "The record holds whether the tile was whole, and if so the tile, until the fill ends, and zeros otherwise, else it is malformed;
-- wholeness is judged by its own registers and sizes, and a whole tile's bytes are free."
abbrev pub holds_tile : Extent → Engine → Bool
holds_tile extent e = hatches e && whole_at extent e.registers.xy0

abbrev pub fill_ok : Extent → Engine → Fill → Bool
fill_ok extent e fill = cond (holds_tile extent e) fill.whole (is_none fill)

-- Elsewhere there is no fill, for a tile of the sizes that its type says; proved in proofs/Held.antt.
abbrev pub NoFillElsewhere : Type 0
NoFillElsewhere =
    (extent : Extent) (e : Engine) (fill : Fill) → Sized fill.tile → fill_ok extent e fill ≡ true → holds_tile extent e ≡ false
    → fill ≡ no_fill

-- A step keeps the engine well formed; proved in proofs/Sound.antt.
abbrev pub VisitsStayOk : Type 0
VisitsStayOk = (extent : Extent) (s : Scene) → engine_ok extent s.engine ≡ true → engine_ok extent (visit_of extent s).engine ≡ true

abbrev pub EntriesStayOk : Type 0
EntriesStayOk =
    (extent : Extent) (s : Scene) (entry : Entry) → entry_legal entry ≡ true → engine_ok extent s.engine ≡ true
    → engine_ok extent (taken_of extent s entry).engine ≡ true

-- A step keeps the fill well formed, and each entry leaves it so; proved in proofs/Held.antt.
abbrev pub VisitsKeepFill : Type 0
VisitsKeepFill =
    (extent : Extent) (s : Scene) → s.engine.under_way ≡ true → fill_ok extent s.engine s.fill ≡ true
    → fill_ok extent (visit_of extent s).engine (visit_of extent s).fill ≡ true

abbrev pub EntriesKeepFill : Type 0
EntriesKeepFill =
    (extent : Extent) (s : Scene) (entry : Entry) → fill_ok extent (taken_of extent s entry).engine (taken_of extent s entry).fill ≡ true
