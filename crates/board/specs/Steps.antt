-- One step (01, Steps): "One step is one entry fetched, or one pixel visited."
use Rattle.std.specs.Prelude.{cond, List, ℕ}
use Rattle.tiles.specs.declared.Fill.{Fill}
use Rattle.commands.specs.Steps.{Scene, scene, visit_of, taken_of}
use Rattle.commands.specs.declared.Engine.{Engine}
use Rattle.lists.specs.Cursors.{next_of, fetched_of, ended_of}
use Rattle.lists.specs.declared.cursors.Cursor.{Cursor}
use Rattle.lists.specs.declared.cursors.Next.{Next}
use Rattle.lists.specs.declared.cursors.Next.TheVariants.{Ended, Visit, Take, Broken}
use Rattle.slots.specs.Slots.{empty_slot, active_on}
use Rattle.board.specs.declared.record.Board.{Board}

-- A board record with its two buffers.
pub record Machine : Type 0 where
  pub board : Board
  pub display : List ℕ
  pub virt : List ℕ

abbrev pub machine : Board → List ℕ → List ℕ → Machine
machine b d v = record { board = b; display = d; virt = v }

abbrev pub scene_of : Machine → Scene
scene_of m = scene m.board.engine m.board.fill m.display m.virt

-- What the next step is: that of the active list.
abbrev pub next_on : List ℕ → Board → Next
next_on l b = next_of l b.active.cursor b.engine.under_way

-- A record with the list, the engine and the fill that steps of its active list leave.
abbrev pub with_steps : Board → Cursor → Engine → Fill → Board
with_steps b c e f =
    record { sizes = b.sizes; active = record { taken = b.active.taken; cursor = c }; pending = b.pending; engine = e; fill = f }

-- "A list ends with the step after which it has neither entries nor pixels left; the pending list then becomes active in
-- that same step."
unfoldable pub settled_of : Board → Board
settled_of b =
    cond (ended_of b.active.cursor b.engine.under_way)
    (record { sizes = b.sizes; active = active_on b.pending; pending = empty_slot; engine = b.engine; fill = b.fill })
    b

abbrev pub moved_to : Machine → Cursor → Scene → Machine
moved_to m c s = machine (settled_of (with_steps m.board c s.engine s.fill)) s.display s.virt

-- One step, where there is one: of a pixel, or of a legal entry.
abbrev pub act_of : Next → Machine → Machine
act_of Ended m = m
act_of Visit m = moved_to m m.board.active.cursor (visit_of m.board.sizes.extent (scene_of m))
act_of (Take e) m = moved_to m (fetched_of m.board.active.cursor) (taken_of m.board.sizes.extent (scene_of m) e)
act_of Broken m = m

unfoldable pub step_of : List ℕ → Machine → Machine
step_of l m = act_of (next_on l m.board) m
