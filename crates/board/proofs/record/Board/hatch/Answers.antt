-- A refused run (`hatch-refused`); with no fill held nothing is done (`hatch-none`); else what `hatch` of `leaps` ensures, with the
-- record that `moved` settles (`hatch-is`).
use mathlib.Core.Path.{sym, ◌∙◌}
use Rattle.board.proofs.Parts.{hatch-refused, hatch-none, hatch-is}
use Rattle.board.proofs.Typed.{fill-sized}
use Rattle.board.proofs.record.Board.hatch.Goals as goal

pub returns-in-Err : goal.returns-in-Err
returns-in-Err c = hatch-refused _ _ _ _ c.in-Err.ensures

pub returns-then-not-hatches : goal.returns-then-not-hatches
returns-then-not-hatches c =
    hatch-none _ _ _ c.in-Ok.ensures (fill-sized c.args.self _ c.well_formed.0) (sym c.hatches.ensures ∙ c.if-not-hatches.true)

pub returns : goal.returns
returns c =
    hatch-is _ _ _ _ _ _ _ c.in-Ok.ensures (sym c.hatches.ensures ∙ c.if-not-hatches.false) c.hatch-b.ensures _ _ _
    c.fill_after.ensures c.moved.ensures c.hatches-2.ensures _ c.part_by.ensures
