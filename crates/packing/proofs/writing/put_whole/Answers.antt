-- The three entries lie in the list, so that they are those of the group (`whole-present`).
use native.Mathlib.Omega.{arith}
use Rattle.packing.proofs.Puts.{group-same, whole-present}
use Rattle.packing.proofs.writing.put_whole.Goals as goal

pub returns : goal.returns
returns c =
    let r = c.before.before in
    let p = r.before.before in
    group-same _ _ _ _ _ _ _ _ _ (whole-present _ _ _ (omega arith) p.entry_in-a.ensures)
    (whole-present _ _ _ (omega arith) p.entry_in-b.ensures) (whole-present _ _ _ (omega arith) p.entry_in-c.ensures)
    r.put_group.ensures
