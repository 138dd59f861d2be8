-- The first pixels, and the last, drawn aside on the old ones, are the row (`filled-last`).
use native.Mathlib.Omega.{arith}
use borrow.Author.Rules.{rules}
use Prim.Native.Nat.{◌-◌}
use Rattle.rows.proofs.Parts.{filled-last}
use Rattle.rows.proofs.by_blocks.draw_by.Goals as goal

pub returns : goal.returns
returns g c =
    let a = c.args in
    filled-last a.n a.k (a.n - g.row.B) g.row.B a.buffer.now _ _ _ _ _ a.at c.requires.3 (omega arith) (omega arith) (omega arith)
    (search rules) c.copy_bytes.ensures c.copy_bytes-2.ensures a.pen c.draw_bytes-2.ensures c.draw_bytes.ensures
