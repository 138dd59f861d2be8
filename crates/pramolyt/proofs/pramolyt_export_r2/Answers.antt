-- An image with a bad flag is refused as it is (`export-refused`); else the answer is that of the call on its record, and the
-- image after it is the record's (`export-done`).
use Rattle.pramolyt.proofs.Calls.{export-refused, export-done}
use Rattle.pramolyt.proofs.pramolyt_export_r2.Goals as goal

pub returns-then-not-flags_ok : goal.returns-then-not-flags_ok
returns-then-not-flags_ok c = export-refused _ _ c.flags_ok.ensures c.if-not-flags_ok.true _ _ _

pub returns-in-Ok : goal.returns-in-Ok
returns-in-Ok c =
    rw c.encode.ensures
    (export-done _ _ c.flags_ok.ensures c.if-not-flags_ok.false _ c.decode-b.ensures c.export-done.result _ c.in-Ok.is _ _ _ _
    c.export-done.ensures)

pub returns-in-Err : goal.returns-in-Err
returns-in-Err c =
    rw (c.encode.ensures, c.number.ensures)
    (export-done _ _ c.flags_ok.ensures c.if-not-flags_ok.false _ c.decode-b.ensures c.export-done.result _ c.in-Err.is _ _ _ _
    c.export-done.ensures)
