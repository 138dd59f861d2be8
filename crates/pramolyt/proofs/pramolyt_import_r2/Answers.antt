-- An image with a bad flag is refused as it is (`import-refused`); else the answer is that of the call on its record,
-- and the image after it is the record's (`import-done`).
use Rattle.pramolyt.proofs.Calls.{import-refused, import-done}
use Rattle.pramolyt.proofs.pramolyt_import_r2.Goals as goal

pub returns-then-not-flags_ok : goal.returns-then-not-flags_ok
returns-then-not-flags_ok c = import-refused _ _ c.flags_ok.ensures c.if-not-flags_ok.true _ _ _

pub returns : goal.returns
returns c =
    import-done c.import-done.result _ c.encode.ensures _ c.number.ensures _ _ c.flags_ok.ensures c.if-not-flags_ok.false _ c.decode-b.ensures
    _ _ _ _ c.import-done.ensures
