-- An image with a bad flag is refused as it is (`write-refused`); else the answer is that of the call on its record,
-- and the image after it is the record's (`write_done`).
use Rattle.pramolyt.proofs.Calls.{write-refused, write_done}
use Rattle.pramolyt.proofs.pramolyt_window_write_r2.Goals as goal

pub returns-then-not-flags_ok : goal.returns-then-not-flags_ok
returns-then-not-flags_ok c = write-refused _ _ c.flags_ok.ensures c.if-not-flags_ok.true _ _ _ _

pub returns : goal.returns
returns c =
    write_done c.window_write-written.result _ c.encode.ensures _ c.number.ensures _ _ c.flags_ok.ensures c.if-not-flags_ok.false _ c.decode-b.ensures
    _ _ _ _ _ c.window_write-written.ensures
