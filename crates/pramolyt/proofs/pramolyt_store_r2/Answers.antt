-- An image with a bad flag is refused as it is (`store-refused`); else the answer is that of the call on its record,
-- and the image after it is the record's (`store-done`).
use Rattle.pramolyt.proofs.Calls.{store-refused, store-done}
use Rattle.pramolyt.proofs.pramolyt_store_r2.Goals as goal

pub returns-then-not-flags_ok : goal.returns-then-not-flags_ok
returns-then-not-flags_ok c = store-refused _ _ c.flags_ok.ensures c.if-not-flags_ok.true _ _ _

pub returns : goal.returns
returns c =
    store-done c.store-stored.result _ c.encode.ensures _ c.number.ensures _ _ c.flags_ok.ensures c.if-not-flags_ok.false _ c.decode-b.ensures
    _ _ _ _ c.store-stored.ensures
