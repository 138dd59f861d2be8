-- An image with a bad flag is refused as it is (`post-refused`); else the answer is that of the call on its record, and
-- the image after it is the record's (`post-done`).
use Rattle.pramolyt.proofs.Calls.{post-refused, post-done}
use Rattle.pramolyt.proofs.pramolyt_post_r2.Goals as goal

pub returns-then-not-flags_ok : goal.returns-then-not-flags_ok
returns-then-not-flags_ok c = post-refused _ _ c.flags_ok.ensures c.if-not-flags_ok.true _ _ _

pub returns : goal.returns
returns c =
    post-done c.post-posted.result _ c.encode.ensures _ c.number.ensures _ _ c.flags_ok.ensures c.if-not-flags_ok.false _ c.decode-b.ensures
    _ _ _ c.post-posted.ensures _ c.place.ensures
