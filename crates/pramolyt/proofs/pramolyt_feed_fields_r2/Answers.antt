-- An image with a bad flag is refused as it is (`feed-refused`); else the answer is that of the call on its record, and
-- both records after it are handed back (`feed-done`).
use Rattle.pramolyt.proofs.Calls.{feed-refused, feed-done}
use Rattle.pramolyt.proofs.pramolyt_feed_fields_r2.Goals as goal

pub returns-then-not-flags_ok : goal.returns-then-not-flags_ok
returns-then-not-flags_ok c = feed-refused _ _ c.flags_ok.ensures c.if-not-flags_ok.true _ _ _

pub returns : goal.returns
returns c =
    feed-done _ _ c.flags_ok.ensures c.if-not-flags_ok.false _ c.decode-b.ensures c.feed-received.result _ c.encode.ensures _ c.number.ensures
    _ _ _ _ c.feed-received.ensures
