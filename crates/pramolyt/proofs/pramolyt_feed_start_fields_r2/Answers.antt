-- The fields are those of the record that starts there.
use Rattle.pramolyt.proofs.pramolyt_feed_start_fields_r2.Goals as goal

pub returns : goal.returns
returns c = c.start-feed.ensures
