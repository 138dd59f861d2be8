-- Pieces cut at odd places, computed.
-- Assumes nothing.
use mathlib.Core.Path.{refl}
use Rattle.lemmas.specs.Memory.{put_into}
use Rattle.slots.specs.Calls.{store_report}
use Rattle.feeds.specs.Feeds.{feed_report}
use Rattle.feeds.specs.Examples.{HeldOnly, OneEntry, HeldBySlot, PastFirst, AtTheEnd, BadFeeds}

pub held-only : HeldOnly
unfolding feed_report store_report put_into
held-only = refl

pub one_entry : OneEntry
unfolding feed_report store_report put_into
one_entry = refl

pub held-by-slot : HeldBySlot
unfolding feed_report store_report put_into
held-by-slot = (refl, refl)

pub past_first : PastFirst
unfolding feed_report store_report put_into
past_first = refl

pub at-the-end : AtTheEnd
unfolding feed_report store_report put_into
at-the-end = (refl, refl)

pub bad-feeds : BadFeeds
unfolding feed_report store_report put_into
bad-feeds = (refl, refl, refl, refl)
