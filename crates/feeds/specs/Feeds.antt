-- Lists over the serial line (02, R-5): what a piece of bytes does, by the store that it counts as.
use Rattle.std.specs.Prelude.{Bool, cond, ◌&&◌, ◌||◌, List, ◌++◌, ℕ, ◌+◌, ◌*◌, ◌/◌, eqb, leb, ltb, length, get_or, take, drop, replicate, Result, Ok, Err}
use Rattle.answers.specs.Reports.{Report, report, report_of}
use Rattle.answers.specs.declared.Refusal.{Refusal}
use Rattle.slots.specs.Calls.{Lent, store_report}
use Rattle.slots.specs.declared.record.Sizes.{Sizes}
use Rattle.slots.specs.declared.record.Slot.{Slot}
use Rattle.feeds.specs.declared.Feed.{Feed}

-- "the unused ones zero"
abbrev pub no_bytes : List ℕ
no_bytes = replicate 4 0

-- "A feed record starts at a named list entry, any number".
abbrev pub start_at : ℕ → Feed
start_at entry = record { next = entry; held = no_bytes; count = 0 }

-- It "holds up to four bytes of an unfinished one": these bytes, before the entry `next`.
abbrev pub holding : ℕ → List ℕ → Feed
holding next bytes = record { next = next; held = bytes ++ drop (length bytes) no_bytes; count = length bytes }

-- Byte k is held, or zero.
abbrev pub used_or_zero : Feed → ℕ → Bool
used_or_zero f k = ltb k f.count || eqb (get_or f.held k 0) 0

-- Bad: "more than four held bytes, an unused one not zero"; and "next entry past the memory's end".
abbrev pub held_ok : Feed → Bool
held_ok f = leb f.count 4 && used_or_zero f 0 && used_or_zero f 1 && used_or_zero f 2 && used_or_zero f 3

abbrev pub feed_ok : Sizes → Feed → Bool
feed_ok z f = held_ok f && leb f.next z.entries

-- The held bytes, then the piece.
abbrev pub joined : Feed → List ℕ → List ℕ
joined f piece = take f.count f.held ++ piece

-- How many whole entries bytes have, the bytes of these, and those left over.
abbrev pub entries_in : List ℕ → ℕ
entries_in bytes = length bytes / 5

abbrev pub completed : List ℕ → List ℕ
completed bytes = take (5 * entries_in bytes) bytes

abbrev pub remainder : List ℕ → List ℕ
remainder bytes = drop (5 * entries_in bytes) bytes

-- The feed record after these bytes.
abbrev pub advanced : Feed → List ℕ → Feed
advanced f bytes = holding (f.next + entries_in bytes) (remainder bytes)

-- What a feed answers, with the feed record and list memory after it.
pub record LentFeed : Type 0 where
  pub report : Report
  pub feed : Feed
  pub memory : List ℕ

abbrev pub outcome : Report → Feed → List ℕ → LentFeed
outcome report feed memory = record { report = report; feed = feed; memory = memory }

-- The feed record after a piece that is accepted; the one that was given stays where it is refused.
abbrev pub lent_feed : Feed → Result Feed Refusal → List ℕ → LentFeed
lent_feed given (Ok after) memory = outcome (report 0 0 0) after memory
lent_feed given (Err refusal) memory = outcome (report_of (Err refusal)) given memory

-- "Each completed entry goes into list memory" by a store, which takes the feed record on where it is done and leaves it as given
-- where it is refused.
abbrev pub by_store : Lent → Feed → Feed → LentFeed
by_store s given after = outcome s.report (cond (eqb s.report.number 0) after given) s.memory

-- "1 for .. a bad feed record ..; 2; 4 and 8 when an entry that the piece completes would be past the end, or is held by a slot"
unfoldable pub feed_report : Sizes → Slot → Slot → List ℕ → Feed → List ℕ → LentFeed
feed_report z a p list f piece =
    let bytes = joined f piece in
    cond (feed_ok z f) (by_store (store_report z a p list f.next (completed bytes)) f (advanced f bytes))
    (outcome (report 1 0 0) f list)

-- Whether a piece is accepted.
abbrev pub accepted : LentFeed → Bool
accepted r = eqb r.report.number 0
