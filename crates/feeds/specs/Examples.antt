-- Pieces cut at odd places (02, R-5), in a list memory of three entries, from entry 1 on; computed in proofs/Examples.antt.
use Rattle.std.specs.Prelude.{◌≡◌, List, [], ◌∷◌, ℕ, replicate}
use Rattle.answers.specs.Reports.{report}
use Rattle.lists.specs.Spans.{span_of}
use Rattle.slots.specs.Slots.{slot_with, empty_slot}
use Rattle.slots.specs.declared.record.Sizes.{Sizes}
use Rattle.slots.specs.declared.record.Slot.{Slot}
use Rattle.feeds.specs.declared.Feed.{Feed}
use Rattle.feeds.specs.Feeds.{LentFeed, start_at, outcome, feed_report}

abbrev sizes : Sizes
sizes = record { extent = record { width = 1; height = 1 }; entries = 3 }

abbrev blank : List ℕ
blank = replicate 15 0

-- With this list in the active slot, the pending slot free.
abbrev fed_to : Slot → Feed → List ℕ → LentFeed
fed_to active f piece = feed_report sizes active empty_slot blank f piece

abbrev refused_with : ℕ → Feed → LentFeed
refused_with number f = outcome (report number 0 0) f blank

-- Three bytes complete nothing.
abbrev three : List ℕ
three = 9 ∷ 1 ∷ 2 ∷ []

abbrev begun : Feed
begun = record { next = 1; held = 9 ∷ 1 ∷ 2 ∷ 0 ∷ []; count = 3 }

abbrev pub HeldOnly : Type 0
HeldOnly = fed_to empty_slot (start_at 1) three ≡ outcome (report 0 0 0) begun blank

-- Four more complete entry 1, and two of them are held.
abbrev more : List ℕ
more = 3 ∷ 4 ∷ 5 ∷ 6 ∷ []

abbrev pub OneEntry : Type 0
OneEntry =
    fed_to empty_slot begun more
    ≡ outcome (report 0 0 0) (record { next = 2; held = 5 ∷ 6 ∷ 0 ∷ 0 ∷ []; count = 2 })
    (0 ∷ 0 ∷ 0 ∷ 0 ∷ 0 ∷ 9 ∷ 1 ∷ 2 ∷ 3 ∷ 4 ∷ 0 ∷ 0 ∷ 0 ∷ 0 ∷ 0 ∷ [])

-- A slot holds entry 1: bytes that complete nothing pass, those that complete it do not.
abbrev holder : Slot
holder = slot_with (span_of 1 1)

abbrev pub HeldBySlot : Type 0
HeldBySlot = (fed_to holder (start_at 1) three ≡ outcome (report 0 0 0) begun blank) × (fed_to holder begun more ≡ refused_with 8 begun)

-- Past the end and held by a slot: 4 comes first.
abbrev pub PastFirst : Type 0
PastFirst = fed_to holder begun (replicate 12 7) ≡ refused_with 4 begun

-- At the end: what completes nothing is accepted, what completes an entry is not.
abbrev pub AtTheEnd : Type 0
AtTheEnd =
    (fed_to empty_slot (start_at 3) (7 ∷ []) ≡ outcome (report 0 0 0) (record { next = 3; held = 7 ∷ 0 ∷ 0 ∷ 0 ∷ []; count = 1 }) blank)
    × (fed_to empty_slot (start_at 3) (replicate 5 7) ≡ refused_with 4 (start_at 3))

-- Bad feed records, even for no bytes: past the end, five held bytes, an unused byte that is not zero.
abbrev holds : ℕ → ℕ → Feed
holds count last = record { next = 1; held = 0 ∷ 0 ∷ 0 ∷ last ∷ []; count = count }

abbrev pub BadFeeds : Type 0
BadFeeds =
    (fed_to empty_slot (start_at 4) [] ≡ refused_with 1 (start_at 4))
    × (fed_to empty_slot (holds 5 0) [] ≡ refused_with 1 (holds 5 0))
    × (fed_to empty_slot (holds 3 8) [] ≡ refused_with 1 (holds 3 8))
    × (fed_to empty_slot (holds 4 8) [] ≡ outcome (report 0 0 0) (holds 4 8) blank)
