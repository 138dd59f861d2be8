-- The call feed (02, R-5), pieces fed one after another, and what holds of them.
use Rattle.std.specs.Prelude.{◌≡◌, Bool, true, false, cond, ◌&&◌, List, [], ◌∷◌, ◌++◌, ℕ, ◌<◌, eqb, Result}
use Rattle.answers.specs.Reports.{Report, report, report_of}
use Rattle.slots.specs.Slots.{slot_of}
use Rattle.answers.specs.declared.Refusal.{Refusal}
use Rattle.feeds.specs.Feeds.{LentFeed, start_at, joined, completed, lent_feed, feed_report}
use Rattle.feeds.specs.declared.Feed.{Feed}
use Rattle.board.specs.Record.{well_formed}
use Rattle.board.specs.Calls.{kept, store_call}
use Rattle.board.specs.declared.record.Board.{Board}
use Rattle.board.specs.declared.answer.FeedAnswer.{FeedAnswer}

-- The two records and the memory that a feed is given, and hands back.
pub record Line : Type 0 where
  pub board : Board
  pub feed : Feed
  pub memory : List ℕ

abbrev pub line : Board → Feed → List ℕ → Line
line board feed memory = record { board = board; feed = feed; memory = memory }

pub record FeedReply : Type 0 where
  pub report : Report
  pub after : Line

abbrev pub feed_reply : FeedAnswer → List ℕ → FeedReply
feed_reply a memory = record { report = report_of a.status; after = line a.board a.feed memory }

-- The board record stays whether the piece is accepted or refused.
abbrev pub handed : Board → LentFeed → FeedReply
handed b r = record { report = r.report; after = line b r.feed r.memory }

abbrev pub fed : Board → Feed → Result Feed Refusal → List ℕ → FeedReply
fed b given after memory = handed b (lent_feed given after memory)

-- "1 for a malformed board record or a bad feed record"; then what the slots say.
unfoldable pub feed_call : List ℕ → Feed → List ℕ → Board → FeedReply
feed_call list f piece b =
    cond (well_formed b) (handed b (feed_report b.sizes (slot_of b.active) b.pending list f piece))
    (record { report = report 1 0 0; after = line b f list })

-- ---- pieces one after another, "with no other call between pieces"
abbrev pub feed_on : Line → List ℕ → FeedReply
feed_on s piece = feed_call s.memory s.feed piece s.board

abbrev pub accepted : FeedReply → Bool
accepted r = eqb r.report.number 0

-- Whether every piece is accepted, each fed to what the one before it left; and what the last one leaves.
unfoldable pub throughout : Line → List (List ℕ) → Bool
throughout s [] = true
throughout s (piece ∷ pieces) = accepted (feed_on s piece) && throughout (feed_on s piece).after pieces

unfoldable pub at_last : Line → List (List ℕ) → Line
at_last s [] = s
at_last s (piece ∷ pieces) = at_last (feed_on s piece).after pieces

-- The pieces joined.
unfoldable pub whole : List (List ℕ) → List ℕ
whole [] = []
whole (piece ∷ pieces) = piece ++ whole pieces

-- "feeding any cuts, at least one piece, of a byte string is accepted throughout exactly when the joined string is, and then
-- leaves the same memory and feed record." The board record is the same throughout. Proved in proofs/Cuts.antt.
pub record CutAs (s : Line) (pieces : List (List ℕ)) : Type 0 where
  pub accepted-as : throughout s pieces ≡ accepted (feed_on s (whole pieces))
  pub leaves-as : throughout s pieces ≡ true → at_last s pieces ≡ (feed_on s (whole pieces)).after
  pub board-stays : (at_last s pieces).board ≡ s.board

abbrev pub Cuts : Type 0
Cuts = (s : Line) (piece : List ℕ) (pieces : List (List ℕ)) → CutAs s (piece ∷ pieces)

-- "Refusals, which hand both records back as given", and memory as it was. Proved in proofs/Feeds.antt, as the next two.
abbrev pub RefusedFeed : Type 0
RefusedFeed = (s : Line) (piece : List ℕ) → accepted (feed_on s piece) ≡ false → (feed_on s piece).after ≡ s

-- "an accepted piece counts as a store of the entries it completes, whatever feed record it is given"
abbrev pub CountsAsStore : Type 0
CountsAsStore =
    (s : Line) (piece : List ℕ) → accepted (feed_on s piece) ≡ true
    → store_call s.memory s.feed.next (completed (joined s.feed piece)) s.board ≡ kept 0 s.board (feed_on s piece).after.memory

-- A feed record that starts past the end is bad: every feed answers 1.
abbrev pub StartsPast : Type 0
StartsPast =
    (b : Board) (list piece : List ℕ) (entry : ℕ) → b.sizes.entries < entry
    → feed_call list (start_at entry) piece b ≡ record { report = report 1 0 0; after = line b (start_at entry) list }
