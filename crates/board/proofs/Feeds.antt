-- What a feed answers, from what the feed record and the slots say; a refusal leaves all as it was, and an accepted piece is the
-- store of the entries that it completes.
-- Assumes nothing.
use mathlib.Core.Path.{◌≡◌, refl, ap, sym, ◌∙◌}
use mathlib.Core.Bool.{true, false, false≢true}
use mathlib.Core.List.{List}
use Prim.Native.Nat.{ℕ}
use native.Mathlib.Omega.{arith}
use borrow.Author.Tests.{eqb-false, lt-leb}
use Rattle.lemmas.proofs.Booleans.{by_cases, of_either}
use Rattle.answers.specs.Reports.{report}
use Rattle.slots.specs.Slots.{slot_of}
use Rattle.slots.proofs.Grounds.{NumberAlone}
use Rattle.feeds.specs.Feeds.{LentFeed, start_at, feed_report}
use Rattle.feeds.specs.declared.Feed.{Feed}
use Rattle.feeds.proofs.Reporting.{feed-malformed, feed-leaves, feed-number, ends-refused, feed-stores}
use Rattle.board.specs.Record.{well_formed}
use Rattle.board.specs.Calls.{kept_by}
use Rattle.board.specs.Feeding.{line, FeedReply, handed, feed_call, accepted, RefusedFeed, CountsAsStore, StartsPast}
use Rattle.board.specs.declared.record.Board.{Board}
use Rattle.board.proofs.Replies.{store_by}

abbrev pub refused_as : ℕ → Board → Feed → List ℕ → FeedReply
refused_as number b f l = record { report = report number 0 0; after = line b f l }

module _ (l : List ℕ) (f : Feed) (piece : List ℕ) (b : Board) where
  -- what the slots say
  abbrev pub said : LentFeed
  said = feed_report b.sizes (slot_of b.active) b.pending l f piece

  pub feed-of-malformed : well_formed b ≡ false → refused_as 1 b f l ≡ feed_call l f piece b
  unfolding feed_call
  feed-of-malformed w = rw w

  pub feed-by : well_formed b ≡ true → (r : LentFeed) → r ≡ said → handed b r ≡ feed_call l f piece b
  unfolding feed_call
  feed-by w r e = rw w (ap (handed b) e)

  -- an accepted piece's board record is well formed
  pub accepted-well : accepted (feed_call l f piece b) ≡ true → well_formed b ≡ true
  accepted-well h = by_cases (well_formed b) (λ t. t) (λ t. absurd (false≢true (ap accepted (feed-of-malformed t) ∙ h)))

  -- the board record stays
  pub feed-board : (feed_call l f piece b).after.board ≡ b
  unfolding feed_call
  feed-board = of_either (λ (r : FeedReply). r.after.board ≡ b) (well_formed b) refl refl

  -- neither place nor steps
  pub feed-no-more : NumberAlone (feed_call l f piece b).report
  unfolding feed_call
  feed-no-more =
      of_either (λ (r : FeedReply). NumberAlone r.report) (well_formed b) (feed-number b.sizes (slot_of b.active) b.pending l f piece) refl

pub refused-feed : RefusedFeed
unfolding feed_call
refused-feed s piece =
    let b = s.board in
    let f = s.feed in
    let l = s.memory in
    of_either (λ (r : FeedReply). accepted r ≡ false → r.after ≡ s) (well_formed b)
    (λ n.
    ap (λ (r : LentFeed). line b r.feed r.memory)
    (feed-leaves b.sizes (slot_of b.active) b.pending l f piece (eqb-false (said l f piece b).report.number 0 n)))
    (λ n. refl)

pub counts-as-store : CountsAsStore
counts-as-store s piece h =
    let b = s.board in
    let f = s.feed in
    let l = s.memory in
    let w = accepted-well l f piece b h in
    let e = feed-by l f piece b w (said l f piece b) refl in
    let stored = feed-stores b.sizes (slot_of b.active) b.pending l f piece (ap accepted e ∙ h) in
    sym (store_by l _ _ b w _ refl) ∙ ap (kept_by b) stored ∙ ap (λ (r : FeedReply). kept_by b (record { report = report 0 0 0; memory = r.after.memory })) e

pub starts-past : StartsPast
starts-past b list piece entry h =
    let z = b.sizes in
    let a = slot_of b.active in
    let bad = feed-malformed z a b.pending list (start_at entry) piece (lt-leb entry z.entries h) in
    by_cases (well_formed b)
    (λ w.
    sym (feed-by list (start_at entry) piece b w _
    (ends-refused z a b.pending list (start_at entry) piece (report 1 0 0) bad (λ e. omega arith))))
    (λ w. sym (feed-of-malformed list (start_at entry) piece b w))
