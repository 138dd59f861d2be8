-- A feed does to the board what feeding it does to the paper board: an accepted piece by its store, a refused one by nothing.
-- Assumes nothing.
use mathlib.Core.Path.{◌≡◌, refl, ap, sym, subst, ◌∙◌}
use mathlib.Core.Bool.{Bool, true, false}
use mathlib.Core.List.{List}
use Prim.Native.Nat.{ℕ}
use borrow.Author.Tests.{eqb-true, eqb-false}
use Rattle.lemmas.proofs.Booleans.{by_cases}
use Rattle.answers.specs.Reports.{report}
use Rattle.geometry.specs.declared.Extent.{Extent}
use Rattle.slots.specs.Slots.{slot_of}
use Rattle.feeds.specs.Feeds.{joined, completed}
use Rattle.feeds.specs.declared.Feed.{Feed}
use Rattle.feeds.proofs.Reporting.{feed-one, feed-not-nine}
use Rattle.board.specs.Calls.{kept}
use Rattle.board.specs.Feeding.{Line, line, FeedReply, feed_call, accepted}
use Rattle.board.proofs.Feeds.{said, feed-by, feed-board, feed-no-more, refused-feed, counts-as-store}
use Rattle.statements.specs.Paper.{store, feed, Paper, fed}
use Rattle.statements.specs.World.{World, world, Called, called}
use Rattle.statements.proofs.Abstract.{Valid}
use Rattle.statements.proofs.Kept.{Kept, refused}
use Rattle.statements.proofs.Storing.{stored_of, store_kept}

abbrev pub received_of : World → FeedReply → Called
received_of w r = record { report = r.report; after = world r.after.board r.after.memory w.display w.virt }

module _ (w : World) (v : Valid w) (f : Feed) (piece : List ℕ) where
  abbrev stored : List ℕ
  stored = completed (joined f piece)

  abbrev reply : FeedReply
  reply = feed_call w.list f piece w.board

  -- what the paper board makes of a piece is what it makes of the store
  counts : (extent : Extent) (t : Bool) (steps : ℕ) (p : Paper) → fed extent (feed f piece) t steps p ≡ fed extent (store f.next stored) t steps p
  unfolding fed
  counts extent true steps p = refl
  counts extent false steps p = refl

  by-store : (o : Called) → Kept w (store f.next stored) o → Kept w (feed f piece) o
  by-store o k =
      record {
        valid = k.valid;
        sizes-same = k.sizes-same;
        paper-same = counts _ _ _ _ ∙ k.paper-same;
        one-by-feed = λ h. absurd (k.one-by-feed h);
        no_nine = k.no_nine;
      }

  feed-accepted : accepted reply ≡ true → Kept w (feed f piece) (received_of w reply)
  unfolding called
  feed-accepted h =
      let b = w.board in
      let number = eqb-true reply.report.number 0 h in
      let done : kept 0 b reply.after.memory ≡ record { report = reply.report; board = reply.after.board; memory = reply.after.memory } =
      (λ i.
      record {
        report = (ap (λ n. report n 0 0) (sym number) ∙ sym (feed-no-more w.list f piece b)) i;
        board = sym (feed-board w.list f piece b) i;
        memory = reply.after.memory;
      }) in
      by-store (received_of w reply)
      (subst (λ r. Kept w (store f.next stored) (stored_of w r)) (counts-as-store (line b f w.list) piece h ∙ done)
      (store_kept w v f.next stored))

  feed-refused : accepted reply ≡ false → Kept w (feed f piece) (received_of w reply)
  unfolding fed
  feed-refused h =
      let b = w.board in
      let z = b.sizes in
      let a = slot_of b.active in
      let same = refused-feed (line b f w.list) piece h in
      let answer : (said w.list f piece b).report.number ≡ reply.report.number =
      ap (λ (r : FeedReply). r.report.number) (feed-by w.list f piece b v.well (said w.list f piece b) refl) in
      subst (λ (s : Line). Kept w (feed f piece) (record { report = reply.report; after = world s.board s.memory w.display w.virt })) (sym same)
      (refused w v (feed f piece) reply.report refl (eqb-false reply.report.number 0 h)
      (λ e. feed-one z a b.pending w.list f piece (answer ∙ e))
      (λ e. feed-not-nine z a b.pending w.list f piece (answer ∙ e)))

  pub feed-kept : Kept w (feed f piece) (called (feed f piece) w)
  unfolding called
  feed-kept = by_cases (accepted reply) feed-accepted feed-refused
