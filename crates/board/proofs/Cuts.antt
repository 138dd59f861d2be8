-- The theorem of cuts: two pieces are one, and so any number of them.
-- Assumes nothing.
use mathlib.Core.Path.{◌≡◌, refl, ap, sym, ◌∙◌}
use mathlib.Core.Bool.{Bool, true, false, ◌&&◌, false≢true}
use mathlib.Core.List.{List, [], ◌∷◌, ◌++◌, append_assoc, append-nil}
use Prim.Native.Nat.{ℕ, ◌≤◌}
use Rattle.lemmas.proofs.Booleans.{and_left, and_right, and-true}
use Rattle.slots.specs.Slots.{slot_of}
use Rattle.slots.proofs.Slotted.{span_of, slot-taken, active-span}
use Rattle.feeds.specs.Feeds.{LentFeed}
use Rattle.feeds.proofs.Cutting.{two-first, two-accepted, two-same}
use Rattle.board.specs.Record.{well_formed}
use Rattle.board.specs.Feeding.{Line, FeedReply, handed, feed_on, accepted, throughout, at_last, whole, Cuts}
use Rattle.board.specs.declared.record.Board.{Board}
use Rattle.board.proofs.Forms.{good_of}
use Rattle.board.proofs.Feeds.{said, feed-by, feed-board, accepted-well}

-- one test after another, and one of the whole
chained : (a b c t u : Bool) → (a ≡ true → b ≡ c) → (c ≡ true → a ≡ true) → (a ≡ true → c ≡ true → t ≡ u) → (a && (b && t)) ≡ (c && u)
chained true b true t u f g h = rw (f refl) (h refl refl)
chained true b false t u f g h = rw (f refl)
chained false b true t u f g h = absurd (false≢true (g refl))
chained false b false t u f g h = refl

-- ---- two pieces
module _ (s : Line) (x y : List ℕ) where
  abbrev now : Line
  now = (feed_on s x).after

  -- of a well formed record, by the slots, whose lists are not empty
  module _ (w : well_formed s.board ≡ true) where
    abbrev b : Board
    b = s.board

    active-some : b.active.taken ≡ true → 1 ≤ b.active.cursor.span.count
    active-some t =
        (span_of b.active.cursor.span b.sizes.entries
        (active-span b.active b.sizes.entries b.engine.under_way (good_of b w).active t)).some

    pending-some : b.pending.taken ≡ true → 1 ≤ b.pending.span.count
    pending-some t =
        (span_of b.pending.span b.sizes.entries (slot-taken b.pending b.sizes.entries (good_of b w).pending t)).some

    abbrev F : List ℕ → LentFeed
    F piece = said s.memory s.feed piece b

    by_said : (piece : List ℕ) → handed b (F piece) ≡ feed_on s piece
    by_said piece = feed-by s.memory s.feed piece b w (F piece) refl

    abbrev second : LentFeed
    second = said (F x).memory (F x).feed y b

    on-now : handed b second ≡ feed_on now y
    on-now = feed-by (F x).memory (F x).feed y b w second refl ∙ ap (λ (r : FeedReply). feed_on r.after y) (by_said x)

    pieces-accepted : accepted (feed_on s x) ≡ true → accepted (feed_on now y) ≡ accepted (feed_on s (x ++ y))
    pieces-accepted h =
        sym (ap accepted on-now)
        ∙ two-accepted b.sizes (slot_of b.active) b.pending active-some pending-some s.memory s.feed x y (ap accepted (by_said x) ∙ h)
        ∙ ap accepted (by_said (x ++ y))

    pieces-first : accepted (feed_on s (x ++ y)) ≡ true → accepted (feed_on s x) ≡ true
    pieces-first h =
        sym (ap accepted (by_said x))
        ∙ two-first b.sizes (slot_of b.active) b.pending active-some pending-some s.memory s.feed x y
        (ap accepted (by_said (x ++ y)) ∙ h)

    pieces-same : accepted (feed_on s x) ≡ true → accepted (feed_on s (x ++ y)) ≡ true → feed_on now y ≡ feed_on s (x ++ y)
    pieces-same h k =
        sym on-now
        ∙ ap (handed b)
        (two-same b.sizes (slot_of b.active) b.pending active-some pending-some s.memory s.feed x y
        (ap accepted (by_said x) ∙ h)
        (ap accepted (by_said (x ++ y)) ∙ k))
        ∙ by_said (x ++ y)

  -- of any record
  well : (piece : List ℕ) → accepted (feed_on s piece) ≡ true → well_formed s.board ≡ true
  well piece = accepted-well s.memory s.feed piece s.board

  one-accepted : accepted (feed_on s x) ≡ true → accepted (feed_on now y) ≡ accepted (feed_on s (x ++ y))
  one-accepted h = pieces-accepted (well x h) h

  one-first : accepted (feed_on s (x ++ y)) ≡ true → accepted (feed_on s x) ≡ true
  one-first h = pieces-first (well (x ++ y) h) h

  one_same : accepted (feed_on s x) ≡ true → accepted (feed_on s (x ++ y)) ≡ true → (feed_on now y).after ≡ (feed_on s (x ++ y)).after
  one_same h k = ap (λ (r : FeedReply). r.after) (pieces-same (well x h) h k)

  -- ---- the first two pieces joined, before more pieces
  module _ (more : List (List ℕ)) where
    merged-accepted : throughout s (x ∷ y ∷ more) ≡ throughout s ((x ++ y) ∷ more)
    unfolding throughout
    merged-accepted =
        chained (accepted (feed_on s x)) (accepted (feed_on now y)) (accepted (feed_on s (x ++ y))) (throughout (feed_on now y).after more)
        (throughout (feed_on s (x ++ y)).after more)
        one-accepted
        one-first
        (λ h k. ap (λ (t : Line). throughout t more) (one_same h k))

    merged-last : throughout s (x ∷ y ∷ more) ≡ true → at_last s (x ∷ y ∷ more) ≡ at_last s ((x ++ y) ∷ more)
    unfolding throughout at_last
    merged-last e =
        let one = accepted (feed_on s x) in
        let two = accepted (feed_on now y) in
        let rest = throughout (feed_on now y).after more in
        let first = and_left one (two && rest) e in
        let next = and_left two rest (and_right one (two && rest) e) in
        ap (λ (t : Line). at_last t more) (one_same first (sym (one-accepted first) ∙ next))

-- ---- any number of pieces
accepted-as : (s : Line) (x : List ℕ) (more : List (List ℕ)) → throughout s (x ∷ more) ≡ accepted (feed_on s (whole (x ∷ more)))
unfolding throughout whole
accepted-as s x [] = rw append-nil (and-true (accepted (feed_on s x)))
accepted-as s x (y ∷ more) =
    merged-accepted s x y more ∙ accepted-as s (x ++ y) more ∙ ap (λ (b : List ℕ). accepted (feed_on s b)) (append_assoc x y (whole more))

leaves-as : (s : Line) (x : List ℕ) (more : List (List ℕ)) → throughout s (x ∷ more) ≡ true
    → at_last s (x ∷ more) ≡ (feed_on s (whole (x ∷ more))).after
unfolding at_last whole
leaves-as s x [] e = rw append-nil refl
leaves-as s x (y ∷ more) e =
    merged-last s x y more e
    ∙ leaves-as s (x ++ y) more (sym (merged-accepted s x y more) ∙ e)
    ∙ ap (λ (b : List ℕ). (feed_on s b).after) (append_assoc x y (whole more))

board-stays : (s : Line) (pieces : List (List ℕ)) → (at_last s pieces).board ≡ s.board
unfolding at_last
board-stays s [] = refl
board-stays s (x ∷ more) = board-stays (feed_on s x).after more ∙ feed-board s.memory s.feed x s.board

pub cuts : Cuts
cuts s piece pieces =
    record {
      accepted-as = accepted-as s piece pieces;
      leaves-as = leaves-as s piece pieces;
      board-stays = board-stays s (piece ∷ pieces);
    }
