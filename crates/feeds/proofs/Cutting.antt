-- Two pieces are one: both are accepted exactly where the two joined are, and then answer and leave the same. Of slots whose
-- lists are not empty.
-- Assumes nothing.
use mathlib.Core.Path.{◌≡◌, refl, ap, ap₂, sym, subst, ◌∙◌}
use mathlib.Core.Bool.{Bool, true, false}
use mathlib.Core.List.{List, ◌++◌, append_assoc}
use Prim.Native.Nat.{ℕ, ◌+◌, ◌*◌, ◌≤◌}
use native.Mathlib.Omega.{arith}
use borrow.Author.Tests.{le-leb}
use lib.ListN.{length, take}
use Rattle.lemmas.specs.Memory.{put_into}
use Rattle.lemmas.proofs.Booleans.{both}
use Rattle.lemmas.proofs.Memories.{put-length, put-join}
use Rattle.answers.specs.Reports.{report}
use Rattle.slots.specs.declared.record.Sizes.{Sizes}
use Rattle.slots.specs.declared.record.Slot.{Slot}
use Rattle.feeds.specs.declared.Feed.{Feed}
use Rattle.feeds.specs.Feeds.{LentFeed, feed_ok, holding, joined, entries_in, completed, remainder, advanced, outcome, feed_report, accepted}
use Rattle.feeds.proofs.Bytes.{length-completed, remainder-short, cut-count, cut-completed, cut-remainder, held_back, held_fits}
use Rattle.feeds.proofs.Stores.{free-earlier, free-later, free-join, Fits, fits-done, accepted-fits}

equal : (a b : Bool) → (a ≡ true → b ≡ true) → (b ≡ true → a ≡ true) → a ≡ b
equal true b f g = sym (f refl)
equal false true f g = g refl
equal false false f g = refl

-- bytes that are held are well held
held-ok : (z : Sizes) (next : ℕ) (bytes : List ℕ) → next ≤ z.entries → length bytes ≤ 4 → feed_ok z (holding next bytes) ≡ true
held-ok z next bytes h k = both (held_fits next bytes k) (le-leb next z.entries h)

module _ (z : Sizes) (a p : Slot) (some-a : a.taken ≡ true → 1 ≤ a.span.count) (some-p : p.taken ≡ true → 1 ≤ p.span.count) where
  -- ---- numbers of entries, in two parts
  module _ (l : List ℕ) (f : Feed) (bytes : List ℕ) where
    abbrev l' : List ℕ
    l' = put_into l (5 * f.next) (completed bytes)

    abbrev n : ℕ
    n = entries_in bytes

    room : Fits z a p l f n → 5 * f.next + length (completed bytes) ≤ length l
    room w = omega (arith, w.1, w.2, length-completed bytes)

    fits-earlier : (m : ℕ) → Fits z a p l f (n + m) → Fits z a p l f n
    fits-earlier m w = (w.0, w.1, omega (arith, w.2), free-earlier a f.next n m w.3, free-earlier p f.next n m w.4)

    fits-later : (m : ℕ) → Fits z a p l f (n + m) → Fits z a p l' (advanced f bytes) m
    fits-later m w =
        let within = w.2 in (
          held-ok z (f.next + n) (remainder bytes) (omega arith) (remainder-short bytes),
          put-length l (5 * f.next) (completed bytes) (room (fits-earlier m w)) ∙ w.1,
          omega arith,
          free-later a f.next n m w.3,
          free-later p f.next n m w.4,
        )

    fits-join : (m : ℕ) → Fits z a p l f n → Fits z a p l' (advanced f bytes) m → Fits z a p l f (n + m)
    fits-join m w v =
        let within = v.2 in (
          w.0,
          w.1,
          omega arith,
          free-join a f.next n m some-a w.3 v.3,
          free-join p f.next n m some-p w.4 v.4,
        )

    -- what both leave
    cut-memory : (more : List ℕ) → Fits z a p l f n
        → put_into l' (5 * (f.next + n)) (completed (remainder bytes ++ more)) ≡ put_into l (5 * f.next) (completed (bytes ++ more))
    cut-memory more w =
        let at : 5 * (f.next + n) ≡ 5 * f.next + length (completed bytes) = omega (arith, length-completed bytes) in
        ap (λ (k : ℕ). put_into l' k (completed (remainder bytes ++ more))) at
        ∙ put-join l (5 * f.next) (completed bytes) (room w) (completed (remainder bytes ++ more))
        ∙ ap (put_into l (5 * f.next)) (cut-completed bytes more)

    cut-feed : (more : List ℕ) → advanced (advanced f bytes) (remainder bytes ++ more) ≡ advanced f (bytes ++ more)
    cut-feed more =
        let next : f.next + n + entries_in (remainder bytes ++ more) ≡ f.next + entries_in (bytes ++ more) = omega (arith, cut-count bytes more) in
        ap₂ holding next (cut-remainder bytes more)

  -- ---- two pieces
  module _ (l : List ℕ) (f : Feed) (x y : List ℕ) where
    abbrev J : List ℕ
    J = joined f x

    abbrev f' : Feed
    f' = advanced f J

    abbrev m' : List ℕ
    m' = l' l f J

    seam : J ++ y ≡ joined f (x ++ y)
    seam = append_assoc (take f.count f.held) x y

    again : joined f' y ≡ remainder J ++ y
    again = ap (λ (b : List ℕ). b ++ y) (held_back (f.next + entries_in J) (remainder J))

    count : entries_in J + entries_in (joined f' y) ≡ entries_in (joined f (x ++ y))
    count = ap (λ (b : List ℕ). entries_in J + entries_in b) again ∙ cut-count J y ∙ ap (λ (b : List ℕ). entries_in b) seam

    abbrev Both : Type 0
    Both = Fits z a p l f (entries_in (joined f (x ++ y)))

    abbrev First : Type 0
    First = Fits z a p l f (entries_in J)

    abbrev Second : Type 0
    Second = Fits z a p m' f' (entries_in (joined f' y))

    both-sum : Both → Fits z a p l f (entries_in J + entries_in (joined f' y))
    both-sum w = subst (λ (k : ℕ). Fits z a p l f k) (sym count) w

    both_first : Both → First
    both_first w = fits-earlier l f J (entries_in (joined f' y)) (both-sum w)

    both-second : Both → Second
    both-second w = fits-later l f J (entries_in (joined f' y)) (both-sum w)

    first-second : First → Second → Both
    first-second w v = subst (λ (k : ℕ). Fits z a p l f k) count (fits-join l f J (entries_in (joined f' y)) w v)

    same_outcome : Both → feed_report z a p m' f' y ≡ feed_report z a p l f (x ++ y)
    same_outcome w =
        fits-done z a p m' f' y (both-second w)
        ∙ ap₂ (outcome (report 0 0 0)) (ap (advanced f') again ∙ cut-feed l f J y ∙ ap (advanced f) seam)
        (ap (λ (b : List ℕ). put_into m' (5 * f'.next) (completed b)) again
        ∙ cut-memory l f J y (both_first w)
        ∙ ap (λ (b : List ℕ). put_into l (5 * f.next) (completed b)) seam)
        ∙ sym (fits-done z a p l f (x ++ y) w)

    same-accepted : First → accepted (feed_report z a p m' f' y) ≡ accepted (feed_report z a p l f (x ++ y))
    same-accepted w =
        equal (accepted (feed_report z a p m' f' y)) (accepted (feed_report z a p l f (x ++ y)))
        (λ e. ap accepted (fits-done z a p l f (x ++ y) (first-second w (accepted-fits z a p m' f' y e))))
        (λ e. ap accepted (fits-done z a p m' f' y (both-second (accepted-fits z a p l f (x ++ y) e))))

    -- the second piece, fed to what the first leaves
    abbrev first : LentFeed
    first = feed_report z a p l f x

    abbrev second : LentFeed
    second = feed_report z a p first.memory first.feed y

    abbrev one : LentFeed
    one = feed_report z a p l f (x ++ y)

    left : accepted first ≡ true → second ≡ feed_report z a p m' f' y
    left e =
        let done = fits-done z a p l f x (accepted-fits z a p l f x e) in
        ap₂ (λ m g. feed_report z a p m g y) (ap (λ r. r.memory) done) (ap (λ r. r.feed) done)

    pub two-first : accepted one ≡ true → accepted first ≡ true
    two-first h = ap accepted (fits-done z a p l f x (both_first (accepted-fits z a p l f (x ++ y) h)))

    pub two-accepted : accepted first ≡ true → accepted second ≡ accepted one
    two-accepted e = ap accepted (left e) ∙ same-accepted (accepted-fits z a p l f x e)

    pub two-same : accepted first ≡ true → accepted one ≡ true → second ≡ one
    two-same e h = left e ∙ same_outcome (accepted-fits z a p l f (x ++ y) h)
