-- What a piece answers, by the tests that it passes, and that a refusal leaves all as it was.
-- Assumes nothing.
use mathlib.Core.Path.{◌≡◌, refl, ap, ap₂, sym, ◌∙◌}
use mathlib.Core.Bool.{Bool, true, false, cond, ◌&&◌, ◌||◌}
use mathlib.Core.List.{List}
use Prim.Native.Nat.{ℕ, ◌+◌, ◌*◌, ◌/◌, ◌%◌, ◌≤◌, ◌<◌}
use native.Mathlib.Omega.{arith}
use borrow.Author.Tests.{leb-true, eq-eqb, ne_eqb}
use lib.Dec.{eqb, leb}
use lib.ListN.{length}
use Rattle.lemmas.proofs.Booleans.{by_cases, and_left, and_right, both, of_either}
use Rattle.std.specs.Prelude.{Result, Err, IsErrAnd}
use Rattle.answers.specs.Reports.{Report, report, report_of}
use Rattle.answers.specs.declared.Refusal.{Refusal}
use Rattle.answers.proofs.Refusals.{refused}
use Rattle.lemmas.specs.Memory.{put_into}
use Rattle.slots.specs.Calls.{Lent, leaves, holds_any, store_report}
use Rattle.slots.specs.declared.record.Sizes.{Sizes}
use Rattle.slots.specs.declared.record.Slot.{Slot}
use Rattle.slots.proofs.Grounds.{NumberAlone, store-wrong-size, store-past, store-held, store-done, store-leaves, store-number, store-answers}
use Rattle.feeds.specs.declared.Feed.{Feed}
use Rattle.feeds.specs.Feeds.{LentFeed, held_ok, feed_ok, joined, entries_in, completed, advanced, outcome, by_store, feed_report, accepted}
use Rattle.feeds.proofs.Bytes.{length-completed}
use Rattle.feeds.proofs.Stores.{Fits, fits-done, accepted-fits}

pub good-next : (z : Sizes) (f : Feed) → feed_ok z f ≡ true → f.next ≤ z.entries
good-next z f ok = leb-true f.next z.entries (and_right (held_ok f) (leb f.next z.entries) ok)

pub good-held : (z : Sizes) (f : Feed) → feed_ok z f ≡ true → held_ok f ≡ true
good-held z f ok = and_left (held_ok f) (leb f.next z.entries) ok

-- what a refusal answers that `?` hands on
pub handed-on : (r : Result ℕ Refusal) (e why : Refusal) (x : Report) → e ≡ why → IsErrAnd r (λ y. y ≡ e) → report_of (Err why) ≡ x → report_of r ≡ x
handed-on r e why x is handed told = ap report_of (refused handed is) ∙ told

abbrev lent_of : Report → List ℕ → Lent
lent_of report memory = record { report = report; memory = memory }

module _ (z : Sizes) (a p : Slot) (l : List ℕ) (f : Feed) (piece : List ℕ) where
  abbrev F : LentFeed
  F = feed_report z a p l f piece

  abbrev J : List ℕ
  J = joined f piece

  abbrev stored : List ℕ
  stored = completed J

  abbrev S : Lent
  S = store_report z a p l f.next stored

  by-test : (t : Bool) → feed_ok z f ≡ t → F ≡ cond t (by_store S f (advanced f J)) (outcome (report 1 0 0) f l)
  unfolding feed_report
  by-test t e = ap (λ t. cond t (by_store S f (advanced f J)) (outcome (report 1 0 0) f l)) e

  pub feed-malformed : feed_ok z f ≡ false → report 1 0 0 ≡ F.report
  feed-malformed e = sym (ap (λ r. r.report) (by-test false e))

  module _ (ok : feed_ok z f ≡ true) where
    by-lent : (s : Lent) → s ≡ S → s.report ≡ F.report
    by-lent s e = ap (λ s. s.report) e ∙ sym (ap (λ r. r.report) (by-test true ok))

    whole-entries : length stored % 5 ≡ 0
    whole-entries = omega (arith, length-completed J)

    how-many : length stored / 5 ≡ entries_in J
    how-many = omega (arith, length-completed J)

    pub feed-wrong-size : (length l ≡ 5 * z.entries → ⊥) → report 2 0 0 ≡ F.report
    feed-wrong-size h =
        by-lent (leaves 2 l)
        (store-wrong-size z a p l f.next stored (ap (λ t. t && eqb (length stored % 5) 0) (ne_eqb (length l) (5 * z.entries) h)))

    module _ (long : length l ≡ 5 * z.entries) where
      sized : (eqb (length l) (5 * z.entries) && eqb (length stored % 5) 0) ≡ true
      sized = both (eq-eqb (length l) (5 * z.entries) long) (eq-eqb (length stored % 5) 0 whole-entries)

      -- of as many entries as the code counts
      module _ (n : ℕ) (many : entries_in J ≡ n) where
        pub feed-past : z.entries < f.next + n → report 4 0 0 ≡ F.report
        feed-past h = by-lent (leaves 4 l) (store-past z a p l f.next stored sized (omega (arith, how-many, many)))

        module _ (fits : f.next + n ≤ z.entries) where
          counted : (holds_any a f.next (length stored / 5) || holds_any p f.next (length stored / 5))
              ≡ (holds_any a f.next n || holds_any p f.next n)
          counted = ap (λ (k : ℕ). holds_any a f.next k || holds_any p f.next k) (how-many ∙ many)

          pub feed-held : (holds_any a f.next n || holds_any p f.next n) ≡ true → report 8 0 0 ≡ F.report
          feed-held h =
              by-lent (leaves 8 l) (store-held z a p l f.next stored sized (omega (arith, how-many, many)) (counted ∙ h))

          pub feed-done : (holds_any a f.next n || holds_any p f.next n) ≡ false → report 0 0 0 ≡ F.report
          feed-done h =
              by-lent (leaves 0 (put_into l (5 * f.next) stored))
              (store-done z a p l f.next stored sized (omega (arith, how-many, many)) (counted ∙ h) _ refl)

  -- "Refusals, which hand both records back as given", and memory as it was
  store-refused : (S.report.number ≡ 0 → ⊥) → by_store S f (advanced f J) ≡ outcome S.report f l
  store-refused n =
      ap₂ (outcome S.report) (ap (λ t. cond t (advanced f J) f) (ne_eqb S.report.number 0 n))
      (store-leaves z a p l f.next stored n)

  pub feed-leaves : (F.report.number ≡ 0 → ⊥) → F ≡ outcome F.report f l
  feed-leaves n =
      by_cases (feed_ok z f)
      (λ ok.
      let e = by-test true ok in
      let h : F.report ≡ S.report = ap (λ r. r.report) e in
      e ∙ store-refused (λ k. n (ap (λ (t : Report). t.number) h ∙ k)) ∙ ap (λ (t : Report). outcome t f l) (sym h))
      (λ bad. let e = by-test false bad in e ∙ ap (λ (t : Report). outcome t f l) (sym (ap (λ r. r.report) e)))

  -- ---- the two ways a feed ends
  pub ends-refused : (h : Report) → h ≡ F.report → (h.number ≡ 0 → ⊥) → outcome h f l ≡ F
  ends-refused h e n =
      ap (λ (t : Report). outcome t f l) e
      ∙ sym (feed-leaves (λ k. n (ap (λ (t : Report). t.number) e ∙ k)))

  module _ (h : Report) (e : h ≡ F.report) (n : h.number ≡ 0) where
    pub ends-fit : Fits z a p l f (entries_in J)
    ends-fit = accepted-fits z a p l f piece (eq-eqb F.report.number 0 (sym (ap (λ (t : Report). t.number) e) ∙ n))

    pub ends-room : 5 * f.next + 5 * entries_in J ≤ length l
    ends-room = omega (arith, ends-fit.1, ends-fit.2)

    pub ends-done : (g : Feed) (m : List ℕ) → g ≡ advanced f J → m ≡ put_into l (5 * f.next) stored → outcome (report 0 0 0) g m ≡ F
    ends-done g m after put =
        let done = fits-done z a p l f piece ends-fit in
        ap₂ (outcome (report 0 0 0)) after put ∙ sym done

  -- an accepted piece's store
  pub feed-stores : accepted F ≡ true → S ≡ leaves 0 F.memory
  feed-stores e =
      let w = accepted-fits z a p l f piece e in
      let stored-so = by-test true w.0 in
      ap₂ lent_of (sym (ap (λ r. r.report) stored-so) ∙ ap (λ r. r.report) (fits-done z a p l f piece w)) (sym (ap (λ r. r.memory) stored-so))

  -- neither place nor steps
  pub feed-number : NumberAlone F.report
  unfolding feed_report
  feed-number = of_either (λ (r : LentFeed). NumberAlone r.report) (feed_ok z f) (store-number z a p l f.next stored) refl

  -- 1 is answered for a bad feed record alone, and 9 never
  store-number-is : feed_ok z f ≡ true → S.report.number ≡ F.report.number
  store-number-is ok = sym (ap (λ (r : LentFeed). r.report.number) (by-test true ok))

  pub feed-one : F.report.number ≡ 1 → feed_ok z f ≡ false
  feed-one h =
      by_cases (feed_ok z f)
      (λ ok.
      absurd
      (store-answers (λ n. n ≡ 1 → ⊥) (λ e. omega arith) (λ e. omega arith) (λ e. omega arith) (λ e. omega arith) z a p l f.next stored
      (store-number-is ok ∙ h)))
      (λ bad. bad)

  pub feed-not-nine : F.report.number ≡ 9 → ⊥
  feed-not-nine h =
      by_cases (feed_ok z f)
      (λ ok.
      store-answers (λ n. n ≡ 9 → ⊥) (λ e. omega arith) (λ e. omega arith) (λ e. omega arith) (λ e. omega arith) z a p l f.next stored
      (store-number-is ok ∙ h))
      (λ bad. let e : F.report.number ≡ 1 = sym (ap (λ (r : Report). r.number) (feed-malformed bad)) in omega arith)
