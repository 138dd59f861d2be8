-- When a piece is accepted, and what it then does.
-- Assumes nothing.
use mathlib.Core.Path.{◌≡◌, refl, ap, ap₂, sym, ◌∙◌}
use mathlib.Core.Bool.{Bool, true, false, cond, ◌&&◌, ◌||◌, false≢true}
use mathlib.Core.List.{List}
use Prim.Native.Nat.{ℕ, suc, ◌+◌, ◌*◌, ◌/◌, ◌%◌, ◌≤◌, ◌<◌}
use native.Mathlib.Omega.{arith}
use borrow.Author.Tests.{eqb-true, ltb-true, ltb-false, leb-true, leb-false, eq-eqb, lt-ltb}
use lib.Dec.{eqb, leb, ltb}
use lib.ListN.{length}
use Rattle.lemmas.proofs.Booleans.{by_cases, and_left, both, or-none-left, or-none-right}
use Rattle.answers.specs.Reports.{report}
use Rattle.lemmas.specs.Memory.{put_into}
use Rattle.lists.specs.Spans.{end_of}
use Rattle.slots.specs.Calls.{holds_any, store_report}
use Rattle.slots.specs.declared.record.Sizes.{Sizes}
use Rattle.slots.specs.declared.record.Slot.{Slot}
use Rattle.slots.proofs.Grounds.{store-wrong-size, store-past, store-held, store-done}
use Rattle.feeds.specs.declared.Feed.{Feed}
use Rattle.feeds.specs.Feeds.{feed_ok, joined, entries_in, completed, advanced, outcome, by_store, feed_report, accepted}
use Rattle.feeds.proofs.Bytes.{length-completed}

-- ---- entries that a slot's list has none of
abbrev pub Free : Slot → ℕ → ℕ → Type 0
Free s first n = s.taken ≡ true → 0 < n → first < end_of s.span → s.span.start < first + n → ⊥

none : (a b c d : Bool) → (a ≡ true → b ≡ true → c ≡ true → d ≡ true → ⊥) → (a && (b && c && d)) ≡ false
none true true true true h = absurd (h refl refl refl refl)
none true true true false h = refl
none true true false d h = refl
none true false c d h = refl
none false b c d h = refl

pub free_of : (s : Slot) (first n : ℕ) → holds_any s first n ≡ false → Free s first n
free_of s first n e t h i j =
    let all : holds_any s first n ≡ true = both t (both (both (lt-ltb 0 n h) (lt-ltb first (end_of s.span) i)) (lt-ltb s.span.start (first + n) j)) in
    false≢true (sym e ∙ all)

pub of-free : (s : Slot) (first n : ℕ) → Free s first n → holds_any s first n ≡ false
of-free s first n h =
    none s.taken (ltb 0 n) (ltb first (end_of s.span)) (ltb s.span.start (first + n))
    (λ t a b c. h t (ltb-true 0 n a) (ltb-true first (end_of s.span) b) (ltb-true s.span.start (first + n) c))

pub free-earlier : (s : Slot) (first n m : ℕ) → Free s first (n + m) → Free s first n
free-earlier s first n m h t a b c = h t (omega arith) b (omega arith)

pub free-later : (s : Slot) (first n m : ℕ) → Free s first (n + m) → Free s (first + n) m
free-later s first n m h t a b c = h t (omega arith) (omega arith) (omega arith)

-- of a list that is not empty
pub free-join : (s : Slot) (first n m : ℕ) → (s.taken ≡ true → 1 ≤ s.span.count) → Free s first n → Free s (first + n) m → Free s first (n + m)
free-join s first n m some g h t a b c =
    by_cases (ltb s.span.start (first + n))
    (λ e. let e' = ltb-true s.span.start (first + n) e in
    by_cases (ltb 0 n) (λ k. g t (ltb-true 0 n k) b e') (λ k. let k' = ltb-false 0 n k in h t (omega arith) (omega arith) (omega arith)))
    (λ e. let e' = ltb-false s.span.start (first + n) e in
    let c' = some t in
    h t (omega arith) (omega arith) (omega arith))

differ : (n : ℕ) → suc n ≡ 0 → ⊥
differ n h = omega arith

module _ (z : Sizes) (a p : Slot) where
  -- ---- a store that is done
  store-fits : (l : List ℕ) (first : ℕ) (bytes : List ℕ) → (store_report z a p l first bytes).report.number ≡ 0
      → ((eqb (length l) (5 * z.entries) && eqb (length bytes % 5) 0) ≡ true)
      × (first + length bytes / 5 ≤ z.entries)
      × ((holds_any a first (length bytes / 5) || holds_any p first (length bytes / 5)) ≡ false)
  store-fits l first bytes e =
      by_cases (eqb (length l) (5 * z.entries) && eqb (length bytes % 5) 0)
      (λ long.
      by_cases (leb (first + length bytes / 5) z.entries)
      (λ w. let within = leb-true (first + length bytes / 5) z.entries w in
      by_cases (holds_any a first (length bytes / 5) || holds_any p first (length bytes / 5))
      (λ t. absurd (differ 7 (ap (λ s. s.report.number) (store-held z a p l first bytes long within t) ∙ e)))
      (λ t. (long, within, t)))
      (λ w. absurd (differ 3 (ap (λ s. s.report.number) (store-past z a p l first bytes long (leb-false (first + length bytes / 5) z.entries w)) ∙ e))))
      (λ long. absurd (differ 1 (ap (λ s. s.report.number) (store-wrong-size z a p l first bytes long) ∙ e)))

  -- ---- a piece that is accepted
  abbrev pub Fits : List ℕ → Feed → ℕ → Type 0
  Fits l f n =
      (feed_ok z f ≡ true)
      × (length l ≡ 5 * z.entries)
      × (f.next + n ≤ z.entries)
      × Free a f.next n
      × Free p f.next n

  abbrev pub Done : List ℕ → Feed → List ℕ → Type 0
  Done l f piece =
      let bytes = joined f piece in
      feed_report z a p l f piece ≡ outcome (report 0 0 0) (advanced f bytes) (put_into l (5 * f.next) (completed bytes))

  pub fits-done : (l : List ℕ) (f : Feed) (piece : List ℕ) → Fits l f (entries_in (joined f piece)) → Done l f piece
  unfolding feed_report
  fits-done l f piece w =
      let bytes = joined f piece in
      let stored = completed bytes in
      let n : length stored / 5 ≡ entries_in bytes = omega (arith, length-completed bytes) in
      let many : length stored % 5 ≡ 0 = omega (arith, length-completed bytes) in
      let free : (holds_any a f.next (length stored / 5) || holds_any p f.next (length stored / 5)) ≡ false =
      ap (λ (k : ℕ). holds_any a f.next k || holds_any p f.next k) n
      ∙ ap₂ ◌||◌ (of-free a f.next (entries_in bytes) w.3) (of-free p f.next (entries_in bytes) w.4) in
      let done = store-done z a p l f.next stored
      (both (eq-eqb (length l) (5 * z.entries) w.1) (eq-eqb (length stored % 5) 0 many))
      (omega (arith, w.2, n)) free (put_into l (5 * f.next) stored) refl in
      ap (λ t. cond t (by_store (store_report z a p l f.next stored) f (advanced f bytes)) (outcome (report 1 0 0) f l)) w.0
      ∙ ap (λ s. by_store s f (advanced f bytes)) (sym done)

  good : (l : List ℕ) (f : Feed) (bytes : List ℕ) → feed_ok z f ≡ true
      → eqb (store_report z a p l f.next (completed bytes)).report.number 0 ≡ true → Fits l f (entries_in bytes)
  good l f bytes ok e =
      let stored = completed bytes in
      let w = store-fits l f.next stored (eqb-true (store_report z a p l f.next stored).report.number 0 e) in
      let n : length stored / 5 ≡ entries_in bytes = omega (arith, length-completed bytes) in
      let free = ap (λ (k : ℕ). holds_any a f.next k || holds_any p f.next k) (sym n) ∙ w.2 in
      let ta = holds_any a f.next (entries_in bytes) in
      let tp = holds_any p f.next (entries_in bytes) in (
        ok,
        eqb-true (length l) (5 * z.entries) (and_left (eqb (length l) (5 * z.entries)) (eqb (length stored % 5) 0) w.0),
        omega (arith, w.1, n),
        free_of a f.next (entries_in bytes) (or-none-left ta tp free),
        free_of p f.next (entries_in bytes) (or-none-right ta tp free),
      )

  pub accepted-fits : (l : List ℕ) (f : Feed) (piece : List ℕ) → accepted (feed_report z a p l f piece) ≡ true
      → Fits l f (entries_in (joined f piece))
  unfolding feed_report
  accepted-fits l f piece e =
      let bytes = joined f piece in
      let r = by_store (store_report z a p l f.next (completed bytes)) f (advanced f bytes) in
      let bad = outcome (report 1 0 0) f l in
      by_cases (feed_ok z f) (λ ok. good l f bytes ok (ap (λ t. accepted (cond t r bad)) (sym ok) ∙ e))
      (λ t. absurd (false≢true (ap (λ t. accepted (cond t r bad)) (sym t) ∙ e)))
