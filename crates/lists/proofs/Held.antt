-- A store that does not touch a list: it writes no entry that the list holds, and what is left of the list reads the
-- same after it.
-- Assumes nothing.
use mathlib.Core.Path.{◌≡◌, refl, ap₂, sym, ◌∙◌}
use mathlib.Core.Bool.{false, false≢true}
use mathlib.Core.List.{List, ◌∷◌}
use mathlib.Core.Logic.{◌⊎◌, inl, inr, ⊎_elim}
use Prim.Native.Nat.{ℕ, zero, suc, ◌+◌, ◌-◌, ◌*◌, ◌≤◌, ◌<◌}
use native.Mathlib.Omega.{arith}
use borrow.Author.Tests.{ltb-true, ltb-false, lt-ltb, leb-true}
use lib.Dec.{leb, ltb}
use lib.ListN.{length, get_or}
use Rattle.lemmas.specs.Memory.{put_into}
use Rattle.lemmas.proofs.Booleans.{by_cases, both}
use Rattle.lemmas.proofs.Memories.{put-before, put-after}
use Rattle.entries.specs.Layout.{entry_of}
use Rattle.lists.specs.Spans.{end_of, touches, UntouchedIsNotHeld}
use Rattle.lists.specs.Cursors.{entries_from, UntouchedStays}
use Rattle.lists.specs.declared.spans.Span.{Span}

-- an entry of a list is outside a store that does not touch the list
untouched : (s : Span) (first n : ℕ) → touches s first n ≡ false → (j : ℕ) → s.start ≤ j → j < end_of s
    → (j < first) ⊎ (first + n ≤ j)
untouched s first n free j low high =
    by_cases (ltb j first) (λ y. inl (ltb-true j first y))
    (λ y.
    let from = ltb-false j first y in
    by_cases (ltb 0 n)
    (λ p.
    by_cases (ltb s.start (first + n))
    (λ q.
    let touched = both (both p (lt-ltb first (end_of s) (omega arith))) q in
    absurd (false≢true (sym free ∙ touched)))
    (λ q. let past = ltb-false s.start (first + n) q in inr (omega arith)))
    (λ p. let none = ltb-false 0 n p in inr (omega arith)))

pub untouched-is-not-held : UntouchedIsNotHeld
untouched-is-not-held s first n k free low high =
    by_cases (leb s.start k)
    (λ t.
    by_cases (ltb k (end_of s))
    (λ u.
    absurd
    (⊎_elim (λ (a : k < first). outside a) (λ (b : first + n ≤ k). beyond b)
    (untouched s first n free k (leb-true s.start k t) (ltb-true k (end_of s) u))))
    (λ u. rw (t, u)))
    (λ t. rw t)
  where
    outside : k < first → ⊥
    outside a = omega arith

    beyond : first + n ≤ k → ⊥
    beyond b = omega arith

module _ (l : List ℕ) (first : ℕ) (bytes : List ℕ) (n : ℕ) (h : 5 * first + length bytes ≤ length l) (e : length bytes ≡ 5 * n) where
  byte-stays : (k i : ℕ) → i < 5 → (k < first) ⊎ (first + n ≤ k) → get_or (put_into l (5 * first) bytes) (5 * k + i) 0 ≡ get_or l (5 * k + i) 0
  byte-stays k i small side =
      ⊎_elim (λ low. put-before l (5 * first) bytes h (5 * k + i) (omega arith))
      (λ high. put-after l (5 * first) bytes h (5 * k + i) (omega arith))
      side

  first-stays : (k : ℕ) → (k < first) ⊎ (first + n ≤ k) → get_or (put_into l (5 * first) bytes) (5 * k) 0 ≡ get_or l (5 * k) 0
  first-stays k side =
      ⊎_elim (λ low. put-before l (5 * first) bytes h (5 * k) (omega arith)) (λ high. put-after l (5 * first) bytes h (5 * k) (omega arith)) side

  entry-stays : (k : ℕ) → (k < first) ⊎ (first + n ≤ k) → entry_of (put_into l (5 * first) bytes) k ≡ entry_of l k
  entry-stays k side =
      rw (
        first-stays k side,
        byte-stays k 1 (omega arith) side,
        byte-stays k 2 (omega arith) side,
        byte-stays k 3 (omega arith) side,
        byte-stays k 4 (omega arith) side,
      )

  entries-stay : (k c : ℕ) → ((j : ℕ) → k ≤ j → j < k + c → (j < first) ⊎ (first + n ≤ j))
      → entries_from (put_into l (5 * first) bytes) k c ≡ entries_from l k c
  unfolding entries_from
  entries-stay k zero side = refl
  entries-stay k (suc c) side =
      ap₂ ◌∷◌ (entry-stays k (side k (omega arith) (omega arith)))
      (entries-stay (suc k) c (λ j a b. side j (omega arith) (omega arith)))

pub untouched-stays : UntouchedStays
untouched-stays l first n bytes c e h low free =
    entries-stay l first bytes n h e c.next (end_of c.span - c.next)
    (λ j a b. untouched c.span first n free j (omega arith) (omega arith))
