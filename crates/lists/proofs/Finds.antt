-- The first illegal entry, one entry at a time; and a list that has none.
-- Assumes nothing.
use mathlib.Core.Path.{◌≡◌, ap, sym, ◌∙◌}
use mathlib.Core.Bool.{true, false}
use mathlib.Core.List.{List}
use Prim.Native.Nat.{ℕ, zero, suc, ◌+◌, ◌-◌, ◌<◌}
use native.Mathlib.Numerals.{add-one}
use native.Mathlib.Omega.{arith}
use Rattle.lemmas.proofs.Booleans.{by_cases}
use Rattle.entries.specs.Layout.{entry_of}
use Rattle.entries.specs.Legality.{decoded_legal, entry_legal, legal_at}
use Rattle.entries.proofs.Decodes.{decoded-whole}
use Rattle.entries.proofs.Finds.{legal-inside}
use Rattle.lists.specs.Spans.{illegal_from, first_illegal}
use Rattle.lists.specs.Cursors.{cursor_on, entries_from, rest_of, AllLegal}
use Rattle.lists.specs.declared.spans.Span.{Span}
use Rattle.std.specs.Prelude.{Some, None}

pub first-none : (l : List ℕ) (k n : ℕ) → n ≡ 0 → illegal_from l k n ≡ None
unfolding illegal_from
first-none l k n e = rw e

pub first-here : (l : List ℕ) (k n : ℕ) → 0 < n → legal_at l k ≡ false → illegal_from l k n ≡ Some k
unfolding illegal_from
first-here l k zero h e = absurd (omega arith)
first-here l k (suc n) h e = rw e

pub first_next : (l : List ℕ) (k n m : ℕ) → n ≡ m + 1 → legal_at l k ≡ true → illegal_from l k n ≡ illegal_from l (k + 1) m
unfolding illegal_from
first_next l k n m h e = rw (h, add-one m, add-one k, e)

entry-legal : (l : List ℕ) (k : ℕ) → legal_at l k ≡ true → entry_legal (entry_of l k) ≡ true
entry-legal l k h = sym (ap decoded_legal (decoded-whole l k (legal-inside l k h))) ∙ h

-- entries of which none is illegal are legal
none-illegal : (l : List ℕ) (k n : ℕ) → illegal_from l k n ≡ None → AllLegal (entries_from l k n)
unfolding illegal_from entries_from
none-illegal l k zero h = tt
none-illegal l k (suc n) h =
    by_cases (legal_at l k)
    (λ t. let more : illegal_from l (suc k) n ≡ None = rw t at h in (entry-legal l k t, none-illegal l (suc k) n more))
    (λ t. let no : Some k ≡ None = rw t at h in let z : ◌≡◌ {A = ℕ} 0 1 = cc in absurd (clash z))
  where
    clash : ◌≡◌ {A = ℕ} 0 1 → ⊥
    clash z = omega arith

-- the whole of a list, from its first entry on
pub whole-rest : (l : List ℕ) (s : Span) → rest_of l (cursor_on s) ≡ entries_from l s.start s.count
whole-rest l s = ap (entries_from l s.start) (all_of s.start s.count)
  where
    all_of : (a n : ℕ) → a + n - a ≡ n
    all_of a n = omega arith

pub list-legal : (l : List ℕ) (s : Span) → first_illegal l s ≡ None → AllLegal (entries_from l s.start s.count)
list-legal l s h = none-illegal l s.start s.count h
