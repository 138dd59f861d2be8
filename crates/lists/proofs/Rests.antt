-- What is left of a list: its head, its end, and parts of lists that are legal.
-- Assumes nothing.
use mathlib.Core.Path.{◌≡◌, refl, ap, sym, ◌∙◌}
use mathlib.Core.Bool.{Bool, true, false, not, ◌&&◌}
use mathlib.Core.List.{List, [], ◌∷◌, ◌++◌}
use Prim.Native.Nat.{ℕ, ◌+◌, ◌-◌, ◌≤◌, ◌<◌}
use native.Mathlib.Numerals.{add-one}
use native.Mathlib.Omega.{arith}
use borrow.Author.Tests.{leb-true, leb-false, not-true}
use lib.Dec.{leb}
use Rattle.lemmas.proofs.Booleans.{by_cases, and_left, and_right}
use Rattle.entries.specs.Layout.{entry_of}
use Rattle.entries.specs.declared.decoding.Entry.{Entry}
use Rattle.lists.specs.Spans.{end_of}
use Rattle.lists.specs.Cursors.{fetched_of, ended_of, entries_from, rest_of, is_empty, AllLegal, EndsWhereNothingIsLeft}
use Rattle.lists.specs.declared.cursors.Cursor.{Cursor}

entries_none : (l : List ℕ) (k n : ℕ) → n ≡ 0 → entries_from l k n ≡ []
unfolding entries_from
entries_none l k n e = rw e

entries-more : (l : List ℕ) (k n r : ℕ) → n ≡ r + 1 → entries_from l k n ≡ entry_of l k ∷ entries_from l (k + 1) r
unfolding entries_from
entries-more l k n r e = rw (e, add-one r, add-one k)

module _ (l : List ℕ) (c : Cursor) where
  pub rest_end : end_of c.span ≤ c.next → rest_of l c ≡ []
  rest_end h = entries_none l c.next (end_of c.span - c.next) (omega arith)

  pub rest-next : c.next < end_of c.span → rest_of l c ≡ entry_of l c.next ∷ rest_of l (fetched_of c)
  rest-next h =
      entries-more l c.next (end_of c.span - c.next) (end_of c.span - (c.next + 1)) (omega arith)

  -- of a list that has ended, and of one that has not
  pub ended-resting : (u : Bool) → ended_of c u ≡ true → u ≡ false
  ended-resting u h = not-true u (and_left (not u) (leb (end_of c.span) c.next) h)

  pub ended-rest : (u : Bool) → ended_of c u ≡ true → rest_of l c ≡ []
  ended-rest u h = rest_end (leb-true (end_of c.span) c.next (and_right (not u) (leb (end_of c.span) c.next) h))

  pub going-rest : ended_of c false ≡ false → rest_of l c ≡ entry_of l c.next ∷ rest_of l (fetched_of c)
  going-rest h = rest-next (leb-false (end_of c.span) c.next h)

  pub ends-where : (u : Bool) → ended_of c u ≡ (not u && is_empty (rest_of l c))
  ends-where true = refl
  ends-where false =
      by_cases (leb (end_of c.span) c.next)
      (λ t. t ∙ ap is_empty (sym (rest_end (leb-true (end_of c.span) c.next t))))
      (λ t. t ∙ ap is_empty (sym (rest-next (leb-false (end_of c.span) c.next t))))

pub ends-where-nothing-is-left : EndsWhereNothingIsLeft
ends-where-nothing-is-left l c u = ends-where l c u

-- legal entries, in parts and joined
pub legal-left : (a b : List Entry) → AllLegal (a ++ b) → AllLegal a
legal-left [] b h = tt
legal-left (x ∷ a) b h = (h.0, legal-left a b h.1)

pub legal-right : (a b : List Entry) → AllLegal (a ++ b) → AllLegal b
legal-right [] b h = h
legal-right (x ∷ a) b h = legal-right a b h.1

pub legal-join : (a b : List Entry) → AllLegal a → AllLegal b → AllLegal (a ++ b)
legal-join [] b h k = k
legal-join (x ∷ a) b h k = (h.0, legal-join a b h.1 k)
