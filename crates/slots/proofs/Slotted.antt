-- What sizes in limits and well formed spans, cursors and slots say, and slots that are well formed.
-- Assumes nothing.
use mathlib.Core.Path.{◌≡◌, refl, sym, ◌∙◌}
use mathlib.Core.Bool.{Bool, true, false, ◌&&◌}
use mathlib.Core.List.{List, []}
use Prim.Native.Nat.{ℕ, ◌≤◌, ◌<◌}
use native.Mathlib.Omega.{arith}
use borrow.Author.Tests.{eqb-true, leb-true, leb-false, le-leb, lt-leb, ltb-true, lt-ltb}
use lib.Dec.{eqb, leb, ltb}
use Rattle.lemmas.proofs.Booleans.{by_cases, both, and_left, and_right, first_of, second-of}
use Rattle.lists.specs.Spans.{end_of, span_ok, no_span, is_none}
use Rattle.lists.specs.Cursors.{cursor_on, cursor_ok, ended_of, rest_of}
use Rattle.lists.specs.declared.spans.Span.{Span}
use Rattle.lists.specs.declared.cursors.Cursor.{Cursor}
use Rattle.lists.proofs.Rests.{rest_end}
use Rattle.slots.specs.declared.record.Sizes.{Sizes}
use Rattle.slots.specs.Slots.{sizes_ok, slot_with, empty_slot, active_on, slot_of, slot_ok, active_ok}
use Rattle.slots.specs.declared.record.Slot.{Slot}
use Rattle.slots.specs.declared.record.Active.{Active}

-- ---- sizes
pub record Limits (z : Sizes) : Type 0 where
  pub width-most : z.extent.width ≤ 2048
  pub height-most : z.extent.height ≤ 2048
  pub entries-most : z.entries ≤ 4096

pub limits_of : (z : Sizes) → sizes_ok z ≡ true → Limits z
limits_of z h =
    let w1 = leb 1 z.extent.width in
    let w2 = leb z.extent.width 2048 in
    let h1 = leb 1 z.extent.height in
    let h2 = leb z.extent.height 2048 in
    let e1 = leb 1 z.entries in
    let e2 = leb z.entries 4096 in
    let four = and_left (w1 && w2 && h1 && h2) e1 (and_left (w1 && w2 && h1 && h2 && e1) e2 h) in
    record {
      width-most = leb-true z.extent.width 2048 (and_right w1 w2 (and_left (w1 && w2) h1 (and_left (w1 && w2 && h1) h2 four)));
      height-most = leb-true z.extent.height 2048 (and_right (w1 && w2 && h1) h2 four);
      entries-most = leb-true z.entries 4096 (and_right (w1 && w2 && h1 && h2 && e1) e2 h);
    }

-- ---- spans
pub record SpanIn (s : Span) (entries : ℕ) : Type 0 where
  pub some : 1 ≤ s.count
  pub inside : end_of s ≤ entries

pub span_of : (s : Span) (entries : ℕ) → span_ok s entries ≡ true → SpanIn s entries
span_of s entries h =
    let low = leb 1 s.count in
    let high = leb (end_of s) entries in
    record {
      some = leb-true 1 s.count (and_left low high h);
      inside = leb-true (end_of s) entries (and_right low high h);
    }

pub span-by : (s : Span) (entries : ℕ) → 1 ≤ s.count → end_of s ≤ entries → span_ok s entries ≡ true
span-by s entries some inside = both (le-leb 1 s.count some) (le-leb (end_of s) entries inside)

none_end : (s : Span) → is_none s ≡ true → end_of s ≡ 0
none_end s h =
    let a = eqb-true s.start 0 (and_left (eqb s.start 0) (eqb s.count 0) h) in
    let b = eqb-true s.count 0 (and_right (eqb s.start 0) (eqb s.count 0) h) in
    omega arith

none_is : (s : Span) → is_none s ≡ true → s ≡ no_span
none_is s h i =
    record {
      start = eqb-true s.start 0 (and_left (eqb s.start 0) (eqb s.count 0) h) i;
      count = eqb-true s.count 0 (and_right (eqb s.start 0) (eqb s.count 0) h) i;
    }

-- ---- cursors
pub record Fetching (c : Cursor) : Type 0 where
  pub from : c.span.start ≤ c.next
  pub before : c.next < end_of c.span

pub record Visiting (c : Cursor) : Type 0 where
  pub past : c.span.start < c.next
  pub within : c.next ≤ end_of c.span

pub fetching-of : (c : Cursor) → cursor_ok c false ≡ true → Fetching c
fetching-of c h =
    let low = leb c.span.start c.next in
    let high = ltb c.next (end_of c.span) in
    record {
      from = leb-true c.span.start c.next (and_left low high h);
      before = ltb-true c.next (end_of c.span) (and_right low high h);
    }

pub visiting-of : (c : Cursor) → cursor_ok c true ≡ true → Visiting c
visiting-of c h =
    let low = ltb c.span.start c.next in
    let high = leb c.next (end_of c.span) in
    record {
      past = ltb-true c.span.start c.next (and_left low high h);
      within = leb-true c.next (end_of c.span) (and_right low high h);
    }

pub fetching-by : (c : Cursor) → Fetching c → cursor_ok c false ≡ true
fetching-by c f = both (le-leb c.span.start c.next f.from) (lt-ltb c.next (end_of c.span) f.before)

pub visiting-by : (c : Cursor) → Visiting c → cursor_ok c true ≡ true
visiting-by c v = both (lt-ltb c.span.start c.next v.past) (le-leb c.next (end_of c.span) v.within)

-- ---- slots
module _ (s : Slot) (entries : ℕ) where
  pub slot-taken : slot_ok s entries ≡ true → s.taken ≡ true → span_ok s.span entries ≡ true
  slot-taken h t = first_of s.taken (span_ok s.span entries) (is_none s.span) t ∙ h

  slot-none : slot_ok s entries ≡ true → s.taken ≡ false → is_none s.span ≡ true
  slot-none h t = second-of s.taken (span_ok s.span entries) (is_none s.span) t ∙ h

  pub taken-slot : s.taken ≡ true → span_ok s.span entries ≡ true → slot_ok s entries ≡ true
  taken-slot t h = sym (first_of s.taken (span_ok s.span entries) (is_none s.span) t) ∙ h

  -- a slot with a list, and a free one
  pub slot-with : s.taken ≡ true → s ≡ slot_with s.span
  slot-with t i = record { taken = t i; span = s.span }

  pub slot-empty : slot_ok s entries ≡ true → s.taken ≡ false → s ≡ empty_slot
  slot-empty h t i = record { taken = t i; span = none_is s.span (slot-none h t) i }

  -- a free slot has no entries
  pub slot-rest : (l : List ℕ) → slot_ok s entries ≡ true → s.taken ≡ false → rest_of l (cursor_on s.span) ≡ []
  slot-rest l h t = rest_end l (cursor_on s.span) (omega (arith, none_end s.span (slot-none h t)))

module _ (a : Active) (entries : ℕ) (u : Bool) where
  abbrev going : Bool
  going = span_ok a.cursor.span entries && cursor_ok a.cursor u

  abbrev zeros : Bool
  zeros = is_none a.cursor.span && eqb a.cursor.next 0

  active-going : active_ok a entries u ≡ true → a.taken ≡ true → going ≡ true
  active-going h t = first_of a.taken going zeros t ∙ h

  active-zeros : active_ok a entries u ≡ true → a.taken ≡ false → zeros ≡ true
  active-zeros h t = second-of a.taken going zeros t ∙ h

  pub active-span : active_ok a entries u ≡ true → a.taken ≡ true → span_ok a.cursor.span entries ≡ true
  active-span h t = and_left (span_ok a.cursor.span entries) (cursor_ok a.cursor u) (active-going h t)

  pub active-cursor : active_ok a entries u ≡ true → a.taken ≡ true → cursor_ok a.cursor u ≡ true
  active-cursor h t = and_right (span_ok a.cursor.span entries) (cursor_ok a.cursor u) (active-going h t)

  pub active-by : a.taken ≡ true → span_ok a.cursor.span entries ≡ true → cursor_ok a.cursor u ≡ true → active_ok a entries u ≡ true
  active-by t s c = sym (first_of a.taken going zeros t) ∙ both s c

  -- a free slot has no entries, and its list ends at 0
  pub active-end : active_ok a entries u ≡ true → a.taken ≡ false → end_of a.cursor.span ≡ 0
  active-end h t = none_end a.cursor.span (and_left (is_none a.cursor.span) (eqb a.cursor.next 0) (active-zeros h t))

  pub active-empty : active_ok a entries u ≡ true → a.taken ≡ false → slot_of a ≡ empty_slot
  active-empty h t i =
      let none = and_left (is_none a.cursor.span) (eqb a.cursor.next 0) (active-zeros h t) in
      record { taken = t i; span = none_is a.cursor.span none i }

  pub active_rest : (l : List ℕ) → active_ok a entries u ≡ true → a.taken ≡ false → rest_of l a.cursor ≡ []
  active_rest l h t = rest_end l a.cursor (omega (arith, active-end h t))

  pub active-inside : active_ok a entries u ≡ true → end_of a.cursor.span ≤ entries
  active-inside h =
      by_cases a.taken (λ t. (span_of a.cursor.span entries (active-span h t)).inside) (λ t. omega (arith, active-end h t))

-- the next entry of a list that runs is not before its start
pub active-from : (a : Active) (entries : ℕ) (u : Bool) → active_ok a entries u ≡ true → a.taken ≡ true → a.cursor.span.start ≤ a.cursor.next
active-from a entries true h t = let v = visiting-of a.cursor (active-cursor a entries true h t) in omega arith
active-from a entries false h t = (fetching-of a.cursor (active-cursor a entries false h t)).from

-- the pending list becomes active: it begins, or there is none
pub begins : (s : Slot) (entries : ℕ) → slot_ok s entries ≡ true → active_ok (active_on s) entries false ≡ true
begins s entries h =
    by_cases s.taken
    (λ t.
    let ok = slot-taken s entries h t in
    active-by (active_on s) entries false t ok
    (fetching-by (cursor_on s.span) (record { from = omega arith; before = omega (arith, (span_of s.span entries ok).some) })))
    (λ t.
    let none = slot-none s entries h t in
    sym (second-of s.taken (going (active_on s) entries false) (zeros (active_on s) entries false) t)
    ∙ both none (and_left (eqb s.span.start 0) (eqb s.span.count 0) none))

-- a list that has just had a step and has not ended stands well
pub stays-active : (a : Active) (entries : ℕ) (u : Bool) → a.taken ≡ true → span_ok a.cursor.span entries ≡ true → Visiting a.cursor
    → ended_of a.cursor u ≡ false → active_ok a entries u ≡ true
stays-active a entries true t s v h = active-by a entries true t s (visiting-by a.cursor v)
stays-active a entries false t s v h =
    active-by a entries false t s
    (fetching-by a.cursor (record { from = omega (arith, v.past); before = leb-false (end_of a.cursor.span) a.cursor.next h }))

-- a list in the active slot has entries or pixels left
pub live_of : (a : Active) (entries : ℕ) (u : Bool) → active_ok a entries u ≡ true → a.taken ≡ true → ended_of a.cursor u ≡ false
live_of a entries true h t = refl
live_of a entries false h t =
    lt-leb (end_of a.cursor.span) a.cursor.next (fetching-of a.cursor (active-cursor a entries false h t)).before
