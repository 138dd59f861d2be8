-- Where a run stands in a list (01, Steps): its next step, and what is left of it.
use Rattle.std.specs.Prelude.{◌≡◌, Bool, true, false, not, cond, Option, Some, None, ◌&&◌, List, [], ◌∷◌, ℕ, zero, suc, ◌+◌, ◌-◌, ◌*◌, ◌≤◌, leb, ltb, length}
use Rattle.lemmas.specs.Memory.{put_into}
use Rattle.entries.specs.Layout.{entry_of, decoded_of}
use Rattle.entries.specs.Legality.{entry_legal}
use Rattle.entries.specs.declared.decoding.Entry.{Entry}
use Rattle.lists.specs.Spans.{end_of, touches}
use Rattle.lists.specs.declared.spans.Span.{Span}
use Rattle.lists.specs.declared.cursors.Cursor.{Cursor}
use Rattle.lists.specs.declared.cursors.Next.{Next}
use Rattle.lists.specs.declared.cursors.Next.TheVariants.{Ended, Visit, Take, Broken}

-- A list from its first entry on.
abbrev pub cursor_on : Span → Cursor
cursor_on s = record { span = s; next = s.start }

-- Malformed: "the next entry is outside the active list (with pixels still to visit it may be the list's end, and is past
-- its start)"
abbrev pub cursor_ok : Cursor → Bool → Bool
cursor_ok c under_way =
    cond under_way (ltb c.span.start c.next && leb c.next (end_of c.span))
    (leb c.span.start c.next && ltb c.next (end_of c.span))

-- What a fetched entry is.
abbrev pub judged : Option Entry → Next
judged (Some e) = cond (entry_legal e) (Take e) Broken
judged None = Broken

-- "One step is one entry fetched, or one pixel visited": what the next step is, a pixel of the command under way, else the
-- next entry.
unfoldable pub next_of : List ℕ → Cursor → Bool → Next
next_of l c under_way = cond under_way Visit (cond (leb (end_of c.span) c.next) Ended (judged (decoded_of l c.next)))

-- Once the next entry is fetched.
abbrev pub fetched_of : Cursor → Cursor
fetched_of c = record { span = c.span; next = c.next + 1 }

-- "A list ends with the step after which it has neither entries nor pixels left".
abbrev pub ended_of : Cursor → Bool → Bool
ended_of c under_way = not under_way && leb (end_of c.span) c.next

-- n entries of list memory from place k on, and what is left of a list.
unfoldable pub entries_from : List ℕ → ℕ → ℕ → List Entry
entries_from l k zero = []
entries_from l k (suc n) = entry_of l k ∷ entries_from l (suc k) n

abbrev pub rest_of : List ℕ → Cursor → List Entry
rest_of l c = entries_from l c.next (end_of c.span - c.next)

abbrev pub AllLegal : List Entry → Type 0
AllLegal [] = Unit {0}
AllLegal (e ∷ es) = (entry_legal e ≡ true) × AllLegal es

-- What holds of every list; proved in proofs/Fetches.antt, Rests.antt and Held.antt.

-- A fetch takes the head of what is left.
abbrev pub FetchTakesTheHead : Type 0
FetchTakesTheHead =
    (l : List ℕ) (c : Cursor) (under_way : Bool) (e : Entry) → next_of l c under_way ≡ Take e → rest_of l c ≡ e ∷ rest_of l (fetched_of c)

-- A list has ended exactly where no entry and no pixel is left.
abbrev pub is_empty : List Entry → Bool
is_empty [] = true
is_empty (e ∷ es) = false

abbrev pub EndsWhereNothingIsLeft : Type 0
EndsWhereNothingIsLeft =
    (l : List ℕ) (c : Cursor) (under_way : Bool) → ended_of c under_way ≡ (not under_way && is_empty (rest_of l c))

-- What is left of a list that a store does not touch reads the same after it.
abbrev pub UntouchedStays : Type 0
UntouchedStays =
    (l : List ℕ) (first n : ℕ) (bytes : List ℕ) (c : Cursor) → length bytes ≡ 5 * n → 5 * first + length bytes ≤ length l
    → c.span.start ≤ c.next → touches c.span first n ≡ false → rest_of (put_into l (5 * first) bytes) c ≡ rest_of l c
