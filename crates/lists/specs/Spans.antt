-- The span of a list in list memory (01, What the engine has): "A list is a start entry and a count."
use Rattle.std.specs.Prelude.{◌≡◌, Bool, false, cond, Option, Some, None, ◌&&◌, List, ℕ, zero, suc, ◌+◌, ◌≤◌, ◌<◌, eqb, leb, ltb}
use Rattle.entries.specs.Legality.{legal_at}
use Rattle.lists.specs.declared.spans.Span.{Span}

abbrev pub span_of : ℕ → ℕ → Span
span_of start count = record { start = start; count = count }

-- The entry past the last.
abbrev pub end_of : Span → ℕ
end_of s = s.start + s.count

-- Malformed: "a taken slot's span is empty or passes the memory"
abbrev pub span_ok : Span → ℕ → Bool
span_ok s entries = leb 1 s.count && leb (end_of s) entries

-- Where there is no list the span is zero.
abbrev pub no_span : Span
no_span = span_of 0 0

abbrev pub is_none : Span → Bool
is_none s = eqb s.start 0 && eqb s.count 0

-- The first illegal one of n entries from place k on, and of a list.
unfoldable pub illegal_from : List ℕ → ℕ → ℕ → Option ℕ
illegal_from l k zero = None
illegal_from l k (suc n) = cond (legal_at l k) (illegal_from l (suc k) n) (Some k)

abbrev pub first_illegal : List ℕ → Span → Option ℕ
first_illegal l s = illegal_from l s.start s.count

-- A list holds all its entries, fetched or not.
abbrev pub holds : Span → ℕ → Bool
holds s k = leb s.start k && ltb k (end_of s)

-- Whether n entries from `first` on have one of a list among them.
abbrev pub touches : Span → ℕ → ℕ → Bool
touches s first n = ltb 0 n && ltb first (end_of s) && ltb s.start (first + n)

-- Entries that do not touch a list are none that it holds; proved in proofs/Held.antt.
abbrev pub UntouchedIsNotHeld : Type 0
UntouchedIsNotHeld =
    (s : Span) (first n k : ℕ) → touches s first n ≡ false → first ≤ k → k < first + n → holds s k ≡ false
