-- The sizes and the two slots of a board record (01, What the engine has), and what makes them malformed (01, What the host
-- hears).
use Rattle.std.specs.Prelude.{◌≡◌, Bool, true, false, cond, ◌&&◌, ℕ, ◌*◌, eqb, leb, Result, MatchResult}
use Rattle.answers.specs.declared.Refusal.{Refusal}
use Rattle.answers.specs.declared.Refusal.TheVariants.{WrongSize}
use Rattle.lists.specs.Spans.{span_ok, no_span, is_none}
use Rattle.lists.specs.Cursors.{cursor_on, cursor_ok}
use Rattle.lists.specs.declared.spans.Span.{Span}
use Rattle.slots.specs.declared.record.Sizes.{Sizes}
use Rattle.slots.specs.declared.record.Slot.{Slot}
use Rattle.slots.specs.declared.record.Active.{Active}

-- "Width and height are 1 to 2,048; entries 1 to 4,096."
abbrev pub sizes_ok : Sizes → Bool
sizes_ok z =
    leb 1 z.extent.width
    && leb z.extent.width 2048
    && leb 1 z.extent.height
    && leb z.extent.height 2048
    && leb 1 z.entries
    && leb z.entries 4096

abbrev pub sizes : ℕ → ℕ → ℕ → Sizes
sizes width height entries = record { extent = record { width = width; height = height }; entries = entries }

-- Sizes in limits, or a refusal.
abbrev pub MadeSizes : ℕ → ℕ → ℕ → Result Sizes Refusal → Type 0
MadeSizes width height entries r =
    MatchResult r (λ z. (z ≡ sizes width height entries) × (sizes_ok z ≡ true))
    (λ e. (e ≡ WrongSize) × (sizes_ok (sizes width height entries) ≡ false))

-- The bytes of a buffer.
abbrev pub area_of : Sizes → ℕ
area_of z = z.extent.width * z.extent.height

-- "a lent memory of another size": 5 bytes an entry, and width x height bytes a buffer
abbrev pub lent_ok : Sizes → ℕ → ℕ → ℕ → Bool
lent_ok z list display virt = eqb list (5 * z.entries) && eqb display (area_of z) && eqb virt (area_of z)

-- A slot with a list, and without.
abbrev pub slot_with : Span → Slot
slot_with s = record { taken = true; span = s }

abbrev pub empty_slot : Slot
empty_slot = record { taken = false; span = no_span }

-- A slot's list from its first entry on; and the slot of a list that runs.
abbrev pub active_on : Slot → Active
active_on s = record { taken = s.taken; cursor = cursor_on s.span }

abbrev pub slot_of : Active → Slot
slot_of a = record { taken = a.taken; span = a.cursor.span }

-- "A slot not taken, the next entry of an idle board .. are all zero"; malformed: "a taken slot's span is empty or passes the
-- memory", "the next entry is outside the active list".
abbrev pub slot_ok : Slot → ℕ → Bool
slot_ok s entries = cond s.taken (span_ok s.span entries) (is_none s.span)

abbrev pub active_ok : Active → ℕ → Bool → Bool
active_ok a entries under_way =
    cond a.taken (span_ok a.cursor.span entries && cursor_ok a.cursor under_way) (is_none a.cursor.span && eqb a.cursor.next 0)
