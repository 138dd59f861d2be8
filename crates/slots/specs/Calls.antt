-- What post, store and window write answer of a well formed record with these sizes, active and pending slot (01, What the host
-- hears): each call's refusals in the order of their numbers, but for 1.
use Rattle.std.specs.Prelude.{◌≡◌, Bool, true, false, cond, ◌&&◌, ◌||◌, List, ℕ, ◌+◌, ◌*◌, ◌/◌, ◌%◌, eqb, leb, length, Option, Some, None, Result, MatchResult}
use Rattle.lemmas.specs.Memory.{put_into}
use Rattle.answers.specs.Reports.{Report, report, report_of}
use Rattle.answers.specs.declared.Refusal.{Refusal}
use Rattle.lists.specs.Spans.{span_of, first_illegal, touches}
use Rattle.slots.specs.Slots.{area_of}
use Rattle.slots.specs.declared.record.Sizes.{Sizes}
use Rattle.slots.specs.declared.record.Slot.{Slot}

-- A test: the call goes on where it holds, and is refused for this reason where it does not.
abbrev pub Tested : {A : Type 0} → Bool → Refusal → Result A Refusal → Type 0
Tested holds why r = MatchResult r (λ _. holds ≡ true) (λ e. (e ≡ why) × (holds ≡ false))

-- Bytes put into a memory where they fit.
abbrev pub put_fitting : List ℕ → ℕ → List ℕ → List ℕ
put_fitting l at bytes = cond (leb (at + length bytes) (length l)) (put_into l at bytes) l

-- "Post: 1 to 6." The whole list is checked when it is posted.
abbrev pub judged_by : Option ℕ → Report
judged_by (Some place) = report 6 place 0
judged_by None = report 0 0 0

unfoldable pub post_report : Sizes → Slot → Slot → List ℕ → ℕ → ℕ → Report
post_report z a p list start count =
    cond (eqb (length list) (5 * z.entries))
    (cond (eqb count 0) (report 3 0 0)
    (cond (leb (start + count) z.entries) (cond (a.taken && p.taken) (report 5 0 0) (judged_by (first_illegal list (span_of start count))))
    (report 4 0 0)))
    (report 2 0 0)

-- "store touches an entry of the active or pending list": whether n entries from `first` on have one of a slot's list among
-- them.
abbrev pub holds_any : Slot → ℕ → ℕ → Bool
holds_any s first n = s.taken && touches s.span first n

-- What a call answers that is lent a memory to write, with that memory after it.
pub record Lent : Type 0 where
  pub report : Report
  pub memory : List ℕ

abbrev pub lent : Result ℕ Refusal → List ℕ → Lent
lent status memory = record { report = report_of status; memory = memory }

abbrev pub leaves : ℕ → List ℕ → Lent
leaves number memory = record { report = report number 0 0; memory = memory }

-- "List store: 1, 2, 4, 8."
unfoldable pub store_report : Sizes → Slot → Slot → List ℕ → ℕ → List ℕ → Lent
store_report z a p list first bytes =
    cond (eqb (length list) (5 * z.entries) && eqb (length bytes % 5) 0)
    (cond (leb (first + length bytes / 5) z.entries)
    (cond (holds_any a first (length bytes / 5) || holds_any p first (length bytes / 5)) (leaves 8 list)
    (leaves 0 (put_into list (5 * first) bytes)))
    (leaves 4 list))
    (leaves 2 list)

-- "Window write (buffer, offset, bytes): 1, 2, 4, 7." The memory lent is the named buffer.
unfoldable pub write_report : Sizes → Slot → Slot → ℕ → ℕ → List ℕ → List ℕ → Lent
write_report z a p number offset bytes buffer =
    cond (leb number 1 && eqb (length buffer) (area_of z))
    (cond (leb (offset + length bytes) (area_of z))
    (cond (a.taken || p.taken) (leaves 7 buffer) (leaves 0 (put_into buffer offset bytes)))
    (leaves 4 buffer))
    (leaves 2 buffer)
