-- The calls make, post, store and window write (01, What the engine has, and What the host hears).
use Rattle.std.specs.Prelude.{cond, List, ℕ, eqb, Result, Ok, Err}
use Rattle.tiles.specs.Tiles.{no_fill}
use Rattle.commands.specs.Steps.{fresh_engine}
use Rattle.answers.specs.Reports.{Report, report, report_of}
use Rattle.answers.specs.declared.Refusal.{Refusal}
use Rattle.lists.specs.Spans.{span_of}
use Rattle.slots.specs.Slots.{sizes_ok, sizes, slot_with, empty_slot, active_on, slot_of}
use Rattle.slots.specs.Calls.{post_report, Lent, store_report, write_report}
use Rattle.slots.specs.declared.record.Sizes.{Sizes}
use Rattle.board.specs.Record.{well_formed}
use Rattle.board.specs.declared.record.Board.{Board}
use Rattle.board.specs.declared.answer.Answer.{Answer}

-- What a call answers that is lent no memory to write.
pub record Reply : Type 0 where
  pub report : Report
  pub board : Board

abbrev pub reply : Answer → Reply
reply a = record { report = report_of a.status; board = a.board }

-- Of a call that leaves this record, or refuses and hands back the one that it was given.
abbrev pub replied : Board → Result Board Refusal → Reply
replied given (Ok after) = record { report = report 0 0 0; board = after }
replied given (Err refusal) = record { report = report_of (Err refusal); board = given }

abbrev pub answered : ℕ → ℕ → Board → Reply
answered number place b = record { report = report number place 0; board = b }

-- Fresh: "slots empty", the engine's fresh values, and no fill (02, R-7).
abbrev pub fresh_board : Sizes → Board
fresh_board z = record { sizes = z; active = active_on empty_slot; pending = empty_slot; engine = fresh_engine; fill = no_fill }

-- "Make: 2, returning then the fresh 1 by 1 board with 1 entry."
unfoldable pub make_call : ℕ → ℕ → ℕ → Reply
make_call width height entries =
    cond (sizes_ok (sizes width height entries)) (answered 0 0 (fresh_board (sizes width height entries)))
    (answered 2 0 (fresh_board (sizes 1 1 1)))

-- "A post takes the active slot if it is free, the next entry then being the list's start, else the pending slot."
unfoldable pub posted_of : Board → ℕ → ℕ → Board
posted_of b start count =
    cond b.active.taken
    (record { sizes = b.sizes; active = b.active; pending = slot_with (span_of start count); engine = b.engine; fill = b.fill })
    (record { sizes = b.sizes; active = active_on (slot_with (span_of start count)); pending = b.pending; engine = b.engine; fill = b.fill })

-- Done, or refused with the record as given.
abbrev pub post_by : Report → Board → ℕ → ℕ → Reply
post_by t b start count = record { report = t; board = cond (eqb t.number 0) (posted_of b start count) b }

-- The lowest number wins: a malformed record, then what the slots say.
unfoldable pub post_call : List ℕ → ℕ → ℕ → Board → Reply
post_call list start count b =
    cond (well_formed b) (post_by (post_report b.sizes (slot_of b.active) b.pending list start count) b start count) (answered 1 0 b)

-- What a call answers that is lent a memory to write, with that memory after it.
pub record Written : Type 0 where
  pub report : Report
  pub board : Board
  pub memory : List ℕ

abbrev pub stays : Board → Result ℕ Refusal → List ℕ → Written
stays b status memory = record { report = report_of status; board = b; memory = memory }

abbrev pub written : Answer → List ℕ → Written
written a memory = stays a.board a.status memory

abbrev pub kept : ℕ → Board → List ℕ → Written
kept number b memory = record { report = report number 0 0; board = b; memory = memory }

-- The record stays whether the call is done or refused.
abbrev pub kept_by : Board → Lent → Written
kept_by b m = record { report = m.report; board = b; memory = m.memory }

unfoldable pub store_call : List ℕ → ℕ → List ℕ → Board → Written
store_call list first bytes b =
    cond (well_formed b) (kept_by b (store_report b.sizes (slot_of b.active) b.pending list first bytes)) (kept 1 b list)

unfoldable pub write_call : ℕ → ℕ → List ℕ → List ℕ → Board → Written
write_call number offset bytes buffer b =
    cond (well_formed b) (kept_by b (write_report b.sizes (slot_of b.active) b.pending number offset bytes buffer)) (kept 1 b buffer)
