-- Demand 3 (01, The paper board of demand 3): one claim about any sequence of calls from a fresh board.
use Rattle.std.specs.Prelude.{◌≡◌, true, false, List, [], ◌∷◌, ℕ, ◌*◌, ◌<◌, min, eqb, length}
use Rattle.tiles.specs.Tiles.{no_fill}
use Rattle.commands.specs.Steps.{scene, fresh_engine}
use Rattle.board.specs.Record.{well_formed}
use Rattle.board.specs.Calls.{fresh_board}
use Rattle.feeds.specs.Feeds.{feed_ok}
use Rattle.geometry.specs.declared.Extent.{Extent}
use Rattle.lists.specs.declared.spans.Span.{Span}
use Rattle.slots.specs.Slots.{sizes_ok, sizes, slot_with, empty_slot, slot_of}
use Rattle.slots.specs.declared.record.Sizes.{Sizes}
use Rattle.slots.specs.declared.record.Slot.{Slot}
use Rattle.board.specs.declared.record.Board.{Board}
use Rattle.statements.specs.Paper.{Call, post, store, write, run, feed, import, export, Item, posted, window, Paper, paper, steps_on, fed, steps_to_empty}
use Rattle.statements.specs.World.{World, world, Called, answers_to}

-- The spans of the queue's lists; the slot of the first of some spans, free where there is none; and those behind it.
unfoldable pub queue_spans : List Item → List Span
queue_spans [] = []
queue_spans (posted span es ∷ q) = span ∷ queue_spans q
queue_spans (window number offset bytes ∷ q) = queue_spans q

abbrev pub slot_for : List Span → Slot
slot_for [] = empty_slot
slot_for (span ∷ spans) = slot_with span

abbrev pub behind : List Span → List Span
behind [] = []
behind (span ∷ spans) = spans

-- "The taken slots hold the spans given when the queue's lists were posted, the front one's active".
pub record SlotsHold (b : Board) (spans : List Span) : Type 0 where
  pub active-front : slot_of b.active ≡ slot_for spans
  pub pending-second : b.pending ≡ slot_for (behind spans)
  pub no_third : behind (behind spans) ≡ []

-- "Equal after each call are both buffers, the list memory, the registers and the pattern state. The taken slots hold the
-- spans ..; .. and no run answers 9."
pub record Equal (c : Called) (p : Paper) : Type 0 where
  pub display-same : c.after.display ≡ p.drawing.display
  pub virt-same : c.after.virt ≡ p.drawing.virt
  pub list_same : c.after.list ≡ p.list
  pub registers-same : c.after.board.engine.registers ≡ p.drawing.engine.registers
  pub pattern-same : c.after.board.engine.pattern ≡ p.drawing.engine.pattern
  pub slots-hold : SlotsHold c.after.board (queue_spans p.queue)
  pub no_nine : c.report.number ≡ 9 → ⊥

-- "no call finds the board record malformed": the record is well formed before each call, and 1 is answered for "a bad feed
-- record" (02, R-5) alone.
abbrev pub BadFeed : Sizes → Call → Type 0
BadFeed z (post start count) = ⊥
BadFeed z (store first bytes) = ⊥
BadFeed z (write number offset bytes) = ⊥
BadFeed z (run budget) = ⊥
BadFeed z (feed f piece) = feed_ok z f ≡ false
BadFeed z (import number picture) = ⊥
BadFeed z (export number output) = ⊥

pub record NotMalformed (c : Call) (w : World) (a : Called) : Type 0 where
  pub well-formed : well_formed w.board ≡ true
  pub one-by-feed : a.report.number ≡ 1 → BadFeed w.board.sizes c

-- n is "the steps that would empty the queue": after so many steps it is empty, and after fewer it is not.
pub record Empties (extent : Extent) (n : ℕ) (p : Paper) : Type 0 where
  pub empty : (steps_on n extent p).queue ≡ []
  pub not-before : (k : ℕ) → k < n → (steps_on k extent p).queue ≡ [] → ⊥

-- "A run that answers 0 reports the lesser of its budget and the steps that would empty the queue."
abbrev pub Reports : Extent → Call → Called → Paper → Type 0
Reports extent (post start count) c p = Unit {0}
Reports extent (store first bytes) c p = Unit {0}
Reports extent (write number offset bytes) c p = Unit {0}
Reports extent (feed f piece) c p = Unit {0}
Reports extent (import number picture) c p = Unit {0}
Reports extent (export number output) c p = Unit {0}
Reports extent (run budget) c p =
    Empties extent (steps_to_empty extent p) p × (c.report.number ≡ 0 → c.report.steps ≡ min budget (steps_to_empty extent p))

-- The claim of each call of a sequence, by what it was given and what it answered: each is given what the last one left.
unfoldable pub Throughout : Extent → List Call → World → List Called → Paper → Type 0
Throughout extent [] w [] p = Unit {0}
Throughout extent [] w (a ∷ others) p = ⊥
Throughout extent (c ∷ cs) w [] p = ⊥
Throughout extent (c ∷ cs) w (a ∷ others) p =
    let q = fed extent c (eqb a.report.number 0) a.report.steps p in
    NotMalformed c w a × Equal a q × Reports extent c a p × Throughout extent cs a.after others q

abbrev pub Demand3 : Type 0
Demand3 =
    (width height entries : ℕ) → sizes_ok (sizes width height entries) ≡ true → (list display virt : List ℕ)
    → length list ≡ 5 * entries → length display ≡ width * height → length virt ≡ width * height → (calls : List Call)
    → let w = world (fresh_board (sizes width height entries)) list display virt in
    Throughout (sizes width height entries).extent calls w (answers_to calls w) (paper (scene fresh_engine no_fill display virt) list [])
