-- What every call keeps: the world valid, and equal to the paper board that was fed the call.
-- Assumes nothing.
use mathlib.Core.Path.{◌≡◌, refl, ap, ap₂, ◌∙◌}
use mathlib.Core.Bool.{false, cond}
use mathlib.Core.List.{List, [], ◌∷◌, ◌++◌}
use Prim.Native.Nat.{ℕ}
use borrow.Author.Tests.{ne_eqb}
use lib.Dec.{eqb}
use Rattle.answers.specs.Reports.{Report}
use Rattle.lists.specs.Cursors.{rest_of}
use Rattle.slots.specs.Slots.{active_on}
use Rattle.slots.specs.declared.record.Active.{Active}
use Rattle.board.specs.declared.record.Board.{Board}
use Rattle.board.proofs.Forms.{Good, none-waits}
use Rattle.statements.specs.Paper.{Call, posted, fed}
use Rattle.statements.specs.World.{World, Called}
use Rattle.statements.specs.Demand.{BadFeed}
use Rattle.statements.proofs.Abstract.{items_of, queue_of, paper_of, Valid}

pub record Kept (w : World) (c : Call) (o : Called) : Type 0 where
  pub valid : Valid o.after
  pub sizes-same : o.after.board.sizes ≡ w.board.sizes
  pub paper-same : fed w.board.sizes.extent c (eqb o.report.number 0) o.report.steps (paper_of w) ≡ paper_of o.after
  pub one-by-feed : o.report.number ≡ 1 → BadFeed w.board.sizes c
  pub no_nine : o.report.number ≡ 9 → ⊥

-- a slot that is not taken has no items and no entries
pub no_items : (l : List ℕ) (a : Active) → a.taken ≡ false → items_of l a ≡ []
no_items l a t = ap (λ t. cond t (posted a.cursor.span (rest_of l a.cursor) ∷ []) []) t

-- a board with no list has an empty queue
pub idle-queue : (l : List ℕ) (b : Board) → Good b → b.active.taken ≡ false → queue_of l b ≡ []
idle-queue l b g t = ap₂ ◌++◌ (no_items l b.active t) (no_items l (active_on b.pending) (none-waits b g t))

-- a refusal changes nothing
pub refused : (w : World) → Valid w → (c : Call) (report : Report)
    → fed w.board.sizes.extent c false report.steps (paper_of w) ≡ paper_of w → (report.number ≡ 0 → ⊥)
    → (report.number ≡ 1 → BadFeed w.board.sizes c) → (report.number ≡ 9 → ⊥) → Kept w c (record { report = report; after = w })
refused w v c report e done one nine =
    record {
      valid = v;
      sizes-same = refl;
      paper-same =
          ap (λ t. fed w.board.sizes.extent c t report.steps (paper_of w)) (ne_eqb report.number 0 done) ∙ e;
      one-by-feed = one;
      no_nine = nine;
    }
