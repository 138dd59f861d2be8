-- The loop's invariant: what is found from `place` on among `left` entries is what is found in the whole list. The
-- measure is `left`; `place` does not wrap, as a legal entry lies in list memory (`legal-inside`).
use mathlib.Core.Path.{◌≡◌, refl, sym, ◌∙◌}
use mathlib.Core.Bool.{true}
use native.Mathlib.Omega.{arith}
use Rattle.entries.specs.Legality.{legal_at}
use Rattle.entries.proofs.Finds.{legal-inside}
use Rattle.lists.proofs.Finds.{first-none, first-here, first_next}
use Rattle.lists.proofs.spans.first_illegal.Goals as goal

pub loop-left-init : goal.loop-left-init
loop-left-init c = refl

legal : (c : goal.Else-not-legal_at)
    → legal_at c.args.list.now c.loop-left.place ≡ true
legal c = sym c.legal_at.ensures ∙ c.if-not-legal_at.false

pub overflow_add-place : goal.overflow_add-place
overflow_add-place c = omega (arith, legal-inside _ _ (legal c))

pub loop-left-preserved : goal.loop-left-preserved
loop-left-preserved c = c.loop-left.invariant ∙ first_next _ _ _ _ (omega arith) (legal c)

pub returns-then-left-lt1 : goal.returns-then-left-lt1
returns-then-left-lt1 c = sym (c.loop-left.invariant ∙ first-none _ _ _ (omega arith))

pub returns-then-not-legal_at : goal.returns-then-not-legal_at
returns-then-not-legal_at c =
    sym (c.loop-left.invariant ∙ first-here _ _ _ (omega arith) (sym c.legal_at.ensures ∙ c.if-not-legal_at.true))
