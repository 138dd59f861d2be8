-- A turn is a leap, the steps of one list (`running_more`), which ends the run at an illegal entry (`running-broken`), leaves the
-- loop before a fill with a tile that the budget cuts (`running-cut`), or goes on; after the loop the run is over (`running-over`).
use mathlib.Core.Path.{sym, ◌∙◌}
use native.Mathlib.Omega.{arith}
use borrow.Author.Tests.{ltb-true}
use Prim.Native.Nat.{◌<◌}
use lib.Dec.{ltb}
use Rattle.lemmas.proofs.Booleans.{and_left, and_right}
use Rattle.board.proofs.Parts.{running-start, running_more, running-broken, running-cut, running-over}
use Rattle.board.proofs.bare.Bare.run_steps.Goals as goal

pub loop-k-init : goal.loop-k-init
loop-k-init c = (running-start _ _ _ _ c.requires.0 c.requires.1, λ h. h)

pub overflow_sub-budget : goal.overflow_sub-budget
overflow_sub-budget c = let under : c.loop-k.k < c.args.budget = ltb-true _ _ (and_left _ _ c.loop-k-test.true) in omega arith

pub leap-r-requires : goal.leap-r-requires
leap-r-requires c =
    let under : c.loop-k.k < c.args.budget = ltb-true _ _ (and_left _ _ c.loop-k-test.true) in
    (c.loop-k.invariant.0.accepted, and_right (ltb c.loop-k.k c.args.budget) c.loop-k.b.active.taken c.loop-k-test.true, omega arith)

pub overflow_add-k : goal.overflow_add-k
overflow_add-k c =
    let under : c.loop-k.k < c.args.budget = ltb-true _ _ (and_left _ _ c.loop-k-test.true) in
    omega (arith, c.leap-r.ensures.few, c.ranges.budget)

pub shape_of-display-then-r : goal.shape_of-display-then-r
shape_of-display-then-r c = c.leap-r.auto.display ∙ c.loop-k.invariant.0.display-long

pub shape_of-virt-then-r : goal.shape_of-virt-then-r
shape_of-virt-then-r c = c.leap-r.auto.virt ∙ c.loop-k.invariant.0.virt-long

pub returns-then-r : goal.returns-then-r
returns-then-r c =
    running-broken _ _ _ _ _ _ _ _ _ _ _ _ c.leap-r.ensures c.if-r.true
    (running_more _ _ _ _ _ _ c.loop-k.invariant.0 _ _ (ltb-true _ _ (and_left _ _ c.loop-k-test.true)) c.leap-r.ensures
    c.leap-r.auto.display c.leap-r.auto.virt)

pub shape_of-display-then-hatches : goal.shape_of-display-then-hatches
shape_of-display-then-hatches c = c.leap-r.auto.display ∙ c.loop-k.invariant.0.display-long

pub shape_of-virt-then-hatches : goal.shape_of-virt-then-hatches
shape_of-virt-then-hatches c = c.leap-r.auto.virt ∙ c.loop-k.invariant.0.virt-long

pub returns-then-hatches : goal.returns-then-hatches
returns-then-hatches c =
    running-cut _ _ _ _ _ _ _ _ _ _ _ _ c.leap-r.ensures (sym c.hatches.ensures ∙ c.if-hatches.true)
    (running_more _ _ _ _ _ _ c.loop-k.invariant.0 _ _ (ltb-true _ _ (and_left _ _ c.loop-k-test.true)) c.leap-r.ensures
    c.leap-r.auto.display c.leap-r.auto.virt)

pub loop-k-smaller : goal.loop-k-smaller
loop-k-smaller c =
    let under : c.loop-k.k < c.args.budget = ltb-true _ _ (and_left _ _ c.loop-k-test.true) in
    omega (arith, c.leap-r.ensures.few, c.leap-r.ensures.some c.if-r.false (sym c.hatches.ensures ∙ c.if-hatches.false))

pub loop-k-preserved : goal.loop-k-preserved
loop-k-preserved c = (
  running_more _ _ _ _ _ _ c.loop-k.invariant.0 _ _ (ltb-true _ _ (and_left _ _ c.loop-k-test.true)) c.leap-r.ensures
      c.leap-r.auto.display c.leap-r.auto.virt,
  λ _. sym c.hatches.ensures ∙ c.if-hatches.false,
)

pub shape_of-display : goal.shape_of-display
shape_of-display c = c.loop-k.invariant.0.display-long

pub shape_of-virt : goal.shape_of-virt
shape_of-virt c = c.loop-k.invariant.0.virt-long

pub returns : goal.returns
returns c = running-over _ _ _ _ _ _ _ _ _ c.loop-k-test.false c.loop-k.invariant.0 c.loop-k.invariant.1
