-- What `draw_tiled` leaves on the buffer that is drawn on, in the stretch that n visits lie in (`tiled-as`), is what these leave there
-- (`tiled-are`); with no whole tile they leave what was there (`missing-are`).
use mathlib.Core.Path.{ap, sym, ◌∙◌}
use mathlib.Core.Bool.{true, false}
use native.Mathlib.Omega.{arith}
use borrow.Author.Tests.{eqb-false}
use lib.Dec.{eqb}
use Rattle.commands.proofs.Bounds.{pixels-lt}
use Rattle.commands.proofs.Tests.{flag_is}
use Rattle.leaps.specs.declared.visits.Visits.{Visits}
use Rattle.leaps.specs.Leaps.{after_visits, SomeDone}
use Rattle.leaps.proofs.Visiting.{after-moved}
use Rattle.leaps.proofs.Rows.{goes-tiled, tiled-are, missing-are, tiled-as}
use Rattle.leaps.proofs.hatched.Counted.visit_rows.Goals as goal
use Rattle.leaps.proofs.hatched.Counted.visit_rows.Goals.{then-fill+then-command_of, then-fill+else-command_of, else-fill}

pub stretch-r-requires : goal.stretch-r-requires
stretch-r-requires c =
    let g = goes-tiled _ _ _ _ _ c.requires in
    (g.leaps.any, omega (arith, g.leaps.few, c.args.self.counted))

pub leave-requires-clause-under : goal.leave-requires-clause-under
leave-requires-clause-under c = (goes-tiled _ _ _ _ _ c.requires).leaps.under-way

pub leave-requires-clause-room : goal.leave-requires-clause-room
leave-requires-clause-room c more =
    let s = c.args.self in
    let g = goes-tiled _ _ _ _ _ c.requires in
    let less = eqb-false c.args.n c.rest.result (ap (λ (r : Visits). r.finished) (sym c.some.ensures) ∙ more) in
    omega (arith, less, ap (λ (r : Visits). r.steps) c.some.ensures, c.rest.ensures, g.leaps.few, pixels-lt s.extent s.engine (omega (arith, c.well_formed.0)))

pub returns : goal.returns
returns c =
    let s = c.args in
    let e = s.self.engine in
    let extent = s.self.extent in
    let g = goes-tiled _ _ _ _ _ c.requires in
    let done : SomeDone extent e (record { pattern = e.pattern; steps = s.n; finished = eqb s.n c.rest.result }) =
    record { few = omega (arith, g.leaps.few); finished = ap (eqb s.n) c.rest.ensures } in
    let moved = c.leave.ensures ∙ ap (after_visits e) c.some.ensures ∙ after-moved extent e _ done g.leaps.any in
    elim c.if-fill.branch [
      | then-fill+then-command_of w ↦
          rw (w.display-is, w.virt-is)
          (tiled-are extent e s.n _ _ g _ moved s.fill true (flag_is e _ w.command_of.ensures (λ c. c.to_virtual) true w.if-command_of.true)
          s.virt.now s.display.now w.if-fill.true g.leaps.virt-long _
          (w.draw_tiled.ensures
          ∙ tiled-as extent e s.n _ _ _ _ _ w.tiling-t.ensures s.self.counted w.stretch-r.ensures w.len.ensures _))
      | then-fill+else-command_of w ↦
          rw (w.display-is, w.virt-is)
          (tiled-are extent e s.n _ _ g _ moved s.fill false (flag_is e _ w.command_of.ensures (λ c. c.to_virtual) false w.if-command_of.false)
          s.display.now s.virt.now w.if-fill.true g.leaps.display-long _
          (w.draw_tiled-else-command_of.ensures
          ∙ tiled-as extent e s.n _ _ _ _ _ w.tiling-t.ensures s.self.counted w.stretch-r.ensures w.len-else-command_of.ensures _))
      | else-fill w ↦
          rw (w.display-is, w.virt-is) (missing-are extent e s.n _ _ g _ moved s.fill w.if-fill.false s.display.now s.virt.now)
    ]
