-- What the line or the blit did at once is so many visits (`stroke-once`, `blit-once`, `tiled-once`); a NOOP has none (`none-once`).
use mathlib.Core.Path.{ap, sym, ◌∙◌}
use mathlib.Core.Bool.{true, false}
use native.Mathlib.Omega.{arith}
use Rattle.entries.specs.Fields.{is_blit, is_line}
use Rattle.commands.proofs.Tests.{flag_is, count_none}
use Rattle.leaps.specs.Leaps.{stroke_in}
use Rattle.leaps.proofs.Visiting.{fit_of}
use Rattle.leaps.proofs.Hatching.{stroke-once, blit-once, tiled-once, none-once}
use Rattle.leaps.proofs.visits.visit_command.Goals as goal

pub visit_line-requires-clause-inked : goal.visit_line-requires-clause-inked
unfolding stroke_in
visit_line-requires-clause-inked c n l =
    rw (c.pen.ensures, flag_is c.args.e _ c.command_of-c.ensures (λ c. c.solid) true c.if-c.true)

pub visit_line-requires-else-c-clause-inked : goal.visit_line-requires-else-c-clause-inked
unfolding stroke_in
visit_line-requires-else-c-clause-inked c n l =
    rw (c.dashes.ensures, flag_is c.args.e _ c.command_of-c.ensures (λ c. c.solid) false c.if-c.false)

pub returns-then-c : goal.returns-then-c
returns-then-c c =
    let s = c.args in
    stroke-once s.budget s.extent s.e s.own.now s.other.now c.requires.0 (omega (arith, c.well_formed.0))
    (omega (arith, c.well_formed.0)) (fit_of _ _ _ c.requires.1)
    (ap is_line (sym c.command_of-c.ensures) ∙ sym c.is_line.ensures ∙ c.if-is_line.true) _ _ c.visit_line.ensures

pub returns-else-c : goal.returns-else-c
returns-else-c c =
    let s = c.args in
    stroke-once s.budget s.extent s.e s.own.now s.other.now c.requires.0 (omega (arith, c.well_formed.0))
    (omega (arith, c.well_formed.0)) (fit_of _ _ _ c.requires.1)
    (ap is_line (sym c.command_of-c.ensures) ∙ sym c.is_line.ensures ∙ c.if-is_line.true) _ _ c.visit_line-else-c.ensures

pub returns-then-not-is_blit : goal.returns-then-not-is_blit
returns-then-not-is_blit c =
    let s = c.args in
    let no-line = ap is_line (sym c.command_of-c.ensures) ∙ sym c.is_line.ensures ∙ c.if-is_line.false in
    let no_blit = ap is_blit (sym c.command_of-c.ensures) ∙ sym c.is_blit.ensures ∙ c.if-not-is_blit.true in
    rw c.none.ensures
    (none-once s.budget s.extent s.e s.own.now s.other.now c.requires.0 (omega (arith, c.well_formed.0)) (omega (arith, c.well_formed.0))
    (sym (count_none s.extent s.e no_blit no-line)))

pub returns-then-c-2 : goal.returns-then-c-2
returns-then-c-2 c =
    let s = c.args in
    tiled-once s.budget s.extent s.e s.own.now s.other.now c.requires.0 (omega (arith, c.well_formed.0))
    (omega (arith, c.well_formed.0)) (fit_of _ _ _ c.requires.1)
    (ap is_blit (sym c.command_of-c.ensures) ∙ sym c.is_blit.ensures ∙ c.if-not-is_blit.false)
    (flag_is s.e _ c.command_of-c.ensures (λ c. c.apat) true c.if-c-2.true) _ _ c.visit_tiled.ensures

pub returns-else-c-2 : goal.returns-else-c-2
returns-else-c-2 c =
    let s = c.args in
    blit-once s.budget s.extent s.e s.own.now s.other.now c.requires.0 (omega (arith, c.well_formed.0))
    (omega (arith, c.well_formed.0)) (fit_of _ _ _ c.requires.1)
    (ap is_blit (sym c.command_of-c.ensures) ∙ sym c.is_blit.ensures ∙ c.if-not-is_blit.false) _ _ c.visit_blit.ensures
