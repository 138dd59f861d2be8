-- `registers::dashes::Pattern::after` meets its contract. After no pixel it is the state itself (`moves-none`); where the
-- repeat does not reach the scale only the repeat moves (`after-within`); else repeat and place go round (`after-rounds`).
-- A remainder is below a scale or a length, or 0, so that it fits the cast (`turned-small`).
-- Assumes nothing.
use Prim.Native.Nat.{◌+◌, ◌/◌}
use native.Mathlib.Nat.{div-le_self}
use native.Mathlib.Omega.{arith}
use Rattle.registers.proofs.Rounds.{moves-none, turned-small, after-within, after-rounds}
use Rattle.registers.proofs.dashes.Pattern.after.Goals as goal

pub returns-then-n-eq0 : goal.returns-then-n-eq0
returns-then-n-eq0 c = moves-none _ _ _ c.if-n-eq0.true

pub overflow_cast-repeat : goal.overflow_cast-repeat
overflow_cast-repeat c = omega (arith, turned-small (c.min.result + c.args.n) _ _ c.saturating_sub-last_repeat.ensures (omega arith))

pub returns-then-turns-eq0 : goal.returns-then-turns-eq0
returns-then-turns-eq0 c =
    after-within _ _ _ _ _ c.if-n-eq0.false c.saturating_sub-last_repeat.ensures c.min.ensures c.if-turns-eq0.true

pub overflow_add-place : goal.overflow_add-place
overflow_add-place c = omega (arith, div-le_self (c.min.result + c.args.n) (c.saturating_sub-last_repeat.result + 1))

pub overflow_cast-result : goal.overflow_cast-result
overflow_cast-result c =
    let turns = (c.min.result + c.args.n) / (c.saturating_sub-last_repeat.result + 1) in
    omega (arith, turned-small (c.min-2.result + turns) _ _ c.saturating_sub-last_place.ensures (omega arith))

pub returns : goal.returns
returns c =
    after-rounds _ _ _ _ _ c.if-n-eq0.false c.saturating_sub-last_repeat.ensures c.min.ensures c.if-turns-eq0.false _ _
    c.saturating_sub-last_place.ensures c.min-2.ensures
