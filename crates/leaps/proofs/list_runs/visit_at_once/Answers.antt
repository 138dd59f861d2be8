-- The buffer that the command draws on chooses the branch.
use mathlib.Core.Bool.{true, false}
use Rattle.commands.proofs.Tests.{flag_is}
use Rattle.leaps.proofs.list_runs.visit_at_once.Goals as goal

pub returns-then-command_of : goal.returns-then-command_of
returns-then-command_of c =
    c.visit_on.ensures true (flag_is c.args.e.now _ c.command_of.ensures (λ c. c.to_virtual) true c.if-command_of.true)

pub returns-else-command_of : goal.returns-else-command_of
returns-else-command_of c =
    c.visit_on-else-command_of.ensures false (flag_is c.args.e.now _ c.command_of.ensures (λ c. c.to_virtual) false c.if-command_of.false)
