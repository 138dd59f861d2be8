-- visited + 1 fits 32 bits where it is below the count, which does (`pixels-lt`).
use native.Mathlib.Omega.{arith}
use Rattle.commands.proofs.Bounds.{pixels-lt}
use Rattle.commands.proofs.Engine.advanced.Goals as goal

pub overflow_add-result : goal.overflow_add-result
overflow_add-result c =
    let first = c.before.before.before.before.before in
    omega (arith, c.count-n.ensures, pixels-lt first.args.extent first.args.self (omega (arith, first.well_formed.0)))
