-- What was copied aside is the source as it was (`copied-kept`).
use borrow.Author.Rules.{rules}
use Rattle.rows.proofs.Within.{copied-kept}
use Rattle.rows.proofs.unmixed.move_at_once.Goals as goal

pub returns : goal.returns
returns c =
    let a = c.args in
    copied-kept (λ s d. s) a.n a.buffer.now a.at a.buffer.now a.from _ _ _ (search rules) c.copy_at_once.ensures c.copy_at_once-2.ensures
