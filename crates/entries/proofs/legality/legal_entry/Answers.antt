-- A spare bit that is set is refused; else the register and its word decide (`entry-held`).
use mathlib.Core.Path.{◌∙◌}
use borrow.Author.Tests.{ne_eqb}
use Rattle.entries.proofs.Registers.{entry-held}
use Rattle.entries.proofs.legality.legal_entry.Goals as goal

pub returns-then-spare-ne0 : goal.returns-then-spare-ne0
returns-then-spare-ne0 c = rw (ne_eqb _ 0 c.if-spare-ne0.true)

pub returns : goal.returns
returns c = c.legal_data.ensures ∙ entry-held _ _ c.if-spare-ne0.false
