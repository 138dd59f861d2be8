-- What `entry_at` found decides (`legal-by`): an entry by its own test, and where there is none, nothing is legal.
use mathlib.Core.Path.{◌∙◌}
use Rattle.entries.proofs.Finds.{legal-by}
use Rattle.entries.proofs.legality.legal_at.Goals as goal

pub returns-in-Some : goal.returns-in-Some
returns-in-Some c =
    let o = c.before.before in
    c.legal_entry.ensures ∙ legal-by _ _ _ _ o.entry_at.ensures o.in-Some.is

pub returns-in-None : goal.returns-in-None
returns-in-None c = legal-by _ _ _ _ c.entry_at.ensures c.in-None.is
