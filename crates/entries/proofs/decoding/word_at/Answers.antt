-- What is decoded at the place decides (`word-by`).
use mathlib.Core.Path.{sym, ◌∙◌}
use Rattle.entries.proofs.Decodes.{word-by}
use Rattle.entries.proofs.decoding.word_at.Goals as goal

pub returns-in-Some : goal.returns-in-Some
returns-in-Some c = word-by _ _ _ (sym c.in-Some.is ∙ c.entry_at.ensures)

pub returns-in-None : goal.returns-in-None
returns-in-None c = word-by _ _ _ (sym c.in-None.is ∙ c.entry_at.ensures)
