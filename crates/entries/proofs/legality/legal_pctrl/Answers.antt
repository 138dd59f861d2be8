use Rattle.entries.specs.Legality.{pctrl_legal}
use Rattle.entries.proofs.legality.legal_pctrl.Goals as goal

pub returns : goal.returns
unfolding pctrl_legal
returns c = rw c.pattern_length-length.ensures
