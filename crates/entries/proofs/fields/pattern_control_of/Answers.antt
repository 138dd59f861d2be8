use Rattle.entries.proofs.fields.pattern_control_of.Goals as goal

pub returns : goal.returns
returns c = rw c.pattern_length.ensures
