-- The numbers are those of the engine itself.
use Rattle.commands.proofs.Engine.count.Goals as goal

pub returns : goal.returns
returns c = c.count_by.ensures c.args.self
