-- A bit of the new byte is one of the high byte or of the low byte, by `joined-bit`.
use borrow.Author.Rules.{rules}
use Rattle.blits.proofs.Words.{joined-bit}
use Rattle.blits.proofs.eights.joined.Goals as goal

pub returns : goal.returns
returns c = joined-bit c.args.high c.args.low c.args.first (search rules) c.requires
