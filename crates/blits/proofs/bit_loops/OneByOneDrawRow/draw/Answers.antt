-- Each direction by its own function (`stippled-within`).
use mathlib.Core.List.{[]}
use Rattle.blits.proofs.Painted.{stippled-within}
use Rattle.blits.proofs.bit_loops.OneByOneDrawRow.draw.Goals as goal

pub returns-then-self : goal.returns-then-self
returns-then-self c = stippled-within c.args.self.back _ _ _ _ _ _ (rw c.if-self.true c.expand_back.ensures) []

pub returns : goal.returns
returns c = stippled-within c.args.self.back _ _ _ _ _ _ (rw c.if-self.false c.expand_each.ensures) []
