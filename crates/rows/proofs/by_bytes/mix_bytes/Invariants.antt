use mathlib.Core.Path.{◌≡◌}
use Rattle.rows.specs.Rows.{copied}
use Rattle.rows.proofs.by_bytes.mix_bytes.Given as goal

abbrev pub invariant-loop-k : goal.invariant-loop-k
invariant-loop-k g l = l.buffer ≡ copied (g.I.Ink.byte l.ink) l.k l.initial.buffer l.at l.source l.from
