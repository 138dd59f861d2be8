use Rattle.blits.proofs.Expanded.{Expanding}
use Rattle.blits.proofs.bits.expand.Given as goal

abbrev pub invariant-loop-k : goal.invariant-loop-k
invariant-loop-k g l =
    Expanding l.ink.stipple l.n l.initial.buffer l.at (g.B.Bits.bytes l.bits l.initial.buffer) l.byte l.first l.buffer l.k
