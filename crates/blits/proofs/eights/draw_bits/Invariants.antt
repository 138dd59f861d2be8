use Rattle.lemmas.proofs.Sweeps.{Swept}
use Rattle.blits.specs.Bits.{by_byte}
use Rattle.blits.proofs.eights.draw_bits.Given as goal

abbrev pub invariant-loop-k : goal.invariant-loop-k
invariant-loop-k l = Swept (λ k'. by_byte l.s k' l.initial.buffer l.at l.bits) l.m l.initial.buffer l.buffer l.k
