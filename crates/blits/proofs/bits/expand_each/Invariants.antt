use Prim.Native.Nat.{◌+◌, ◌-◌, ◌*◌}
use Rattle.blits.proofs.Expanded.{OneByOne}
use Rattle.blits.proofs.bits.expand_each.Given as goal

abbrev pub invariant-loop-k : goal.invariant-loop-k
invariant-loop-k l =
    let from = 8 * l.fn.from.byte + l.fn.from.bit in
    OneByOne l.s (λ k'. l.at + k') (λ k'. from + k') l.n l.initial.buffer l.buffer l.p (from + l.k) l.k

abbrev pub decreases-loop-k : goal.decreases-loop-k
decreases-loop-k l = l.n - l.k
