use Prim.Native.Nat.{◌+◌, ◌-◌, ◌*◌}
use Rattle.blits.proofs.Expanded.{OneByOne}
use Rattle.blits.proofs.bits.expand_back.Given as goal

abbrev pub invariant-loop-k : goal.invariant-loop-k
invariant-loop-k l =
    let from = 8 * l.fn.from.byte + l.fn.from.bit in
    OneByOne l.s (λ k'. l.at + l.n - (k' + 1)) (λ k'. from + l.n - (k' + 1)) l.n l.initial.buffer l.buffer l.p (from + l.n - l.k) l.k

abbrev pub decreases-loop-k : goal.decreases-loop-k
decreases-loop-k l = l.n - l.k
