use Prim.Native.Nat.{◌+◌}
use Rattle.lemmas.specs.Sweeps.{sweep}
use Rattle.lemmas.proofs.Sweeps.{Swept}
use Rattle.stipples.specs.Words.{byte_in}
use Rattle.blits.proofs.eights.put_word.Given as goal

abbrev pub invariant-loop-k : goal.invariant-loop-k
invariant-loop-k l = Swept (λ k'. sweep (λ k'. l.at + k') (λ k' m. byte_in k' l.word) k' l.initial.buffer) 8 l.initial.buffer l.buffer l.k
