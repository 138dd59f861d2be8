-- Bytes put behind bytes that were put are both put at once (`put-join`).
use mathlib.Core.Path.{ap, sym, ◌∙◌}
use Prim.Native.Nat.{ℕ, ◌+◌}
use native.Mathlib.Omega.{arith}
use lib.ListN.{length}
use mathlib.Core.List.{List}
use Rattle.lemmas.specs.Memory.{put_into}
use Rattle.lemmas.proofs.Memories.{put-length, put-join}
use Rattle.slots.proofs.Grounds.{put-fits}
use Rattle.feeds.proofs.pieces.put_joined.Goals as goal

pub returns : goal.returns
returns c =
    let put2 = c.before.before in
    let put = put2.before.before.before.before in
    let s = put.args in
    let first = put.put_fitting.ensures ∙ sym (put-fits s.memory.now s.at s.head.now (omega arith)) in
    let long = ap length first ∙ put-length s.memory.now s.at s.head.now (omega arith) in
    put2.put_fitting-2.ensures
    ∙ sym (put-fits _ (s.at + length s.head.now) s.tail.now (omega (arith, long)))
    ∙ ap (λ (m : List ℕ). put_into m (s.at + length s.head.now) s.tail.now) first
    ∙ put-join s.memory.now s.at s.head.now (omega arith) s.tail.now
