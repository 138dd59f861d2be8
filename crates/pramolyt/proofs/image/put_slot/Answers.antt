-- `put_words` counts the third word's place as at + 1 + 1, which is at + 2.
use native.Mathlib.Omega.{arith}
use Prim.Native.Nat.{◌+◌}
use mathlib.Core.Path.{◌≡◌}
use Rattle.pramolyt.proofs.image.put_slot.Goals as goal

pub returns : goal.returns
returns c =
    let at = c.args.at in
    let third : at + 1 + 1 ≡ at + 2 = omega arith in
    rw (c.flag.ensures, third)
