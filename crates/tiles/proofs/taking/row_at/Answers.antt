use mathlib.Core.Path.{refl, ap, ◌∙◌}
use Prim.Native.Nat.{min}
use Rattle.std.proofs.lemmas.List.{take_rest, length-drop}
use Rattle.tiles.proofs.Pixels.{row-short, zeros}
use Rattle.tiles.proofs.taking.row_at.Goals as goal

pub returns : goal.returns
returns c =
    let b = c.args.buffer.now in
    let m = c.min.result in
    let n = c.min-n.result in
    row-short b _ _ c.args.at m n c.min.ensures (rw (take_rest b m) at c.min-n.ensures ∙ ap (λ k. min k 16) (length-drop m b))
    (rw (take_rest b m) at c.copy_from_slice.ensures.after) refl (zeros 16)
