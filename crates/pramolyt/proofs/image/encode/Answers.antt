-- The fill is put after the words of the record with no tile.
use mathlib.Core.Path.{ap, ◌∙◌}
use mathlib.Core.List.{◌++◌}
use lib.ListN.{take, drop}
use Rattle.pramolyt.specs.FillImage.{fill_at, fill_words}
use Rattle.pramolyt.proofs.image.encode.Goals as goal

pub put_fill-requires : goal.put_fill-requires
put_fill-requires c = ap (drop fill_at) c.encode_bare.ensures

pub returns : goal.returns
returns c =
    let bare = c.before in
    let b = bare.args.b in
    c.put_fill.ensures ∙ ap (λ w. take fill_at w ++ fill_words b.fill) bare.encode_bare.ensures
