-- Four bytes copied over four are one run (`set-part`).
use mathlib.Core.Path.{◌∙◌}
use Rattle.packing.specs.Editions.{word_bytes}
use Rattle.packing.proofs.Runs.{set-part}
use Rattle.packing.proofs.writing.put_word.Goals as goal

pub returns : goal.returns
returns c =
    set-part c.args.out.now (word_bytes c.args.word) _ c.args.at c.requires (c.copy_from_slice.ensures.after ∙ c.to_be_bytes.ensures)
