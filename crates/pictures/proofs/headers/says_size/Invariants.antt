use mathlib.Core.Path.{◌≡◌}
use lib.ListN.{drop}
use Rattle.pictures.specs.Texts.{says_size}
use Rattle.pictures.specs.Readers.{accepts}
use Rattle.pictures.proofs.headers.says_size.Given as goal

abbrev pub invariant-loop-b : goal.invariant-loop-b
invariant-loop-b l =
    accepts l.size.width l.size.height l.reader (drop l.b-index l.text) ≡ says_size l.size.width l.size.height l.text
