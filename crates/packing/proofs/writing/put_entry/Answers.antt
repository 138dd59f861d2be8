-- The first byte and the data after it are one run (`entry-put`).
use mathlib.Core.Path.{◌∙◌}
use native.Mathlib.Omega.{arith}
use lib.ListN.{length-set}
use Rattle.packing.proofs.Puts.{entry-put}
use Rattle.packing.proofs.writing.put_entry.Goals as goal

pub put_word-requires : goal.put_word-requires
put_word-requires c = simp length-set (omega arith)

pub shape_of-out : goal.shape_of-out
shape_of-out c = c.put_word.auto.out ∙ simp length-set

pub returns : goal.returns
returns c = entry-put _ _ _ _ c.put_word.ensures
