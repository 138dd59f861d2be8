-- The answer is that of the record, and the image after it is its record's (`hatched-is`).
use Rattle.pramolyt.proofs.RunParts.{hatched-is}
use Rattle.pramolyt.proofs.hatch_image.Goals as goal

pub returns : goal.returns
returns c = hatched-is _ _ _ _ _ _ c.decode-b.ensures c.hatch-ran.result _ _ c.hatch-ran.ensures _ c.encode.ensures
