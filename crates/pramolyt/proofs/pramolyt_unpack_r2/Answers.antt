-- The answer is the conversion's (`unpacks-file`).
use Rattle.pramolyt.proofs.Files.{unpacks-file}
use Rattle.pramolyt.proofs.pramolyt_unpack_r2.Goals as goal

pub returns : goal.returns
returns c =
    unpacks-file c.unpack-status.result _ _ _ _ c.number.ensures c.written.ensures c.place.ensures _ _ c.unpack-status.ensures
