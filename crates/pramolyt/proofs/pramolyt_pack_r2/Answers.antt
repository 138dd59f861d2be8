-- The answer is the conversion's (`packs-file`).
use Rattle.pramolyt.proofs.Files.{packs-file}
use Rattle.pramolyt.proofs.pramolyt_pack_r2.Goals as goal

pub returns : goal.returns
returns c =
    packs-file c.pack-status.result _ _ _ _ c.number.ensures c.written.ensures c.place.ensures _ _ c.pack-status.ensures
