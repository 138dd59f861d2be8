-- Copying over the part from a place on puts the bytes there (`put-over`).
use Rattle.pictures.proofs.Puts.{put-over}
use Rattle.pictures.proofs.writing.put_bytes.Goals as goal

pub returns : goal.returns
returns c = put-over _ _ _ _ c.requires c.copy_from_slice.ensures.after
