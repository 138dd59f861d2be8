-- Copying over the part from a place on puts the bytes there (`put_part`).
use Rattle.slots.proofs.Grounds.{put_part}
use Rattle.slots.proofs.calls.put.Goals as goal

pub returns : goal.returns
returns c = put_part _ _ _ _ c.requires c.copy_from_slice.ensures.after
