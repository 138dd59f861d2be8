-- The parts are put into zeros one after the other.
use Rattle.pramolyt.proofs.image.encode_bare.Goals as goal

pub returns : goal.returns
returns c =
    let slots = c.before.before in
    let first = slots.before in
    rw (
      c.put_command.ensures,
      c.put_registers.ensures,
      slots.put_slot-both.ensures,
      first.put_slot-active.ensures,
      first.slot.ensures,
      first.put_sizes-sized.ensures,
    )
