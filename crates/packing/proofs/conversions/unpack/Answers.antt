-- A refusal leaves the output as it is (`unpack-refused`). A conversion that is done has room for its entries (`unpack-room`), and writes
-- what it must (`unpack-done`).
use lib.ListN.{length}
use Rattle.std.proofs.lemmas.Result.{err_from_is_err_and}
use Rattle.packing.proofs.Answers.{unpack-refused, unpack-room, unpack-done}
use Rattle.packing.proofs.conversions.unpack.Goals as goal

pub returns-in_err-size : goal.returns-in_err-size
returns-in_err-size c =
    let p = err_from_is_err_and c.from_residual.result c.from_residual.ensures.1 in rw (p.1, p.2) (unpack-refused _ _ _ c.in_err-size.ensures)

pub write_entries-requires : goal.write_entries-requires
write_entries-requires c = unpack-room c.args.input.now (length c.args.output.now) c.in_ok-size.size c.in_ok-size.ensures

pub returns : goal.returns
returns c = unpack-done _ _ _ _ c.in_ok-size.ensures c.write_entries.ensures
