-- A refusal leaves the output as it is (`pack-refused`). A conversion that is done has room for its groups (`pack-room`), and writes
-- what it must (`pack-done`).
use lib.ListN.{length}
use Rattle.std.proofs.lemmas.Result.{err_from_is_err_and}
use Rattle.packing.proofs.Answers.{pack-refused, pack-room, pack-done}
use Rattle.packing.proofs.conversions.pack.Goals as goal

pub returns-in_err-size : goal.returns-in_err-size
returns-in_err-size c =
    let p = err_from_is_err_and c.from_residual.result c.from_residual.ensures.1 in rw (p.1, p.2) (pack-refused _ _ _ c.in_err-size.ensures)

pub write_groups-requires : goal.write_groups-requires
write_groups-requires c = pack-room c.args.input.now (length c.args.output.now) c.in_ok-size.size c.in_ok-size.ensures

pub returns : goal.returns
returns c = pack-done _ _ _ _ c.in_ok-size.ensures c.write_groups.ensures
