-- Each refusal is the ground of its test (`write-wrong-size`, `write-too-short`); else the header and the pixels behind it are the
-- picture (`write_done`).
use native.Mathlib.Omega.{arith}
use Rattle.pictures.proofs.Puts.{place, write-wrong-size, write-too-short, write_done}
use Rattle.pictures.proofs.writing.write_picture.Goals as goal

pub returns-then-pixels-area : goal.returns-then-pixels-area
returns-then-pixels-area c = write-wrong-size _ _ _ _ _ c.area.ensures c.if-pixels-area.true

pub returns-then-output-bytes : goal.returns-then-output-bytes
returns-then-output-bytes c =
    let o = c.before.before in
    write-too-short _ _ _ _ _ o.area.ensures o.if-pixels-area.false _ c.bytes-bytes.ensures c.if-output-bytes.true

pub put_bytes-requires : goal.put_bytes-requires
put_bytes-requires c =
    let p = c.before.before.before in
    omega (arith, p.put_header-start.auto.output, place p.put_header-start.ensures)

pub returns : goal.returns
returns c =
    let q = c.before.before in
    let p = q.before.before.before.before in
    let s = p.before.before.before in
    let o = s.before in
    write_done _ _ _ _ _ o.area.ensures o.if-pixels-area.false _ s.bytes-bytes.ensures _ _ (omega arith) p.put_header-start.ensures
    q.put_bytes.ensures
