-- Each part goes behind the one before (`put-header`), and the output has room for all of them (`header-length`).
use native.Mathlib.Omega.{arith}
use Rattle.pictures.proofs.Puts.{place, header-length, put-header}
use Rattle.pictures.proofs.writing.put_header.Goals as goal

pub put_bytes-a-requires : goal.put_bytes-a-requires
put_bytes-a-requires c = omega (arith, header-length c.args.size.width c.args.size.height)

pub put_decimal-b-requires : goal.put_decimal-b-requires
put_decimal-b-requires c = omega (arith, header-length c.args.size.width c.args.size.height, place c.put_bytes-a.ensures)

pub put_bytes-c-requires : goal.put_bytes-c-requires
put_bytes-c-requires c =
    omega (arith, header-length c.args.size.width c.args.size.height, place c.put_bytes-a.ensures, place c.put_decimal-b.ensures)

pub put_decimal-d-requires : goal.put_decimal-d-requires
put_decimal-d-requires c =
    omega
    (arith, header-length c.args.size.width c.args.size.height, place c.put_bytes-a.ensures, place c.put_decimal-b.ensures, place c.put_bytes-c.ensures)

pub put_bytes-requires : goal.put_bytes-requires
put_bytes-requires c =
    omega (
      arith,
      header-length c.args.size.width c.args.size.height,
      place c.put_bytes-a.ensures,
      place c.put_decimal-b.ensures,
      place c.put_bytes-c.ensures,
      place c.put_decimal-d.ensures,
    )

pub returns : goal.returns
returns c =
    put-header _ _ _ _ _ _ _ _ c.put_bytes-a.ensures c.put_decimal-b.ensures c.put_bytes-c.ensures c.put_decimal-d.ensures
    c.put_bytes.ensures
