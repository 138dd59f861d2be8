-- The last digit goes behind those of the tenth (`put_last`, `put-tenth`), and the output has room for it.
use native.Mathlib.Omega.{arith}
use Rattle.pictures.proofs.Decimals.{length_last, length-tenth}
use Rattle.pictures.proofs.Puts.{place, put_last, put-tenth}
use Rattle.pictures.proofs.writing.+put_decimal.Goals as goal

pub bounds-output-at : goal.bounds-output-at
bounds-output-at t c = omega (arith, length_last c.args.n c.if-n-lt10.true)

pub returns-then-n-lt10 : goal.returns-then-n-lt10
returns-then-n-lt10 t c = put_last _ _ _ c.if-n-lt10.true

pub put_decimal-last-requires : goal.put_decimal-last-requires
put_decimal-last-requires t c = (omega arith, omega (arith, length-tenth c.args.n c.if-n-lt10.false))

pub bounds-output-last : goal.bounds-output-last
bounds-output-last t c = omega (arith, length-tenth c.args.n c.if-n-lt10.false, place c.put_decimal-last.ensures)

pub overflow_add-result-2 : goal.overflow_add-result-2
overflow_add-result-2 t c = omega (arith, length-tenth c.args.n c.if-n-lt10.false, place c.put_decimal-last.ensures)

pub returns : goal.returns
returns t c = put-tenth _ _ _ _ c.if-n-lt10.false c.put_decimal-last.ensures
