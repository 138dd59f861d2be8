-- Each refusal is the ground of its test (`write-wrong-size`, `write-past`, `write-busy`); else the bytes have room in
-- the buffer and are put there (`write_done`).
use borrow.Author.Tests.{leb-true, leb-false, not-true, not-false}
use Rattle.answers.proofs.Refusals.{refused}
use Rattle.slots.proofs.Grounds.{write-wrong-size, write-past, write-busy, write_done}
use Rattle.slots.proofs.calls.write_into.Goals as goal

pub returns-in_err-named : goal.returns-in_err-named
returns-in_err-named c =
    rw (refused c.from_residual.ensures.1 c.in_err-named.ensures.0) (write-wrong-size _ _ _ _ _ _ _ c.in_err-named.ensures.1)

pub returns-in_err-within : goal.returns-in_err-within
returns-in_err-within c =
    rw (refused c.from_residual-in_err-within.ensures.1 c.in_err-within.ensures.0)
    (write-past _ _ _ _ _ _ _ c.in_ok-named.ensures (leb-false _ _ (rw c.area.ensures at c.in_err-within.ensures.1)))

pub returns-in_err-none_taken : goal.returns-in_err-none_taken
returns-in_err-none_taken c =
    rw (refused c.from_residual-in_err-none_taken.ensures.1 c.in_err-none_taken.ensures.0)
    (write-busy _ _ _ _ _ _ _ c.in_ok-named.ensures (leb-true _ _ (rw c.area.ensures at c.in_ok-within.ensures))
    (not-false _ c.in_err-none_taken.ensures.1))

pub returns : goal.returns
returns c =
    write_done _ _ _ _ _ _ _ c.in_ok-named.ensures (leb-true _ _ (rw c.area.ensures at c.in_ok-within.ensures))
    (not-true _ c.in_ok-none_taken.ensures) _ c.put.ensures
