-- Each refusal is the ground of its test (`store-wrong-size`, `store-past`, `store-held`); else the bytes have room in
-- list memory and are put there (`store-done`).
use borrow.Author.Tests.{leb-true, leb-false, not-true, not-false}
use Rattle.answers.proofs.Refusals.{refused}
use Rattle.slots.proofs.Grounds.{store-wrong-size, store-past, store-held, store-done}
use Rattle.slots.proofs.calls.store_into.Goals as goal

pub returns-then-not-list-list_len : goal.returns-then-not-list-list_len
returns-then-not-list-list_len c = store-wrong-size _ _ _ _ _ _ (rw c.list_len.ensures at c.if-not-list-list_len.true)

pub returns-in_err-within : goal.returns-in_err-within
returns-in_err-within c =
    rw (refused c.from_residual.ensures.1 c.in_err-within.ensures.0)
    (store-past _ _ _ _ _ _ (rw c.list_len.ensures at c.if-not-list-list_len.false) (leb-false _ _ c.in_err-within.ensures.1))

pub returns-in_err-none_held : goal.returns-in_err-none_held
returns-in_err-none_held c =
    rw (refused c.from_residual-in_err-none_held.ensures.1 c.in_err-none_held.ensures.0)
    (store-held _ _ _ _ _ _ (rw c.list_len.ensures at c.if-not-list-list_len.false) (leb-true _ _ c.in_ok-within.ensures)
    (not-false _ c.in_err-none_held.ensures.1))

pub returns : goal.returns
returns c =
    store-done _ _ _ _ _ _ (rw c.list_len.ensures at c.if-not-list-list_len.false) (leb-true _ _ c.in_ok-within.ensures)
    (not-true _ c.in_ok-none_held.ensures) _ c.put.ensures
