-- Each return is the ground of the first test that refuses (`post-wrong-size`, `post-none`, `post-past`, `post-full`),
-- or what the first illegal entry says (`post-judged`).
use borrow.Author.Tests.{leb-true, leb-false}
use mathlib.Core.Path.{◌∙◌}
use Rattle.answers.proofs.Refusals.{refused}
use Rattle.slots.proofs.Grounds.{post-wrong-size, post-none, post-past, post-full, post-judged}
use Rattle.slots.proofs.calls.post_status.Goals as goal

pub returns-then-list-list_len : goal.returns-then-list-list_len
returns-then-list-list_len c = post-wrong-size _ _ _ _ _ _ (rw c.list_len.ensures at c.if-list-list_len.true)

pub returns-then-count-eq0 : goal.returns-then-count-eq0
returns-then-count-eq0 c = post-none _ _ _ _ _ _ (c.if-list-list_len.false ∙ c.list_len.ensures) c.if-count-eq0.true

pub returns-in_err-within : goal.returns-in_err-within
returns-in_err-within c =
    rw (refused c.from_residual.ensures.1 c.in_err-within.ensures.0)
    (post-past _ _ _ _ _ _ (c.if-list-list_len.false ∙ c.list_len.ensures) c.if-count-eq0.false (leb-false _ _ c.in_err-within.ensures.1))

pub returns-then-a-p : goal.returns-then-a-p
returns-then-a-p c =
    post-full _ _ _ _ _ _ (c.if-list-list_len.false ∙ c.list_len.ensures) c.if-count-eq0.false (leb-true _ _ c.in_ok-within.ensures)
    c.if-a-p.true

pub returns-in-Some : goal.returns-in-Some
returns-in-Some c =
    post-judged _ _ _ _ _ _ (c.if-list-list_len.false ∙ c.list_len.ensures) c.if-count-eq0.false (leb-true _ _ c.in_ok-within.ensures)
    c.if-a-p.false _ _ c.first_illegal.ensures c.in-Some.is

pub returns-in-None : goal.returns-in-None
returns-in-None c =
    post-judged _ _ _ _ _ _ (c.if-list-list_len.false ∙ c.list_len.ensures) c.if-count-eq0.false (leb-true _ _ c.in_ok-within.ensures)
    c.if-a-p.false _ _ c.first_illegal.ensures c.in-None.is
