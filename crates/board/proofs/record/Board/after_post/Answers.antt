-- A malformed record is refused before the slots are asked (`post-malformed`); else they decide (`post-refused`, `post-accepted`).
-- Start and count of a list that they take lie in list memory (`post-room`), so that they fit 32 bits.
use mathlib.Core.Path.{refl, ap, ◌∙◌}
use native.Mathlib.Omega.{arith}
use Rattle.answers.proofs.Refusals.{numbered, refused}
use Rattle.slots.specs.Calls.{post_report}
use Rattle.board.proofs.Replies.{post-malformed, post-refused, post-accepted, post-room}
use Rattle.board.proofs.record.Board.after_post.Goals as goal

pub returns-in_err-checked : goal.returns-in_err-checked
returns-in_err-checked c =
    rw (refused c.from_residual.ensures.1 c.in_err-checked.ensures.0) (post-malformed _ _ _ _ c.in_err-checked.ensures.1)

pub returns-in_err-post_status : goal.returns-in_err-post_status
returns-in_err-post_status c =
    let s = c.args in
    rw (refused c.from_residual-in_err-post_status.ensures.1 refl)
    (post-refused _ _ _ _ c.in_ok-checked.ensures _
    (c.in_err-post_status.ensures ∙ ap (λ a. post_report s.self.sizes a s.self.pending s.list.now s.start s.count) c.slot.ensures)
    (numbered c.in_err-post_status.field-0.0))

pub overflow_cast-start : goal.overflow_cast-start
overflow_cast-start c =
    let s = c.args in
    let fits = post-room s.list.now s.start s.count s.self c.in_ok-checked.ensures _
    (c.in_ok-post_status.ensures ∙ ap (λ a. post_report s.self.sizes a s.self.pending s.list.now s.start s.count) c.slot.ensures)
    refl in
    omega (arith, fits)

pub overflow_cast-count : goal.overflow_cast-count
overflow_cast-count c =
    let s = c.args in
    let fits = post-room s.list.now s.start s.count s.self c.in_ok-checked.ensures _
    (c.in_ok-post_status.ensures ∙ ap (λ a. post_report s.self.sizes a s.self.pending s.list.now s.start s.count) c.slot.ensures)
    refl in
    omega (arith, fits)

pub returns : goal.returns
returns c =
    let s = c.args in
    post-accepted s.list.now s.start s.count s.self c.in_ok-checked.ensures c.in_ok-post_status.field-0
    (c.in_ok-post_status.ensures ∙ ap (λ a. post_report s.self.sizes a s.self.pending s.list.now s.start s.count) c.slot.ensures)
    _ c.posted.ensures
