-- White space starts the next number where the last one is as wanted, and goes on before a number; else no header begins so. The
-- law of each stage says so.
use native.Mathlib.Omega.{arith}
use Rattle.pictures.proofs.Stages.{before-grey, white-start, white-white, white-number, white-broken, broken-stays}
use Rattle.pictures.proofs.headers.Stage.white.Goals as goal

pub overflow_add-result : goal.overflow_add-result
overflow_add-result c =
    omega (arith, before-grey c.in-Number.v c.number.result c.in-Number.k c.if-v-number.true)

pub returns-in-Start : goal.returns-in-Start
returns-in-Start c = λ b e. rw c.in-Start.is (white-start _ _ b e)

pub returns-in-White : goal.returns-in-White
returns-in-White c = λ b e. rw c.in-White.is (white-white _ _ b e _)

pub returns-then-v-number : goal.returns-then-v-number
returns-then-v-number c =
    λ b e. rw c.in-Number.is
    (white-number _ _ b e _ _ _ c.number.ensures c.if-v-number.true)

pub returns-else-v-number : goal.returns-else-v-number
returns-else-v-number c =
    λ b e. rw c.in-Number.is
    (white-broken _ _ b e _ _ _ c.number.ensures c.if-v-number.false)

pub returns-in-Broken : goal.returns-in-Broken
returns-in-Broken c = λ b e. rw c.in-Broken.is (broken-stays _ _ b)
