-- A digit starts a number after white space, and makes one longer; else no header begins so. The law of each stage says so.
use Rattle.pictures.proofs.Stages.{digit-start, digit-white, digit-number, broken-stays}
use Rattle.pictures.proofs.headers.Stage.digit.Goals as goal

pub returns-in-Start : goal.returns-in-Start
returns-in-Start c = λ w h p q. rw c.in-Start.is (digit-start w h _ c.requires)

pub returns-in-White : goal.returns-in-White
returns-in-White c =
    λ w h p q. rw c.in-White.is
    (digit-white w h _ c.requires p q _ _ c.longer.ensures)

pub returns-in-Number : goal.returns-in-Number
returns-in-Number c =
    λ w h p q. rw c.in-Number.is
    (digit-number w h _ c.requires p q _ _ _ c.longer-in-Number.ensures)

pub returns-in-Broken : goal.returns-in-Broken
returns-in-Broken c = λ w h p q. rw c.in-Broken.is (broken-stays w h _)
