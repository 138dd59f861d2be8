-- Each return is the case of `closing_of` that the tests before it chose.
use Rattle.packing.proofs.Judges.{closing-none, closing-one, closing-two, closing-all}
use Rattle.packing.proofs.groups.closing.Goals as goal

pub returns-then-c-ne31 : goal.returns-then-c-ne31
returns-then-c-ne31 c = closing-none _ c.if-c-ne31.true

pub returns-then-b-ne31 : goal.returns-then-b-ne31
returns-then-b-ne31 c = closing-one _ c.if-c-ne31.false c.if-b-ne31.true

pub returns-then-a-ne31 : goal.returns-then-a-ne31
returns-then-a-ne31 c = closing-two _ c.if-c-ne31.false c.if-b-ne31.false c.if-a-ne31.true

pub returns : goal.returns
returns c = closing-all _ c.if-c-ne31.false c.if-b-ne31.false c.if-a-ne31.false
