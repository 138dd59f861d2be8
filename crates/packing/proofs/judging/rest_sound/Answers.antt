-- Each return is the case of `rest_sound` that the tests before it chose.
use Rattle.packing.proofs.Fulls.{rest-early, rest-none, rest-some}
use Rattle.packing.proofs.judging.rest_sound.Goals as goal

pub returns-then-from-count : goal.returns-then-from-count
returns-then-from-count c = rest-early _ _ _ c.if-from-count.true

pub returns-then-left-eq0 : goal.returns-then-left-eq0
returns-then-left-eq0 c = rest-none _ _ _ c.if-from-count.false c.if-left-eq0.true _ c.requires.0

pub returns : goal.returns
returns c = rest-some _ _ _ c.if-from-count.false c.if-left-eq0.false _ c.requires.0 _ c.group_at.ensures _ c.present.ensures
