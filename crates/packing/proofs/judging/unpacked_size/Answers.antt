-- Each return is the ground of its test (`unpack-wrong`, `unpack-none`, `unpack-many`), the last what the file is judged to be; past
-- the tests it has a group (`unpack-some`).
use mathlib.Core.Path.{refl}
use Rattle.packing.proofs.Answers.{unpack-wrong, unpack-none, unpack-many, unpack-judged, unpack-some}
use Rattle.packing.proofs.judging.unpacked_size.Goals as goal

pub returns-then-groups-input : goal.returns-then-groups-input
returns-then-groups-input c = unpack-wrong _ _ _ refl _ c.count_of-count.ensures c.if-groups-input.true

pub returns-then-input-eq0 : goal.returns-then-input-eq0
returns-then-input-eq0 c = unpack-none _ _ _ refl _ c.count_of-count.ensures c.if-groups-input.false c.if-input-eq0.true

pub returns-then-count-gt4096 : goal.returns-then-count-gt4096
returns-then-count-gt4096 c =
    let o = c.before.before in
    unpack-many _ _ _ refl _ o.count_of-count.ensures o.if-groups-input.false c.if-input-eq0.false c.if-count-gt4096.true

pub judge-requires : goal.judge-requires
judge-requires c =
    let o = c.before.before in
    let n = o.before in
    (refl, unpack-some _ _ _ refl _ n.count_of-count.ensures o.if-groups-input.false c.if-input-eq0.false, n.count_of-count.ensures, c.if-count-gt4096.false)

pub returns : goal.returns
returns c =
    let i = c.before in
    let o = i.before.before in
    unpack-judged _ _ _ refl _ o.count_of-count.ensures o.if-groups-input.false i.if-input-eq0.false i.if-count-gt4096.false _ c.judge.ensures
