-- Each return is the ground of its test (`pack-wrong`, `pack-none`, `pack-many`), the last what the entries are judged to be.
use Rattle.packing.proofs.Answers.{pack-wrong, pack-none, pack-many, pack-judged}
use Rattle.packing.proofs.judging.packed_size.Goals as goal

pub returns-then-input-room : goal.returns-then-input-room
returns-then-input-room c = pack-wrong _ _ c.if-input-room.true

pub returns-then-input-eq0 : goal.returns-then-input-eq0
returns-then-input-eq0 c = pack-none _ _ c.if-input-room.false c.if-input-eq0.true

pub returns-then-count-gt4096 : goal.returns-then-count-gt4096
returns-then-count-gt4096 c = pack-many _ _ c.if-input-room.false c.if-input-eq0.false c.if-count-gt4096.true

pub returns : goal.returns
returns c =
    let o = c.before in
    pack-judged _ _ o.if-input-room.false o.if-input-eq0.false o.if-count-gt4096.false _ c.judge_entries.ensures
