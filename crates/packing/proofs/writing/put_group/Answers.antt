-- The head and the data, each after the one before, are one run (`group-put`).
use Rattle.packing.proofs.Puts.{group-put}
use Rattle.packing.proofs.writing.put_group.Goals as goal

pub returns : goal.returns
returns c = let r = c.before.before in
    let q = r.before.before.before.before in
    let p = q.before.before.before.before in
    let h = p.before.before.before.before in
    group-put _ _ _ _ _ _ _ _ _ _ h.head_of.ensures h.put_head.ensures p.put_word.ensures q.put_word-2.ensures
    r.put_word-3.ensures
