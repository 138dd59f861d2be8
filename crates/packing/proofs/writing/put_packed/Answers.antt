-- A group that has its three entries is `put_whole`'s; of another, what is missing is put in (`present`).
use Rattle.packing.proofs.Puts.{group-same}
use Rattle.packing.proofs.writing.put_packed.Goals as goal

pub returns : goal.returns
returns c =
    let r = c.before.before in
    let p = r.before.before in
    group-same _ _ _ _ _ _ _ _ _ p.present-a.ensures p.present-b.ensures p.present-c.ensures
    r.put_group.ensures
