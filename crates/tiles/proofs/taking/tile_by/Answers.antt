-- Each row below the index is what the call at it gave.
use Rattle.std.proofs.Common.{◌≢◌, ◌<◌, length, arith, get_or-set_other, get_or-set_same, below_more}
use lib.ListN.{length-set}
use Rattle.tiles.proofs.taking.tile_by.Goals as goal

pub loop-j-preserved : goal.loop-j-preserved
loop-j-preserved g c =
    let o = c.loop-j in
    record {
      long = rw length-set o.invariant.long;
      each =
          below_more _ _
          (λ k h. let ne : k ≢ o.j = omega arith in rw get_or-set_other (o.invariant.each k h))
          (let lt : o.j < length o.taken-items = omega arith in rw get_or-set_same c.row.ensures);
    }
