-- The place of the byte that holds a bit decides what the bit draws (`bit-by`); outside the buffer it is nothing (`stippled_outside`,
-- which the code cites).
use borrow.Author.Rules.{rules}
use Rattle.std.specs.Prelude.{Some}
use Rattle.sources.specs.Sources.{stippled_of}
use Rattle.sources.proofs.Reading.{bit-by}
use Rattle.sources.proofs.stippled.Goals as goal

pub returns : goal.returns
unfolding stippled_of
returns c =
    let s = c.args in
    rw (c.by_bit.ensures, c.byte_at-value.ensures, ← c.in_ok-p.ensures)
    (bit-by s.c s.g s.extent s.buffer.now _ _ c.in_ok-x.ensures (Some _) (search rules))
