-- At once where no pixel is a byte of bits (`apart-rows`), else one by one (`within-rows`).
use mathlib.Core.Path.{◌∙◌}
use Rattle.blits.proofs.BitRows.{bits-fit, bytes-far, rows-stay, apart-rows, within-rows}
use Rattle.blits.proofs.bit_loops.stipple_within.Goals as goal

pub expand_rows-requires-clause-stay : goal.expand_rows-requires-clause-stay
expand_rows-requires-clause-stay c =
    rows-stay c.args.rows _ c.requires.0 c.requires.2 _ c.requires.1 (c.is_apart.ensures c.if-is_apart.true)

pub returns-then-is_apart : goal.returns-then-is_apart
returns-then-is_apart c =
    λ other.
    c.expand_rows.ensures
    ∙ apart-rows c.args.rows _ c.requires.0 c.requires.2 _ c.requires.1 (c.is_apart.ensures c.if-is_apart.true) c.args.s c.args.back other
    c.args.buffer.now

pub draw_rows_apart-requires : goal.draw_rows_apart-requires
draw_rows_apart-requires c =
    let rows = c.args.rows in
    rw c.byte_rows.ensures
    (record {
      each = λ k h. (c.requires.1.within k h, bits-fit rows _ c.requires.0 c.requires.2 k h);
      far = c.requires.1.far;
      source-far = bytes-far rows _ c.requires.0 c.requires.2;
    })

pub returns : goal.returns
returns c =
    λ other.
    (rw c.byte_rows.ensures at c.draw_rows_apart.ensures) ∙ within-rows c.args.rows _ c.requires.0 c.requires.2 c.args.s c.args.back other c.args.buffer.now
