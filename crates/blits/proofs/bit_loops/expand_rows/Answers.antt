-- What each row needs, by those of bits (`bits-fit`).
use Rattle.blits.proofs.BitRows.{bits-fit, bytes-far}
use Rattle.blits.proofs.bit_loops.expand_rows.Goals as goal

pub draw_rows-requires : goal.draw_rows-requires
draw_rows-requires g c =
    let r = c.requires in
    let wide = r.source.0 in
    rw c.byte_rows-bytes.ensures
    (record {
      each =
          λ k h. (
            c.is_narrow.ensures c.if-is_narrow.true,
            r.fit.within k h,
            record { fit = bits-fit c.args.rows _ wide r.source.1 k h; few = r.few; stay = r.stay k h },
          );
      far = r.fit.far;
      source-far = bytes-far c.args.rows _ wide r.source.1;
    })

pub draw_rows-requires-2 : goal.draw_rows-requires-2
draw_rows-requires-2 g c =
    let r = c.requires in
    let wide = r.source.0 in
    rw c.byte_rows-bytes.ensures
    (record {
      each = λ k h. (r.fit.within k h, record { fit = bits-fit c.args.rows _ wide r.source.1 k h; few = r.few; stay = r.stay k h });
      far = r.fit.far;
      source-far = bytes-far c.args.rows _ wide r.source.1;
    })
