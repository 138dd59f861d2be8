-- A refusal is the ground of its test (`read-wrong-size`, `read-refused`); else the pixels from the start that was found are as
-- many as the buffer has, and are copied over it (`read_all`).
use mathlib.Core.Path.{◌≡◌, sym, ◌∙◌}
use native.Mathlib.Omega.{arith}
use Rattle.std.proofs.lemmas.Result.{err_from_is_err_and}
use Rattle.pictures.specs.declared.reading.ReadError.TheVariants.{NotAPicture}
use Rattle.pictures.proofs.Puts.{part-is}
use Rattle.pictures.proofs.Rasters.{raster-fits, read-wrong-size, read-refused, read_all}
use Rattle.pictures.proofs.reading.read_picture.Goals as goal

pub returns-then-buffer-area : goal.returns-then-buffer-area
returns-then-buffer-area c = read-wrong-size _ _ _ _ _ c.area.ensures c.if-buffer-area.true

pub returns-in_err-start : goal.returns-in_err-start
returns-in_err-start c =
    let none = c.in_err-start.ensures.ok_part in
    let err = rw none at c.in_err-start.ensures.value in
    let p = err_from_is_err_and c.from_residual.result c.from_residual.ensures.1 in
    let is : p.0 ≡ NotAPicture = cc in
    rw (p.1, is) (read-refused _ _ _ _ _ c.area.ensures c.if-buffer-area.false (sym none ∙ c.raster_start.ensures))

pub slice_bounds-copy_from_slice-count : goal.slice_bounds-copy_from_slice-count
slice_bounds-copy_from_slice-count c = (raster-fits _ _ _ _ (sym c.in_ok-start.ensures.ok_part ∙ c.raster_start.ensures)).0

pub slice_bounds-copy_from_slice-start : goal.slice_bounds-copy_from_slice-start
slice_bounds-copy_from_slice-start c = (raster-fits _ _ _ _ (sym c.in_ok-start.ensures.ok_part ∙ c.raster_start.ensures)).0

pub copy_from_slice-requires : goal.copy_from_slice-requires
copy_from_slice-requires c =
    rw (part-is c.args.picture.now c.in_ok-start.start)
    (omega (arith, (raster-fits _ _ _ _ (sym c.in_ok-start.ensures.ok_part ∙ c.raster_start.ensures)).1))

pub returns : goal.returns
returns c =
    read_all _ _ _ _ _ c.area.ensures c.if-buffer-area.false _ _ (sym c.in_ok-start.ensures.ok_part ∙ c.raster_start.ensures)
    c.copy_from_slice.ensures.after
