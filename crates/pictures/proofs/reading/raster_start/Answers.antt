-- Each answer by the tests that the picture passes (`raster-short`, `raster-unframed`, `raster-unsaid`, `raster-from`).
use mathlib.Core.Path.{◌∙◌}
use native.Mathlib.Omega.{arith}
use borrow.Author.Tests.{not-true, not-false}
use Rattle.pictures.proofs.Rasters.{said-of, raster-short, raster-unframed, raster-unsaid, raster-from}
use Rattle.pictures.proofs.reading.raster_start.Goals as goal

pub returns-in_err-start : goal.returns-in_err-start
returns-in_err-start c =
    rw c.from_residual.ensures (raster-short _ _ _ (omega (arith, c.in_err-start.ensures)))

pub returns-then-start-lt3 : goal.returns-then-start-lt3
returns-then-start-lt3 c = raster-short _ _ _ (omega (arith, c.in_ok-start.ensures))

pub returns-then-not-picture-is_white : goal.returns-then-not-picture-is_white
returns-then-not-picture-is_white c = raster-unframed _ _ _ (omega arith) _ (omega arith) _ c.is_white.ensures (not-true _ c.if-not-picture-is_white.true-raw)

pub returns-then-says_size : goal.returns-then-says_size
returns-then-says_size c =
    let o = c.before.before in
    raster-from _ _ _ (omega arith) _ (omega arith) _ o.is_white.ensures (not-false _ o.if-not-picture-is_white.false-raw)
    (said-of _ _ _ _ _ (omega arith) c.says_size.ensures ∙ c.if-says_size.true) _ (omega arith)

pub returns-else-says_size : goal.returns-else-says_size
returns-else-says_size c =
    let o = c.before.before in
    raster-unsaid _ _ _ (omega arith) _ (omega arith) _ o.is_white.ensures (not-false _ o.if-not-picture-is_white.false-raw)
    (said-of _ _ _ _ _ (omega arith) c.says_size.ensures ∙ c.if-says_size.false)
