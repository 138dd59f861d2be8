-- The products fit (`product-fits`), and each byte is drawn by its bit (`products-draw`).
use borrow.Author.Rules.{rules}
use Prim.Native.Nat.{◌<◌}
use native.Mathlib.Omega.{arith}
use Rattle.stipples.proofs.Bytes.{product-fits}
use Rattle.stipples.proofs.Drawing.{products-draw}
use Rattle.stipples.proofs.Inks.draw_by_products.Goals as goal

pub overflow_mul-kept : goal.overflow_mul-kept
overflow_mul-kept c = omega (arith, product-fits c.ones-ones.result c.args.bits c.args.self.keep_change c.ones-ones.ensures)

pub overflow_mul-result : goal.overflow_mul-result
overflow_mul-result c = omega (arith, product-fits c.ones-ones.result c.args.bits c.args.self.flip_change c.ones-ones.ensures)

pub returns : goal.returns
returns c =
    let byte : c.args.bits < 256 = search rules in
    λ s bytes is. products-draw s c.args.self _ c.args.bits c.args.old c.ones-ones.ensures byte bytes is
