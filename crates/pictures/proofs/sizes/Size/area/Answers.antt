-- The product fits 64 bits (`product-most`).
use native.Mathlib.Omega.{arith}
use Rattle.lemmas.proofs.Products.{product-most}
use borrow.Author.Rules.{rules}
use Rattle.pictures.proofs.sizes.Size.area.Goals as goal

pub overflow_mul-result : goal.overflow_mul-result
overflow_mul-result c = omega (arith, product-most c.args.self.width c.args.self.height (search rules) (search rules))
