-- The size fits 64 bits (`size_fits`), and is the header's nine bytes, the digits of its numbers, and the pixels (`size_is`).
use native.Mathlib.Omega.{arith}
use Rattle.pictures.proofs.Puts.{size_is, size_fits}
use borrow.Author.Rules.{rules}
use Rattle.pictures.proofs.sizes.Size.bytes.Goals as goal

pub overflow_add-result : goal.overflow_add-result
overflow_add-result c = let s = c.args.self in omega (arith, size_fits s.width s.height (search rules) (search rules))

pub overflow_add-result-2 : goal.overflow_add-result-2
overflow_add-result-2 c = let s = c.args.self in omega (arith, size_fits s.width s.height (search rules) (search rules))

pub overflow_add-result-3 : goal.overflow_add-result-3
overflow_add-result-3 c = let s = c.args.self in omega (arith, size_fits s.width s.height (search rules) (search rules))

pub returns : goal.returns
returns c = size_is _ _ _ _ _ c.digits.ensures c.digits-2.ensures c.area.ensures
