-- A number has one digit more than its tenth (`length-tenth`).
use mathlib.Core.Path.{ap, sym, ◌∙◌}
use Prim.Native.Nat.{ℕ, ◌+◌, ◌/◌}
use native.Mathlib.Omega.{arith}
use Rattle.pictures.proofs.Decimals.{length_last, length-tenth, length_most}
use Rattle.pictures.proofs.sizes.+digits.Goals as goal

pub overflow_add-result : goal.overflow_add-result
overflow_add-result t c = omega (arith, length_most (c.args.n / 10))

pub returns-then-n-lt10 : goal.returns-then-n-lt10
returns-then-n-lt10 t c = sym (length_last _ c.if-n-lt10.true)

pub returns-else-n-lt10 : goal.returns-else-n-lt10
returns-else-n-lt10 t c = ap (λ (k : ℕ). k + 1) c.digits.ensures ∙ sym (length-tenth _ c.if-n-lt10.false)
