-- The product of two numbers of 32 bits.
-- Assumes nothing.
use Prim.Native.Nat.{ℕ, ◌*◌, ◌≤◌, ◌<◌}
use native.Mathlib.Nat.{mul-le-mul}
use native.Mathlib.Omega.{arith}

pub product-most : (a b : ℕ) → a < 4294967296 → b < 4294967296 → a * b ≤ 4294967295 * 4294967295
product-most a b h l = mul-le-mul {n₁ = a} {m₁ = b} {n₂ = 4294967295} {m₂ = 4294967295} (omega arith) (omega arith)
