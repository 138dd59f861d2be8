-- Visit k writes value k m at place k, where m are the bytes as visits 0 to k - 1 left them.
use Rattle.std.specs.Prelude.{List, ℕ, zero, suc, set}

unfoldable pub sweep : (ℕ → ℕ) → (ℕ → List ℕ → ℕ) → ℕ → List ℕ → List ℕ
sweep place value zero l = l
sweep place value (suc k) l = set (sweep place value k l) (place k) (value k (sweep place value k l))
