-- Bytes put into a memory (01, What the host hears): "A done store puts its bytes into list memory from its first entry on, a done
-- window write into its buffer from its offset on."
use Rattle.std.specs.Prelude.{List, ◌++◌, ℕ, ◌+◌, length, take, drop}

unfoldable pub put_into : List ℕ → ℕ → List ℕ → List ℕ
put_into l at bytes = take at l ++ bytes ++ drop (at + length bytes) l
