-- Entries (01, Entry layout): "Bits 39..35 register, 34..32 zero, 31..0 data", most significant first, 5 bytes an entry.
use Rattle.std.specs.Prelude.{cond, Option, Some, None, List, ℕ, ◌+◌, ◌*◌, ◌/◌, ◌%◌, ltb, length, get_or}
use Rattle.entries.specs.declared.decoding.Entry.{Entry}

-- Four bytes as one number, most significant first.
abbrev pub joined : ℕ → ℕ → ℕ → ℕ → ℕ
joined a b c d = a * 16777216 + b * 65536 + c * 256 + d

-- The entry at a place, counted from 0 over the whole list memory.
abbrev pub entry_of : List ℕ → ℕ → Entry
entry_of l k =
    record {
      register = get_or l (5 * k) 0 / 8;
      spare = get_or l (5 * k) 0 % 8;
      word = joined (get_or l (5 * k + 1) 0) (get_or l (5 * k + 2) 0) (get_or l (5 * k + 3) 0) (get_or l (5 * k + 4) 0);
    }

-- Past the end of list memory there is none.
unfoldable pub decoded_of : List ℕ → ℕ → Option Entry
decoded_of l k = cond (ltb k (length l / 5)) (Some (entry_of l k)) None

unfoldable pub word_at : List ℕ → ℕ → ℕ
word_at l k = cond (ltb k (length l / 5)) (entry_of l k).word 0
