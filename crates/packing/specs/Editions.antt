-- The bytes of a list in either edition (01, Entry layout; 02, R-4). A list is its entries, by place, and their number.
use Rattle.std.specs.Prelude.{cond, Option, Some, None, List, [], ◌∷◌, ◌++◌, ℕ, zero, suc, ◌+◌, ◌*◌, ◌/◌, ◌%◌, ltb}
use Rattle.entries.specs.Layout.{decoded_of}
use Rattle.entries.specs.declared.decoding.Entry.{Entry}

-- f 0, f 1, .. f (n - 1), one after the other.
unfoldable pub strung : (ℕ → List ℕ) → ℕ → List ℕ
strung f zero = []
strung f (suc n) = strung f n ++ f n

-- (02, R-4) "32-bit data, most significant first"
abbrev pub word_bytes : ℕ → List ℕ
word_bytes w = (w / 16777216 % 256) ∷ (w / 65536 % 256) ∷ (w / 256 % 256) ∷ (w % 256) ∷ []

-- Edition 1 (01, Entry layout): "Bits 39..35 register, 34..32 zero, 31..0 data", the register modulo 32 and the bits called
-- zero modulo 8.
unfoldable pub entry_bytes : Entry → List ℕ
entry_bytes e = (e.register % 32 * 8 + e.spare % 8) ∷ word_bytes e.word

abbrev pub list_of : (ℕ → Entry) → ℕ → List ℕ
list_of e n = strung (λ k. entry_bytes (e k)) n

-- Edition 2 (02, R-4): "one zero bit, three 5-bit register numbers, then three 32-bit data, most significant first, 14 bytes
-- in all".
abbrev pub head_of : ℕ → ℕ → ℕ → ℕ
head_of a b c = a % 32 * 1024 + b % 32 * 32 + c % 32

abbrev pub head_bytes : ℕ → List ℕ
head_bytes h = (h / 256 % 256) ∷ (h % 256) ∷ []

unfoldable pub group_bytes : Entry → Entry → Entry → List ℕ
group_bytes a b c =
    head_bytes (head_of a.register b.register c.register) ++ (word_bytes a.word ++ (word_bytes b.word ++ word_bytes c.word))

-- (02, R-4) "missing entries at its end have number 31 and data 0"
abbrev pub missing : Entry
missing = record { register = 31; spare = 0; word = 0 }

abbrev pub or_missing : (ℕ → Entry) → ℕ → ℕ → Entry
or_missing e n k = cond (ltb k n) (e k) missing

-- The groups begun by n entries, three to a group.
abbrev pub groups_for : ℕ → ℕ
groups_for n = (n + 2) / 3

abbrev pub packed_of : (ℕ → Entry) → ℕ → List ℕ
packed_of e n =
    strung (λ g. group_bytes (or_missing e n (3 * g)) (or_missing e n (3 * g + 1)) (or_missing e n (3 * g + 2))) (groups_for n)

-- Group g of an edition 1 list in memory, with what stands for a missing entry past its end.
abbrev pub whole_or : Option Entry → Entry
whole_or (Some e) = e
whole_or None = missing

abbrev pub present_of : List ℕ → ℕ → Entry
present_of l k = whole_or (decoded_of l k)

abbrev pub packed_group : List ℕ → ℕ → List ℕ
packed_group l g = group_bytes (present_of l (3 * g)) (present_of l (3 * g + 1)) (present_of l (3 * g + 2))
