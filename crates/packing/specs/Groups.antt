-- Edition 2 read (02, R-4): its groups, the entry at a position, three a group, and the number of entries.
use Rattle.std.specs.Prelude.{cond, List, [], ◌∷◌, ℕ, zero, suc, ◌+◌, ◌-◌, ◌*◌, ◌/◌, ◌%◌, eqb, length, get_or}
use Rattle.entries.specs.Layout.{joined}
use Rattle.entries.specs.declared.decoding.Entry.{Entry}
use Rattle.packing.specs.declared.groups.Group.{Group}

abbrev pub word_at : List ℕ → ℕ → ℕ
word_at l i = joined (get_or l i 0) (get_or l (i + 1) 0) (get_or l (i + 2) 0) (get_or l (i + 3) 0)

abbrev pub head_at : List ℕ → ℕ → ℕ
head_at l g = get_or l (14 * g) 0 * 256 + get_or l (14 * g + 1) 0

-- Group g: "one zero bit, three 5-bit register numbers, then three 32-bit data". It has no bits for those that edition 1
-- calls zero, so in its entries they are.
abbrev pub group_of : List ℕ → ℕ → Group
group_of l g =
    record {
      zero = head_at l g / 32768;
      entries =
          record { register = head_at l g / 1024 % 32; spare = 0; word = word_at l (14 * g + 2) }
          ∷ record { register = head_at l g / 32 % 32; spare = 0; word = word_at l (14 * g + 6) }
          ∷ record { register = head_at l g % 32; spare = 0; word = word_at l (14 * g + 10) }
          ∷ [];
    }

-- Its entries, from 0 on.
abbrev pub part : Group → ℕ → Entry
part x k = get_or x.entries k (record { register = 0; spare = 0; word = 0 })

unfoldable pub slot_of : Group → ℕ → Entry
slot_of x zero = (part x 0)
slot_of x (suc zero) = (part x 1)
slot_of x (suc (suc k)) = (part x 2)

-- (02, R-4) "a place counts three a group"
abbrev pub position_of : List ℕ → ℕ → Entry
position_of l p = slot_of (group_of l (p / 3)) (p % 3)

-- The 31s that end a group, whatever their data.
unfoldable pub closing_of : Group → ℕ
closing_of x =
    cond (eqb (part x 2).register 31) (cond (eqb (part x 1).register 31) (cond (eqb (part x 0).register 31) 3 2) 1) 0

-- (02, R-4) "An edition 2 input has three entries a group, less the 31s at the end of its last group."
unfoldable pub count_of : List ℕ → ℕ
count_of l = 3 * (length l / 14) - closing_of (group_of l (length l / 14 - 1))
