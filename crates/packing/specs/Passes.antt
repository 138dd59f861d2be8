-- How the code goes through the groups of an edition 2 file: full groups first, then the end. What it answers is `unpack_report`
-- of Conversions; nothing here is needed to read that.
use Rattle.std.specs.Prelude.{Bool, false, cond, ◌&&◌, List, ℕ, zero, suc, ◌-◌, ◌*◌, ◌/◌, ◌%◌, eqb, ltb, length}
use Rattle.entries.specs.Legality.{data_legal, entry_legal}
use Rattle.entries.specs.declared.decoding.Entry.{Entry}
use Rattle.packing.specs.Groups.{part, group_of}
use Rattle.packing.specs.Reports.{Report}
use Rattle.packing.specs.Conversions.{judged_from}
use Rattle.packing.specs.declared.groups.Group.{Group}

-- From group g on to the last.
abbrev pub judged_past : List ℕ → ℕ → Bool → ℕ → Report
judged_past l count sound g = judged_from l count sound g (length l / 14 - g)

-- Three legal entries, of which none is a 31, and the zero bit zero: before the count such a group is sound. A group has no spare
-- bits, so register and word are judged alone.
abbrev pub word_legal : Entry → Bool
word_legal e = data_legal e.register e.word

abbrev pub full_group : Group → Bool
full_group x = eqb x.zero 0 && word_legal (part x 0) && word_legal (part x 1) && word_legal (part x 2)

-- The first place, of n from p on, at which a test fails, or the one past them.
unfoldable pub leading : (ℕ → Bool) → ℕ → ℕ → ℕ
leading f p zero = p
leading f p (suc n) = cond (f p) (leading f (suc p) n) p

-- The last group with one entry or two: the others are 31s by the count, and have no data.
abbrev pub present : Group → ℕ → Bool
present x n =
    eqb x.zero 0 && entry_legal (part x 0) && cond (eqb n 1) (eqb (part x 1).word 0) (entry_legal (part x 1)) && eqb (part x 2).word 0

-- After `from` full groups nothing is left but the entries of such a group.
unfoldable pub rest_sound : List ℕ → ℕ → ℕ → Bool
rest_sound l count from =
    let last = group_of l (length l / 14 - 1) in
    cond (ltb from (count / 3)) false
    (cond (eqb (count % 3) 0) (eqb (3 * (length l / 14)) count) (present last (count % 3)))
