-- What holds of the two editions together (02, R-4); proved in proofs/RoundTrip.antt.
use Rattle.std.specs.Prelude.{◌≡◌, true, List, ◌++◌, ℕ, ◌+◌, ◌*◌, ◌/◌, ◌≤◌, ◌<◌, length, get_or, drop}
use Rattle.entries.specs.Layout.{entry_of}
use Rattle.entries.specs.Legality.{entry_legal}
use Rattle.entries.specs.declared.decoding.Entry.{Entry}
use Rattle.packing.specs.Editions.{list_of, groups_for, packed_of}
use Rattle.packing.specs.Groups.{position_of, count_of}
use Rattle.packing.specs.Reports.{report}
use Rattle.packing.specs.Conversions.{Converted, unpack_report, pack_of, unpack_of}

-- Numbers that are bytes.
abbrev pub Bytes : List ℕ → Type 0
Bytes l = (i : ℕ) → get_or l i 0 < 256

-- "legal lists of 1 to 4,096 entries", in edition 1
pub record LegalList (l : List ℕ) (n : ℕ) : Type 0 where
  pub bytes : Bytes l
  pub whole : length l ≡ 5 * n
  pub some : 0 < n
  pub few : n ≤ 4096
  pub legal : (k : ℕ) → k < n → entry_legal (entry_of l k) ≡ true

-- A conversion that is done: the bytes it wrote, and the output past them as it was.
abbrev pub done : List ℕ → ℕ → List ℕ → Converted
done new written out = record { report = report 0 0 written; output = new ++ drop written out }

-- They pack, and "come back the same", where both outputs have room.
abbrev pub ComesBack : Type 0
ComesBack =
    (l : List ℕ) (n : ℕ) → LegalList l n → (out back : List ℕ) → 14 * groups_for n ≤ length out → 5 * n ≤ length back
    → (pack_of l out ≡ done (packed_of (entry_of l) n) (14 * groups_for n) out)
    × (unpack_of (packed_of (entry_of l) n) back ≡ done l (5 * n) back)

-- "every accepted edition 2 file is the one its list gives"
abbrev pub OneForm : Type 0
OneForm =
    (m : List ℕ) → Bytes m → (back : List ℕ) (written : ℕ) → unpack_report m (length back) ≡ report 0 0 written
    → (out : List ℕ) → length m ≤ length out
    → (unpack_of m back ≡ done (list_of (position_of m) (count_of m)) written back)
    × (pack_of (list_of (position_of m) (count_of m)) out ≡ done m (length m) out)

-- The size of either edition: 5 bytes an entry, 14 for each group of three begun.
abbrev pub Sizes : Type 0
Sizes =
    (e : ℕ → Entry) (n : ℕ) → (length (list_of e n) ≡ 5 * n) × (length (packed_of e n) ≡ 14 * ((n + 2) / 3))
