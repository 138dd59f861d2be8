-- Files that show the rules of edition 2 (02, R-4); computed in proofs/Examples.antt.
use Rattle.std.specs.Prelude.{◌≡◌, List, [], ◌∷◌, ℕ}
use Rattle.packing.specs.Reports.{Report, report}
use Rattle.packing.specs.Conversions.{Converted, pack_of, pack_report, unpack_of, unpack_report}

abbrev gives : Report → List ℕ → Converted
gives r output = record { report = r; output = output }

-- A group of three entries, by its two first bytes and the last byte of each of the data.
abbrev pub group : ℕ → ℕ → ℕ → ℕ → ℕ → List ℕ
group head low a b c = head ∷ low ∷ 0 ∷ 0 ∷ 0 ∷ a ∷ 0 ∷ 0 ∷ 0 ∷ b ∷ 0 ∷ 0 ∷ 0 ∷ c ∷ []

-- FORE 7 alone in its group, 0 00001 11111 11111: both ways, with the output past it.
abbrev pub OneEntry : Type 0
OneEntry =
    (pack_of (8 ∷ 0 ∷ 0 ∷ 0 ∷ 7 ∷ []) (9 ∷ 9 ∷ 9 ∷ 9 ∷ 9 ∷ 9 ∷ 9 ∷ 9 ∷ 9 ∷ 9 ∷ 9 ∷ 9 ∷ 9 ∷ 9 ∷ 5 ∷ [])
    ≡ gives (report 0 0 14) (7 ∷ 255 ∷ 0 ∷ 0 ∷ 0 ∷ 7 ∷ 0 ∷ 0 ∷ 0 ∷ 0 ∷ 0 ∷ 0 ∷ 0 ∷ 0 ∷ 5 ∷ []))
    × (unpack_of (group 7 255 7 0 0) (9 ∷ 9 ∷ 9 ∷ 9 ∷ 9 ∷ 5 ∷ []) ≡ gives (report 0 0 5) (8 ∷ 0 ∷ 0 ∷ 0 ∷ 7 ∷ 5 ∷ []))

-- FORE 7, XY3 2 and XY1 (0, 3): 0 00001 01011 01100.
abbrev pub ThreeEntries : Type 0
ThreeEntries =
    unpack_of (group 5 108 7 2 3) (9 ∷ 9 ∷ 9 ∷ 9 ∷ 9 ∷ 9 ∷ 9 ∷ 9 ∷ 9 ∷ 9 ∷ 9 ∷ 9 ∷ 9 ∷ 9 ∷ 9 ∷ [])
    ≡ gives (report 0 0 15) (8 ∷ 0 ∷ 0 ∷ 0 ∷ 7 ∷ 88 ∷ 0 ∷ 0 ∷ 0 ∷ 2 ∷ 96 ∷ 0 ∷ 0 ∷ 0 ∷ 3 ∷ [])

-- "2 for an input not of whole entries or groups, or an output too short for that many entries; 3 for no input bytes"; what
-- is lent stays. "6 for an illegal entry": a spare bit, and the number 31, in edition 1.
abbrev pub Refused : Type 0
Refused =
    (unpack_of (group 7 255 7 0 0) (9 ∷ 9 ∷ 9 ∷ 9 ∷ []) ≡ gives (report 2 0 0) (9 ∷ 9 ∷ 9 ∷ 9 ∷ []))
    × (unpack_report (7 ∷ []) 5 ≡ report 2 0 0)
    × (unpack_report [] 0 ≡ report 3 0 0)
    × (pack_report (8 ∷ 0 ∷ 0 ∷ 0 ∷ 7 ∷ []) 13 ≡ report 2 0 0)
    × (pack_report (8 ∷ 0 ∷ 0 ∷ 0 ∷ []) 14 ≡ report 2 0 0)
    × (pack_report [] 0 ≡ report 3 0 0)
    × (pack_report (8 ∷ 0 ∷ 0 ∷ 0 ∷ 7 ∷ 9 ∷ 0 ∷ 0 ∷ 0 ∷ 7 ∷ []) 14 ≡ report 6 1 0)
    × (pack_report (248 ∷ 0 ∷ 0 ∷ 0 ∷ 0 ∷ []) 14 ≡ report 6 0 0)

-- "10 for a wrong zero bit, a misplaced 31 or its data not zero": the zero bit 1, a last 31 with data, 31s alone in the last
-- group, a 31 before an entry, and one in a group that is not the last.
abbrev pub MalformedFiles : Type 0
MalformedFiles =
    (unpack_report (group 135 255 7 0 0) 5 ≡ report 10 0 0)
    × (unpack_report (group 7 255 7 0 1) 5 ≡ report 10 0 0)
    × (unpack_report (group 127 255 0 0 0) 0 ≡ report 10 0 0)
    × (unpack_report (group 7 236 7 0 3) 15 ≡ report 10 0 0)
    × (unpack_report (7 ∷ 255 ∷ 0 ∷ 0 ∷ 0 ∷ 7 ∷ 0 ∷ 0 ∷ 0 ∷ 0 ∷ 0 ∷ 0 ∷ 0 ∷ 0 ∷ group 7 255 7 0 0) 20 ≡ report 10 0 0)

-- 6 before 10, and its place with the 31s before it: register 13 after a 31, the zero bit 1.
abbrev pub IllegalFirst : Type 0
IllegalFirst = unpack_report (group 135 237 7 0 0) 15 ≡ report 6 2 0
