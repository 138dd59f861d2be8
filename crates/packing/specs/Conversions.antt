-- What packing and unpacking answer, and the lent output after them (02, R-4): "Refusals, lowest number first".
use Rattle.std.specs.Prelude.{Bool, true, not, cond, Option, Some, None, Result, ◌&&◌, ◌||◌, List, ◌++◌, ℕ, zero, suc, ◌+◌, ◌*◌, ◌/◌, ◌%◌, eqb, ltb, length, drop}
use Rattle.entries.specs.Layout.{entry_of}
use Rattle.entries.specs.Legality.{entry_legal}
use Rattle.entries.specs.declared.decoding.Entry.{Entry}
use Rattle.packing.specs.Editions.{list_of, groups_for, packed_of}
use Rattle.packing.specs.Groups.{part, group_of, position_of, count_of}
use Rattle.packing.specs.Reports.{Report, report, report_of}
use Rattle.packing.specs.declared.groups.Group.{Group}
use Rattle.packing.specs.declared.outcomes.FileRefusal.{FileRefusal}

-- The first place, of n from p on, at which a test fails; and whether it holds at them all.
unfoldable pub first_not : (ℕ → Bool) → ℕ → ℕ → Option ℕ
first_not f p zero = None
first_not f p (suc n) = cond (f p) (first_not f (suc p) n) (Some p)

unfoldable pub holds : (ℕ → Bool) → ℕ → ℕ → Bool
holds f p zero = true
holds f p (suc n) = f p && holds f (suc p) n

-- "2 for an input not of whole entries or groups, or an output too short for that many entries; 3 for no input bytes; 4 for
-- more than 4,096"; then what the entries are judged to be.
abbrev pub refused_or : Bool → Bool → Bool → Report → Report
refused_or size none many judged = cond size (report 2 0 0) (cond none (report 3 0 0) (cond many (report 4 0 0) judged))

-- ---- edition 1 to edition 2: "6 for an illegal entry"
abbrev pub judged_by : ℕ → Option ℕ → Report
judged_by count (Some place) = report 6 place 0
judged_by count None = report 0 0 (14 * groups_for count)

abbrev pub legality_of : List ℕ → Report
legality_of l = judged_by (length l / 5) (first_not (λ k. entry_legal (entry_of l k)) 0 (length l / 5))

unfoldable pub pack_report : List ℕ → ℕ → Report
pack_report l room =
    let n = length l / 5 in
    refused_or (not (eqb (length l % 5) 0) || ltb room (14 * groups_for n)) (eqb (length l) 0) (ltb 4096 n) (legality_of l)

-- ---- edition 2 to edition 1: "6 for an illegal entry (edition 2: 31s pass here, and a place counts three a group)"
abbrev pub passes : Entry → Bool
passes e = eqb e.register 31 || entry_legal e

-- The first entry of a group that does not pass.
unfoldable pub first_failing : Group → Option ℕ
first_failing x = cond (passes (part x 0)) (cond (passes (part x 1)) (cond (passes (part x 2)) None (Some 2)) (Some 1)) (Some 0)

-- "10 for a wrong zero bit, a misplaced 31 or its data not zero": an entry before the count is no 31; those past it are, and
-- have no data.
abbrev pub placed : Entry → ℕ → ℕ → Bool
placed e place count = cond (ltb place count) (not (eqb e.register 31)) (eqb e.word 0)

abbrev pub well_formed : Group → ℕ → ℕ → Bool
well_formed x place count =
    eqb x.zero 0 && placed (part x 0) place count && placed (part x 1) (place + 1) count && placed (part x 2) (place + 2) count

-- "lowest number first": 6 anywhere before 10 anywhere.
abbrev pub judgement : ℕ → Bool → Option ℕ → Report
judgement count sound (Some place) = report 6 place 0
judgement count sound None = cond sound (report 0 0 (5 * count)) (report 10 0 0)

-- So many groups from group g on, after groups that were sound or not.
abbrev pub judged_from : List ℕ → ℕ → Bool → ℕ → ℕ → Report
judged_from l count sound g groups =
    judgement count (sound && holds (λ k. well_formed (group_of l k) (3 * k) count) g groups)
    (first_not (λ p. passes (position_of l p)) (3 * g) (3 * groups))

-- "a group has at least one entry": the last is not of 31s alone.
abbrev pub last_has_one : List ℕ → ℕ → Bool
last_has_one l count = ltb (3 * (length l / 14)) (count + 3)

abbrev pub judged_whole : List ℕ → ℕ → Report
judged_whole l count = judged_from l count (last_has_one l count) 0 (length l / 14)

unfoldable pub unpack_report : List ℕ → ℕ → Report
unpack_report l room =
    let n = count_of l in
    refused_or (not (eqb (length l % 14) 0) || ltb room (5 * n)) (eqb (length l) 0) (ltb 4096 n)
    (judged_whole l n)

-- ---- the report, and the lent output after the call: (01, What the host hears) "Lent bytes that no rule writes stay, and in a
-- refusal [..] all stay."
pub record Converted : Type 0 where
  pub report : Report
  pub output : List ℕ

abbrev pub converted : Result ℕ FileRefusal → List ℕ → Converted
converted status output = record { report = report_of status; output = output }

abbrev pub output_by : Report → List ℕ → List ℕ → List ℕ
output_by r new out = cond (eqb r.number 0) (new ++ drop r.written out) out

abbrev pub converted_to : List ℕ → List ℕ → Report → Converted
converted_to new out r = record { report = r; output = output_by r new out }

unfoldable pub pack_of : List ℕ → List ℕ → Converted
pack_of l out = converted_to (packed_of (entry_of l) (length l / 5)) out (pack_report l (length out))

unfoldable pub unpack_of : List ℕ → List ℕ → Converted
unpack_of l out = converted_to (list_of (position_of l) (count_of l)) out (unpack_report l (length out))
