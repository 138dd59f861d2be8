-- The files of specs/Examples.antt, computed.
-- Assumes nothing.
use mathlib.Core.Path.{refl}
use Rattle.entries.specs.Legality.{data_legal, cmd_legal, pctrl_legal}
use Rattle.packing.specs.Editions.{strung, entry_bytes, group_bytes}
use Rattle.packing.specs.Groups.{slot_of, closing_of, count_of}
use Rattle.packing.specs.Conversions.{first_not, holds, pack_report, unpack_report, pack_of, unpack_of}
use Rattle.packing.specs.Examples.{OneEntry, ThreeEntries, Refused, MalformedFiles, IllegalFirst}

pub one_entry : OneEntry
unfolding data_legal strung entry_bytes group_bytes slot_of closing_of count_of first_not holds pack_report unpack_report pack_of unpack_of
one_entry = (refl, refl)

pub three-entries : ThreeEntries
unfolding data_legal strung entry_bytes slot_of closing_of count_of first_not holds unpack_report unpack_of
three-entries = refl

pub refused : Refused
unfolding data_legal cmd_legal pctrl_legal slot_of closing_of count_of first_not holds pack_report unpack_report unpack_of
refused = (refl, refl, refl, refl, refl, refl, refl, refl)

pub malformed-files : MalformedFiles
unfolding data_legal slot_of closing_of count_of first_not holds unpack_report
malformed-files = (refl, refl, refl, refl, refl)

pub illegal-first : IllegalFirst
unfolding data_legal cmd_legal pctrl_legal slot_of closing_of count_of first_not unpack_report
illegal-first = refl
