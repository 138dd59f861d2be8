-- A conversion's answer, handed back as number, bytes written and place.
-- Assumes nothing.
use mathlib.Core.Path.{◌≡◌, ap}
use mathlib.Core.List.{List}
use Prim.Native.Nat.{ℕ}
use Rattle.packing.specs.Reports.{report_of}
use Rattle.packing.specs.Conversions.{converted, pack_of, unpack_of}
use Rattle.std.specs.Prelude.{Result}
use Rattle.packing.specs.declared.outcomes.FileRefusal.{FileRefusal}
use Rattle.pramolyt.specs.Exports.{filed, filed_by, pack_file, unpack_file}

module _ (status : Result ℕ FileRefusal) (output : List ℕ) (n w p : ℕ) (numbered : n ≡ (report_of status).number) (counted : w ≡ (report_of status).written)
    (placed : p ≡ (report_of status).place) where
  pub packs-file : (input out : List ℕ) → converted status output ≡ pack_of input out → filed n w p output ≡ pack_file input out
  unfolding pack_file
  packs-file input out e = rw (numbered, counted, placed) (ap filed_by e)

  pub unpacks-file : (input out : List ℕ) → converted status output ≡ unpack_of input out → filed n w p output ≡ unpack_file input out
  unfolding unpack_file
  unpacks-file input out e = rw (numbered, counted, placed) (ap filed_by e)
