-- P7 (01, Boards to check).
use Rattle.std.specs.Prelude.{◌≡◌, Bool, true, false, List, [], ◌∷◌, ℕ, zero, suc}
use Rattle.entries.specs.Fields.{pattern_control_of}
use Rattle.registers.specs.Patterns.{start_of, pattern_bit, next_of}
use Rattle.entries.specs.declared.fields.PatternControl.{PatternControl}
use Rattle.registers.specs.declared.dashes.Pattern.{Pattern}

-- the bits of n pixels from a state on
abbrev pub bits_from : ℕ → ℕ → PatternControl → Pattern → List Bool
bits_from zero lpat c p = []
bits_from (suc n) lpat c p = pattern_bit lpat p ∷ bits_from n lpat c (next_of c p)

abbrev pub P7 : Type 0
P7 =
    bits_from 7 5 (pattern_control_of 0x2123) (start_of (pattern_control_of 0x2123))
    ≡ (false ∷ true ∷ true ∷ true ∷ true ∷ false ∷ false ∷ [])
