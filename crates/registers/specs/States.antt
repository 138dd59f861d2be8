-- Registers and pattern state together, and when they are malformed (01, What the host hears): "a register holds a value illegal
-- below, the pattern's place is not below the length or its repeat not below the scale".
use Rattle.std.specs.Prelude.{◌≡◌, Bool, true, false, cond, ◌&&◌, ℕ, eqb}
use Rattle.entries.specs.Fields.{pattern_control_of}
use Rattle.entries.specs.Legality.{data_legal}
use Rattle.registers.specs.Registers.{written_of, registers_legal}
use Rattle.registers.specs.Patterns.{start_of, next_of, in_range}
use Rattle.registers.specs.declared.file.Registers.{Registers}
use Rattle.registers.specs.declared.dashes.Pattern.{Pattern}

abbrev pub state_ok : Registers → Pattern → Bool
state_ok g p = registers_legal g && in_range (pattern_control_of g.pctrl) p

-- Writing a legal word keeps them well formed, where PCTRL also sets the pattern, and so does a move of the pattern; proved in
-- proofs/Stays.antt.
abbrev pub WritesStayOk : Type 0
WritesStayOk =
    (g : Registers) (p : Pattern) (number word : ℕ) (sets : Bool) → data_legal number word ≡ true → (sets ≡ false → eqb number 6 ≡ false)
    → state_ok g p ≡ true → let h = written_of g number word in
    state_ok h (cond sets (start_of (pattern_control_of h.pctrl)) p) ≡ true

abbrev pub MovesStayOk : Type 0
MovesStayOk =
    (g : Registers) (p : Pattern) → state_ok g p ≡ true → state_ok g (next_of (pattern_control_of g.pctrl) p) ≡ true
