-- The register file (01, Entry layout).
use Rattle.std.specs.Prelude.{◌≡◌, Bool, true, cond, ◌&&◌, ℕ, eqb}
use Rattle.entries.specs.Legality.{data_legal}
use Rattle.registers.specs.declared.file.Registers.{Registers}

-- "Fresh: all registers zero but MASK 255"
abbrev pub fresh_registers : Registers
fresh_registers =
    record {
      cmd = 0;
      fore = 0;
      back = 0;
      mask = 255;
      key = 0;
      lpat = 0;
      pctrl = 0;
      clptl = 0;
      clpbr = 0;
      xy0 = 0;
      xy2 = 0;
      xy3 = 0;
      xy1 = 0;
    }

-- The registers with a word in the register of a number.
unfoldable pub written_of : Registers → ℕ → ℕ → Registers
written_of g number word =
    record {
      cmd = cond (eqb number 0) word g.cmd;
      fore = cond (eqb number 1) word g.fore;
      back = cond (eqb number 2) word g.back;
      mask = cond (eqb number 3) word g.mask;
      key = cond (eqb number 4) word g.key;
      lpat = cond (eqb number 5) word g.lpat;
      pctrl = cond (eqb number 6) word g.pctrl;
      clptl = cond (eqb number 7) word g.clptl;
      clpbr = cond (eqb number 8) word g.clpbr;
      xy0 = cond (eqb number 9) word g.xy0;
      xy2 = cond (eqb number 10) word g.xy2;
      xy3 = cond (eqb number 11) word g.xy3;
      xy1 = cond (eqb number 12) word g.xy1;
    }

-- No "register holds a value illegal".
unfoldable pub registers_legal : Registers → Bool
registers_legal g =
    data_legal 0 g.cmd
    && data_legal 1 g.fore
    && data_legal 2 g.back
    && data_legal 3 g.mask
    && data_legal 4 g.key
    && data_legal 5 g.lpat
    && data_legal 6 g.pctrl
    && data_legal 7 g.clptl
    && data_legal 8 g.clpbr
    && data_legal 9 g.xy0
    && data_legal 10 g.xy2
    && data_legal 11 g.xy3
    && data_legal 12 g.xy1

-- Writing a legal entry keeps the registers legal; proved in proofs/Writes.antt.
abbrev pub StaysLegal : Type 0
StaysLegal =
    (g : Registers) (number word : ℕ) → data_legal number word ≡ true → registers_legal g ≡ true
    → registers_legal (written_of g number word) ≡ true

-- The fresh registers are legal.
abbrev pub FreshLegal : Type 0
FreshLegal = registers_legal fresh_registers ≡ true
