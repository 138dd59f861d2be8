-- The fields of CMD and PCTRL (01, Entry layout).
use Rattle.std.specs.Prelude.{Bool, true, false, cond, ◌&&◌, ◌||◌, ℕ, ◌+◌, ◌/◌, ◌%◌, ◌^◌, eqb}
use Rattle.entries.specs.declared.fields.Opcode.{Opcode}
use Rattle.entries.specs.declared.fields.Opcode.TheVariants.{Noop, Blit, Line, Polyline, Unknown}
use Rattle.entries.specs.declared.fields.Command.{Command}
use Rattle.entries.specs.declared.fields.PatternControl.{PatternControl}

-- The field of `width` bits whose lowest is bit `low`.
abbrev pub field : ℕ → ℕ → ℕ → ℕ
field low width word = word / 2 ^ low % 2 ^ width

abbrev pub flag : ℕ → ℕ → Bool
flag low word = eqb (field low 1 word) 1

-- "Opcodes NOOP 0, BITBLT 1, LINE 2, PLINE 5"
abbrev pub opcode_of : ℕ → Opcode
opcode_of n = cond (eqb n 0) Noop (cond (eqb n 1) Blit (cond (eqb n 2) Line (cond (eqb n 5) Polyline (Unknown n))))

-- "opcode 31..28, raster code 27..24, then SOLID 23, TRNSP 22, STPL 21, KEY 20, NLST 19, PRST 18, CLIP 17, source 16,
-- destination 15 (0 display, 1 virtual)"; "CMD bit 14, APAT" (02, R-7)
abbrev pub command_of : ℕ → Command
command_of word =
    record {
      opcode = opcode_of (field 28 4 word);
      code = field 24 4 word;
      solid = flag 23 word;
      trnsp = flag 22 word;
      stpl = flag 21 word;
      key = flag 20 word;
      nlst = flag 19 word;
      prst = flag 18 word;
      clip = flag 17 word;
      from_virtual = flag 16 word;
      to_virtual = flag 15 word;
      apat = flag 14 word;
    }

-- The kinds of commands, by their opcodes. NOOP draws nothing.
abbrev pub blits : Opcode → Bool
blits Noop = false
blits Blit = true
blits Line = false
blits Polyline = false
blits (Unknown n) = false

abbrev pub polylines : Opcode → Bool
polylines Noop = false
polylines Blit = false
polylines Line = false
polylines Polyline = true
polylines (Unknown n) = false

abbrev pub lines : Opcode → Bool
lines Noop = false
lines Blit = false
lines Line = true
lines Polyline = true
lines (Unknown n) = false

abbrev pub is_blit : Command → Bool
is_blit c = blits c.opcode

abbrev pub is_polyline : Command → Bool
is_polyline c = polylines c.opcode

abbrev pub is_line : Command → Bool
is_line c = lines c.opcode

abbrev pub draws : Command → Bool
draws c = is_blit c || is_line c

-- "XY1 triggers the command in CMD": whether a write of a register does, and whether a command that draws is triggered.
abbrev pub is_trigger : ℕ → Bool
is_trigger register = eqb register 12

abbrev pub triggers : ℕ → Command → Bool
triggers register c = is_trigger register && draws c

-- "PLEN 4..0, 0 meaning 32 bits; PSCL 7..5, scale PSCL + 1; SPTR 12..8; SSCL 15..13"
abbrev pub plen : ℕ → ℕ
plen word = word % 2 ^ 5

abbrev pub pscl : ℕ → ℕ
pscl word = field 5 3 word

abbrev pub sptr : ℕ → ℕ
sptr word = field 8 5 word

abbrev pub sscl : ℕ → ℕ
sscl word = field 13 3 word

unfoldable pub length_of : ℕ → ℕ
length_of word = cond (eqb (plen word) 0) 32 (plen word)

abbrev pub pattern_control_of : ℕ → PatternControl
pattern_control_of word = record { length = length_of word; scale = pscl word + 1; place = sptr word; repeat = sscl word }
