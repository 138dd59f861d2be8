-- Which entries are legal (01, Entry layout).
use Rattle.std.specs.Prelude.{Bool, false, Option, Some, None, not, ◌&&◌, ◌||◌, List, ℕ, ◌/◌, ◌%◌, ◌^◌, eqb, leb, ltb}
use Rattle.entries.specs.Layout.{decoded_of}
use Rattle.entries.specs.Fields.{command_of, is_blit, is_line, length_of, pscl, sptr, sscl}
use Rattle.entries.specs.declared.decoding.Entry.{Entry}
use Rattle.entries.specs.declared.fields.Command.{Command}

-- "BITBLT: .. NLST, PRST zero"; KEY only without SOLID. STPL is legal since 02, R-2: "6 stays for KEY with STPL and for
-- TRNSP with neither STPL nor SOLID." APAT "is legal for a BITBLT with SOLID, STPL and KEY zero" (02, R-7).
abbrev pub blit_legal : Command → Bool
blit_legal c =
    not c.nlst
    && not c.prst
    && (not c.trnsp || (c.stpl || c.solid))
    && (not c.key || not (c.stpl || c.solid))
    && (not c.apat || not (c.key || (c.stpl || c.solid)))

-- "LINE, PLINE: KEY and source zero; SOLID or STPL set." And not "APAT with any other command or style".
abbrev pub line_legal : Command → Bool
line_legal c = not c.key && not c.from_virtual && not c.apat && (c.solid || c.stpl)

-- Bits 13 to 0 "rest zero"; "NOOP: all else zero. Other opcodes are illegal."
unfoldable pub cmd_legal : ℕ → Bool
cmd_legal word =
    let c = command_of word in
    eqb word 0 || (eqb (word % 2 ^ 14) 0 && (is_blit c && blit_legal c || is_line c && line_legal c))

-- bits 31 to 16 "rest zero. Illegal where SSCL > PSCL, or SPTR is not below the length."
unfoldable pub pctrl_legal : ℕ → Bool
pctrl_legal word =
    ltb word (2 ^ 16) && leb (sscl word) (pscl word) && ltb (sptr word) (length_of word)

-- "0 CMD, 1 FORE, 2 BACK, 3 MASK, 4 KEY, 5 LPAT, 6 PCTRL, 7 CLPTL, 8 CLPBR, 9 XY0, 10 XY2, 11 XY3, 12 XY1. 13 to 31 are
-- illegal. FORE, BACK, MASK, KEY: 0 to 255. LPAT: any." The points are any too. "XY2: width, then height, each 0 to
-- 2,048. XY3: 0 to 3."
unfoldable pub data_legal : ℕ → ℕ → Bool
data_legal register word =
    eqb register 0 && cmd_legal word
    || leb 1 register && leb register 4 && ltb word 256
    || eqb register 5
    || eqb register 6 && pctrl_legal word
    || leb 7 register && leb register 9
    || eqb register 10 && leb (word / 2 ^ 16) 2048 && leb (word % 2 ^ 16) 2048
    || eqb register 11 && leb word 3
    || eqb register 12

abbrev pub entry_legal : Entry → Bool
entry_legal e = eqb e.spare 0 && data_legal e.register e.word

abbrev pub decoded_legal : Option Entry → Bool
decoded_legal (Some e) = entry_legal e
decoded_legal None = false

abbrev pub legal_at : List ℕ → ℕ → Bool
legal_at l k = decoded_legal (decoded_of l k)
