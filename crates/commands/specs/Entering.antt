-- How the code takes an entry: a word is put into its register, and a trigger begins the command in CMD. What that comes to is
-- `entered_of` of Steps; nothing here is needed to read that.
use Rattle.std.specs.Prelude.{false, ℕ}
use Rattle.entries.specs.Fields.{draws}
use Rattle.entries.specs.declared.decoding.Entry.{Entry}
use Rattle.commands.specs.Visits.{command_in}
use Rattle.commands.specs.Steps.{pattern_set, with_word}
use Rattle.commands.specs.declared.Engine.{Engine}

-- The entry that writes a word to a register.
abbrev pub writes : ℕ → ℕ → Entry
writes number word = record { register = number; spare = 0; word = word }

-- A word put into a register, with nothing triggered.
abbrev pub put_of : Engine → ℕ → ℕ → Engine
put_of e number word =
    let w = with_word e (writes number word) in
    record { under_way = false; visited = 0; registers = w.registers; pattern = pattern_set number w; last = e.last }

-- XY1's word put into its register, and a command in CMD that draws under way, whatever it visits.
abbrev pub begin_of : Engine → ℕ → Engine
begin_of e word =
    let w = put_of e 12 word in
    record { under_way = draws (command_in w); visited = 0; registers = w.registers; pattern = w.pattern; last = w.last }

-- An engine with the numbers that decide how many pixels its command visits.
abbrev pub numbered : Engine → ℕ → ℕ → ℕ → ℕ → ℕ → ℕ → ℕ → ℕ → Engine
numbered e cmd last xy0 xy1 xy2 xy3 clptl clpbr =
    let g = e.registers in
    record {
      under_way = e.under_way;
      visited = e.visited;
      registers =
          record {
            cmd = cmd;
            fore = g.fore;
            back = g.back;
            mask = g.mask;
            key = g.key;
            lpat = g.lpat;
            pctrl = g.pctrl;
            clptl = clptl;
            clpbr = clpbr;
            xy0 = xy0;
            xy2 = xy2;
            xy3 = xy3;
            xy1 = xy1;
          };
      pattern = e.pattern;
      last = last;
    }
