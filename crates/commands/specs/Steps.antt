-- One step on the two picture buffers: a pixel visited, or an entry taken (01, Steps and Pixels).
use Rattle.std.specs.Prelude.{◌≡◌, Bool, true, false, not, cond, ◌&&◌, ◌||◌, List, ℕ, zero, suc, ◌+◌, eqb, ltb, length, get_or, set, Option, Some, None}
use Rattle.raster.specs.Raster.{new_byte}
use Rattle.geometry.specs.declared.Extent.{Extent}
use Rattle.entries.specs.Fields.{pattern_control_of, is_line, is_trigger, triggers}
use Rattle.entries.specs.declared.fields.Command.{Command}
use Rattle.entries.specs.declared.decoding.Entry.{Entry}
use Rattle.registers.specs.Registers.{fresh_registers, written_of}
use Rattle.registers.specs.Patterns.{start_of, next_of, moves_of}
use Rattle.registers.specs.declared.dashes.Pattern.{Pattern}
use Rattle.tiles.specs.declared.Fill.{Fill}
use Rattle.commands.specs.Hatching.{fill_taken, fill_after}
use Rattle.commands.specs.Visits.{command_in, Rule, shows, count_by, cell_by, target_from, target_of, source_from}
use Rattle.commands.specs.declared.Engine.{Engine}

-- An engine with the tile of its fill and its two picture buffers.
pub record Scene : Type 0 where
  pub engine : Engine
  pub fill : Fill
  pub display : List ℕ
  pub virt : List ℕ

abbrev pub scene : Engine → Fill → List ℕ → List ℕ → Scene
scene e f d v = record { engine = e; fill = f; display = d; virt = v }

-- "Fresh: all registers zero but MASK 255; pattern at 0, 0; last point (0, 0)"
abbrev pub fresh_engine : Engine
fresh_engine =
    record {
      under_way = false;
      visited = 0;
      registers = fresh_registers;
      pattern = record { place = 0; repeat = 0 };
      last = 0;
    }

-- A buffer after a visit to the place of a pixel.
abbrev pub inked_at : Engine → ℕ → Option ℕ → List ℕ → List ℕ
inked_at e value (Some i) buffer = set buffer i (new_byte (command_in e).code value (get_or buffer i 0) e.registers.mask)
inked_at e value None buffer = buffer

abbrev pub inked : Engine → Option ℕ → Option ℕ → List ℕ → List ℕ
inked e (Some v) place buffer = inked_at e v place buffer
inked e None place buffer = buffer

-- The pattern after a visit: "The pattern is to move after every pixel that a line without SOLID visits, drawn, clipped or
-- off the buffer" (02, R-1).
abbrev pub in_dashes : Command → Bool
in_dashes c = is_line c && not c.solid

unfoldable pub pattern_after : Engine → Pattern
pattern_after e = cond (in_dashes (command_in e)) (next_of (pattern_control_of e.registers.pctrl) e.pattern) e.pattern

-- One pixel fewer to visit; "The last point is XY1 of the latest finished command .. it is set in the step that visits
-- the command's last pixel".
unfoldable pub advanced_by : Rule → Extent → Engine → Engine
advanced_by rule extent e =
    cond (ltb (e.visited + 1) (count_by rule extent e))
    (record {
      under_way = true;
      visited = e.visited + 1;
      registers = e.registers;
      pattern = pattern_after e;
      last = e.last;
    })
    (record {
      under_way = false;
      visited = 0;
      registers = e.registers;
      pattern = pattern_after e;
      last = e.registers.xy1;
    })

abbrev pub advanced_of : Extent → Engine → Engine
advanced_of extent e = advanced_by shows extent e

-- One pixel visited.
unfoldable pub visit_by : Rule → Extent → Scene → Scene
visit_by rule extent s =
    let e = s.engine in
    let cell = cell_by rule extent e e.visited in
    let place = target_from extent e e.visited cell in
    let source = source_from extent e s.fill cell s.display s.virt in
    record {
      engine = advanced_by rule extent e;
      fill = fill_after (advanced_by rule extent e) s.fill;
      display = cond (command_in e).to_virtual s.display (inked e source place s.display);
      virt = cond (command_in e).to_virtual (inked e source place s.virt) s.virt;
    }

abbrev pub visit_of : Extent → Scene → Scene
visit_of extent s = visit_by shows extent s

-- n pixels visited, one after the other.
unfoldable pub visits_by : Rule → ℕ → Extent → Scene → Scene
visits_by rule zero extent s = s
visits_by rule (suc n) extent s = visit_by rule extent (visits_by rule n extent s)

abbrev pub visits_of : ℕ → Extent → Scene → Scene
visits_of n extent s = visits_by shows n extent s

-- The pattern state that an entry leaves: "SPTR and SSCL on writing PCTRL, and at a line's trigger with PRST".
abbrev pub sets_pattern : ℕ → Engine → Bool
sets_pattern number e = eqb number 6 || (is_trigger number && is_line (command_in e) && (command_in e).prst)

abbrev pub pattern_set : ℕ → Engine → Pattern
pattern_set number e = cond (sets_pattern number e) (start_of (pattern_control_of e.registers.pctrl)) e.pattern

-- The last point is set "at the trigger where there is none to visit", "NOOP not counted".
abbrev pub finishes : Rule → Extent → ℕ → Engine → Bool
finishes rule extent number e = triggers number (command_in e) && eqb (count_by rule extent e) 0

-- An engine with an entry's word in its register.
abbrev pub with_word : Engine → Entry → Engine
with_word e entry =
    record {
      under_way = false;
      visited = 0;
      registers = written_of e.registers entry.register entry.word;
      pattern = e.pattern;
      last = e.last;
    }

abbrev pub triggered_by : Rule → Extent → ℕ → Engine → Engine
triggered_by rule extent number e =
    record {
      under_way = triggers number (command_in e) && ltb 0 (count_by rule extent e);
      visited = 0;
      registers = e.registers;
      pattern = pattern_set number e;
      last = cond (finishes rule extent number e) e.registers.xy1 e.last;
    }

abbrev pub triggered_of : Extent → ℕ → Engine → Engine
triggered_of extent number e = triggered_by shows extent number e

unfoldable pub entered_by : Rule → Extent → Engine → Entry → Engine
entered_by rule extent e entry = triggered_by rule extent entry.register (with_word e entry)

abbrev pub entered_of : Extent → Engine → Entry → Engine
entered_of extent e entry = entered_by shows extent e entry

-- One entry taken.
abbrev pub taken_by : Rule → Extent → Scene → Entry → Scene
taken_by rule extent s entry =
    let e = entered_by rule extent s.engine entry in
    scene e (fill_taken extent e s.display s.virt) s.display s.virt

abbrev pub taken_of : Extent → Scene → Entry → Scene
taken_of extent s entry = taken_by shows extent s entry

-- What holds of every visit; proved in proofs/Visiting.antt. Buffers keep their lengths.
abbrev pub KeepsLengths : Type 0
KeepsLengths =
    (extent : Extent) (s : Scene)
    → (length (visit_of extent s).display ≡ length s.display) × (length (visit_of extent s).virt ≡ length s.virt)

-- A pixel that clip or buffer hides is visited and leaves the buffers as they are.
abbrev pub HiddenDrawsNothing : Type 0
HiddenDrawsNothing =
    (extent : Extent) (s : Scene) → target_of extent s.engine s.engine.visited ≡ None
    → ((visit_of extent s).display ≡ s.display)
    × ((visit_of extent s).virt ≡ s.virt)

-- Dashes do not creep: n visits of a line without SOLID move the pattern n times, whatever clip and buffers are.
abbrev pub MovesByVisits : Type 0
MovesByVisits =
    (n : ℕ) (extent : Extent) (s : Scene) → in_dashes (command_in s.engine) ≡ true
    → (visits_of n extent s).engine.pattern
    ≡ moves_of (pattern_control_of s.engine.registers.pctrl) n s.engine.pattern

-- No visit of another command moves it.
abbrev pub OthersMoveNothing : Type 0
OthersMoveNothing =
    (n : ℕ) (extent : Extent) (s : Scene) → in_dashes (command_in s.engine) ≡ false
    → (visits_of n extent s).engine.pattern ≡ s.engine.pattern
