-- The board record as an image of 32-bit words (01, What the engine has: "The board record has the three sizes, an active slot, a
-- pending slot, the next entry, whether a command is under way, the visited pixels of that command, the registers, the
-- pattern state and the last point"), with the fill after them (02, R-7).
use Rattle.std.specs.Prelude.{◌≡◌, Bool, true, false, ◌&&◌, ◌||◌, List, [], ◌∷◌, ◌++◌, ℕ, ◌+◌, eqb, ltb, length, get_or, set}
use Rattle.registers.specs.declared.dashes.Pattern.{Pattern}
use Rattle.registers.specs.declared.file.Registers.{Registers}
use Rattle.commands.specs.declared.Engine.{Engine}
use Rattle.slots.specs.Slots.{slot_of}
use Rattle.slots.specs.declared.record.Sizes.{Sizes}
use Rattle.slots.specs.declared.record.Slot.{Slot}
use Rattle.tiles.specs.Tiles.{no_fill}
use Rattle.board.specs.Bare.{bare_of}
use Rattle.board.specs.declared.bare.Bare.{Bare}
use Rattle.board.specs.declared.record.Board.{Board}
use Rattle.pramolyt.specs.FillImage.{fill_at, fill_words, fill_in, tile_blank_in, Kept}

-- Where each part begins, in that order, and how many words there are.
abbrev pub sizes_at : ℕ
sizes_at = 0

abbrev pub active_at : ℕ
active_at = 3

abbrev pub pending_at : ℕ
pending_at = 6

abbrev pub next_at : ℕ
next_at = 9

abbrev pub command_at : ℕ
command_at = 10

abbrev pub registers_at : ℕ
registers_at = 12

abbrev pub pattern_at : ℕ
pattern_at = 25

abbrev pub last_at : ℕ
last_at = 27

abbrev pub words : ℕ
words = 61

-- A flag is 1 or 0.
abbrev pub flag_of : Bool → ℕ
flag_of true = 1
flag_of false = 0

-- ---- the words of each part; the registers by their numbers
abbrev pub sizes_words : Sizes → List ℕ
sizes_words z = z.extent.width ∷ z.extent.height ∷ z.entries ∷ []

abbrev pub slot_words : Slot → List ℕ
slot_words s = flag_of s.taken ∷ s.span.start ∷ s.span.count ∷ []

abbrev pub command_words : Engine → List ℕ
command_words e = flag_of e.under_way ∷ e.visited ∷ []

abbrev pub registers_words : Registers → List ℕ
registers_words g =
    g.cmd ∷ g.fore ∷ g.back ∷ g.mask ∷ g.key ∷ g.lpat ∷ g.pctrl ∷ g.clptl ∷ g.clpbr ∷ g.xy0 ∷ g.xy2 ∷ g.xy3 ∷ g.xy1 ∷ []

abbrev pub pattern_words : Pattern → List ℕ
pattern_words p = p.place ∷ p.repeat ∷ []

abbrev pub last_words : Engine → List ℕ
last_words e = e.last ∷ []

-- The words of a record: its parts, one after the other.
abbrev pub words_of : Board → List ℕ
words_of b =
    sizes_words b.sizes
    ++ slot_words (slot_of b.active)
    ++ slot_words b.pending
    ++ (b.active.cursor.next ∷ [])
    ++ command_words b.engine
    ++ registers_words b.engine.registers
    ++ pattern_words b.engine.pattern
    ++ last_words b.engine
    ++ fill_words b.fill

-- Words put into an image from a place on.
abbrev pub put_words : List ℕ → ℕ → List ℕ → List ℕ
put_words w at [] = w
put_words w at (x ∷ xs) = put_words (set w at x) (at + 1) xs

-- ---- the record of some words, part by part
abbrev pub sizes_in : List ℕ → Sizes
sizes_in w =
    record {
      extent = record { width = get_or w sizes_at 0; height = get_or w (sizes_at + 1) 0 };
      entries = get_or w (sizes_at + 2) 0;
    }

abbrev pub slot_in : ℕ → List ℕ → Slot
slot_in at w = record { taken = eqb (get_or w at 0) 1; span = record { start = get_or w (at + 1) 0; count = get_or w (at + 2) 0 } }

abbrev pub registers_in : List ℕ → Registers
registers_in w =
    record {
      cmd = get_or w registers_at 0;
      fore = get_or w (registers_at + 1) 0;
      back = get_or w (registers_at + 2) 0;
      mask = get_or w (registers_at + 3) 0;
      key = get_or w (registers_at + 4) 0;
      lpat = get_or w (registers_at + 5) 0;
      pctrl = get_or w (registers_at + 6) 0;
      clptl = get_or w (registers_at + 7) 0;
      clpbr = get_or w (registers_at + 8) 0;
      xy0 = get_or w (registers_at + 9) 0;
      xy2 = get_or w (registers_at + 10) 0;
      xy3 = get_or w (registers_at + 11) 0;
      xy1 = get_or w (registers_at + 12) 0;
    }

abbrev pub pattern_in : List ℕ → Pattern
pattern_in w = record { place = get_or w pattern_at 0; repeat = get_or w (pattern_at + 1) 0 }

abbrev pub engine_in : List ℕ → Engine
engine_in w =
    record {
      under_way = eqb (get_or w command_at 0) 1;
      visited = get_or w (command_at + 1) 0;
      registers = registers_in w;
      pattern = pattern_in w;
      last = get_or w last_at 0;
    }

abbrev pub board_of : List ℕ → Board
board_of w =
    let a = slot_in active_at w in
    record {
      sizes = sizes_in w;
      active = record { taken = a.taken; cursor = record { span = a.span; next = get_or w next_at 0 } };
      pending = slot_in pending_at w;
      engine = engine_in w;
      fill = fill_in w;
    }

-- The record of an image but for its tile, and one with no tile.
abbrev pub bare_in : List ℕ → Bare
bare_in w = bare_of (board_of w)

abbrev pub untiled : Bare → Board
untiled b = record { sizes = b.sizes; active = b.active; pending = b.pending; engine = b.engine; fill = no_fill }

-- Whether each of the four flags is 0 or 1, and zeros stand where no tile is held.
abbrev pub flags_ok : List ℕ → Bool
flags_ok w =
    ltb (get_or w active_at 0) 2
    && ltb (get_or w pending_at 0) 2
    && ltb (get_or w command_at 0) 2
    && ltb (get_or w fill_at 0) 2
    && (eqb (get_or w fill_at 0) 1 || tile_blank_in w)

-- A record comes back from its image; proved in proofs/RoundTrips.antt.
abbrev pub DecodesEncoded : Type 0
DecodesEncoded = (b : Board) → Kept b.fill → board_of (words_of b) ≡ b

-- The flags of a record's image are 0 or 1, and zeros stand where it holds no tile; proved there too.
abbrev pub EncodesFlags : Type 0
EncodesFlags = (b : Board) → flags_ok (words_of b) ≡ true

-- An image of which that is true comes back from its record, word for word; proved there too.
abbrev pub EncodesDecoded : Type 0
EncodesDecoded = (w : List ℕ) → length w ≡ words → flags_ok w ≡ true → words_of (board_of w) ≡ w
