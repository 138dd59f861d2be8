-- P9 and P10 (01, Boards to check): a copy of four pixels within the display, on a board of one row of six. And lines in
-- dashes that a clip hides in part (02, R-1), on one row of eight. And blits from bits (02, R-2), on one row of four. And blits
-- that show in part (02, R-6). And fills with a tile (02, R-7).
use Rattle.std.specs.Prelude.{◌≡◌, true, false, List, [], ◌∷◌, ℕ, ◌+◌, ◌*◌, take, drop}
use Rattle.lemmas.specs.Numbers.{below}
use Rattle.geometry.specs.declared.Extent.{Extent}
use Rattle.tiles.specs.Tiles.{no_fill, fill_of}
use Rattle.commands.specs.Steps.{Scene, scene, visits_of, entered_of, taken_of}
use Rattle.commands.specs.Record.{fill_ok}
use Rattle.commands.specs.declared.Engine.{Engine}

-- Buffers of one row.
abbrev pub row_of : ℕ → Extent
row_of width = record { width = width; height = 1 }

-- BITBLT of 4 x 1 pixels, from the corner XY0 to the corner XY1
abbrev pub blitting : ℕ → ℕ → ℕ → ℕ → Engine
blitting cmd xy0 xy1 direction =
    record {
      under_way = true;
      visited = 0;
      registers =
          record {
            cmd = cmd;
            fore = 0x11;
            back = 0x22;
            mask = 255;
            key = 0;
            lpat = 0;
            pctrl = 0;
            clptl = 0;
            clpbr = 0;
            xy0 = xy0;
            xy2 = 0x0004_0001;
            xy3 = direction;
            xy1 = xy1;
          };
      pattern = record { place = 0; repeat = 0 };
      last = 0;
    }

abbrev pub row : List ℕ
row = 1 ∷ 2 ∷ 3 ∷ 4 ∷ 5 ∷ 0 ∷ []

abbrev pub copied : Engine → List ℕ
copied e = (visits_of 4 (row_of 6) (scene e no_fill row (0 ∷ 0 ∷ 0 ∷ 0 ∷ 0 ∷ 0 ∷ []))).display

abbrev pub P9 : Type 0
P9 = copied (blitting 0x1300_0000 0x0000_0000 0x0001_0000 0) ≡ (1 ∷ 1 ∷ 1 ∷ 1 ∷ 1 ∷ 0 ∷ [])

abbrev pub P10 : Type 0
P10 = copied (blitting 0x1300_0000 0x0003_0000 0x0004_0000 2) ≡ (1 ∷ 1 ∷ 2 ∷ 3 ∷ 4 ∷ 0 ∷ [])

-- LINE from (0, 0) to (7, 0), raster code 3, CLIP to columns 2 to 7; dashes of three FORE and three BACK
abbrev pub dashing : ℕ → Engine
dashing cmd =
    record {
      under_way = true;
      visited = 0;
      registers =
          record {
            cmd = cmd;
            fore = 0x11;
            back = 0x22;
            mask = 255;
            key = 0;
            lpat = 0x0000_0001;
            pctrl = 0x0000_0042;
            clptl = 0x0002_0000;
            clpbr = 0x0007_0000;
            xy0 = 0x0000_0000;
            xy2 = 0;
            xy3 = 0;
            xy1 = 0x0007_0000;
          };
      pattern = record { place = 0; repeat = 0 };
      last = 0;
    }

abbrev pub blank : List ℕ
blank = 0 ∷ 0 ∷ 0 ∷ 0 ∷ 0 ∷ 0 ∷ 0 ∷ 0 ∷ []

abbrev pub dashed : ℕ → ℕ → Scene
dashed cmd visits = visits_of visits (row_of 8) (scene (dashing cmd) no_fill blank blank)

-- The line enters the clip in the middle of a dash: one pixel of it is left. Eight pixels move the pattern eight times.
abbrev pub EntersInADash : Type 0
EntersInADash =
    ((dashed 0x2322_0000 8).display ≡ (0 ∷ 0 ∷ 0x11 ∷ 0x22 ∷ 0x22 ∷ 0x22 ∷ 0x11 ∷ 0x11 ∷ []))
    × ((dashed 0x2322_0000 8).engine.pattern ≡ record { place = 0; repeat = 2 })

-- With NLST the seven pixels that are visited move it seven times.
abbrev pub LeavesOutTheLast : Type 0
LeavesOutTheLast =
    ((dashed 0x232A_0000 7).display ≡ (0 ∷ 0 ∷ 0x11 ∷ 0x22 ∷ 0x22 ∷ 0x22 ∷ 0x11 ∷ 0 ∷ []))
    × ((dashed 0x232A_0000 7).engine.under_way ≡ false)
    × ((dashed 0x232A_0000 7).engine.pattern ≡ record { place = 0; repeat = 1 })

-- With SOLID the line draws FORE and moves nothing.
abbrev pub SolidMovesNothing : Type 0
SolidMovesNothing =
    ((dashed 0x23A2_0000 8).display ≡ (0 ∷ 0 ∷ 0x11 ∷ 0x11 ∷ 0x11 ∷ 0x11 ∷ 0x11 ∷ 0x11 ∷ []))
    × ((dashed 0x23A2_0000 8).engine.pattern ≡ record { place = 0; repeat = 0 })

abbrev pub R1 : Type 0
R1 = EntersInADash × LeavesOutTheLast × SolidMovesNothing

-- Bits of the virtual buffer, or of the display, on the display; raster code 3, FORE 0x11 and BACK 0x22
abbrev pub bits : List ℕ
bits = 0x42 ∷ 0xC0 ∷ 0 ∷ 0x02 ∷ []

abbrev pub stippled : Engine → List ℕ
stippled e = (visits_of 4 (row_of 4) (scene e no_fill (0x80 ∷ 2 ∷ 3 ∷ 4 ∷ []) bits)).display

-- Bits 6 to 9 of the row, 1 0 1 1, lie in two bytes: a 1 draws FORE, a 0 draws BACK, or nothing with TRNSP.
abbrev pub Opaque : Type 0
Opaque = stippled (blitting 0x1321_0000 0x0006_0000 0x0000_0000 0) ≡ (0x11 ∷ 0x22 ∷ 0x11 ∷ 0x11 ∷ [])

abbrev pub Transparent : Type 0
Transparent = stippled (blitting 0x1361_0000 0x0006_0000 0x0000_0000 0) ≡ (0x11 ∷ 2 ∷ 0x11 ∷ 0x11 ∷ [])

-- From right to left XY0 is the last bit, and each visit reads one bit further left.
abbrev pub FromRightToLeft : Type 0
FromRightToLeft = stippled (blitting 0x1321_0000 0x0009_0000 0x0003_0000 2) ≡ (0x11 ∷ 0x22 ∷ 0x11 ∷ 0x11 ∷ [])

-- The row has bits 0 to 31. Bits 32 and 33 draw nothing, nor do bits -2 and -1, nor those of a row below.
abbrev pub OutsideDrawsNothing : Type 0
OutsideDrawsNothing =
    (stippled (blitting 0x1321_0000 0x001E_0000 0x0000_0000 0) ≡ (0x11 ∷ 0x22 ∷ 3 ∷ 4 ∷ []))
    × (stippled (blitting 0x1321_0000 0xFFFE_0000 0x0000_0000 0) ≡ (0x80 ∷ 2 ∷ 0x22 ∷ 0x11 ∷ []))
    × (stippled (blitting 0x1321_0000 0x0006_0001 0x0000_0000 0) ≡ (0x80 ∷ 2 ∷ 3 ∷ 4 ∷ []))

-- With SOLID no bit is read, so nothing is outside.
abbrev pub SolidReadsNothing : Type 0
SolidReadsNothing = stippled (blitting 0x13A1_0000 0xFFFE_0001 0x0000_0000 0) ≡ (0x11 ∷ 0x11 ∷ 0x11 ∷ 0x11 ∷ [])

-- From the display itself: the first visit changes the byte 0x80 that the others read to 0x11, so bit 3 is a 1.
abbrev pub ReadsAsItStands : Type 0
ReadsAsItStands = stippled (blitting 0x1320_0000 0x0000_0000 0x0000_0000 0) ≡ (0x11 ∷ 0x22 ∷ 0x22 ∷ 0x11 ∷ [])

abbrev pub R2 : Type 0
R2 = Opaque × Transparent × FromRightToLeft × OutsideDrawsNothing × SolidReadsNothing × ReadsAsItStands

-- Blits that show in part (02, R-6), on one row of six: of a copy of four pixels to columns -2 to 1 the last two are visited, and
-- read from columns 2 and 3; with them the copy has finished.
abbrev pub FromTheLeft : Type 0
FromTheLeft =
    let s = visits_of 2 (row_of 6) (scene (blitting 0x1300_0000 0x0000_0000 0xFFFE_0000 0) no_fill row row) in
    (s.display ≡ (3 ∷ 4 ∷ 3 ∷ 4 ∷ 5 ∷ 0 ∷ []))
    × (s.engine.under_way ≡ false)

-- A copy to columns 6 to 9 has nothing to show: it ends at its trigger, which sets the last point.
abbrev pub NothingShows : Type 0
NothingShows =
    let e = entered_of (row_of 6) (blitting 0x1300_0000 0x0000_0000 0x0000_0000 0) (record { register = 12; spare = 0; word = 0x0006_0000 }) in
    (e.under_way ≡ false) × (e.last ≡ 0x0006_0000)

abbrev pub R6 : Type 0
R6 = FromTheLeft × NothingShows

-- Fills of 4 x 1 pixels with APAT (02, R-7), raster code 3, on a display of 18 by 10 whose byte i is i, once their trigger is taken
abbrev pub screen : Extent
screen = record { width = 18; height = 10 }

abbrev pub counted : List ℕ
counted = below 180

abbrev pub hatching : ℕ → ℕ → ℕ → Scene
hatching xy0 xy1 direction =
    taken_of screen (scene (blitting 0x1300_4000 xy0 0x0000_0000 direction) no_fill counted []) (record { register = 12; spare = 0; word = xy1 })

abbrev pub pixels : ℕ → ℕ → Scene → List ℕ
pixels from n s = take n (drop from s.display)

-- The tile at (1, 0), on columns 14 to 17 of row 9: columns 14, 15, 0 and 1 of its row 1.
abbrev pub ByTheDestination : Type 0
ByTheDestination =
    pixels (18 * 9 + 14) 4 (visits_of 4 screen (hatching 0x0001_0000 0x000E_0009 0)) ≡ (33 ∷ 34 ∷ 19 ∷ 20 ∷ [])

-- The same tile on columns 4 to 1 of row 0, from right to left: each pixel becomes what its right neighbour was at the trigger, which
-- the visit before has changed.
abbrev pub OverItsOwnTile : Type 0
OverItsOwnTile = pixels 0 7 (visits_of 4 screen (hatching 0x0001_0000 0x0004_0000 2)) ≡ (0 ∷ 2 ∷ 3 ∷ 4 ∷ 5 ∷ 5 ∷ 6 ∷ [])

-- Cut after two of these pixels, the tile as it stood at the trigger is held; with the last pixel it goes.
abbrev pub CutInTheMiddle : Type 0
CutInTheMiddle =
    let s = visits_of 2 screen (hatching 0x0001_0000 0x0004_0000 2) in
    (pixels 0 7 s ≡ (0 ∷ 1 ∷ 2 ∷ 4 ∷ 5 ∷ 5 ∷ 6 ∷ []))
    × (s.fill ≡ fill_of screen 0x0001_0000 counted)
    × (fill_ok screen s.engine s.fill ≡ true)
    × ((visits_of 2 screen s).fill ≡ no_fill)

-- A tile at (3, 0) has a column outside: nothing is drawn, in as many steps.
abbrev pub NotWhole : Type 0
NotWhole =
    let s = visits_of 3 screen (hatching 0x0003_0000 0x0004_0000 2) in
    (s.engine.under_way ≡ true) × ((visits_of 1 screen s).engine.under_way ≡ false) × ((visits_of 1 screen s).display ≡ counted)

-- A fill right of the display shows no pixel, and holds no tile.
abbrev pub ShowsNothing : Type 0
ShowsNothing = (hatching 0x0001_0000 0x0012_0000 0).fill ≡ no_fill

abbrev pub R7 : Type 0
R7 = ByTheDestination × OverItsOwnTile × CutInTheMiddle × NotWhole × ShowsNothing
