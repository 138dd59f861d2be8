-- P8, P11 and P12 (01, Boards to check). And which stippled and tiled blits are legal (02, R-2 and R-7).
use Rattle.std.specs.Prelude.{◌≡◌, true, false, Some, List, [], ◌∷◌, ℕ}
use Rattle.entries.specs.Layout.{decoded_of}
use Rattle.entries.specs.Legality.{cmd_legal, pctrl_legal, data_legal, legal_at}

abbrev pub P8 : Type 0
P8 = (pctrl_legal 0x2003 ≡ false) × (pctrl_legal 0x0303 ≡ false) × (pctrl_legal 0x0203 ≡ true) × (pctrl_legal 0x1F00 ≡ true)

abbrev pub P11 : Type 0
P11 = (data_legal 10 0x08000800 ≡ true) × (data_legal 10 0x08010000 ≡ false)

-- the five bytes as a list memory of one entry
abbrev pub memory : ℕ → List ℕ
memory first = first ∷ 0x00 ∷ 0x04 ∷ 0x00 ∷ 0x02 ∷ []

abbrev pub P12 : Type 0
P12 =
    (decoded_of (memory 0x60) 0 ≡ Some (record { register = 12; spare = 0; word = 0x0004_0002 }))
    × (legal_at (memory 0x60) 0 ≡ true)
    × (legal_at (memory 0x61) 0 ≡ false)
    × (legal_at (memory 0x68) 0 ≡ false)

-- BITBLT, raster code 3: STPL alone, with TRNSP, with SOLID and with both; not with KEY, NLST or PRST, nor TRNSP alone.
abbrev pub StipplesAreLegal : Type 0
StipplesAreLegal =
    (cmd_legal 0x1320_0000 ≡ true)
    × (cmd_legal 0x1360_0000 ≡ true)
    × (cmd_legal 0x13A0_0000 ≡ true)
    × (cmd_legal 0x13E0_0000 ≡ true)
    × (cmd_legal 0x1330_0000 ≡ false)
    × (cmd_legal 0x13B0_0000 ≡ false)
    × (cmd_legal 0x1328_0000 ≡ false)
    × (cmd_legal 0x1324_0000 ≡ false)
    × (cmd_legal 0x1340_0000 ≡ false)

-- BITBLT, raster code 3, with APAT: alone, with CLIP and both buffers virtual; not with SOLID, TRNSP, STPL, KEY, NLST or PRST,
-- nor with bit 13. No APAT in a NOOP, in a LINE with SOLID, nor in a PLINE with STPL.
abbrev pub TilesAreLegal : Type 0
TilesAreLegal =
    (cmd_legal 0x1300_4000 ≡ true)
    × (cmd_legal 0x1303_C000 ≡ true)
    × (cmd_legal 0x1380_4000 ≡ false)
    × (cmd_legal 0x1340_4000 ≡ false)
    × (cmd_legal 0x1320_4000 ≡ false)
    × (cmd_legal 0x1310_4000 ≡ false)
    × (cmd_legal 0x1308_4000 ≡ false)
    × (cmd_legal 0x1304_4000 ≡ false)
    × (cmd_legal 0x1300_6000 ≡ false)
    × (cmd_legal 0x0000_4000 ≡ false)
    × (cmd_legal 0x2380_4000 ≡ false)
    × (cmd_legal 0x5320_4000 ≡ false)
