-- P4, P5 and P6 (01, Boards to check). A point is written as the register word that holds it.
use Rattle.std.specs.Prelude.{◌≡◌, Bool, true, false, List, [], ◌∷◌, ◌++◌, map, ℕ, zero, suc}
use Rattle.geometry.specs.Coordinates.{point_of}
use Rattle.geometry.specs.Line.{line_count, line_point}
use Rattle.geometry.specs.declared.Point.{Point}

-- the first n pixels of a line
abbrev pub first_pixels : ℕ → Point → Point → List Point
first_pixels zero a b = []
first_pixels (suc n) a b = first_pixels n a b ++ (line_point a b n ∷ [])

abbrev pub pixels_of : Point → Point → Bool → List Point
pixels_of a b nlst = first_pixels (line_count a b nlst) a b

abbrev pub P4 : Type 0
P4 =
    pixels_of (point_of 0x0000_0000) (point_of 0x0004_0002) false
    ≡ map point_of (0x0000_0000 ∷ 0x0001_0000 ∷ 0x0002_0001 ∷ 0x0003_0001 ∷ 0x0004_0002 ∷ [])

abbrev pub P5 : Type 0
P5 =
    pixels_of (point_of 0x0000_0000) (point_of 0x0004_FFFE) false
    ≡ map point_of (0x0000_0000 ∷ 0x0001_FFFF ∷ 0x0002_FFFF ∷ 0x0003_FFFE ∷ 0x0004_FFFE ∷ [])

abbrev pub P6 : Type 0
P6 =
    (pixels_of (point_of 0x0003_0003) (point_of 0x0003_0003) false ≡ map point_of (0x0003_0003 ∷ []))
    × (pixels_of (point_of 0x0003_0003) (point_of 0x0003_0003) true ≡ [])
