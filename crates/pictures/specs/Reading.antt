-- A picture read into a lent buffer (02, R-9).
use Rattle.std.specs.Prelude.{cond, Option, Some, None, Result, Ok, Err, List, ℕ, ◌-◌, ◌*◌, eqb, length}
use Rattle.pictures.specs.Lent.{Lent, lent}
use Rattle.pictures.specs.Pictures.{is_picture, pixels_of}
use Rattle.pictures.specs.declared.reading.ReadError.{ReadError}
use Rattle.pictures.specs.declared.reading.ReadError.TheVariants.{WrongSize, NotAPicture}

-- Where the pixels of a picture start.
unfoldable pub raster_of : ℕ → ℕ → List ℕ → Option ℕ
raster_of width height l = cond (is_picture width height l) (Some (length l - width * height)) None

-- "Import reads one P5 picture, with the board's own size": the buffer is then its pixels. In a refusal the buffer stays.
unfoldable pub read_of : ℕ → ℕ → List ℕ → List ℕ → Lent (Result (Unit {0}) ReadError)
read_of width height picture buffer =
    cond (eqb (length buffer) (width * height))
    (cond (is_picture width height picture) (lent (Ok tt) (pixels_of width height picture)) (lent (Err NotAPicture) buffer))
    (lent (Err WrongSize) buffer)
