-- What holds of pictures (02, R-9); proved in proofs/RoundTrip.antt.
use Rattle.std.specs.Prelude.{◌≡◌, true, false, Ok, List, [], ℕ, ◌+◌, ◌*◌, ◌≤◌, eqb, length, take}
use Rattle.pictures.specs.Texts.{is_digit, drop_while, starts_with, value_from}
use Rattle.pictures.specs.Pictures.{Picture, is_picture, pixels_of, decimal_of, picture_of, size_of}
use Rattle.pictures.specs.Lent.{lent}
use Rattle.pictures.specs.Writing.{written_of}
use Rattle.pictures.specs.Reading.{read_of}

-- The test accepts pictures and nothing else, and what it takes for the pixels are the picture's.
abbrev pub AcceptsPictures : Type 0
AcceptsPictures =
    (width height : ℕ) (l : List ℕ) → (is_picture width height l ≡ true → Picture width height l)
    × ((p : Picture width height l) → (is_picture width height l ≡ true) × (pixels_of width height l ≡ p.pixels))

-- "numbers unpadded": digits alone, which make the number; none but 0 starts with a 0.
abbrev pub Unpadded : Type 0
Unpadded =
    (n : ℕ) → (drop_while is_digit (decimal_of n) ≡ []) × (value_from 0 (decimal_of n) ≡ n)
    × (1 ≤ n → starts_with (eqb 48) (decimal_of n) ≡ false)

-- What is written is a picture with these pixels.
abbrev pub WritesPictures : Type 0
WritesPictures =
    (width height : ℕ) (pixels : List ℕ) → length pixels ≡ width * height
    → (p : Picture width height (picture_of width height pixels)) × (p.pixels ≡ pixels)

-- "For 8 by 4 that is 43 bytes."
abbrev pub Sizes : Type 0
Sizes =
    ((width height : ℕ) → size_of width height ≡ 9 + length (decimal_of width) + length (decimal_of height) + width * height)
    × (size_of 8 4 ≡ 43)

-- "importing an export restores that buffer": the bytes that were written are read as the pixels, whatever the buffer holds by then.
abbrev pub Restores : Type 0
Restores =
    (width height : ℕ) (pixels output buffer : List ℕ) → length pixels ≡ width * height → size_of width height ≤ length output
    → length buffer ≡ width * height
    → read_of width height (take (size_of width height) (written_of width height pixels output).bytes) buffer ≡ lent (Ok tt) pixels
