-- Binary PGM pictures, Netpbm P5, with greatest grey 255 (02, R-9): what is one, and the one that is written.
use Rattle.std.specs.Prelude.{◌≡◌, Bool, true, cond, ◌&&◌, List, [], ◌∷◌, ◌++◌, ℕ, zero, suc, ◌+◌, ◌-◌, ◌*◌, ◌/◌, ◌%◌, eqb, leb, ltb, length, get_or, drop}
use Rattle.std.proofs.Math.Seq.{slice}
use Rattle.pictures.specs.Texts.{ascii, is_white, says_size}

-- P5, the text of its numbers, white space, "just one after the 255", and a byte for each pixel.
pub record Picture (width height : ℕ) (l : List ℕ) : Type 0 where
  pub text : List ℕ
  pub white : ℕ
  pub pixels : List ℕ
  pub parts : l ≡ ascii "P5" ++ text ++ white ∷ pixels
  pub said : says_size width height text ≡ true
  pub one-white : is_white white ≡ true
  pub whole : length pixels ≡ width * height

-- The same as a test: the pixels of so large a picture are its last bytes, and the one white space is the byte before them.
abbrev pub pixels_of : ℕ → ℕ → List ℕ → List ℕ
pixels_of width height l = drop (length l - width * height) l

unfoldable pub is_picture : ℕ → ℕ → List ℕ → Bool
is_picture width height l =
    let end = length l - (width * height + 1) in
    leb (width * height + 3) (length l) && (eqb (get_or l 0 0) 80 && eqb (get_or l 1 0) 53 && is_white (get_or l end 0))
    && says_size width height (slice 2 end l)

-- "numbers unpadded": the last digit after those of the tenth. A number n has at most n + 1 digits.
unfoldable pub decimal_by : ℕ → ℕ → List ℕ
decimal_by zero n = []
decimal_by (suc most) n = cond (ltb n 10) ((48 + n) ∷ []) (decimal_by most (n / 10) ++ ((48 + n % 10) ∷ []))

unfoldable pub decimal_of : ℕ → List ℕ
decimal_of n = decimal_by (suc n) n

-- "P5, newline, width, space, height, newline, 255, newline, then the pixels"
unfoldable pub header_of : ℕ → ℕ → List ℕ
header_of width height = ascii "P5\n" ++ decimal_of width ++ ascii " " ++ decimal_of height ++ ascii "\n255\n"

abbrev pub picture_of : ℕ → ℕ → List ℕ → List ℕ
picture_of width height pixels = header_of width height ++ pixels

abbrev pub size_of : ℕ → ℕ → ℕ
size_of width height = length (header_of width height) + width * height
