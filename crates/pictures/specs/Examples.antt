-- Headers and pictures that show the rules (02, R-9); computed in proofs/Examples.antt.
use Rattle.std.specs.Prelude.{◌≡◌, Bool, true, false, Result, Ok, Err, [], ◌∷◌}
use Prim.Native.String.{String}
use Rattle.pictures.specs.Texts.{ascii, says_size}
use Rattle.pictures.specs.Lent.{Lent, lent}
use Rattle.pictures.specs.Writing.{written_of}
use Rattle.pictures.specs.Reading.{read_of}
use Rattle.pictures.specs.declared.writing.WriteError.TheVariants.{WrongSize, TooShort}
use Rattle.pictures.specs.declared.reading.ReadError.{ReadError}
use Rattle.pictures.specs.declared.reading.ReadError.TheVariants.{NotAPicture}

-- What stands between P5 and the one white space after the 255, for 16 by 6.
abbrev says : String → Bool
says text = says_size 16 6 (ascii text)

-- White space of every kind, "one or more"; "Leading zeros pass"; no vertical tab.
abbrev pub Numbers : Type 0
Numbers =
    (says "\n16 6\n255" ≡ true)
    × (says " \t16\r\n6  255" ≡ true)
    × (says "\n016 6\n00000000000255" ≡ true)
    × (says "16 6 255" ≡ false)
    × (says "\n16 6 254" ≡ false)
    × (says "\n16\u{b}6 255" ≡ false)

-- "a # through the next newline or carriage return is dropped, even inside a number", and with it its end, which is no white space
-- then.
abbrev pub Comments : Type 0
Comments =
    (says "\n1#x\n6 6 255" ≡ true)
    × (says "\n1#x\r6 6 255" ≡ true)
    × (says "#c\n#d\n 16 6 255" ≡ true)
    × (says "#c\n16 6 255" ≡ false)
    × (says "\n16 6 255#c" ≡ false)
    × (says "\n1#x\n 6 6 255" ≡ false)

-- No number wraps: 16 more than 2 to the power of 32, and than 2 to the power of 64.
abbrev pub LargeNumbers : Type 0
LargeNumbers = (says "\n4294967312 6 255" ≡ false) × (says "\n18446744073709551632 6 255" ≡ false)

-- A picture of 2 by 1 read into a buffer of two bytes.
abbrev read : String → Lent (Result (Unit {0}) ReadError)
read text = read_of 2 1 (ascii text) (7 ∷ 8 ∷ [])

abbrev refused : Lent (Result (Unit {0}) ReadError)
refused = lent (Err NotAPicture) (7 ∷ 8 ∷ [])

-- White space "just one after the 255": past it a # and a newline are pixels.
abbrev pub Pictures : Type 0
Pictures =
    (read "P5\n2 1\n255\nab" ≡ lent (Ok tt) (ascii "ab"))
    × (read "P5 2 1 255 #\n" ≡ lent (Ok tt) (ascii "#\n"))
    × (read "P5 2 1 255  ab" ≡ refused)
    × (read "P5#c\n2 1 255 ab" ≡ refused)
    × (read "P5 2 1 255#c\nab" ≡ refused)

-- "11 for input that isn't such a picture or has bytes after it": another magic number, another size, pixels missing, a byte too
-- many.
abbrev pub Refused : Type 0
Refused =
    (read "P6 2 1 255 ab" ≡ refused)
    × (read "P5 1 2 255 ab" ≡ refused)
    × (read "P5 2 1 255 a" ≡ refused)
    × (read "P5 2 1 255 abc" ≡ refused)
    × (read "P5" ≡ refused)

-- Two pixels written: the output past the picture stays; one byte too short, or with pixels of another size, all stays.
abbrev pub WrittenPictures : Type 0
WrittenPictures =
    (written_of 2 1 (ascii "ab") (ascii ".............!") ≡ lent (Ok 13) (ascii "P5\n2 1\n255\nab!"))
    × (written_of 2 1 (ascii "ab") (ascii "............") ≡ lent (Err TooShort) (ascii "............"))
    × (written_of 2 1 (ascii "abc") (ascii ".") ≡ lent (Err WrongSize) (ascii "."))
