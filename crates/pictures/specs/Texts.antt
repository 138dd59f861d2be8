-- The text of a header's numbers (02, R-9): what stands between P5 and the one white space after the 255.
use Rattle.std.specs.Prelude.{Bool, true, false, not, cond, ◌&&◌, ◌||◌, ℕ, ◌+◌, ◌-◌, ◌*◌, eqb, leb}
use mathlib.Core.List.{List, [], ◌∷◌, foldl}
use Prim.Native.Char.{code}
use Prim.Native.String.{String, [] as none, ◌∷◌ as ◌then◌}

-- A text in ASCII, as bytes.
abbrev pub ascii : String → List ℕ
ascii none = []
ascii (c then s) = code c ∷ ascii s

-- "white space is blanks, tabs, newlines and carriage returns"
abbrev pub is_white : ℕ → Bool
is_white b = eqb b 32 || eqb b 9 || eqb b 10 || eqb b 13

abbrev pub is_digit : ℕ → Bool
is_digit b = leb 48 b && leb b 57

-- "a # through the next newline or carriage return is dropped, even inside a number": a text without its comments, from inside
-- one or not. A comment that nothing ends leaves its #, which is neither white space nor a digit.
abbrev pub ends_comment : ℕ → Bool
ends_comment b = eqb b 10 || eqb b 13

unfoldable pub without_comments : Bool → List ℕ → List ℕ
without_comments false [] = []
without_comments false (b ∷ l) = cond (eqb b 35) (without_comments true l) (b ∷ without_comments false l)
without_comments true [] = 35 ∷ []
without_comments true (b ∷ l) = without_comments (not (ends_comment b)) l

-- The bytes at the front of a text that pass a test, and the text after them.
unfoldable pub take_while : (ℕ → Bool) → List ℕ → List ℕ
take_while p [] = []
take_while p (b ∷ l) = cond (p b) (b ∷ take_while p l) []

unfoldable pub drop_while : (ℕ → Bool) → List ℕ → List ℕ
drop_while p [] = []
drop_while p (b ∷ l) = cond (p b) (drop_while p l) (b ∷ l)

abbrev pub starts_with : (ℕ → Bool) → List ℕ → Bool
starts_with p [] = false
starts_with p (b ∷ l) = p b

abbrev pub is_empty : List ℕ → Bool
is_empty [] = true
is_empty (b ∷ l) = false

-- The number that digits make, after those that made v. "Leading zeros pass."
abbrev pub with_digit : ℕ → ℕ → ℕ
with_digit v b = v * 10 + (b - 48)

abbrev pub value_from : ℕ → List ℕ → ℕ
value_from v digits = foldl with_digit v digits

-- A text that is these numbers and nothing else, each in digits after white space, "one or more".
unfoldable pub reads : List ℕ → List ℕ → Bool
reads [] text = is_empty text
reads (n ∷ ns) text =
    let number = drop_while is_white text in
    starts_with is_white text && starts_with is_digit number
    && (eqb (value_from 0 (take_while is_digit number)) n && reads ns (drop_while is_digit number))

-- "with the board's own size and greatest grey 255"
abbrev pub numbers_of : ℕ → ℕ → List ℕ
numbers_of width height = width ∷ height ∷ 255 ∷ []

abbrev pub says_size : ℕ → ℕ → List ℕ → Bool
says_size width height text = reads (numbers_of width height) (without_comments false text)
