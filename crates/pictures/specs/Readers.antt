-- How the code reads the numbers of a header, byte by byte: what it still accepts. What they are is `says_size` of Texts; nothing here
-- is needed to read that.
use Rattle.std.specs.Prelude.{◌≡◌, Bool, false, ◌&&◌, List, ◌∷◌, ℕ, suc, ◌<◌, eqb, get_or, drop}
use Rattle.pictures.specs.Texts.{is_white, is_digit, without_comments, take_while, drop_while, starts_with, value_from, reads, numbers_of}
use Rattle.pictures.specs.declared.headers.Stage.{Stage}
use Rattle.pictures.specs.declared.headers.Stage.TheVariants.{Start, White, Number, Broken}
use Rattle.pictures.specs.declared.headers.Reader.{Reader}

-- Number k of the three, and those after it.
abbrev pub wanted_of : ℕ → ℕ → ℕ → ℕ
wanted_of width height k = get_or (numbers_of width height) k 255

abbrev pub later_of : ℕ → ℕ → ℕ → List ℕ
later_of width height k = drop (suc k) (numbers_of width height)

-- A number that is as good as v with one more digit, for comparison with numbers of 32 bits.
abbrev pub Longer : ℕ → ℕ → ℕ → Type 0
Longer v b r = (n : ℕ) → n < 4294967296 → (l : List ℕ) → eqb (value_from r l) n ≡ eqb (value_from v (b ∷ l)) n

-- A number whose digits go on from v, and the numbers after it.
abbrev pub reads_from : ℕ → ℕ → List ℕ → List ℕ → Bool
reads_from v n ns text = eqb (value_from v (take_while is_digit text)) n && reads ns (drop_while is_digit text)

-- Whether a text that goes on so from a stage is the three numbers.
unfoldable pub goes_on : ℕ → ℕ → Stage → List ℕ → Bool
goes_on width height Start text = reads (numbers_of width height) text
goes_on width height (White k) text =
    let number = drop_while is_white text in
    starts_with is_digit number && reads_from 0 (wanted_of width height k) (later_of width height k) number
goes_on width height (Number k v) text = reads_from v (wanted_of width height k) (later_of width height k) text
goes_on width height Broken text = false

-- A stage that goes on as another does with this byte first.
abbrev pub Follows : ℕ → ℕ → Stage → ℕ → Stage → Type 0
Follows width height s b r = (t : List ℕ) → goes_on width height r t ≡ goes_on width height s (b ∷ t)

-- The same of a text with comments.
abbrev pub accepts : ℕ → ℕ → Reader → List ℕ → Bool
accepts width height r l = goes_on width height r.stage (without_comments r.comment l)
