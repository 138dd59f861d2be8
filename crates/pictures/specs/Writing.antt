-- A picture written into lent bytes (02, R-9).
use Rattle.std.specs.Prelude.{cond, Result, Ok, Err, List, ◌++◌, ℕ, ◌+◌, ◌*◌, eqb, leb, length, drop}
use Rattle.std.proofs.lemmas.List.Edits.{sets}
use Rattle.pictures.specs.Lent.{Lent, lent}
use Rattle.pictures.specs.Pictures.{picture_of, size_of}
use Rattle.pictures.specs.declared.writing.WriteError.{WriteError}
use Rattle.pictures.specs.declared.writing.WriteError.TheVariants.{WrongSize, TooShort}

-- Bytes put from a place on, and the place after them.
abbrev pub put_at : List ℕ → ℕ → List ℕ → Lent ℕ
put_at l at bytes = lent (at + length bytes) (sets l at bytes)

-- Too short is "exactly where the output is shorter than the picture needs". The output past the picture stays; in a refusal all
-- stays.
unfoldable pub written_of : ℕ → ℕ → List ℕ → List ℕ → Lent (Result ℕ WriteError)
written_of width height pixels output =
    let size = size_of width height in
    cond (eqb (length pixels) (width * height))
    (cond (leb size (length output)) (lent (Ok size) (picture_of width height pixels ++ drop size output)) (lent (Err TooShort) output))
    (lent (Err WrongSize) output)
