-- The grounds in their order (`import-wrong-size`, `import-busy`); else the answer is that of reading the picture (`import-by`).
use mathlib.Core.Path.{refl}
use borrow.Author.Tests.{not-true, not-false}
use Rattle.answers.proofs.Refusals.{refused}
use Rattle.slots.proofs.Rasters.{import-wrong-size, import-busy, import-by}
use Rattle.slots.proofs.picturing.import_into.Goals as goal

pub returns-in_err-named : goal.returns-in_err-named
returns-in_err-named c =
    rw (refused c.from_residual.ensures.1 c.in_err-named.ensures.0) (import-wrong-size _ _ _ _ _ _ c.in_err-named.ensures.1)

pub returns-in_err-none_taken : goal.returns-in_err-none_taken
returns-in_err-none_taken c =
    rw (refused c.from_residual-in_err-none_taken.ensures.1 c.in_err-none_taken.ensures.0)
    (import-busy _ _ _ _ _ _ c.in_ok-named.ensures (not-false _ c.in_err-none_taken.ensures.1))

pub returns-in_err-read_picture : goal.returns-in_err-read_picture
returns-in_err-read_picture c =
    rw (refused c.from_residual-in_err-read_picture.ensures.1 refl)
    (import-by _ _ _ _ _ _ c.in_ok-named.ensures (not-true _ c.in_ok-none_taken.ensures) _ _ _ c.read_picture.ensures
    c.in_err-read_picture.was)

pub returns : goal.returns
returns c =
    import-by _ _ _ _ _ _ c.in_ok-named.ensures (not-true _ c.in_ok-none_taken.ensures) _ _ _ c.read_picture.ensures
    c.in_ok-read_picture.was
