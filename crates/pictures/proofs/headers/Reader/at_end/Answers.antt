-- A text ends inside its third number (`ends-number`), or is not the three numbers (`ends-early`).
use mathlib.Core.Logic.{⊎_elim}
use Rattle.pictures.proofs.Stages.{start-ends, white-ends, broken-ends}
use Rattle.pictures.proofs.Readers.{ends-number, ends-early}
use Rattle.pictures.proofs.headers.Reader.at_end.Goals as goal

pub returns-in-Number : goal.returns-in-Number
returns-in-Number c = ends-number _ _ _ _ _ _ c.in-Number.is c.number.ensures

pub returns-in-Start : goal.returns-in-Start
returns-in-Start c =
    ⊎_elim (λ h. ends-early _ _ _ _ h (start-ends _ _))
    (⊎_elim (λ h. ends-early _ _ _ _ h.1 (white-ends _ _ _)) (λ h. ends-early _ _ _ _ h (broken-ends _ _)))
    c.in-Start.is
