-- A number past 32 bits stays past them (`longer-past`); another gets the digit.
use Rattle.pictures.proofs.Texts.{digit-least}
use Rattle.pictures.proofs.Stages.{longer-past}
use Rattle.pictures.proofs.headers.longer.Goals as goal

pub returns-then-v-gt4294967295 : goal.returns-then-v-gt4294967295
returns-then-v-gt4294967295 c = longer-past _ _ c.if-v-gt4294967295.true

pub overflow_sub-b : goal.overflow_sub-b
overflow_sub-b c = digit-least _ c.requires
