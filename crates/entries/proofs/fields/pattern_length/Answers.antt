-- Each return is the case of `length_of` that the test of PLEN chose.
use borrow.Author.Tests.{eq-eqb, ne_eqb}
use Rattle.entries.specs.Fields.{length_of}
use Rattle.entries.proofs.fields.pattern_length.Goals as goal

pub returns-then-word-eq0 : goal.returns-then-word-eq0
unfolding length_of
returns-then-word-eq0 c = rw (eq-eqb _ _ c.if-word-eq0.true)

pub returns-else-word-eq0 : goal.returns-else-word-eq0
unfolding length_of
returns-else-word-eq0 c = rw (ne_eqb _ _ c.if-word-eq0.false)
