-- A 31 passes by the first test; any other entry where it is legal.
use borrow.Author.Tests.{eq-eqb, ne_eqb}
use Rattle.packing.proofs.judging.passes.Goals as goal

pub returns-then-e-eq31 : goal.returns-then-e-eq31
returns-then-e-eq31 c = rw (eq-eqb _ _ c.if-e-eq31.true)

pub returns : goal.returns
returns c = rw (ne_eqb _ _ c.if-e-eq31.false) c.legal_entry.ensures
