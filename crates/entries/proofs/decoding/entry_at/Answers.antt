-- Past list memory there is no entry (`decoded-none`); else it lies there (`decoded-whole`).
use mathlib.Core.Path.{ap, sym, ◌∙◌}
use Rattle.std.specs.Prelude.{Some}
use Rattle.entries.proofs.Decodes.{decoded-none, decoded-whole}
use Rattle.entries.proofs.decoding.entry_at.Goals as goal

pub returns-then-list-place : goal.returns-then-list-place
returns-then-list-place c = sym (decoded-none _ _ c.if-list-place.true)

pub returns : goal.returns
returns c = ap Some c.of_bytes.ensures ∙ sym (decoded-whole _ _ c.if-list-place.false)
