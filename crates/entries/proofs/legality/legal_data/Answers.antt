-- By the register: CMD (`cmd-held`), PCTRL (`pctrl-held`), the others up to XY0 (`low_held`), XY2 (`size-held`), and XY3 and XY1
-- (`high_held`).
use mathlib.Core.Path.{◌∙◌}
use native.Mathlib.Omega.{arith}
use Rattle.entries.proofs.Registers.{cmd-held, pctrl-held, low_held, size-held, high_held}
use Rattle.entries.proofs.legality.legal_data.Goals as goal

pub returns-then-register-eq0 : goal.returns-then-register-eq0
returns-then-register-eq0 c = c.legal_cmd.ensures ∙ cmd-held _ _ c.if-register-eq0.true

pub returns-then-register-eq6 : goal.returns-then-register-eq6
returns-then-register-eq6 c = c.legal_pctrl.ensures ∙ pctrl-held _ _ c.if-register-eq6.true

pub returns-then-register-le9 : goal.returns-then-register-le9
returns-then-register-le9 c = low_held _ _ c.if-register-eq0.false c.if-register-eq6.false c.if-register-le9.true

pub returns-then-register-eq10 : goal.returns-then-register-eq10
returns-then-register-eq10 c = size-held _ _ c.if-register-eq10.true

pub returns : goal.returns
returns c = high_held _ _ (omega (arith, c.if-register-le9.false, c.if-register-eq10.false))
