-- Registers and pattern state stay well formed.
-- Assumes nothing.
use mathlib.Core.Path.{◌≡◌, refl, ap, ◌∙◌}
use mathlib.Core.Bool.{Bool, true, false, cond}
use Prim.Native.Nat.{ℕ}
use lib.Dec.{eqb}
use Rattle.lemmas.proofs.Booleans.{both, and_left, and_right}
use Rattle.entries.specs.Fields.{pattern_control_of}
use Rattle.registers.specs.Registers.{written_of, registers_legal}
use Rattle.registers.specs.Patterns.{start_of, in_range}
use Rattle.registers.specs.States.{state_ok, WritesStayOk, MovesStayOk}
use Rattle.registers.specs.declared.file.Registers.{Registers}
use Rattle.registers.specs.declared.dashes.Pattern.{Pattern}
use Rattle.registers.proofs.Writes.{stays-legal, pctrl-legal}
use Rattle.registers.proofs.Moves.{starts-in-range, stays-in-range}

module _ (g : Registers) (p : Pattern) (h : state_ok g p ≡ true) where
  pub state-legal : registers_legal g ≡ true
  state-legal = and_left (registers_legal g) (in_range (pattern_control_of g.pctrl) p) h

  pub state-range : in_range (pattern_control_of g.pctrl) p ≡ true
  state-range = and_right (registers_legal g) (in_range (pattern_control_of g.pctrl) p) h

-- another register than PCTRL leaves PCTRL as it was
same-pctrl : (g : Registers) (number word : ℕ) → eqb number 6 ≡ false → (written_of g number word).pctrl ≡ g.pctrl
unfolding written_of
same-pctrl g number word h = ap (λ t. cond t word g.pctrl) h

-- the pattern, set anew or as it was
set-in-range : (g : Registers) (p : Pattern) (number word : ℕ) (sets : Bool) → (sets ≡ false → eqb number 6 ≡ false) → state_ok g p ≡ true
    → registers_legal (written_of g number word) ≡ true → let h = written_of g number word in
    in_range (pattern_control_of h.pctrl) (cond sets (start_of (pattern_control_of h.pctrl)) p) ≡ true
set-in-range g p number word true other ok legal = starts-in-range (written_of g number word).pctrl (pctrl-legal (written_of g number word) legal)
set-in-range g p number word false other ok legal =
    ap (λ n. in_range (pattern_control_of n) p) (same-pctrl g number word (other refl)) ∙ state-range g p ok

pub writes-stay-ok : WritesStayOk
writes-stay-ok g p number word sets data-legal other ok =
    let legal = stays-legal g number word data-legal (state-legal g p ok) in
    both legal (set-in-range g p number word sets other ok legal)

pub moves-stay-ok : MovesStayOk
moves-stay-ok g p ok = both (state-legal g p ok) (stays-in-range g.pctrl p (state-range g p ok))
