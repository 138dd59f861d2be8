-- Writing a legal entry keeps all registers legal.
-- Assumes nothing.
use mathlib.Core.Path.{◌≡◌, refl}
use mathlib.Core.Bool.{Bool, true, cond, ◌&&◌, or-false}
use Prim.Native.Nat.{ℕ}
use borrow.Author.Tests.{eqb-true}
use lib.Dec.{eqb}
use Rattle.lemmas.proofs.Booleans.{by_cases, and_left, and_right, and_both}
use Rattle.entries.specs.Fields.{length_of}
use Rattle.entries.specs.Legality.{cmd_legal, pctrl_legal, data_legal}
use Rattle.registers.specs.declared.file.Registers.{Registers}
use Rattle.registers.specs.Registers.{written_of, registers_legal, StaysLegal, FreshLegal}

and_keeps : {a b c d : Bool} → (a ≡ true → c ≡ true) → (b ≡ true → d ≡ true) → (a && b) ≡ true → (c && d) ≡ true
and_keeps {a} {b} {c} {d} f g e = and_both c d (f (and_left a b e)) (g (and_right a b e))

-- one register
one : (number word k value : ℕ) → data_legal number word ≡ true → data_legal k value ≡ true
    → data_legal k (cond (eqb number k) word value) ≡ true
one number word k value new old =
    by_cases (eqb number k) (λ t. rw t (rw (← eqb-true number k t) new)) (λ t. rw t old)

pub stays-legal : StaysLegal
unfolding written_of registers_legal
stays-legal g number word new =
    let keeps : (k value : ℕ) → data_legal k value ≡ true → data_legal k (cond (eqb number k) word value) ≡ true =
    λ k value old. one number word k value new old in
    and_keeps
    (and_keeps
    (and_keeps
    (and_keeps
    (and_keeps
    (and_keeps
    (and_keeps
    (and_keeps
    (and_keeps
    (and_keeps (and_keeps (and_keeps (keeps 0 g.cmd) (keeps 1 g.fore)) (keeps 2 g.back)) (keeps 3 g.mask))
    (keeps 4 g.key))
    (keeps 5 g.lpat))
    (keeps 6 g.pctrl))
    (keeps 7 g.clptl))
    (keeps 8 g.clpbr))
    (keeps 9 g.xy0))
    (keeps 10 g.xy2))
    (keeps 11 g.xy3))
    (keeps 12 g.xy1)

pub fresh-legal : FreshLegal
unfolding registers_legal data_legal cmd_legal pctrl_legal length_of
fresh-legal = refl

-- a legal register file has a legal PCTRL
pctrl-data : (word : ℕ) → data_legal 6 word ≡ true → pctrl_legal word ≡ true
unfolding data_legal
pctrl-data word h = simp or-false at h

pub pctrl-legal : (g : Registers) → registers_legal g ≡ true → pctrl_legal g.pctrl ≡ true
unfolding registers_legal
pctrl-legal g h =
    let low = data_legal 0 g.cmd && data_legal 1 g.fore && data_legal 2 g.back && data_legal 3 g.mask && data_legal 4 g.key && data_legal 5 g.lpat in
    let d6 = data_legal 6 g.pctrl in
    let d7 = data_legal 7 g.clptl in
    let d8 = data_legal 8 g.clpbr in
    let d9 = data_legal 9 g.xy0 in
    let d10 = data_legal 10 g.xy2 in
    let d11 = data_legal 11 g.xy3 in
    let h11 = and_left (low && d6 && d7 && d8 && d9 && d10 && d11) (data_legal 12 g.xy1) h in
    let h10 = and_left (low && d6 && d7 && d8 && d9 && d10) d11 h11 in
    let h9 = and_left (low && d6 && d7 && d8 && d9) d10 h10 in
    let h8 = and_left (low && d6 && d7 && d8) d9 h9 in
    let h7 = and_left (low && d6 && d7) d8 h8 in
    pctrl-data g.pctrl (and_right low d6 (and_left (low && d6) d7 h7))
