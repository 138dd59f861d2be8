-- What holds of every visit, visits one after the other, and the pattern after them.
-- Assumes nothing.
use Rattle.std.specs.Prelude.{Option, Some, None}
use mathlib.Core.Path.{◌≡◌, refl, ap, ◌∙◌}
use mathlib.Core.Bool.{Bool, true, false, cond}
use mathlib.Core.List.{List}
use Prim.Native.Nat.{ℕ, zero, suc, ◌+◌}
use native.Mathlib.Numerals.{add-one}
use lib.Dec.{ltb}
use lib.ListN.{length, get_or, length-set}
use Rattle.raster.specs.Raster.{new_byte}
use Rattle.geometry.specs.declared.Extent.{Extent}
use Rattle.lemmas.specs.Turns.{in_turn}
use Rattle.lemmas.proofs.Booleans.{by_cases}
use Rattle.entries.specs.Fields.{command_of, pattern_control_of}
use Rattle.registers.specs.Patterns.{next_of}
use Rattle.registers.specs.declared.dashes.Pattern.{Pattern}
use Rattle.registers.specs.declared.file.Registers.{Registers}
use Rattle.commands.specs.Visits.{command_in, Rule, shows, count_by, count_of, target_of, source_at}
use Rattle.commands.specs.Steps.{Scene, inked, inked_at, in_dashes, pattern_after, advanced_by, advanced_of, visit_by, visit_of, visits_by, visits_of, KeepsLengths, HiddenDrawsNothing, MovesByVisits, OthersMoveNothing}
use Rattle.commands.specs.declared.Engine.{Engine}

inked-length : (e : Engine) (s : Option ℕ) (q : Option ℕ) (l : List ℕ) → length (inked e s q l) ≡ length l
inked-length e (Some v) (Some i) l = length-set l i (new_byte (command_in e).code v (get_or l i 0) e.registers.mask)
inked-length e (Some v) None l = refl
inked-length e None q l = refl

-- what holds of both holds of the one that is picked
either : (P : List ℕ → Type 0) (t : Bool) (l m : List ℕ) → P l → P m → P (cond t l m)
either P true l m p q = p
either P false l m p q = q

pub keeps-lengths : KeepsLengths
unfolding visit_by
keeps-lengths extent s =
    let e = s.engine in
    let q = target_of extent e e.visited in
    let o = source_at extent e s.fill e.visited s.display s.virt in (
      either (λ l. length l ≡ length s.display) (command_in e).to_virtual s.display (inked e o q s.display) refl
          (inked-length e o q s.display),
      either (λ l. length l ≡ length s.virt) (command_in e).to_virtual (inked e o q s.virt) s.virt (inked-length e o q s.virt)
          refl,
    )

pub hidden-inks-nothing : (e : Engine) (s : Option ℕ) (q : Option ℕ) (l : List ℕ) → q ≡ None → inked e s q l ≡ l
hidden-inks-nothing e (Some v) q l p = ap (λ q. inked_at e v q l) p
hidden-inks-nothing e None q l p = refl

pub hidden-draws-nothing : HiddenDrawsNothing
unfolding visit_by
hidden-draws-nothing extent s p =
    let e = s.engine in
    let q = target_of extent e e.visited in
    let o = source_at extent e s.fill e.visited s.display s.virt in (
      either (λ l. l ≡ s.display) (command_in e).to_virtual s.display (inked e o q s.display) refl
          (hidden-inks-nothing e o q s.display p),
      either (λ l. l ≡ s.virt) (command_in e).to_virtual (inked e o q s.virt) s.virt (hidden-inks-nothing e o q s.virt p) refl,
    )

pub visits-none : (rule : Rule) (extent : Extent) (s : Scene) → s ≡ visits_by rule 0 extent s
unfolding visits_by
visits-none rule extent s = refl

pub visits-more : (n : ℕ) (extent : Extent) (s t : Scene) → t ≡ visits_of n extent s → visit_of extent t ≡ visits_of (n + 1) extent s
unfolding visits_by
visits-more n extent s t e = rw add-one (ap (visit_of extent) e)

-- the pattern after n visits
advanced-pattern : (extent : Extent) (e : Engine) → (advanced_of extent e).pattern ≡ pattern_after e
unfolding advanced_by
advanced-pattern extent e = by_cases (ltb (e.visited + 1) (count_of extent e)) (λ t. rw t) (λ t. rw t)

pub advanced-registers : (rule : Rule) (extent : Extent) (e : Engine) → (advanced_by rule extent e).registers ≡ e.registers
unfolding advanced_by
advanced-registers rule extent e = by_cases (ltb (e.visited + 1) (count_by rule extent e)) (λ t. rw t) (λ t. rw t)

pub visits-registers : (rule : Rule) (n : ℕ) (extent : Extent) (s : Scene) → (visits_by rule n extent s).engine.registers ≡ s.engine.registers
unfolding visit_by visits_by
visits-registers rule zero extent s = refl
visits-registers rule (suc n) extent s =
    advanced-registers rule extent (visits_by rule n extent s).engine ∙ visits-registers rule n extent s

-- a visit's pattern, from the registers and the pattern before it
pattern-from : (e : Engine) (g : Registers) (q : Pattern) (b : Bool) → e.registers ≡ g → e.pattern ≡ q → in_dashes (command_of g.cmd) ≡ b
    → pattern_after e ≡ cond b (next_of (pattern_control_of g.pctrl) q) q
unfolding pattern_after
pattern-from e g q b p r h = rw (p, r, h)

pub moves-by-visits : MovesByVisits
unfolding visit_by visits_by in_turn
moves-by-visits zero extent s h = refl
moves-by-visits (suc n) extent s h =
    let e = (visits_of n extent s).engine in
    advanced-pattern extent e
    ∙ pattern-from e s.engine.registers _ true (visits-registers shows n extent s) (moves-by-visits n extent s h) h

pub others-move-nothing : OthersMoveNothing
unfolding visit_by visits_by
others-move-nothing zero extent s h = refl
others-move-nothing (suc n) extent s h =
    let e = (visits_of n extent s).engine in
    advanced-pattern extent e
    ∙ pattern-from e s.engine.registers _ false (visits-registers shows n extent s) (others-move-nothing n extent s h) h

-- the first of n + 1 visits, and then n
pub visits-first : (rule : Rule) (n : ℕ) (extent : Extent) (s : Scene)
    → visits_by rule n extent (visit_by rule extent s) ≡ visits_by rule (suc n) extent s
unfolding visits_by
visits-first rule zero extent s = refl
visits-first rule (suc n) extent s = ap (visit_by rule extent) (visits-first rule n extent s)
