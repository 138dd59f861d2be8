-- The trigger of a command, by the tests that it passes; and that a command which its trigger sets under way keeps its last
-- point, and so its count, until it has finished.
-- Assumes nothing.
use mathlib.Core.Path.{◌≡◌, refl, ap, ap₂, sym, ◌∙◌}
use mathlib.Core.Bool.{Bool, true, false, not, cond, ◌&&◌, and-false}
use Prim.Native.Nat.{ℕ}
use native.Mathlib.Omega.{arith}
use borrow.Author.Tests.{eq-eqb, ltb-true, ltb-false, ne_eqb}
use lib.Dec.{eqb, ltb}
use Rattle.lemmas.proofs.Booleans.{by_cases, and_right}
use Rattle.geometry.specs.declared.Extent.{Extent}
use Rattle.entries.specs.Fields.{draws, is_trigger, triggers}
use Rattle.entries.specs.declared.decoding.Entry.{Entry}
use Rattle.commands.specs.Visits.{command_in, Rule, shows, count_by, count_of}
use Rattle.commands.specs.Steps.{pattern_set, with_word, triggered_by, entered_by, entered_of}
use Rattle.commands.specs.Entering.{writes, put_of, begin_of}
use Rattle.commands.specs.declared.Engine.{Engine}
use Rattle.commands.proofs.Bounds.{count_same}

-- another register than XY1 triggers nothing
pub put-entered : (extent : Extent) (e : Engine) (x : Entry) → is_trigger x.register ≡ false
    → put_of e x.register x.word ≡ entered_of extent e x
unfolding entered_by
put-entered extent e x h = rw h

-- XY1's word put into its register
module _ (extent : Extent) (e : Engine) (word : ℕ) where
  abbrev put : Engine
  put = with_word e (writes 12 word)

  -- what the trigger leaves, by whether the command draws and whether it has pixels
  abbrev by : Bool → Bool → Engine
  by d none =
      record {
        under_way = d && not none;
        visited = 0;
        registers = put.registers;
        pattern = pattern_set 12 put;
        last = cond (d && none) put.registers.xy1 put.last;
      }

  entered_by_lem : (d none : Bool) → draws (command_in put) ≡ d → eqb (count_of extent put) 0 ≡ none → by d none ≡ entered_of extent e (writes 12 word)
  unfolding entered_by
  entered_by_lem d none p q i =
      record {
        under_way = (ap₂ (λ d none. d && not none) (sym p) (sym q) ∙ ap (λ t. draws (command_in put) && t) (some_is (count_of extent put))) i;
        visited = 0;
        registers = put.registers;
        pattern = pattern_set 12 put;
        last = cond ((sym (ap₂ ◌&&◌ p q)) i) put.registers.xy1 put.last;
      }
    where
      some_is : (n : ℕ) → not (eqb n 0) ≡ ltb 0 n
      some_is n =
          by_cases (ltb 0 n) (λ t. ap not (ne_eqb n 0 (λ z. omega (arith, ltb-true 0 n t, z))) ∙ sym t)
          (λ t. ap not (eq-eqb n 0 (omega (arith, ltb-false 0 n t))) ∙ sym t)

  -- the count of the command, with its flag set or not
  begin-count : count_of extent (begin_of e word) ≡ count_of extent put
  begin-count = count_same shows extent (begin_of e word) put refl refl

  -- a command that does not draw
  pub begin-rests : (begin_of e word).under_way ≡ false → begin_of e word ≡ entered_of extent e (writes 12 word)
  begin-rests u =
      by_cases (eqb (count_of extent put) 0) (λ t. ap begun u ∙ entered_by_lem false true u t) (λ t. ap begun u ∙ entered_by_lem false false u t)
    where
      begun : Bool → Engine
      begun u = record { under_way = u; visited = 0; registers = put.registers; pattern = pattern_set 12 put; last = put.last }

  module _ (u : (begin_of e word).under_way ≡ true) where
    -- with pixels to visit it is under way
    pub begin-busy : eqb (count_of extent (begin_of e word)) 0 ≡ false → begin_of e word ≡ entered_of extent e (writes 12 word)
    begin-busy t =
        (λ i. record { under_way = u i; visited = 0; registers = put.registers; pattern = pattern_set 12 put; last = put.last })
        ∙ entered_by_lem true false u (ap (λ n. eqb n 0) (sym begin-count) ∙ t)

    -- with none it has ended
    pub begin-ends : eqb (count_of extent (begin_of e word)) 0 ≡ true
        → record { under_way = false; visited = 0; registers = put.registers; pattern = pattern_set 12 put; last = put.registers.xy1 }
        ≡ entered_of extent e (writes 12 word)
    begin-ends t = entered_by_lem true true u (ap (λ n. eqb n 0) (sym begin-count) ∙ t)

-- with pixels to visit the command has not finished
unfinished : (n : Bool) (c : ℕ) → (n && ltb 0 c) ≡ true → (n && eqb c 0) ≡ false
unfinished n c h =
    let some = ltb-true 0 c (and_right n (ltb 0 c) h) in
    ap (λ t. n && t) (ne_eqb c 0 (λ e. omega arith)) ∙ and-false n

module _ (rule : Rule) (extent : Extent) (number : ℕ) (f : Engine) (h : (triggers number (command_in f) && ltb 0 (count_by rule extent f)) ≡ true) where
  pub triggered-last : (triggered_by rule extent number f).last ≡ f.last
  triggered-last =
      ap (λ t. cond t f.registers.xy1 f.last) (unfinished (triggers number (command_in f)) (count_by rule extent f) h)

  pub triggered-count : count_by rule extent (triggered_by rule extent number f) ≡ count_by rule extent f
  triggered-count = count_same rule extent (triggered_by rule extent number f) f refl triggered-last
