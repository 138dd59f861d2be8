-- Which words a register may hold, register by register.
-- Assumes nothing.
use mathlib.Core.Path.{◌≡◌, refl, ap, sym, ◌∙◌}
use mathlib.Core.Bool.{Bool, true, false, ◌&&◌, ◌||◌, or-false, and-false, false≢true}
use mathlib.Core.Logic.{◌⊎◌, inl, inr}
use Prim.Native.Nat.{ℕ, ◌/◌, ◌%◌, ◌^◌, ◌≤◌, ◌<◌}
use native.Mathlib.Omega.{arith}
use borrow.Author.Tests.{eqb-false, eq-eqb, ne_eqb, le-leb, lt-leb, ltb-true, ltb-false}
use lib.Dec.{eqb, leb, ltb}
use Rattle.lemmas.proofs.Booleans.{by_cases}
use Rattle.entries.specs.Fields.{field, opcode_of, command_of, blits, lines, is_blit, is_line}
use Rattle.entries.specs.declared.fields.Opcode.{Opcode}
use Rattle.entries.specs.declared.fields.Opcode.TheVariants.{Noop, Blit, Line, Polyline, Unknown}
use Rattle.entries.specs.declared.fields.Command.{Command}
use Rattle.entries.specs.Legality.{blit_legal, line_legal, cmd_legal, pctrl_legal, data_legal, entry_legal}

-- CMD by its opcode
module _ (word : ℕ) (c : Command) (is : c ≡ command_of word) where
  abbrev low_zero : Bool
  low_zero = eqb (word % 2 ^ 14) 0

  -- only NOOP's may be 0
  some-word : (c.opcode ≡ Noop → ⊥) → eqb word 0 ≡ false
  some-word other =
      ne_eqb word 0 (λ e. other (ap (λ (c : Command). c.opcode) is ∙ ap (λ (w : ℕ). opcode_of (field 28 4 w)) e))

  abbrev legal_by : Command → Bool
  legal_by c = eqb word 0 || (low_zero && (is_blit c && blit_legal c || is_line c && line_legal c))

  all-by : legal_by c ≡ cmd_legal word
  unfolding cmd_legal
  all-by = ap legal_by is

  pub noop-word : c.opcode ≡ Noop → eqb word 0 ≡ cmd_legal word
  noop-word h =
      let e : eqb word 0 ≡ legal_by c = rw (h, and-false low_zero) (sym (or-false (eqb word 0))) in e ∙ all-by

  pub blit-word : c.opcode ≡ Blit → (low_zero && blit_legal c) ≡ cmd_legal word
  blit-word h =
      let some = some-word (λ (n : c.opcode ≡ Noop). cc) in
      let e : (low_zero && blit_legal c) ≡ legal_by c = rw (some, h, or-false (blit_legal c)) refl in e ∙ all-by

  pub line-word : (c.opcode ≡ Line) ⊎ (c.opcode ≡ Polyline) → (low_zero && line_legal c) ≡ cmd_legal word
  line-word (inl h) =
      let some = some-word (λ (n : c.opcode ≡ Noop). cc) in
      let e : (low_zero && line_legal c) ≡ legal_by c = rw (some, h) refl in e ∙ all-by
  line-word (inr h) =
      let some = some-word (λ (n : c.opcode ≡ Noop). cc) in
      let e : (low_zero && line_legal c) ≡ legal_by c = rw (some, h) refl in e ∙ all-by

  pub unknown-word : (n : ℕ) → c.opcode ≡ Unknown n → false ≡ cmd_legal word
  unknown-word n h =
      let some = some-word (λ (m : c.opcode ≡ Noop). cc) in
      let e : false ≡ legal_by c = rw (some, h, and-false low_zero) refl in e ∙ all-by

-- a blit is no line, and a line no blit
pub blit-no-line : (c : Command) → is_blit c ≡ true → is_line c ≡ false
blit-no-line c h = no_line c.opcode h
  where
    no_line : (o : Opcode) → blits o ≡ true → lines o ≡ false
    no_line Noop h = refl
    no_line Blit h = refl
    no_line Line h = absurd (false≢true h)
    no_line Polyline h = absurd (false≢true h)
    no_line (Unknown n) h = refl

pub line-no-blit : (c : Command) → is_line c ≡ true → is_blit c ≡ false
line-no-blit c h =
    by_cases (is_blit c) (λ t. absurd (false≢true (sym (blit-no-line c t) ∙ h))) (λ t. t)

pub cmd-held : (register word : ℕ) → register ≡ 0 → cmd_legal word ≡ data_legal register word
unfolding data_legal
cmd-held register word e = rw e (simp or-false)

pub pctrl-held : (register word : ℕ) → register ≡ 6 → pctrl_legal word ≡ data_legal register word
unfolding data_legal
pctrl-held register word e = rw e (simp or-false)

pub size-held : (register word : ℕ) → register ≡ 10 → (leb (word / 2 ^ 16) 2048 && leb (word % 2 ^ 16) 2048) ≡ data_legal register word
unfolding data_legal
size-held register word e = rw e (simp or-false)

-- FORE, BACK, MASK and KEY
byte-held : (register word : ℕ) → (register ≡ 0 → ⊥) → register ≤ 4 → ltb word 256 ≡ data_legal register word
unfolding data_legal
byte-held register word some h =
    rw (
      ne_eqb register 0 some,
      le-leb 1 register (omega (arith, some)),
      le-leb register 4 h,
      ne_eqb register 5 (λ e. omega arith),
      ne_eqb register 6 (λ e. omega arith),
      lt-leb 7 register (omega arith),
      ne_eqb register 10 (λ e. omega arith),
      ne_eqb register 11 (λ e. omega arith),
      ne_eqb register 12 (λ e. omega arith),
    )
    (simp or-false)

-- LPAT, CLPTL, CLPBR and XY0
any_held : (register word : ℕ) → 4 < register → register ≤ 9 → (register ≡ 6 → ⊥) → true ≡ data_legal register word
unfolding data_legal
any_held register word low high pctrl =
    rw (
      ne_eqb register 0 (λ e. omega arith),
      le-leb 1 register (omega arith),
      lt-leb register 4 low,
      ne_eqb register 6 pctrl,
      le-leb register 9 high,
    )
    (by_cases (eqb register 5) (λ t. rw t) (λ t. rw (t, le-leb 7 register (omega (arith, eqb-false register 5 t, pctrl)))))

pub low_held : (register word : ℕ) → (register ≡ 0 → ⊥) → (register ≡ 6 → ⊥) → register ≤ 9
    → (ltb 4 register || ltb word 256) ≡ data_legal register word
low_held register word some pctrl h =
    by_cases (ltb 4 register) (λ t. rw t (any_held register word (ltb-true 4 register t) h pctrl))
    (λ t. rw t (byte-held register word some (ltb-false 4 register t)))

-- XY3 and XY1, or no register
pub high_held : (register word : ℕ) → 10 < register → (eqb register 11 && leb word 3 || eqb register 12) ≡ data_legal register word
unfolding data_legal
high_held register word h =
    rw (
      ne_eqb register 0 (λ e. omega arith),
      le-leb 1 register (omega arith),
      lt-leb register 4 (omega arith),
      ne_eqb register 5 (λ e. omega arith),
      ne_eqb register 6 (λ e. omega arith),
      le-leb 7 register (omega arith),
      lt-leb register 9 (omega arith),
      ne_eqb register 10 (λ e. omega arith),
    )

-- an entry with no spare bit set
pub entry-held : (spare : ℕ) (held : Bool) → spare ≡ 0 → held ≡ (eqb spare 0 && held)
entry-held spare held h = rw (eq-eqb spare 0 h)

-- the same where the register is known by its number
pub known-held : (register spare word number : ℕ) → register ≡ number → spare ≡ 0
    → data_legal number word ≡ entry_legal (record { register = register; spare = spare; word = word })
known-held register spare word number e h = ap (λ r. data_legal r word) (sym e) ∙ entry-held spare (data_legal register word) h
