-- A step keeps the engine well formed.
-- Assumes nothing.
use mathlib.Core.Path.{◌≡◌, refl, ap, ◌∙◌}
use mathlib.Core.Bool.{Bool, true, false, cond, ◌&&◌}
use Prim.Native.Nat.{ℕ, ◌+◌, ◌<◌}
use borrow.Author.Tests.{ltb-true, eqb-true}
use lib.Dec.{eqb, ltb}
use Rattle.lemmas.proofs.Booleans.{by_cases, both, and_left, and_right, or-none-left, first_of, second-of}
use Rattle.geometry.specs.declared.Extent.{Extent}
use Rattle.entries.specs.Fields.{pattern_control_of, is_line, is_trigger, triggers}
use Rattle.entries.specs.Legality.{data_legal, entry_legal}
use Rattle.entries.specs.declared.decoding.Entry.{Entry}
use Rattle.registers.specs.Patterns.{next_of}
use Rattle.registers.specs.States.{state_ok}
use Rattle.registers.proofs.Stays.{writes-stay-ok, moves-stay-ok}
use Rattle.commands.specs.Visits.{command_in, shows, count_of}
use Rattle.commands.specs.Steps.{in_dashes, pattern_after, advanced_by, advanced_of, visit_by, sets_pattern, with_word, triggered_of, entered_by, entered_of}
use Rattle.commands.specs.Record.{command_ok, engine_ok, VisitsStayOk, EntriesStayOk}
use Rattle.commands.specs.declared.Engine.{Engine}
use Rattle.commands.proofs.Bounds.{count_same}
use Rattle.commands.proofs.Triggers.{triggered-count}

-- the command under way, by the test that it passes
module _ (extent : Extent) (e : Engine) where
  pub command-resting : e.under_way ≡ false → eqb e.visited 0 ≡ command_ok extent e
  command-resting u = second-of e.under_way (ltb e.visited (count_of extent e)) (eqb e.visited 0) u

  pub command-going : e.under_way ≡ true → (n : ℕ) → n ≡ count_of extent e → ltb e.visited n ≡ command_ok extent e
  command-going u n h = ap (ltb e.visited) h ∙ first_of e.under_way (ltb e.visited (count_of extent e)) (eqb e.visited 0) u

-- what a well formed engine says
module _ (extent : Extent) (e : Engine) (h : engine_ok extent e ≡ true) where
  pub engine-state : state_ok e.registers e.pattern ≡ true
  engine-state = and_left (state_ok e.registers e.pattern) (command_ok extent e) h

  engine-command : command_ok extent e ≡ true
  engine-command = and_right (state_ok e.registers e.pattern) (command_ok extent e) h

  pub engine-pixels : e.under_way ≡ true → e.visited < count_of extent e
  engine-pixels u =
      ltb-true e.visited (count_of extent e) (command-going extent e u (count_of extent e) refl ∙ engine-command)

  pub engine-zero : e.under_way ≡ false → e.visited ≡ 0
  engine-zero u =
      eqb-true e.visited 0 (command-resting extent e u ∙ engine-command)

-- ---- an entry
entered-command : (extent : Extent) (number : ℕ) (f : Engine) → command_ok extent (triggered_of extent number f) ≡ true
entered-command extent number f =
    let t = triggers number (command_in f) && ltb 0 (count_of extent f) in
    by (ltb 0 (count_of extent (triggered_of extent number f))) t
    (λ h. ap (ltb 0) (triggered-count shows extent number f h) ∙ and_right (triggers number (command_in f)) (ltb 0 (count_of extent f)) h)
  where
    by : (some t : Bool) → (t ≡ true → some ≡ true) → cond t some true ≡ true
    by some true f = f refl
    by some false f = refl

pub entered-ok : (extent : Extent) (e : Engine) (entry : Entry) → entry_legal entry ≡ true → engine_ok extent e ≡ true
    → engine_ok extent (entered_of extent e entry) ≡ true
unfolding entered_by
entered-ok extent e entry legal ok =
    let f = with_word e entry in
    let number = entry.register in
    let data-legal = and_right (eqb entry.spare 0) (data_legal number entry.word) legal in
    both
    (writes-stay-ok e.registers e.pattern number entry.word (sets_pattern number f) data-legal
    (λ t. or-none-left (eqb number 6) (is_trigger number && is_line (command_in f) && (command_in f).prst) t)
    (engine-state extent e ok))
    (entered-command extent number f)

-- ---- a pixel
moved-state : (e : Engine) → state_ok e.registers e.pattern ≡ true → state_ok e.registers (pattern_after e) ≡ true
unfolding pattern_after
moved-state e h = by (in_dashes (command_in e))
  where
    by : (t : Bool) → state_ok e.registers (cond t (next_of (pattern_control_of e.registers.pctrl) e.pattern) e.pattern) ≡ true
    by true = moves-stay-ok e.registers e.pattern h
    by false = h

-- an engine with a pixel more visited
going_on : Engine → Engine
going_on e =
    record {
      under_way = true;
      visited = e.visited + 1;
      registers = e.registers;
      pattern = pattern_after e;
      last = e.last;
    }

pub advanced-ok : (extent : Extent) (e : Engine) → engine_ok extent e ≡ true → engine_ok extent (advanced_of extent e) ≡ true
unfolding advanced_by going_on
advanced-ok extent e ok =
    let state = moved-state e (engine-state extent e ok) in
    by_cases (ltb (e.visited + 1) (count_of extent e))
    (λ t. rw t (both state (ap (ltb (e.visited + 1)) (count_same shows extent (going_on e) e refl refl) ∙ t)))
    (λ t. rw t (both state refl))

pub visits-stay-ok : VisitsStayOk
unfolding visit_by
visits-stay-ok extent s ok = advanced-ok extent s.engine ok

pub entries-stay-ok : EntriesStayOk
entries-stay-ok extent s entry legal ok = entered-ok extent s.engine entry legal ok
