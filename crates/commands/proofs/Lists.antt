-- Entries step by step do what they do one after the other, each with all its pixels, in parts or at once; so R-6 leaves the
-- same.
-- Assumes nothing.
use mathlib.Core.Path.{◌≡◌, refl, ap, sym, subst, ◌∙◌}
use mathlib.Core.Bool.{Bool, true, false, cond, false≢true}
use mathlib.Core.List.{List, [], ◌∷◌, ◌++◌}
use Prim.Native.Nat.{ℕ, zero, suc, ◌+◌, ◌<◌}
use native.Mathlib.Omega.{arith}
use borrow.Author.Tests.{ltb-true}
use lib.Dec.{ltb}
use Rattle.lemmas.proofs.Booleans.{by_cases, and_right}
use Rattle.geometry.specs.declared.Extent.{Extent}
use Rattle.entries.specs.Fields.{triggers}
use Rattle.entries.specs.declared.decoding.Entry.{Entry}
use Rattle.commands.specs.Visits.{command_in, Rule, shows, every, count_by}
use Rattle.commands.specs.Steps.{Scene, pattern_after, advanced_by, visit_by, with_word, entered_by, taken_by}
use Rattle.commands.specs.Wholes.{finished_by, done_by, steps_by}
use Rattle.commands.specs.Lists.{listed, fetched_by, step_by, gone_by, ListsEnd, ListsUnchanged}
use Rattle.commands.specs.declared.Engine.{Engine}
use Rattle.commands.proofs.Bounds.{count_same}
use Rattle.commands.proofs.Triggers.{triggered-count}
use Rattle.commands.proofs.Counts.{rest-finished, visit-steps, take_steps, none_left, visit-done, take_done, none_done}
use Rattle.commands.proofs.Unchanged.{picture-unchanged}

module _ (rule : Rule) (extent : Extent) where
  -- a command under way has a pixel left
  abbrev Going : Engine → Type 0
  Going e = e.under_way ≡ true → e.visited < count_by rule extent e

  -- an engine with a pixel more visited
  abbrev further : Engine → Engine
  further e =
      record { under_way = true; visited = e.visited + 1; registers = e.registers; pattern = pattern_after e; last = e.last }

  abbrev over : Engine → Engine
  over e =
      record { under_way = false; visited = 0; registers = e.registers; pattern = pattern_after e; last = e.registers.xy1 }

  going_on : (s : Scene) → Going (visit_by rule extent s).engine
  unfolding visit_by advanced_by
  going_on s =
      let e = s.engine in
      let more = ltb (e.visited + 1) (count_by rule extent e) in
      by_cases more
      (λ t.
      subst (λ (m : Bool). Going (cond m (further e) (over e))) (sym t)
      (λ u. omega (arith, ltb-true (e.visited + 1) (count_by rule extent e) t, count_same rule extent (further e) e refl refl)))
      (λ t. subst (λ (m : Bool). Going (cond m (further e) (over e))) (sym t) (λ u. absurd (false≢true u)))

  going-in : (s : Scene) (entry : Entry) → Going (taken_by rule extent s entry).engine
  unfolding entered_by
  going-in s entry u =
      let f = with_word s.engine entry in
      let t = triggers entry.register (command_in f) in
      omega (arith, triggered-count rule extent entry.register f u, ltb-true 0 (count_by rule extent f) (and_right t (ltb 0 (count_by rule extent f)) u))

  -- one step, by what is under way
  step-visits : (s : Scene) (es : List Entry) → s.engine.under_way ≡ true → step_by rule extent (listed s es) ≡ listed (visit_by rule extent s) es
  unfolding step_by
  step-visits s es u = ap (λ t. cond t (listed (visit_by rule extent s) es) (fetched_by rule extent s es)) u

  step-takes : (s : Scene) (e : Entry) (es : List Entry) → s.engine.under_way ≡ false
      → step_by rule extent (listed s (e ∷ es)) ≡ listed (taken_by rule extent s e) es
  unfolding step_by
  step-takes s e es u = ap (λ t. cond t (listed (visit_by rule extent s) (e ∷ es)) (listed (taken_by rule extent s e) es)) u

  -- n steps that are left
  abbrev Ends : ℕ → Scene → List Entry → Type 0
  Ends n s es = (gone_by rule n extent (listed s es) ≡ listed (done_by rule extent s es) []) × ((done_by rule extent s es).engine.under_way ≡ false)

  abbrev All : ℕ → Type 0
  All n = (s : Scene) (es : List Entry) → Going s.engine → steps_by rule extent s es ≡ n → Ends n s es

  visit-ends : (n : ℕ) → All n → (s : Scene) (es : List Entry) → Going s.engine → s.engine.under_way ≡ true
      → steps_by rule extent s es ≡ suc n → Ends (suc n) s es
  unfolding gone_by
  visit-ends n more s es g u p =
      let v = visit_by rule extent s in
      let same = visit-done rule extent s u (g u) es in
      let h = more v es (going_on s) (omega (arith, p, visit-steps rule extent s u (g u) es)) in (
        ap (gone_by rule n extent) (step-visits s es u) ∙ h.0 ∙ ap (λ t. listed t []) (sym same),
        ap (λ (t : Scene). t.engine.under_way) same ∙ h.1,
      )

  take_ends : (n : ℕ) → All n → (s : Scene) (e : Entry) (es : List Entry) → s.engine.under_way ≡ false
      → steps_by rule extent s (e ∷ es) ≡ suc n → Ends (suc n) s (e ∷ es)
  unfolding gone_by
  take_ends n more s e es u p =
      let same = take_done rule extent s u e es in
      let h = more (taken_by rule extent s e) es (going-in s e) (omega (arith, p, take_steps rule extent s u e es)) in (
        ap (gone_by rule n extent) (step-takes s e es u) ∙ h.0 ∙ ap (λ t. listed t []) (sym same),
        ap (λ (t : Scene). t.engine.under_way) same ∙ h.1,
      )

  none-ends : (s : Scene) → s.engine.under_way ≡ false → Ends 0 s []
  unfolding gone_by
  none-ends s u =
      let same = none_done rule extent s u in
      (ap (λ t. listed t []) (sym same), ap (λ (t : Scene). t.engine.under_way) same ∙ u)

  ends : (n : ℕ) → All n
  ends zero s [] g p =
      by_cases s.engine.under_way (λ u. absurd (omega (arith, p, visit-steps rule extent s u (g u) []))) (λ u. none-ends s u)
  ends zero s (e ∷ es) g p =
      by_cases s.engine.under_way (λ u. absurd (omega (arith, p, visit-steps rule extent s u (g u) (e ∷ es))))
      (λ u. absurd (omega (arith, p, take_steps rule extent s u e es)))
  ends (suc n) s [] g p =
      by_cases s.engine.under_way (λ u. visit-ends n (ends n) s [] g u p) (λ u. absurd (omega (arith, p, none_left rule extent s u)))
  ends (suc n) s (e ∷ es) g p =
      by_cases s.engine.under_way (λ u. visit-ends n (ends n) s (e ∷ es) g u p) (λ u. take_ends n (ends n) s e es u p)

  -- what is finished has nothing left, so entries may be done in parts
  finished-once : (s : Scene) → Going s.engine → finished_by rule extent s ≡ finished_by rule extent (finished_by rule extent s)
  unfolding done_by
  finished-once s g = sym (rest-finished rule extent (finished_by rule extent s) (ends (steps_by rule extent s []) s [] g refl).1)

  parts : (xs ys : List Entry) (s : Scene) → Going s.engine → done_by rule extent s (xs ++ ys) ≡ done_by rule extent (done_by rule extent s xs) ys
  unfolding done_by
  parts [] [] s g = finished-once s g
  parts [] (y ∷ ys) s g = ap (λ t. done_by rule extent (taken_by rule extent t y) ys) (finished-once s g)
  parts (x ∷ xs) ys s g =
      let t = finished_by rule extent s in parts xs ys (taken_by rule extent t x) (going-in t x)

  going-none : (e : Engine) → e.under_way ≡ false → Going e
  going-none e h u = absurd (false≢true (sym h ∙ u))

pub done-parts : (rule : Rule) (extent : Extent) (s : Scene) (xs ys : List Entry) → s.engine.under_way ≡ false
    → done_by rule extent s (xs ++ ys) ≡ done_by rule extent (done_by rule extent s xs) ys
done-parts rule extent s xs ys h = parts rule extent xs ys s (going-none rule extent s.engine h)

pub lists-end : ListsEnd
lists-end rule extent s es h =
    let r = ends rule extent (steps_by rule extent s es) s es (going-none rule extent s.engine h) refl in
    record { done = r.0; idle = r.1 }

pub lists-unchanged : ListsUnchanged
lists-unchanged extent s es h =
    (lists-end shows extent s es h).done ∙ ap (λ t. listed t []) (picture-unchanged extent s es h) ∙ sym (lists-end every extent s es h).done
