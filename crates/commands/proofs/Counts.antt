-- The steps of what is under way and of entries after it: a step has one fewer left, and leads to the same end.
-- Assumes nothing.
use mathlib.Core.Path.{◌≡◌, ap, sym, ◌∙◌}
use mathlib.Core.Bool.{true, false, cond}
use mathlib.Core.List.{List, [], ◌∷◌}
use Prim.Native.Nat.{ℕ, suc, ◌+◌, ◌-◌, ◌<◌}
use native.Mathlib.Omega.{arith}
use borrow.Author.Tests.{ltb-true, ltb-false}
use lib.Dec.{ltb}
use Rattle.lemmas.proofs.Booleans.{by_cases}
use Rattle.geometry.specs.declared.Extent.{Extent}
use Rattle.entries.specs.declared.decoding.Entry.{Entry}
use Rattle.commands.specs.Visits.{Rule, count_by}
use Rattle.commands.specs.Steps.{Scene, advanced_by, visit_by, visits_by, taken_by}
use Rattle.commands.specs.Wholes.{pixels_left, finished_by, done_by, steps_by}
use Rattle.commands.specs.declared.Engine.{Engine}
use Rattle.commands.proofs.Visiting.{visits-first, visits-none}

-- with no command under way none is left
rest-pixels : (rule : Rule) (extent : Extent) (e : Engine) → e.under_way ≡ false → pixels_left rule extent e ≡ 0
rest-pixels rule extent e u = ap (λ t. cond t (count_by rule extent e - e.visited) 0) u

pub rest-finished : (rule : Rule) (extent : Extent) (s : Scene) → s.engine.under_way ≡ false → finished_by rule extent s ≡ s
rest-finished rule extent s u = ap (λ n. visits_by rule n extent s) (rest-pixels rule extent s.engine u) ∙ sym (visits-none rule extent s)

-- a pixel visited
advanced-pixels : (rule : Rule) (extent : Extent) (e : Engine) → e.visited < count_by rule extent e → count_by rule extent e - e.visited ≡ 1 + pixels_left rule extent (advanced_by rule extent e)
unfolding advanced_by count_by
advanced-pixels rule extent e h =
    by_cases (ltb (e.visited + 1) (count_by rule extent e)) (λ t. rw t (omega (arith, ltb-true (e.visited + 1) (count_by rule extent e) t)))
    (λ t. rw t (omega (arith, ltb-false (e.visited + 1) (count_by rule extent e) t)))

module _ (rule : Rule) (extent : Extent) (s : Scene) (u : s.engine.under_way ≡ true) (some : s.engine.visited < count_by rule extent s.engine) where
  visit-pixels : pixels_left rule extent s.engine ≡ 1 + pixels_left rule extent (visit_by rule extent s).engine
  unfolding visit_by
  visit-pixels =
      ap (λ t. cond t (count_by rule extent s.engine - s.engine.visited) 0) u ∙ advanced-pixels rule extent s.engine some

  visit-finished : finished_by rule extent s ≡ finished_by rule extent (visit_by rule extent s)
  visit-finished =
      let n = pixels_left rule extent (visit_by rule extent s).engine in
      let one : 1 + n ≡ suc n = omega arith in
      ap (λ n. visits_by rule n extent s) (visit-pixels ∙ one) ∙ sym (visits-first rule n extent s)

  pub visit-steps : (es : List Entry) → steps_by rule extent s es ≡ 1 + steps_by rule extent (visit_by rule extent s) es
  unfolding steps_by
  visit-steps [] = visit-pixels
  visit-steps (e ∷ es) =
      let rest = steps_by rule extent (taken_by rule extent (finished_by rule extent (visit_by rule extent s)) e) es in
      let p = pixels_left rule extent s.engine in
      ap (λ t. p + 1 + steps_by rule extent (taken_by rule extent t e) es) visit-finished
      ∙ one_fewer p (pixels_left rule extent (visit_by rule extent s).engine) rest visit-pixels
    where
      one_fewer : (p q r : ℕ) → p ≡ 1 + q → p + 1 + r ≡ 1 + (q + 1 + r)
      one_fewer p q r h = omega arith

  -- and they leave the same
  pub visit-done : (es : List Entry) → done_by rule extent s es ≡ done_by rule extent (visit_by rule extent s) es
  unfolding done_by
  visit-done [] = visit-finished
  visit-done (e ∷ es) = ap (λ t. done_by rule extent (taken_by rule extent t e) es) visit-finished

-- an entry taken, and nothing left
module _ (rule : Rule) (extent : Extent) (s : Scene) (u : s.engine.under_way ≡ false) where
  pub take_steps : (e : Entry) (es : List Entry) → steps_by rule extent s (e ∷ es) ≡ 1 + steps_by rule extent (taken_by rule extent s e) es
  unfolding steps_by
  take_steps e es =
      ap (λ t. pixels_left rule extent s.engine + 1 + steps_by rule extent (taken_by rule extent t e) es) (rest-finished rule extent s u)
      ∙ ap (λ p. p + 1 + steps_by rule extent (taken_by rule extent s e) es) (rest-pixels rule extent s.engine u)

  pub none_left : steps_by rule extent s [] ≡ 0
  unfolding steps_by
  none_left = rest-pixels rule extent s.engine u

  pub take_done : (e : Entry) (es : List Entry) → done_by rule extent s (e ∷ es) ≡ done_by rule extent (taken_by rule extent s e) es
  unfolding done_by
  take_done e es = ap (λ t. done_by rule extent (taken_by rule extent t e) es) (rest-finished rule extent s u)

  pub none_done : done_by rule extent s [] ≡ s
  unfolding done_by
  none_done = rest-finished rule extent s u
