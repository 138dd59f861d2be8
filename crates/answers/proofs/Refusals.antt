-- A refusal has a number, and is what `?` hands on.
-- Assumes nothing.
use mathlib.Core.Path.{◌≡◌, ap, ◌∙◌}
use native.Mathlib.Omega.{arith}
use Rattle.std.specs.Prelude.{Result, Err, IsErrAnd}
use Rattle.std.proofs.lemmas.Result.{err_from_is_err_and}
use Rattle.answers.specs.Reports.{report_of}
use Rattle.answers.specs.declared.Refusal.{Refusal}
use Rattle.answers.specs.declared.Refusal.TheVariants.{Malformed, WrongSize, NoEntries, PastTheEnd, SlotsFull, IllegalEntry, Busy, EntryHeld, IllegalFetch, NotAPicture}

pub numbered : (refusal : Refusal) → (report_of (Err refusal)).number ≡ 0 → ⊥
numbered Malformed h = omega arith
numbered WrongSize h = omega arith
numbered NoEntries h = omega arith
numbered PastTheEnd h = omega arith
numbered SlotsFull h = omega arith
numbered (IllegalEntry place) h = omega arith
numbered Busy h = omega arith
numbered EntryHeld h = omega arith
numbered (IllegalFetch steps) h = omega arith
numbered NotAPicture h = omega arith

pub refused : {A : Type 0} {r : Result A Refusal} {e why : Refusal} → IsErrAnd r (λ y. y ≡ e) → e ≡ why → r ≡ Err why
refused {A} {r} q f = let p = err_from_is_err_and r q in p.1 ∙ ap Err (p.2 ∙ f)
