-- A refused call leaves record and memory as they were, by the tests that it passes; and a run that is not refused.
-- Assumes nothing.
use mathlib.Core.Path.{◌≡◌, refl, ap}
use mathlib.Core.Bool.{Bool, true, false, cond}
use mathlib.Core.List.{List}
use Prim.Native.Nat.{ℕ, zero, suc}
use borrow.Author.Tests.{ne_eqb}
use lib.ListN.{length}
use Rattle.lemmas.proofs.Booleans.{of_either}
use Rattle.lists.specs.declared.cursors.Next.{Next}
use Rattle.lists.specs.declared.cursors.Next.TheVariants.{Ended, Visit, Take, Broken}
use Rattle.slots.specs.Slots.{lent_ok, slot_of}
use Rattle.slots.specs.Calls.{post_report}
use Rattle.slots.proofs.Grounds.{store-leaves, write-leaves}
use Rattle.board.specs.Record.{well_formed}
use Rattle.board.specs.Calls.{Reply, posted_of, post_call, Written, store_call, write_call}
use Rattle.board.specs.Steps.{Machine, next_on}
use Rattle.board.specs.Runs.{Outcome, ended, by_next, run_of, run_call}
use Rattle.board.specs.declared.record.Board.{Board}

-- ---- the record as given
abbrev pub Given : Board → Reply → Type 0
Given b r = (r.report.number ≡ 0 → ⊥) → r.board ≡ b

pub post-given : (list : List ℕ) (start count : ℕ) (b : Board) → Given b (post_call list start count b)
unfolding post_call
post-given list start count b =
    let t = post_report b.sizes (slot_of b.active) b.pending list start count in
    of_either (Given b) (well_formed b) (λ n. ap (λ x. cond x (posted_of b start count) b) (ne_eqb t.number 0 n)) (λ n. refl)

abbrev pub Stays : Board → List ℕ → Written → Type 0
Stays b memory r = (r.report.number ≡ 0 → ⊥) → (r.board ≡ b) × (r.memory ≡ memory)

pub store-stays : (list : List ℕ) (first : ℕ) (bytes : List ℕ) (b : Board) → Stays b list (store_call list first bytes b)
unfolding store_call
store-stays list first bytes b =
    of_either (Stays b list) (well_formed b) (λ n. (refl, store-leaves b.sizes (slot_of b.active) b.pending list first bytes n)) (λ n. (refl, refl))

pub write-stays : (number offset : ℕ) (bytes buffer : List ℕ) (b : Board) → Stays b buffer (write_call number offset bytes buffer b)
unfolding write_call
write-stays number offset bytes buffer b =
    of_either (Stays b buffer) (well_formed b) (λ n. (refl, write-leaves b.sizes (slot_of b.active) b.pending number offset bytes buffer n))
    (λ n. (refl, refl))

-- a run that takes steps answers 0 or 9
abbrev ZeroOrNine : Outcome → Type 0
ZeroOrNine o = (o.report.number ≡ 0 → ⊥) → (o.report.number ≡ 9 → ⊥) → ⊥

zero-or-nine-by : (x : Next) (m : Machine) (more : Outcome) → ZeroOrNine more → ZeroOrNine (by_next x m more)
zero-or-nine-by Ended m more g n k = n refl
zero-or-nine-by Visit m more g n k = g n k
zero-or-nine-by (Take e) m more g n k = g n k
zero-or-nine-by Broken m more g n k = k refl

run-zero-or-nine : (budget : ℕ) (l : List ℕ) (m : Machine) → ZeroOrNine (run_of budget l m)
unfolding run_of
run-zero-or-nine zero l m = λ n k. n refl
run-zero-or-nine (suc budget) l m = zero-or-nine-by (next_on l m.board) m _ (run-zero-or-nine budget l _)

abbrev pub Halts : Machine → Outcome → Type 0
Halts m o = (o.report.number ≡ 0 → ⊥) → (o.report.number ≡ 9 → ⊥) → o.after ≡ m

halts_by : (m : Machine) (o : Outcome) → ZeroOrNine o → (well lent : Bool) → Halts m (cond well (cond lent o (ended 2 m)) (ended 1 m))
halts_by m o g false lent n k = refl
halts_by m o g true false n k = refl
halts_by m o g true true n k = absurd (g n k)

pub run-halts : (budget : ℕ) (l : List ℕ) (m : Machine) → Halts m (run_call budget l m)
unfolding run_call
run-halts budget l m =
    halts_by m _ (run-zero-or-nine budget l m) (well_formed m.board) (lent_ok m.board.sizes (length l) (length m.display) (length m.virt))

-- ---- a run, by its tests
pub run-malformed : (budget : ℕ) (l : List ℕ) (m : Machine) → well_formed m.board ≡ false → ended 1 m ≡ run_call budget l m
unfolding run_call
run-malformed budget l m h = rw h

pub run-wrong-size : (budget : ℕ) (l : List ℕ) (m : Machine) → well_formed m.board ≡ true
    → lent_ok m.board.sizes (length l) (length m.display) (length m.virt) ≡ false → ended 2 m ≡ run_call budget l m
unfolding run_call
run-wrong-size budget l m h k = rw (h, k)

pub run-accepted : (budget : ℕ) (l : List ℕ) (m : Machine) → well_formed m.board ≡ true
    → lent_ok m.board.sizes (length l) (length m.display) (length m.virt) ≡ true → (o : Outcome) → o ≡ run_of budget l m
    → o ≡ run_call budget l m
unfolding run_call
run-accepted budget l m h k o e = rw (h, k) e
