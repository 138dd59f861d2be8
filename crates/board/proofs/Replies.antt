-- What make, post, store and window write answer, from what the slots say.
-- Assumes nothing.
use mathlib.Core.Path.{◌≡◌, refl, ap, sym, ◌∙◌}
use mathlib.Core.Bool.{true, false, cond}
use mathlib.Core.List.{List}
use Prim.Native.Nat.{ℕ, zero, suc, ◌+◌, ◌≤◌}
use borrow.Author.Tests.{eq-eqb, ne_eqb}
use lib.ListN.{length}
use Rattle.lemmas.proofs.Booleans.{of_either}
use Rattle.std.specs.Prelude.{Err}
use Rattle.answers.specs.Reports.{Report, report, report_of}
use Rattle.answers.specs.declared.Refusal.{Refusal}
use Rattle.answers.specs.declared.Refusal.TheVariants.{WrongSize}
use Rattle.lists.specs.declared.cursors.Next.{Next}
use Rattle.lists.specs.declared.cursors.Next.TheVariants.{Ended, Visit, Take, Broken}
use Rattle.slots.specs.Slots.{sizes_ok, sizes, lent_ok, slot_of}
use Rattle.slots.specs.declared.record.Sizes.{Sizes}
use Rattle.slots.specs.Calls.{post_report, Lent, store_report, write_report}
use Rattle.slots.proofs.Grounds.{NumberAlone, post-fits, post_steps, store-number, write-number}
use Rattle.board.specs.Record.{well_formed}
use Rattle.board.specs.Steps.{Machine, next_on, step_of}
use Rattle.board.specs.Runs.{Outcome, by_next, run_of, run_call}
use Rattle.board.specs.Calls.{Reply, fresh_board, make_call, answered, posted_of, post_by, post_call, Written, kept, kept_by, store_call, write_call}
use Rattle.board.specs.declared.record.Board.{Board}

module _ (l : List ℕ) (start count : ℕ) (b : Board) where
  pub post-malformed : well_formed b ≡ false → answered 1 0 b ≡ post_call l start count b
  unfolding post_call
  post-malformed w = rw w

  pub post-by : well_formed b ≡ true → (t : Report) → t ≡ post_report b.sizes (slot_of b.active) b.pending l start count
      → post_by t b start count ≡ post_call l start count b
  unfolding post_call
  post-by w t e = rw w (ap (λ t. post_by t b start count) e)

  module _ (w : well_formed b ≡ true) (t : Report) (e : t ≡ post_report b.sizes (slot_of b.active) b.pending l start count) where
    pub post-refused : (t.number ≡ 0 → ⊥) → (record { report = t; board = b }) ≡ post_call l start count b
    post-refused n =
        ap (λ x. record { report = t; board = cond x (posted_of b start count) b }) (sym (ne_eqb t.number 0 n)) ∙ post-by w t e

    pub post-done : t.number ≡ 0 → (c : Board) → c ≡ posted_of b start count → (record { report = t; board = c }) ≡ post_call l start count b
    post-done n c q =
        ap (λ c. record { report = t; board = c }) q
        ∙ ap (λ x. record { report = t; board = cond x (posted_of b start count) b }) (sym (eq-eqb t.number 0 n)) ∙ post-by w t e

    pub post-room : t.number ≡ 0 → start + count ≤ b.sizes.entries
    post-room n = post-fits b.sizes (slot_of b.active) b.pending l start count (sym (ap (λ t. t.number) e) ∙ n)

  pub post-accepted : well_formed b ≡ true → (k : ℕ)
      → report 0 0 k ≡ post_report b.sizes (slot_of b.active) b.pending l start count → (c : Board) → c ≡ posted_of b start count
      → (record { report = report 0 0 0; board = c }) ≡ post_call l start count b
  post-accepted w k e c q =
      let none : k ≡ 0 = ap (λ (t : Report). t.steps) e ∙ post_steps b.sizes (slot_of b.active) b.pending l start count in
      (λ i. record { report = report 0 0 (sym none i); board = c }) ∙ post-done w (report 0 0 k) e refl c q

-- ---- make
module _ (width height entries : ℕ) where
  pub make-done : (z : Sizes) (b : Board) → z ≡ sizes width height entries → sizes_ok z ≡ true → b ≡ fresh_board z
      → (record { report = report 0 0 0; board = b }) ≡ make_call width height entries
  unfolding make_call
  make-done z b e ok q =
      rw (ap sizes_ok (sym e) ∙ ok) (ap (answered 0 0) (q ∙ ap fresh_board e))

  pub make-refused : (why : Refusal) (b : Board) → why ≡ WrongSize → sizes_ok (sizes width height entries) ≡ false
      → b ≡ fresh_board (sizes 1 1 1) → (record { report = report_of (Err why); board = b }) ≡ make_call width height entries
  unfolding make_call
  make-refused why b e ok q =
      rw ok (ap (λ why. record { report = report_of (Err why); board = b }) e ∙ ap (answered 2 0) q)

module _ (l : List ℕ) (first : ℕ) (bytes : List ℕ) (b : Board) where
  pub store-malformed : well_formed b ≡ false → kept 1 b l ≡ store_call l first bytes b
  unfolding store_call
  store-malformed w = rw w

  pub store_by : well_formed b ≡ true → (m : Lent) → m ≡ store_report b.sizes (slot_of b.active) b.pending l first bytes
      → kept_by b m ≡ store_call l first bytes b
  unfolding store_call
  store_by w m e = rw w (ap (kept_by b) e)

module _ (number offset : ℕ) (bytes buffer : List ℕ) (b : Board) where
  pub write-malformed : well_formed b ≡ false → kept 1 b buffer ≡ write_call number offset bytes buffer b
  unfolding write_call
  write-malformed w = rw w

  pub write-by : well_formed b ≡ true → (m : Lent)
      → m ≡ write_report b.sizes (slot_of b.active) b.pending number offset bytes buffer
      → kept_by b m ≡ write_call number offset bytes buffer b
  unfolding write_call
  write-by w m e = rw w (ap (kept_by b) e)

-- ---- a post reports no steps, a store and a window write neither place nor steps, and a run no place
pub post-no-steps : (l : List ℕ) (start count : ℕ) (b : Board) → (post_call l start count b).report.steps ≡ 0
unfolding post_call
post-no-steps l start count b =
    of_either (λ (r : Reply). r.report.steps ≡ 0) (well_formed b) (post_steps b.sizes (slot_of b.active) b.pending l start count) refl

pub store-no-more : (l : List ℕ) (first : ℕ) (bytes : List ℕ) (b : Board) → NumberAlone (store_call l first bytes b).report
unfolding store_call
store-no-more l first bytes b =
    of_either (λ (r : Written). NumberAlone r.report) (well_formed b)
    (store-number b.sizes (slot_of b.active) b.pending l first bytes)
    refl

pub write-no-more : (number offset : ℕ) (bytes buffer : List ℕ) (b : Board) → NumberAlone (write_call number offset bytes buffer b).report
unfolding write_call
write-no-more number offset bytes buffer b =
    of_either (λ (r : Written). NumberAlone r.report) (well_formed b)
    (write-number b.sizes (slot_of b.active) b.pending number offset bytes buffer)
    refl

next-no-place : (x : Next) (m : Machine) (more : Outcome) → more.report.place ≡ 0 → (by_next x m more).report.place ≡ 0
next-no-place Ended m more h = refl
next-no-place Visit m more h = h
next-no-place (Take e) m more h = h
next-no-place Broken m more h = refl

steps-no-place : (budget : ℕ) (l : List ℕ) (m : Machine) → (run_of budget l m).report.place ≡ 0
unfolding run_of
steps-no-place zero l m = refl
steps-no-place (suc budget) l m = next-no-place (next_on l m.board) m (run_of budget l (step_of l m)) (steps-no-place budget l (step_of l m))

pub run-no-place : (budget : ℕ) (l : List ℕ) (m : Machine) → (run_call budget l m).report.place ≡ 0
unfolding run_call
run-no-place budget l m =
    let P : Outcome → Type 0 = λ o. o.report.place ≡ 0 in
    of_either P (well_formed m.board)
    (of_either P (lent_ok m.board.sizes (length l) (length m.display) (length m.virt)) (steps-no-place budget l m) refl)
    refl
