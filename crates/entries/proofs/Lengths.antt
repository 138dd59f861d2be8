-- A pattern's length is from 1 to 32.
-- Assumes nothing.
use Prim.Native.Nat.{ℕ, ◌<◌, ◌≤◌}
use native.Mathlib.Omega.{arith}
use borrow.Author.Tests.{eqb-false}
use lib.Dec.{eqb}
use Rattle.lemmas.proofs.Booleans.{by_cases}
use Rattle.entries.specs.Fields.{plen, length_of}

pub length-pos : (word : ℕ) → 0 < length_of word
unfolding length_of
length-pos word =
    by_cases (eqb (plen word) 0) (λ e. rw e (omega arith)) (λ e. rw e (omega (arith, eqb-false (plen word) 0 e)))

pub length_most : (word : ℕ) → length_of word ≤ 32
unfolding length_of
length_most word = by_cases (eqb (plen word) 0) (λ e. rw e (omega arith)) (λ e. rw e (omega arith))
