-- The entry at a place, by the test that the place passes.
-- Assumes nothing.
use mathlib.Core.Path.{◌≡◌, refl, ap, sym, ◌∙◌}
use mathlib.Core.Bool.{Bool, true, false, cond}
use mathlib.Core.List.{List}
use Prim.Native.Nat.{ℕ, ◌/◌, ◌≤◌, ◌<◌}
use borrow.Author.Tests.{lt-ltb, le-ltb}
use lib.Dec.{ltb}
use lib.ListN.{length}
use Rattle.entries.specs.declared.decoding.Entry.{Entry}
use Rattle.entries.specs.Layout.{entry_of, decoded_of, word_at}
use Rattle.std.specs.Prelude.{Option, Some, None}

pub decoded-none : (l : List ℕ) (k : ℕ) → length l / 5 ≤ k → decoded_of l k ≡ None
unfolding decoded_of
decoded-none l k h = rw (le-ltb k (length l / 5) h)

pub decoded-whole : (l : List ℕ) (k : ℕ) → k < length l / 5 → decoded_of l k ≡ Some (entry_of l k)
unfolding decoded_of
decoded-whole l k h = rw (lt-ltb k (length l / 5) h)

-- its data
pub word_in : (l : List ℕ) (k : ℕ) → k < length l / 5 → (entry_of l k).word ≡ word_at l k
unfolding word_at
word_in l k h = ap (λ t. cond t (entry_of l k).word 0) (sym (lt-ltb k (length l / 5) h))

-- and 0 where there is none
abbrev pub word_or : Option Entry → ℕ
word_or (Some e) = e.word
word_or None = 0

pub word-by : (l : List ℕ) (k : ℕ) (d : Option Entry) → d ≡ decoded_of l k → word_or d ≡ word_at l k
unfolding decoded_of word_at
word-by l k d e = ap word_or e ∙ chosen (ltb k (length l / 5))
  where
    chosen : (t : Bool) → word_or (cond t (Some (entry_of l k)) None) ≡ cond t (entry_of l k).word 0
    chosen true = refl
    chosen false = refl
