-- Bytes that are written at once are those that visits write one after the other.
-- Assumes nothing.
use mathlib.Core.Path.{◌≡◌, refl, ap, sym, ◌∙◌}
use mathlib.Core.List.{List}
use Prim.Native.Nat.{ℕ, zero, suc, ◌+◌, ◌-◌, ◌≤◌, ◌<◌}
use native.Mathlib.Omega.{arith}
use borrow.Rule.Slice.PartMut.{put_mid}
use lib.ListN.{length, get_or}
use lib.Seq.{paste, paste-zero, paste-suc}
use Rattle.std.proofs.lemmas.List.Edits.{get_or-between, length-between}
use Rattle.std.proofs.lemmas.Slice.{put_mid-paste}
use Rattle.std.specs.List.{between}
use Rattle.lemmas.specs.Sweeps.{sweep}
use Rattle.rows.specs.Rows.{copied}

-- visits that write the bytes t one after the other
pasted : (l : List ℕ) (at : ℕ) (t : List ℕ) (value : ℕ → List ℕ → ℕ) (n : ℕ) → at + n ≤ length l → n ≤ length t
    → ((k : ℕ) (m : List ℕ) → k < n → value k m ≡ get_or t k 0) → paste l at t n ≡ sweep (λ k. at + k) value n l
unfolding sweep
pasted l at t value zero fits room same = sym (paste-zero l at t)
pasted l at t value (suc n) fits room same =
    let before = pasted l at t value n (omega arith) (omega arith) (λ k m p. same k m (omega arith)) in
    rw (← before, same n (paste l at t n) (omega arith)) (sym (paste-suc l at t n 0 (omega arith) (omega arith)))

-- what a copy leaves
pub copied-at-once : (n : ℕ) (l : List ℕ) (at : ℕ) → at + n ≤ length l → (source : List ℕ) (from : ℕ) → from + n ≤ length source
    → (t : List ℕ) → t ≡ between from (from + n) source → put_mid at (at + n - at) l t ≡ copied (λ s d. s) n l at source from
copied-at-once n l at fits source from room t e =
    let long : length t ≡ n = ap length e ∙ omega (arith, length-between source from (from + n)) in
    put_mid-paste at (at + n - at) l t t n refl (omega arith) (sym long)
    ∙ pasted l at t (λ k m. get_or source (from + k) 0) n fits (omega arith)
    (λ k m p. rw e (sym (get_or-between source from (from + n) k 0 (omega arith))))
