-- The pattern's state stays in range.
-- Assumes nothing.
use mathlib.Core.Path.{◌≡◌}
use mathlib.Core.Bool.{false, cond, ◌&&◌}
use Prim.Native.Nat.{ℕ, ◌+◌, ◌^◌, ◌<◌, ◌≤◌}
use native.Mathlib.Nat.{lt_of_lt_of_le, div-eq_of_lt}
use native.Mathlib.Omega.{arith}
use borrow.Author.Tests.{leb-true, lt-ltb}
use lib.Dec.{leb, ltb}
use lib.Pow.{pow_mono}
use Rattle.lemmas.proofs.Booleans.{by_cases, and_left, and_right, and_both}
use Rattle.entries.specs.Fields.{pscl, sptr, sscl, length_of, pattern_control_of}
use Rattle.entries.specs.Legality.{pctrl_legal}
use Rattle.entries.proofs.Lengths.{length-pos}
use Rattle.registers.specs.Patterns.{pattern_bit, next_of, in_range, StartsInRange, StaysInRange}
use Rattle.registers.specs.declared.dashes.Pattern.{Pattern}

pub starts-in-range : StartsInRange
unfolding pctrl_legal in_range
starts-in-range word e =
    let low = ltb word (2 ^ 16) && leb (sscl word) (pscl word) in
    and_both (ltb (sptr word) (length_of word)) (ltb (sscl word) (pscl word + 1)) (and_right low (ltb (sptr word) (length_of word)) e)
    (lt-ltb (sscl word) (pscl word + 1)
    (omega (arith, leb-true (sscl word) (pscl word) (and_right (ltb word (2 ^ 16)) (leb (sscl word) (pscl word)) (and_left low (ltb (sptr word) (length_of word)) e)))))

pub stays-in-range : StaysInRange
unfolding in_range next_of
stays-in-range word p e =
    let c = pattern_control_of word in
    by_cases (ltb (p.repeat + 1) c.scale)
    (λ t. rw t (and_both (ltb p.place c.length) (ltb (p.repeat + 1) c.scale) (and_left (ltb p.place c.length) (ltb p.repeat c.scale) e) t))
    (λ t.
    rw t
    (and_both (ltb (cond (ltb (p.place + 1) c.length) (p.place + 1) 0) c.length) (ltb 0 c.scale)
    (by_cases (ltb (p.place + 1) c.length) (λ s. rw s s) (λ s. rw s (lt-ltb 0 c.length (length-pos word))))
    (lt-ltb 0 c.scale (omega arith))))

-- LPAT has no bit above bit 31
pub bit_past : (lpat : ℕ) (p : Pattern) → lpat < 2 ^ 32 → 32 ≤ p.place → pattern_bit lpat p ≡ false
unfolding pattern_bit
bit_past lpat p h l =
    let most : lpat < 2 ^ p.place = lt_of_lt_of_le h (pow_mono {i = 32} {j = p.place} l) in
    rw (div-eq_of_lt most)
