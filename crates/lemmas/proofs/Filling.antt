-- An array that a loop fills place by place.
-- Assumes nothing.
use mathlib.Core.Path.{◌≡◌, sym, ◌∙◌}
use mathlib.Core.List.{List, map}
use Prim.Native.Nat.{ℕ, ◌+◌, ◌≤◌, ◌<◌}
use native.Mathlib.Omega.{arith}
use borrow.Author.Tests.{eqb-true, eqb-false}
use lib.Dec.{eqb}
use lib.ListN.{length, length-set, set, get_or}
use lib.Seq.{get_or-set_other, get_or-set_same, ext_get_or}
use Rattle.lemmas.specs.Numbers.{below}
use Rattle.lemmas.proofs.Booleans.{by_cases}
use Rattle.lemmas.proofs.Numbers.{map-below-length, map-below-at}

-- the first k of n places are f 0, f 1, ..
pub record Filled {A : Type 0} (d : A) (f : ℕ → A) (n : ℕ) (l : List A) (k : ℕ) : Type 0 where
  pub few : k ≤ n
  pub long : length l ≡ n
  pub done : (j : ℕ) → j < k → get_or l j d ≡ f j

module _ {A : Type 0} (d : A) (f : ℕ → A) (n : ℕ) (l : List A) where
  pub fill_start : length l ≡ n → Filled d f n l 0
  fill_start e = record { few = omega arith; long = e; done = λ j p. absurd (omega arith) }

  pub fill-set : (k : ℕ) (x : A) → Filled d f n l k → k < n → x ≡ f k → Filled d f n (set l k x) (k + 1)
  fill-set k x h p e =
      record {
        few = omega arith;
        long = length-set l k x ∙ h.long;
        done =
            λ j q.
            by_cases (eqb j k)
            (λ t. rw (eqb-true j k t) (get_or-set_same l k x d (omega (arith, h.long)) ∙ e))
            (λ t. let o : j ≡ k → ⊥ = eqb-false j k t in get_or-set_other l k j x d o ∙ h.done j (omega arith));
      }

  pub fill_end : (k : ℕ) → Filled d f n l k → n ≤ k → l ≡ map f (below n)
  fill_end k h p =
      ext_get_or d l (map f (below n)) (h.long ∙ sym (map-below-length f n))
      (λ j q. let low : j < n = omega (arith, h.long) in h.done j (omega arith) ∙ sym (map-below-at f n d j low))
