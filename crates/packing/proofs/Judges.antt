-- An input judged step by step: edition 1 entry by entry, edition 2 group by group.
-- Assumes nothing.
use mathlib.Core.Path.{◌≡◌, refl, ap, sym, ◌∙◌}
use mathlib.Core.Bool.{Bool, true, false, not, cond, ◌&&◌}
use mathlib.Core.List.{List, [], ◌∷◌}
use Prim.Native.Nat.{ℕ, suc, ◌+◌, ◌-◌, ◌*◌, ◌/◌, ◌≤◌, ◌<◌}
use native.Mathlib.Numerals.{add-one}
use native.Mathlib.Omega.{arith}
use borrow.Author.Tests.{eqb-true, eqb-false, eq-eqb, ne_eqb}
use lib.Dec.{eqb, ltb}
use lib.ListN.{length}
use Rattle.lemmas.proofs.Booleans.{by_cases, and-true}
use Rattle.entries.specs.Layout.{entry_of}
use Rattle.entries.specs.Legality.{entry_legal, decoded_legal, legal_at}
use Rattle.entries.proofs.Decodes.{decoded-whole}
use Rattle.packing.specs.Groups.{part, group_of, position_of, closing_of, count_of}
use Rattle.packing.specs.Reports.{report}
use Rattle.std.specs.Prelude.{Option, Some, None, MatchOption}
use Rattle.std.specs.List.{position}
use Rattle.entries.specs.declared.decoding.Entry.{Entry}
use Rattle.packing.specs.Conversions.{first_not, holds}
use Rattle.packing.specs.Conversions.{passes, first_failing, well_formed, judgement, judged_from}
use Rattle.packing.specs.declared.groups.Group.{Group}
use Rattle.packing.proofs.Puts.{position_first, position-second, position-third}
use Rattle.packing.proofs.Searches.{search-is}

-- ---- edition 1: an entry before the count lies in the list
module _ (l : List ℕ) where
  there : (k : ℕ) → k < length l / 5 → entry_legal (entry_of l k) ≡ legal_at l k
  there k h = sym (ap decoded_legal (decoded-whole l k h))

  -- a search of the list for the first that is not legal
  pub legal-search : (r : Option ℕ)
      → MatchOption r ((i : ℕ) → 0 ≤ i → i < length l / 5 → legal_at l i ≡ true)
      (λ k. (0 ≤ k) × (k < length l / 5) × (legal_at l k ≡ false) × ((i : ℕ) → 0 ≤ i → i < k → legal_at l i ≡ true))
      → r ≡ first_not (λ k. entry_legal (entry_of l k)) 0 (length l / 5)
  legal-search None h = search-is (λ k. entry_legal (entry_of l k)) None 0 (length l / 5) (length l / 5) (omega arith) (λ i a b. there i b ∙ h i a b)
  legal-search (Some k) h =
      search-is (λ k. entry_legal (entry_of l k)) (Some k) 0 (length l / 5) (length l / 5) (omega arith)
      (h.0, h.1, there k h.1 ∙ h.2, λ i a b. there i (omega (arith, h.1)) ∙ h.3 i a b)

-- ---- the 31s that end a group
module _ (x : Group) where
  pub closing-none : ((part x 2).register ≡ 31 → ⊥) → 0 ≡ closing_of x
  unfolding closing_of
  closing-none h = rw (ne_eqb (part x 2).register 31 h)

  pub closing-one : (part x 2).register ≡ 31 → ((part x 1).register ≡ 31 → ⊥) → 1 ≡ closing_of x
  unfolding closing_of
  closing-one e h = rw (eq-eqb (part x 2).register 31 e, ne_eqb (part x 1).register 31 h)

  pub closing-two : (part x 2).register ≡ 31 → (part x 1).register ≡ 31 → ((part x 0).register ≡ 31 → ⊥) → 2 ≡ closing_of x
  unfolding closing_of
  closing-two e f h = rw (eq-eqb (part x 2).register 31 e, eq-eqb (part x 1).register 31 f, ne_eqb (part x 0).register 31 h)

  pub closing-all : (part x 2).register ≡ 31 → (part x 1).register ≡ 31 → (part x 0).register ≡ 31 → 3 ≡ closing_of x
  unfolding closing_of
  closing-all e f h = rw (eq-eqb (part x 2).register 31 e, eq-eqb (part x 1).register 31 f, eq-eqb (part x 0).register 31 h)

most : (a b c : Bool) → cond a (cond b (cond c 3 2) 1) 0 ≤ 3
most true true true = omega arith
most true true false = omega arith
most true false c = omega arith
most false b c = omega arith

pub closing-most : (x : Group) → closing_of x ≤ 3
unfolding closing_of
closing-most x = most (eqb (part x 2).register 31) (eqb (part x 1).register 31) (eqb (part x 0).register 31)

pub count_none : (l : List ℕ) → length l / 14 ≡ 0 → 0 ≡ count_of l
unfolding count_of
count_none l h = omega arith

pub count-is : (l : List ℕ) (x : Group) (k : ℕ) → x ≡ group_of l (length l / 14 - 1) → k ≡ closing_of x → 3 * (length l / 14) - k ≡ count_of l
unfolding count_of
count-is l x k p q = ap (λ (n : ℕ). 3 * (length l / 14) - n) (q ∙ ap closing_of p)

pub count_most : (l : List ℕ) → count_of l ≤ 3 * (length l / 14)
unfolding count_of
count_most l = omega arith

pub count-least : (l : List ℕ) → 3 * (length l / 14) ≤ count_of l + 3
unfolding count_of
count-least l = omega (arith, closing-most (group_of l (length l / 14 - 1)))

-- as the code counts them, by the number of groups
pub count-groups-none : (l : List ℕ) (groups : ℕ) → groups ≡ length l / 14 → groups ≡ 0 → 0 ≡ count_of l
count-groups-none l groups p q = count_none l (omega arith)

pub count-groups : (l : List ℕ) (groups : ℕ) (x : Group) (k : ℕ) → groups ≡ length l / 14 → x ≡ group_of l (groups - 1) → k ≡ closing_of x
    → 3 * groups - k ≡ count_of l
count-groups l groups x k p q r =
    ap (λ (g : ℕ). 3 * g - k) p ∙ count-is l x k (q ∙ ap (λ (g : ℕ). group_of l (g - 1)) p) r

-- the positions of the last group that are past the count hold 31s
module _ (m : List ℕ) (g : ℕ) (last : g ≡ length m / 14 - 1) (any : 0 < length m / 14) where
  abbrev last_group : Group
  last_group = group_of m g

  count_by_lem : (k : ℕ) → k ≡ closing_of last_group → 3 * (length m / 14) - k ≡ count_of m
  count_by_lem k c = count-is m last_group k (ap (group_of m) last) c

  pub closing-third : count_of m ≤ 3 * g + 2 → (part last_group 2).register ≡ 31
  closing-third h =
      by_cases (eqb (part last_group 2).register 31) (λ t. eqb-true (part last_group 2).register 31 t)
      (λ t. absurd (omega (arith, count_by_lem 0 (closing-none last_group (eqb-false (part last_group 2).register 31 t)))))

  pub closing-second : count_of m ≤ 3 * g + 1 → (part last_group 1).register ≡ 31
  closing-second h =
      by_cases (eqb (part last_group 1).register 31) (λ t. eqb-true (part last_group 1).register 31 t)
      (λ t.
      absurd (omega (
        arith,
        count_by_lem 1 (closing-one last_group (closing-third (omega arith))
            (eqb-false (part last_group 1).register 31 t)),
      )))

-- ---- the first that does not pass
module _ (x : Group) where
  pub none-fails : passes (part x 0) ≡ true → passes (part x 1) ≡ true → passes (part x 2) ≡ true → None ≡ first_failing x
  unfolding first_failing
  none-fails f g h = rw (f, g, h)

-- the same by a search of the three
chosen : (p q r : Bool) → let n = cond (not (not p)) (1 + cond (not (not q)) (1 + cond (not (not r)) (1 + 0) 0) 0) 0 in
    cond (ltb n 3) (Some n) None ≡ cond p (cond q (cond r None (Some 2)) (Some 1)) (Some 0)
chosen true true true = refl
chosen true true false = refl
chosen true false r = refl
chosen false q r = refl

pub first-of-three : (x : Group) (es : List Entry) → es ≡ x.entries → length x.entries ≡ 3
    → position (λ e. not (passes e)) es ≡ first_failing x
unfolding first_failing
first-of-three x [] e h = absurd (omega (arith, ap length e))
first-of-three x (a ∷ []) e h = absurd (omega (arith, ap length e))
first-of-three x (a ∷ b ∷ []) e h = absurd (omega (arith, ap length e))
first-of-three x (a ∷ b ∷ c ∷ []) e h =
    rw (← e) (chosen (passes a) (passes b) (passes c))
first-of-three x (a ∷ b ∷ c ∷ d ∷ es) e h = absurd (omega (arith, ap length e))

pub failing-most : (x : Group) (k : ℕ) → Some k ≡ first_failing x → k < 3
unfolding first_failing
failing-most x k e =
    by_cases (passes (part x 0))
    (λ p.
    by_cases (passes (part x 1))
    (λ q.
    by_cases (passes (part x 2)) (λ r. let no : Some k ≡ None = rw (p, q, r) at e in cc)
    (λ r. let is : Some k ≡ Some 2 = rw (p, q, r) at e in let n : k ≡ 2 = cc in omega arith))
    (λ q. let is : Some k ≡ Some 1 = rw (p, q) at e in let n : k ≡ 1 = cc in omega arith))
    (λ p. let is : Some k ≡ Some 0 = rw p at e in let n : k ≡ 0 = cc in omega arith)

-- ---- three positions of a search
module _ (f : ℕ → Bool) (p m : ℕ) where
  three : 3 * (m + 1) ≡ suc (suc (suc (3 * m)))
  three = omega arith

  one_on : p + 1 ≡ suc p
  one_on = omega arith

  two-on : p + 2 ≡ suc (suc p)
  two-on = omega arith

  three-on : p + 3 ≡ suc (suc (suc p))
  three-on = omega arith

  abbrev first_of : Bool → Bool → Bool → Option ℕ
  first_of a b c = cond a (cond b (cond c None (Some 2)) (Some 1)) (Some 0)

  stops : (a b c : Bool) → f p ≡ a → f (suc p) ≡ b → f (suc (suc p)) ≡ c → (k : ℕ) → Some k ≡ first_of a b c
      → first_not f p (suc (suc (suc (3 * m)))) ≡ Some (p + k)
  unfolding first_not
  stops true true true s t u k e = cc
  stops true true false s t u k e = let i : k ≡ 2 = cc in rw (s, t, u, i) (ap Some (sym two-on))
  stops true false c s t u k e = let i : k ≡ 1 = cc in rw (s, t, i) (ap Some (sym one_on))
  stops false b c s t u k e = let i : k ≡ 0 = cc in rw (s, i) (ap Some (omega arith))

  goes : (a b c : Bool) → f p ≡ a → f (suc p) ≡ b → f (suc (suc p)) ≡ c → None ≡ first_of a b c
      → first_not f p (suc (suc (suc (3 * m)))) ≡ first_not f (suc (suc (suc p))) (3 * m)
  unfolding first_not
  goes true true true s t u e = rw (s, t, u)
  goes true true false s t u e = cc
  goes true false c s t u e = cc
  goes false b c s t u e = cc

-- a group of positions
module _ (l : List ℕ) (g m : ℕ) (x : Group) (same : x ≡ group_of l g) where
  abbrev test : ℕ → Bool
  test p = passes (position_of l p)

  at_first : test (3 * g) ≡ passes (part x 0)
  at_first = ap passes (position_first l g ∙ ap (λ (y : Group). part y 0) (sym same))

  at_second : test (suc (3 * g)) ≡ passes (part x 1)
  at_second = ap test (sym (one_on test (3 * g) m)) ∙ ap passes (position-second l g ∙ ap (λ (y : Group). part y 1) (sym same))

  at-third : test (suc (suc (3 * g))) ≡ passes (part x 2)
  at-third = ap test (sym (two-on test (3 * g) m)) ∙ ap passes (position-third l g ∙ ap (λ (y : Group). part y 2) (sym same))

  pub search-stops : (k : ℕ) → Some k ≡ first_failing x → first_not test (3 * g) (3 * (m + 1)) ≡ Some (3 * g + k)
  unfolding first_failing
  search-stops k is =
      ap (first_not test (3 * g)) (three test (3 * g) m)
      ∙ stops test (3 * g) m (passes (part x 0)) (passes (part x 1)) (passes (part x 2)) at_first at_second at-third k is

  pub search-goes : None ≡ first_failing x → first_not test (3 * g) (3 * (m + 1)) ≡ first_not test (3 * (g + 1)) (3 * m)
  unfolding first_failing
  search-goes is =
      let next : suc (suc (suc (3 * g))) ≡ 3 * (g + 1) = omega arith in
      ap (first_not test (3 * g)) (three test (3 * g) m)
      ∙ goes test (3 * g) m (passes (part x 0)) (passes (part x 1)) (passes (part x 2)) at_first at_second at-third is
      ∙ ap (λ (p : ℕ). first_not test p (3 * m)) next

and_assoc : (a b c : Bool) → (a && (b && c)) ≡ ((a && b) && c)
and_assoc true b c = refl
and_assoc false b c = refl

pub holds-next : (f : ℕ → Bool) (g m : ℕ) → holds f g (m + 1) ≡ (f g && holds f (g + 1) m)
unfolding holds
holds-next f g m = rw (add-one m, add-one g)

-- ---- the loop
pub judged-end : (l : List ℕ) (count : ℕ) (sound : Bool) (g left : ℕ) → left ≡ 0
    → judged_from l count sound g left ≡ cond sound (report 0 0 (5 * count)) (report 10 0 0)
unfolding first_not holds
judged-end l count sound g left e = rw e (ap (λ (t : Bool). cond t (report 0 0 (5 * count)) (report 10 0 0)) (and-true sound))

pub judged-bad : (l : List ℕ) (count : ℕ) (sound : Bool) (g left m k : ℕ) (x : Group) → left ≡ m + 1 → x ≡ group_of l g
    → Some k ≡ first_failing x
    → judged_from l count sound g left ≡ report 6 (3 * g + k) 0
judged-bad l count sound g left m k x e same is =
    ap (λ (n : ℕ). judged_from l count sound g n) e
    ∙ ap (judgement count (sound && holds (λ j. well_formed (group_of l j) (3 * j) count) g (m + 1))) (search-stops l g m x same k is)

pub judged-next : (l : List ℕ) (count : ℕ) (sound : Bool) (g left m : ℕ) (x : Group) (good : Bool) → left ≡ m + 1 → x ≡ group_of l g
    → None ≡ first_failing x
    → good ≡ well_formed x (3 * g) count → judged_from l count sound g left ≡ judged_from l count (sound && good) (g + 1) m
judged-next l count sound g left m x good e same is ok =
    let F : ℕ → Bool = λ j. well_formed (group_of l j) (3 * j) count in
    ap (λ (n : ℕ). judged_from l count sound g n) e
    ∙ ap (judgement count (sound && holds F g (m + 1))) (search-goes l g m x same is)
    ∙ ap (λ (t : Bool). judgement count t (first_not (λ p. passes (position_of l p)) (3 * (g + 1)) (3 * m)))
    (ap (λ (t : Bool). sound && t) (holds-next F g m) ∙ and_assoc sound (F g) (holds F (g + 1) m)
    ∙ ap (λ (t : Bool). (sound && t) && holds F (g + 1) m) (sym (ok ∙ ap (λ (y : Group). well_formed y (3 * g) count) same)))

-- the same at group g of all
module _ (l : List ℕ) (count : ℕ) (sound : Bool) (g : ℕ) where
  abbrev rest : ℕ
  rest = length l / 14 - g

  pub judged-start : g ≡ 0 → judged_from l count sound 0 (length l / 14) ≡ judged_from l count sound 0 (length l / 14 - 0)
  judged-start e = let h : length l / 14 ≡ length l / 14 - 0 = omega arith in ap (judged_from l count sound 0) h

  pub judged-over : length l / 14 ≤ g → (t : Bool) → sound ≡ t
      → judged_from l count sound g rest ≡ cond t (report 0 0 (5 * count)) (report 10 0 0)
  judged-over h t e = judged-end l count sound g rest (omega arith) ∙ ap (λ (b : Bool). cond b (report 0 0 (5 * count)) (report 10 0 0)) e

  pub judged-stops : g < length l / 14 → (k : ℕ) (x : Group) → x ≡ group_of l g → Some k ≡ first_failing x
      → judged_from l count sound g rest ≡ report 6 (3 * g + k) 0
  judged-stops h k x = judged-bad l count sound g rest (length l / 14 - (g + 1)) k x (omega arith)

  pub judged-goes : g < length l / 14 → (x : Group) (good : Bool) → x ≡ group_of l g → None ≡ first_failing x
      → good ≡ well_formed x (3 * g) count
      → judged_from l count sound g rest ≡ judged_from l count (sound && good) (g + 1) (length l / 14 - (g + 1))
  judged-goes h x good = judged-next l count sound g rest (length l / 14 - (g + 1)) x good (omega arith)
