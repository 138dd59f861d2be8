-- Full groups before the count, which are sound, and the end of a file, which is then all that is left to judge.
-- Assumes nothing.
use mathlib.Core.Path.{◌≡◌, refl, ap, sym, ◌∙◌}
use mathlib.Core.Bool.{Bool, true, false, cond, ◌&&◌, false≢true}
use mathlib.Core.List.{List}
use Prim.Native.Nat.{ℕ, zero, suc, ◌+◌, ◌-◌, ◌*◌, ◌/◌, ◌%◌, ◌≤◌, ◌<◌}
use native.Mathlib.Omega.{arith}
use borrow.Author.Tests.{eqb-true, eqb-false, eq-eqb, ne_eqb, lt-ltb, le-ltb, ltb-false}
use lib.Dec.{eqb, ltb}
use lib.ListN.{length}
use Rattle.lemmas.proofs.Booleans.{by_cases, and_left, and_right, or-by, and-true}
use Rattle.entries.specs.Legality.{data_legal, entry_legal}
use Rattle.entries.specs.declared.decoding.Entry.{Entry}
use Rattle.packing.specs.Groups.{part, group_of, count_of}
use Rattle.packing.specs.Reports.{Report, report}
use Rattle.packing.specs.Conversions.{passes, first_failing, placed, well_formed, judged_from}
use Rattle.std.specs.Prelude.{None}
use Rattle.packing.specs.Conversions.{last_has_one}
use Rattle.packing.specs.Passes.{judged_past, full_group, leading, present, rest_sound}
use Rattle.packing.specs.declared.groups.Group.{Group}
use Rattle.packing.proofs.Searches.{lead-over, lead-stops, lead-goes}
use Rattle.packing.proofs.Judges.{closing-second, closing-third, count-least, count_most, judged-goes, judged-over, judged-start, none-fails}

-- ---- legal entries: their number is no 31, their spare bits are zero
no-31 : (word : ℕ) → data_legal 31 word ≡ false
unfolding data_legal
no-31 word = refl

pub legal-real : (e : Entry) → entry_legal e ≡ true → e.register ≡ 31 → ⊥
legal-real e h q =
    false≢true
    (sym (ap (λ (r : ℕ). data_legal r e.word) q ∙ no-31 e.word) ∙ and_right (eqb e.spare 0) (data_legal e.register e.word) h)

-- such an entry passes, and is in its place before the count
pub legal-passes : (e : Entry) → entry_legal e ≡ true → passes e ≡ true
legal-passes e h = or-by (eqb e.register 31) (entry_legal e) (λ u. h)

pub legal-placed : (e : Entry) (place count : ℕ) → place < count → entry_legal e ≡ true → placed e place count ≡ true
legal-placed e place count k h = rw (lt-ltb place count k, ne_eqb e.register 31 (legal-real e h))

pub legal-spare : (e : Entry) → entry_legal e ≡ true → e.spare ≡ 0
legal-spare e h = eqb-true e.spare 0 (and_left (eqb e.spare 0) (data_legal e.register e.word) h)

-- ---- four tests at once
pub all-four : (a b c d : Bool) → (a && b && c && d) ≡ true → (a ≡ true) × (b ≡ true) × (c ≡ true) × (d ≡ true)
all-four true true true true e = (refl, refl, refl, refl)
all-four true true true false e = absurd (false≢true e)
all-four true true false d e = absurd (false≢true e)
all-four true false c d e = absurd (false≢true e)
all-four false b c d e = absurd (false≢true e)

pub four-all : (a b c d : Bool) → a ≡ true → b ≡ true → c ≡ true → d ≡ true → (a && b && c && d) ≡ true
four-all a b c d p q r s = rw (p, q, r, s)

-- ---- full groups before the count
abbrev pub full_at : List ℕ → ℕ → Bool
full_at l g = full_group (group_of l g)

module _ (l : List ℕ) (g : ℕ) (h : full_at l g ≡ true) where
  abbrev x : Group
  x = group_of l g

  abbrev four : (eqb x.zero 0 ≡ true) × (entry_legal (part x 0) ≡ true) × (entry_legal (part x 1) ≡ true) × (entry_legal (part x 2) ≡ true)
  four = all-four (eqb x.zero 0) (entry_legal (part x 0)) (entry_legal (part x 1)) (entry_legal (part x 2)) h

  full-passes : None ≡ first_failing x
  full-passes = none-fails x (legal-passes (part x 0) four.1) (legal-passes (part x 1) four.2) (legal-passes (part x 2) four.3)

  full-formed : (place count : ℕ) → place + 2 < count → true ≡ well_formed x place count
  full-formed place count k =
      sym
      (four-all (eqb x.zero 0) (placed (part x 0) place count) (placed (part x 1) (place + 1) count)
      (placed (part x 2) (place + 2) count)
      four.0 (legal-placed (part x 0) place count (omega arith) four.1)
      (legal-placed (part x 1) (place + 1) count (omega arith) four.2) (legal-placed (part x 2) (place + 2) count k four.3))

-- the search for them, of `most` groups, from group g on
module _ (l : List ℕ) (most : ℕ) where
  abbrev end_of : ℕ → ℕ
  end_of g = leading (full_at l) g (most - g)

  pub full_start : leading (full_at l) 0 most ≡ end_of 0
  full_start = let e : most ≡ most - 0 = omega arith in ap (leading (full_at l) 0) e

  pub full-over : (g : ℕ) → most ≤ g → end_of g ≡ g
  full-over g h = lead-over (full_at l) g (most - g) (omega arith)

  pub full-stops : (g : ℕ) → g < most → full_at l g ≡ false → end_of g ≡ g
  full-stops g h t = lead-stops (full_at l) g (most - g) (most - (g + 1)) (omega arith) t

  pub full-goes : (g : ℕ) → g < most → full_at l g ≡ true → end_of g ≡ end_of (g + 1)
  full-goes g h t = lead-goes (full_at l) g (most - g) (most - (g + 1)) (omega arith) t

module _ (l : List ℕ) (count : ℕ) (sound : Bool) where
  one-full : (g : ℕ) → g < length l / 14 → 3 * g + 2 < count → full_at l g ≡ true
      → judged_past l count sound g ≡ judged_past l count sound (g + 1)
  one-full g h k f =
      judged-goes l count sound g h (group_of l g) true refl (full-passes l g f)
      (full-formed l g f (3 * g) count k)
      ∙ ap (λ (t : Bool). judged_from l count t (g + 1) (length l / 14 - (g + 1))) (and-true sound)

  pub lead-judged : (g n : ℕ) → g + n ≤ length l / 14 → 3 * (g + n) ≤ count
      → judged_past l count sound g ≡ judged_past l count sound (leading (full_at l) g n)
  unfolding leading
  lead-judged g zero h k = refl
  lead-judged g (suc n) h k =
      by_cases (full_at l g)
      (λ t.
      let e : g + 1 ≡ suc g = omega arith in
      rw t (one-full g (omega arith) (omega arith) t ∙ ap (judged_past l count sound) e ∙ lead-judged (suc g) n (omega arith) (omega arith)))
      (λ t. rw t)

  -- the groups past the full ones decide
  pub judged-past : (k : ℕ) → count ≤ 3 * (length l / 14) → k ≡ leading (full_at l) 0 (count / 3) → (r : Report)
      → r ≡ judged_past l count sound k
      → r ≡ judged_from l count sound 0 (length l / 14)
  judged-past k h e r q =
      q ∙ ap (judged_past l count sound) e ∙ sym (judged-start l count sound 0 refl ∙ lead-judged 0 (count / 3) (omega arith) (omega arith))

-- ---- a last group with one or two entries
closing-passes : (e : Entry) → e.register ≡ 31 → passes e ≡ true
closing-passes e h = rw (eq-eqb e.register 31 h)

closing-placed : (e : Entry) (place count : ℕ) → count ≤ place → eqb e.word 0 ≡ true → placed e place count ≡ true
closing-placed e place count k h = rw (le-ltb place count k) h

ends : (l : List ℕ) (count : ℕ) (sound : Bool) (g : ℕ) → g + 1 ≡ length l / 14 → sound ≡ true → None ≡ first_failing (group_of l g)
    → true ≡ well_formed (group_of l g) (3 * g) count → judged_past l count sound g ≡ report 0 0 (5 * count)
ends l count sound g last s p f =
    judged-goes l count sound g (omega arith) (group_of l g) true refl p f
    ∙ judged-over l count (sound && true) (g + 1) (omega arith) true (and-true sound ∙ s)

rest-cases : (a b x y : Bool) → cond a false (cond b x y) ≡ true → (a ≡ false) × (b ≡ true → x ≡ true) × (b ≡ false → y ≡ true)
rest-cases true b x y e = absurd (false≢true e)
rest-cases false true x y e = (refl, λ p. e, λ p. absurd (false≢true (sym p)))
rest-cases false false x y e = (refl, λ p. absurd (false≢true p), λ p. e)

module _ (l : List ℕ) (n from : ℕ) (is : n ≡ count_of l) (any : 0 < length l / 14) (most : from ≤ n / 3) where
  abbrev whole : Bool
  whole = last_has_one l n

  abbrev last_of : Group
  last_of = group_of l (length l / 14 - 1)

  over : n / 3 ≤ from → 3 * (length l / 14) ≡ n → judged_past l n whole from ≡ report 0 0 (5 * n)
  over h e = judged-over l n whole from (omega arith) true (lt-ltb (3 * (length l / 14)) (n + 3) (omega arith))

  one_left : n / 3 ≤ from → n % 3 ≡ 1 → present last_of 1 ≡ true → judged_past l n whole from ≡ report 0 0 (5 * n)
  one_left h e s =
      let a = count_most l in
      let b = count-least l in
      let g : from ≡ length l / 14 - 1 = omega arith in
      let x = group_of l from in
      let f = all-four (eqb x.zero 0) (entry_legal (part x 0)) (eqb (part x 1).word 0) (eqb (part x 2).word 0)
      (ap (λ (k : ℕ). present (group_of l k) 1) g ∙ s) in
      ends l n whole from (omega arith) (lt-ltb (3 * (length l / 14)) (n + 3) (omega arith))
      (none-fails x (legal-passes (part x 0) f.1) (closing-passes (part x 1) (closing-second l from g any (omega arith)))
      (closing-passes (part x 2) (closing-third l from g any (omega arith))))
      (sym (four-all (eqb x.zero 0) (placed (part x 0) (3 * from) n) (placed (part x 1) (3 * from + 1) n)
      (placed (part x 2) (3 * from + 2) n)
      f.0 (legal-placed (part x 0) (3 * from) n (omega arith) f.1) (closing-placed (part x 1) (3 * from + 1) n (omega arith) f.2)
      (closing-placed (part x 2) (3 * from + 2) n (omega arith) f.3)))

  two-left : n / 3 ≤ from → n % 3 ≡ 2 → present last_of 2 ≡ true → judged_past l n whole from ≡ report 0 0 (5 * n)
  two-left h e s =
      let a = count_most l in
      let b = count-least l in
      let g : from ≡ length l / 14 - 1 = omega arith in
      let x = group_of l from in
      let f = all-four (eqb x.zero 0) (entry_legal (part x 0)) (entry_legal (part x 1)) (eqb (part x 2).word 0)
      (ap (λ (k : ℕ). present (group_of l k) 2) g ∙ s) in
      ends l n whole from (omega arith) (lt-ltb (3 * (length l / 14)) (n + 3) (omega arith))
      (none-fails x (legal-passes (part x 0) f.1) (legal-passes (part x 1) f.2)
      (closing-passes (part x 2) (closing-third l from g any (omega arith))))
      (sym (four-all (eqb x.zero 0) (placed (part x 0) (3 * from) n) (placed (part x 1) (3 * from + 1) n)
      (placed (part x 2) (3 * from + 2) n)
      f.0 (legal-placed (part x 0) (3 * from) n (omega arith) f.1) (legal-placed (part x 1) (3 * from + 1) n (omega arith) f.2)
      (closing-placed (part x 2) (3 * from + 2) n (omega arith) f.3)))

  pub rest-judged : rest_sound l n from ≡ true → judged_past l n whole from ≡ report 0 0 (5 * n)
  unfolding rest_sound
  rest-judged e =
      let c = rest-cases (ltb from (n / 3)) (eqb (n % 3) 0) (eqb (3 * (length l / 14)) n) (present last_of (n % 3)) e in
      let h = ltb-false from (n / 3) c.0 in
      by_cases (eqb (n % 3) 0) (λ t. over h (eqb-true (3 * (length l / 14)) n (c.1 t)))
      (λ t.
      by_cases (eqb (n % 3) 1)
      (λ u. let i = eqb-true (n % 3) 1 u in one_left h i (ap (present last_of) (sym i) ∙ c.2 t))
      (λ u.
      let i = eqb-false (n % 3) 0 t in
      let j = eqb-false (n % 3) 1 u in
      let k : n % 3 ≡ 2 = omega (arith, i, j) in
      two-left h k (ap (present last_of) (sym k) ∙ c.2 t)))

-- ---- the tests, as the code makes them
module _ (l : List ℕ) (n from : ℕ) where
  pub rest-early : from < n / 3 → false ≡ rest_sound l n from
  unfolding rest_sound
  rest-early h = rw (lt-ltb from (n / 3) h)

  pub rest-none : n / 3 ≤ from → n % 3 ≡ 0 → (groups : ℕ) → groups ≡ length l / 14 → eqb (3 * groups) n ≡ rest_sound l n from
  unfolding rest_sound
  rest-none h e groups q =
      rw (le-ltb from (n / 3) h, eq-eqb (n % 3) 0 e) (ap (λ (g : ℕ). eqb (3 * g) n) q)

  pub rest-some : n / 3 ≤ from → (n % 3 ≡ 0 → ⊥) → (groups : ℕ) → groups ≡ length l / 14 → (x : Group) → x ≡ group_of l (groups - 1)
      → (t : Bool) → t ≡ present x (n % 3) → t ≡ rest_sound l n from
  unfolding rest_sound
  rest-some h a groups q x is t p =
      rw (le-ltb from (n / 3) h, ne_eqb (n % 3) 0 a)
      (p ∙ ap (λ (y : Group). present y (n % 3)) (is ∙ ap (λ (g : ℕ). group_of l (g - 1)) q))
