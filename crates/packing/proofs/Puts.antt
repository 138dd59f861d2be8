-- Entries and groups, stored part by part.
-- Assumes nothing.
use mathlib.Core.Path.{◌≡◌, refl, ap, sym, ◌∙◌}
use mathlib.Core.Bool.{Bool, true, false, cond}
use mathlib.Core.List.{List, ◌++◌}
use Prim.Native.Nat.{ℕ, ◌+◌, ◌*◌, ◌/◌, ◌%◌, ◌<◌}
use native.Mathlib.Numerals.{add-one}
use native.Mathlib.Omega.{arith}
use lib.Dec.{ltb}
use lib.ListN.{length, set}
use lib.Seq.{sets}
use Rattle.entries.specs.Layout.{entry_of, decoded_of}
use Rattle.entries.specs.declared.decoding.Entry.{Entry}
use Rattle.std.specs.Prelude.{Some, None}
use Rattle.entries.proofs.Decodes.{decoded-whole}
use Rattle.packing.specs.Editions.{strung, word_bytes, head_bytes, head_of, entry_bytes, group_bytes, missing, whole_or, present_of}
use Rattle.packing.specs.Editions.{or_missing, packed_group, packed_of, groups_for}
use Rattle.packing.specs.Groups.{part, group_of, slot_of, position_of}
use Rattle.packing.specs.declared.groups.Group.{Group}
use Rattle.packing.proofs.Runs.{sets_then, strung-more, strung-agree}

pub entry-put : (l n : List ℕ) (at : ℕ) (e : Entry)
    → n ≡ sets (set l at (e.register % 32 * 8 + e.spare % 8)) (at + 1) (word_bytes e.word) → n ≡ sets l at (entry_bytes e)
unfolding entry_bytes
entry-put l n at e r = r ∙ ap (λ (k : ℕ). sets (set l at (e.register % 32 * 8 + e.spare % 8)) k (word_bytes e.word)) (add-one at)

pub group-put : (l h p q r : List ℕ) (at head : ℕ) (a b c : Entry) → head ≡ head_of a.register b.register c.register
    → h ≡ sets l at (head_bytes head) → p ≡ sets h (at + 2) (word_bytes a.word) → q ≡ sets p (at + 6) (word_bytes b.word)
    → r ≡ sets q (at + 10) (word_bytes c.word) → r ≡ sets l at (group_bytes a b c)
unfolding group_bytes
group-put l h p q r at head a b c e u v w x =
    sets_then (head_bytes (head_of a.register b.register c.register))
    (word_bytes a.word ++ (word_bytes b.word ++ word_bytes c.word)) l h r at (at + 2) (omega arith)
    (u ∙ ap (λ (k : ℕ). sets l at (head_bytes k)) e)
    (sets_then (word_bytes a.word) (word_bytes b.word ++ word_bytes c.word) h p r (at + 2) (at + 6) (omega arith) v
    (sets_then (word_bytes b.word) (word_bytes c.word) p q r (at + 6) (at + 10) (omega arith) w x))

pub whole-present : (l : List ℕ) (k : ℕ) (e : Entry) → k < length l / 5 → e ≡ entry_of l k → e ≡ present_of l k
whole-present l k e h p = p ∙ sym (ap whole_or (decoded-whole l k h))

pub group-same : (l n : List ℕ) (at : ℕ) (a b c p q r : Entry) → a ≡ p → b ≡ q → c ≡ r → n ≡ sets l at (group_bytes a b c)
    → n ≡ sets l at (group_bytes p q r)
group-same l n at a b c p q r u v w e =
    e ∙ ap (λ (x : Entry). sets l at (group_bytes x b c)) u ∙ ap (λ (x : Entry). sets l at (group_bytes p x c)) v
    ∙ ap (λ (x : Entry). sets l at (group_bytes p q x)) w

-- ---- sizes of one entry and of one group
pub entry_length : (e : Entry) → length (entry_bytes e) ≡ 5
unfolding entry_bytes
entry_length e = refl

pub group-length : (a b c : Entry) → length (group_bytes a b c) ≡ 14
unfolding group_bytes
group-length a b c = refl

-- ---- group after group
pub groups-more : (list l m n : List ℕ) (g : ℕ) → m ≡ sets l 0 (strung (packed_group list) g) → n ≡ sets m (14 * g) (packed_group list g)
    → n ≡ sets l 0 (strung (packed_group list) (g + 1))
groups-more list l m n g p q =
    strung-more 14 (packed_group list)
    (λ k. group-length (present_of list (3 * k)) (present_of list (3 * k + 1)) (present_of list (3 * k + 2))) l m n (14 * g) g refl p q

pub present-is : (l : List ℕ) (k : ℕ) → present_of l k ≡ or_missing (entry_of l) (length l / 5) k
unfolding decoded_of
present-is l k = whole (ltb k (length l / 5))
  where
    whole : (t : Bool) → whole_or (cond t (Some (entry_of l k)) None) ≡ cond t (entry_of l k) missing
    whole true = refl
    whole false = refl

pub packed-is : (l : List ℕ) → strung (packed_group l) (groups_for (length l / 5)) ≡ packed_of (entry_of l) (length l / 5)
packed-is l =
    let e = or_missing (entry_of l) (length l / 5) in
    strung-agree (packed_group l) (λ g. group_bytes (e (3 * g)) (e (3 * g + 1)) (e (3 * g + 2))) (groups_for (length l / 5))
    (λ k h. rw (present-is l (3 * k), present-is l (3 * k + 1), present-is l (3 * k + 2)))

-- ---- positions of edition 2, three a group
module _ (l : List ℕ) (g : ℕ) where
  pub position_first : position_of l (3 * g) ≡ (part (group_of l g) 0)
  unfolding slot_of
  position_first =
      let a : 3 * g / 3 ≡ g = omega arith in let b : 3 * g % 3 ≡ 0 = omega arith in rw (a, b)

  pub position-second : position_of l (3 * g + 1) ≡ (part (group_of l g) 1)
  unfolding slot_of
  position-second =
      let a : (3 * g + 1) / 3 ≡ g = omega arith in let b : (3 * g + 1) % 3 ≡ 1 = omega arith in rw (a, b)

  pub position-third : position_of l (3 * g + 2) ≡ (part (group_of l g) 2)
  unfolding slot_of
  position-third =
      let a : (3 * g + 2) / 3 ≡ g = omega arith in let b : (3 * g + 2) % 3 ≡ 2 = omega arith in rw (a, b)

-- ---- entry after entry
module _ (list l : List ℕ) where
  abbrev bytes : ℕ → List ℕ
  bytes k = entry_bytes (position_of list k)

  one_more : (m n : List ℕ) (at k : ℕ) (e : Entry) → at ≡ 5 * k → position_of list k ≡ e → m ≡ sets l 0 (strung bytes k)
      → n ≡ sets m at (entry_bytes e)
      → n ≡ sets l 0 (strung bytes (k + 1))
  one_more m n at k e p q r s =
      strung-more 5 bytes (λ i. entry_length (position_of list i)) l m n at k p r (s ∙ ap (λ (x : Entry). sets m at (entry_bytes x)) (sym q))

  pub one-put : (g : ℕ) (x : Group) (m n : List ℕ) → x ≡ group_of list g → m ≡ sets l 0 (strung bytes (3 * g))
      → n ≡ sets m (15 * g) (entry_bytes (part x 0))
      → n ≡ sets l 0 (strung bytes (3 * g + 1))
  one-put g x m n e p q =
      one_more m n (15 * g) (3 * g) (part x 0) (omega arith) (position_first list g ∙ ap (λ (y : Group). part y 0) (sym e)) p q

  pub two-put : (g : ℕ) (x : Group) (m n o : List ℕ) → x ≡ group_of list g → m ≡ sets l 0 (strung bytes (3 * g))
      → n ≡ sets m (15 * g) (entry_bytes (part x 0))
      → o ≡ sets n (15 * g + 5) (entry_bytes (part x 1)) → o ≡ sets l 0 (strung bytes (3 * g + 2))
  two-put g x m n o e p q r =
      let k : 3 * g + 1 + 1 ≡ 3 * g + 2 = omega arith in
      one_more n o (15 * g + 5) (3 * g + 1) (part x 1) (omega arith) (position-second list g ∙ ap (λ (y : Group). part y 1) (sym e))
      (one-put g x m n e p q) r
      ∙ ap (λ (i : ℕ). sets l 0 (strung bytes i)) k

  pub three-put : (g : ℕ) (x : Group) (m n o t : List ℕ) → x ≡ group_of list g → m ≡ sets l 0 (strung bytes (3 * g))
      → n ≡ sets m (15 * g) (entry_bytes (part x 0))
      → o ≡ sets n (15 * g + 5) (entry_bytes (part x 1)) → t ≡ sets o (15 * g + 10) (entry_bytes (part x 2))
      → t ≡ sets l 0 (strung bytes (3 * (g + 1)))
  three-put g x m n o t e p q r s =
      let k : 3 * g + 2 + 1 ≡ 3 * (g + 1) = omega arith in
      one_more o t (15 * g + 10) (3 * g + 2) (part x 2) (omega arith) (position-third list g ∙ ap (λ (y : Group). part y 2) (sym e))
      (two-put g x m n o e p q r) s
      ∙ ap (λ (i : ℕ). sets l 0 (strung bytes i)) k

  pub all-put : (m : List ℕ) (k n : ℕ) → k ≡ n → m ≡ sets l 0 (strung bytes k) → m ≡ sets l 0 (strung bytes n)
  all-put m k n e p = p ∙ ap (λ (i : ℕ). sets l 0 (strung bytes i)) e
