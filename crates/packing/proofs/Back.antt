-- Entries read back from their bytes, and bytes from their entries.
-- Assumes nothing.
use mathlib.Core.Path.{◌≡◌, refl, ap, sym, subst, ◌∙◌}
use mathlib.Core.Bool.{Bool, cond}
use mathlib.Core.List.{List}
use Prim.Native.Nat.{ℕ, zero, suc, ◌+◌, ◌-◌, ◌*◌, ◌/◌, ◌%◌, ◌≤◌, ◌<◌}
use native.Mathlib.Omega.{arith}
use borrow.Author.Tests.{eqb-true, eqb-false, ltb-true, ltb-false, lt-ltb, le-ltb}
use lib.Dec.{eqb, ltb}
use lib.ListN.{length, get_or}
use lib.Seq.{ext_get_or}
use Rattle.lemmas.proofs.Booleans.{by_cases}
use Rattle.entries.specs.Layout.{joined, entry_of}
use Rattle.entries.specs.declared.decoding.Entry.{Entry}
use Rattle.packing.specs.Editions.{head_of, entry_bytes, group_bytes, missing, or_missing, groups_for}
use Rattle.packing.specs.Editions.{packed_of, list_of}
use Rattle.packing.specs.Groups.{part, word_at, head_at, group_of, position_of, count_of}
use Rattle.packing.specs.RoundTrip.{Bytes}
use Rattle.packing.specs.declared.groups.Group.{Group}
use Rattle.packing.proofs.Runs.{get_d-strung}
use Rattle.packing.proofs.Puts.{entry_length, group-length, position_first, position-second, position-third}
use Rattle.packing.proofs.Judges.{closing-none, closing-one, closing-two, count-is}
use Rattle.packing.proofs.Answers.{list-size, packed-size}
use Rattle.packing.proofs.Words.{join-split, split-first, split-second, split-third, split-fourth, head-zero}
use Rattle.packing.proofs.Words.{head_first, head-second, head-third, again-first, again-second}

-- an entry whose fields fit their bits, the spare ones zero
pub record Plain (e : Entry) : Type 0 where
  pub register : e.register < 32
  pub spare : e.spare ≡ 0
  pub word : e.word < 4294967296

abbrev entry : ℕ → ℕ → ℕ → Entry
entry a b c = record { register = a; spare = b; word = c }

pub entry-same : (e : Entry) (a b c : ℕ) → a ≡ e.register → b ≡ e.spare → c ≡ e.word → entry a b c ≡ e
entry-same e a b c p q r =
    ap (λ (x : ℕ). entry x b c) p ∙ ap (λ (x : ℕ). entry e.register x c) q ∙ ap (λ (x : ℕ). entry e.register e.spare x) r

join-same : (a b c d p q r s : ℕ) → a ≡ p → b ≡ q → c ≡ r → d ≡ s → joined a b c d ≡ joined p q r s
join-same a b c d p q r s t u v w = omega arith

-- positions by threes
pub by_three : (F : ℕ → Type 0) → ((g : ℕ) → F (3 * g)) → ((g : ℕ) → F (3 * g + 1)) → ((g : ℕ) → F (3 * g + 2)) → (k : ℕ) → F k
by_three F a b c k =
    by_cases (eqb (k % 3) 0)
    (λ t. let r = eqb-true (k % 3) 0 t in let e : 3 * (k / 3) ≡ k = omega arith in subst F e (a (k / 3)))
    (λ t.
    by_cases (eqb (k % 3) 1)
    (λ u. let r = eqb-true (k % 3) 1 u in let e : 3 * (k / 3) + 1 ≡ k = omega arith in subst F e (b (k / 3)))
    (λ u.
    let r = eqb-false (k % 3) 0 t in
    let s = eqb-false (k % 3) 1 u in
    let e : 3 * (k / 3) + 2 ≡ k = omega (arith, r, s) in
    subst F e (c (k / 3))))

-- ---- edition 1: the entries of a list's bytes
first-register : (r s : ℕ) → r < 32 → s ≡ 0 → (r % 32 * 8 + s % 8) / 8 ≡ r
first-register r s h e =
    let a : r % 32 * 8 + s % 8 ≡ r * 8 = omega arith in let b : r * 8 / 8 ≡ r = omega arith in ap (λ (x : ℕ). x / 8) a ∙ b

first-spare : (r s : ℕ) → r < 32 → s ≡ 0 → (r % 32 * 8 + s % 8) % 8 ≡ s
first-spare r s h e = omega arith

module _ (e : ℕ → Entry) (n : ℕ) where
  abbrev listed : List ℕ
  listed = list_of e n

  list-byte : (k j : ℕ) → k < n → j < 5 → get_or listed (5 * k + j) 0 ≡ get_or (entry_bytes (e k)) j 0
  list-byte k j h i = get_d-strung 5 (λ k. entry_bytes (e k)) (λ k. entry_length (e k)) n k j h i

  pub entry-back : (k : ℕ) → k < n → Plain (e k) → entry_of listed k ≡ e k
  unfolding entry_bytes
  entry-back k h p =
      let x = e k in
      let start : 5 * k ≡ 5 * k + 0 = omega arith in
      let a : get_or listed (5 * k) 0 ≡ x.register % 32 * 8 + x.spare % 8 = ap (λ (i : ℕ). get_or listed i 0) start
      ∙ list-byte k 0 h (omega arith) in
      entry-same x (get_or listed (5 * k) 0 / 8) (get_or listed (5 * k) 0 % 8)
      (joined (get_or listed (5 * k + 1) 0) (get_or listed (5 * k + 2) 0) (get_or listed (5 * k + 3) 0) (get_or listed (5 * k + 4) 0))
      (ap (λ (i : ℕ). i / 8) a ∙ first-register x.register x.spare p.register p.spare)
      (ap (λ (i : ℕ). i % 8) a ∙ first-spare x.register x.spare p.register p.spare)
      (join-same _ _ _ _ _ _ _ _ (list-byte k 1 h (omega arith)) (list-byte k 2 h (omega arith)) (list-byte k 3 h (omega arith))
      (list-byte k 4 h (omega arith))
      ∙ join-split x.word p.word)

-- and the bytes of its entries
first-whole : (x : ℕ) → x < 256 → x / 8 % 32 * 8 + x % 8 % 8 ≡ x
first-whole x h = omega arith

module _ (l : List ℕ) (b : Bytes l) where
  entry-byte : (k j : ℕ) → j < 5 → get_or (entry_bytes (entry_of l k)) j 0 ≡ get_or l (5 * k + j) 0
  unfolding entry_bytes
  entry-byte k zero h =
      let start : 5 * k ≡ 5 * k + 0 = omega arith in first-whole (get_or l (5 * k) 0) (b (5 * k)) ∙ ap (λ (i : ℕ). get_or l i 0) start
  entry-byte k (suc zero) h =
      split-first (get_or l (5 * k + 1) 0) (get_or l (5 * k + 2) 0) (get_or l (5 * k + 3) 0) (get_or l (5 * k + 4) 0) (b (5 * k + 1))
      (b (5 * k + 2)) (b (5 * k + 3)) (b (5 * k + 4))
  entry-byte k (suc (suc zero)) h =
      split-second (get_or l (5 * k + 1) 0) (get_or l (5 * k + 2) 0) (get_or l (5 * k + 3) 0) (get_or l (5 * k + 4) 0) (b (5 * k + 1))
      (b (5 * k + 2)) (b (5 * k + 3)) (b (5 * k + 4))
  entry-byte k (suc (suc (suc zero))) h =
      split-third (get_or l (5 * k + 1) 0) (get_or l (5 * k + 2) 0) (get_or l (5 * k + 3) 0) (get_or l (5 * k + 4) 0) (b (5 * k + 1))
      (b (5 * k + 2)) (b (5 * k + 3)) (b (5 * k + 4))
  entry-byte k (suc (suc (suc (suc zero)))) h =
      split-fourth (get_or l (5 * k + 1) 0) (get_or l (5 * k + 2) 0) (get_or l (5 * k + 3) 0) (get_or l (5 * k + 4) 0) (b (5 * k + 1))
      (b (5 * k + 2)) (b (5 * k + 3)) (b (5 * k + 4))
  entry-byte k (suc (suc (suc (suc (suc j))))) h = absurd (omega arith)

  pub list-whole : (n : ℕ) → length l ≡ 5 * n → list_of (entry_of l) n ≡ l
  list-whole n e =
      let size = list-size (entry_of l) n in
      ext_get_or 0 (list_of (entry_of l) n) l (size ∙ sym e)
      (λ i h.
      let q : 5 * (i / 5) + i % 5 ≡ i = omega arith in
      ap (λ (x : ℕ). get_or (list_of (entry_of l) n) x 0) (sym q) ∙ list-byte (entry_of l) n (i / 5) (i % 5) (omega arith) (omega arith)
      ∙ entry-byte (i / 5) (i % 5) (omega arith) ∙ ap (λ (x : ℕ). get_or l x 0) q)

-- ---- edition 2: the groups of a packed list
pub or-there : (e : ℕ → Entry) (n k : ℕ) → k < n → or_missing e n k ≡ e k
or-there e n k h = ap (λ (t : Bool). cond t (e k) missing) (lt-ltb k n h)

pub or-missing : (e : ℕ → Entry) (n k : ℕ) → n ≤ k → or_missing e n k ≡ missing
or-missing e n k h = ap (λ (t : Bool). cond t (e k) missing) (le-ltb k n h)

missing-plain : Plain missing
missing-plain = record { register = omega arith; spare = refl; word = omega arith }

module _ (e : ℕ → Entry) (n : ℕ) (plain : (k : ℕ) → k < n → Plain (e k)) where
  abbrev o : ℕ → Entry
  o = or_missing e n

  abbrev packing : List ℕ
  packing = packed_of e n

  or-plain : (k : ℕ) → Plain (o k)
  or-plain k =
      by_cases (ltb k n) (λ t. let h = ltb-true k n t in subst Plain (sym (or-there e n k h)) (plain k h))
      (λ t. subst Plain (sym (or-missing e n k (ltb-false k n t))) missing-plain)

  pub group-byte : (g j : ℕ) → g < groups_for n → j < 14
      → get_or packing (14 * g + j) 0 ≡ get_or (group_bytes (o (3 * g)) (o (3 * g + 1)) (o (3 * g + 2))) j 0
  group-byte g j h i =
      get_d-strung 14 (λ g. group_bytes (o (3 * g)) (o (3 * g + 1)) (o (3 * g + 2)))
      (λ g. group-length (o (3 * g)) (o (3 * g + 1)) (o (3 * g + 2))) (groups_for n) g j h i

  module _ (g : ℕ) (h : g < groups_for n) where
    abbrev h-of : ℕ
    h-of = head_of (o (3 * g)).register (o (3 * g + 1)).register (o (3 * g + 2)).register

    head-back : head_at packing g ≡ h-of / 256 % 256 * 256 + h-of % 256
    unfolding group_bytes
    head-back =
        let start : 14 * g ≡ 14 * g + 0 = omega arith in
        ap (λ (i : ℕ). i * 256 + get_or packing (14 * g + 1) 0) (ap (λ (i : ℕ). get_or packing i 0) start ∙ group-byte g 0 h (omega arith))
        ∙ ap (λ (i : ℕ). h-of / 256 % 256 * 256 + i) (group-byte g 1 h (omega arith))

    byte-by : (i j : ℕ) → j < 14 → i ≡ 14 * g + j → get_or packing i 0 ≡ get_or (group_bytes (o (3 * g)) (o (3 * g + 1)) (o (3 * g + 2))) j 0
    byte-by i j k q = ap (λ (x : ℕ). get_or packing x 0) q ∙ group-byte g j h k

    word_first : word_at packing (14 * g + 2) ≡ (o (3 * g)).word
    unfolding group_bytes
    word_first =
        join-same _ _ _ _ _ _ _ _ (byte-by (14 * g + 2) 2 (omega arith) (omega arith))
        (byte-by (14 * g + 2 + 1) 3 (omega arith) (omega arith))
        (byte-by (14 * g + 2 + 2) 4 (omega arith) (omega arith)) (byte-by (14 * g + 2 + 3) 5 (omega arith) (omega arith))
        ∙ join-split (o (3 * g)).word (or-plain (3 * g)).word

    word-second : word_at packing (14 * g + 6) ≡ (o (3 * g + 1)).word
    unfolding group_bytes
    word-second =
        join-same _ _ _ _ _ _ _ _ (byte-by (14 * g + 6) 6 (omega arith) (omega arith))
        (byte-by (14 * g + 6 + 1) 7 (omega arith) (omega arith))
        (byte-by (14 * g + 6 + 2) 8 (omega arith) (omega arith)) (byte-by (14 * g + 6 + 3) 9 (omega arith) (omega arith))
        ∙ join-split (o (3 * g + 1)).word (or-plain (3 * g + 1)).word

    word-third : word_at packing (14 * g + 10) ≡ (o (3 * g + 2)).word
    unfolding group_bytes
    word-third =
        join-same _ _ _ _ _ _ _ _ (byte-by (14 * g + 10) 10 (omega arith) (omega arith))
        (byte-by (14 * g + 10 + 1) 11 (omega arith) (omega arith))
        (byte-by (14 * g + 10 + 2) 12 (omega arith) (omega arith)) (byte-by (14 * g + 10 + 3) 13 (omega arith) (omega arith))
        ∙ join-split (o (3 * g + 2)).word (or-plain (3 * g + 2)).word

    pub zero-back : (group_of packing g).zero ≡ 0
    zero-back =
        ap (λ (x : ℕ). x / 32768) head-back
        ∙ head-zero (o (3 * g)).register (o (3 * g + 1)).register (o (3 * g + 2)).register (or-plain (3 * g)).register
        (or-plain (3 * g + 1)).register (or-plain (3 * g + 2)).register

    pub first_back : (part (group_of packing g) 0) ≡ o (3 * g)
    first_back =
        entry-same (o (3 * g)) (head_at packing g / 1024 % 32) 0 (word_at packing (14 * g + 2))
        (ap (λ (x : ℕ). x / 1024 % 32) head-back
        ∙ head_first (o (3 * g)).register (o (3 * g + 1)).register (o (3 * g + 2)).register (or-plain (3 * g)).register
        (or-plain (3 * g + 1)).register (or-plain (3 * g + 2)).register)
        (sym (or-plain (3 * g)).spare) word_first

    pub second_back : (part (group_of packing g) 1) ≡ o (3 * g + 1)
    second_back =
        entry-same (o (3 * g + 1)) (head_at packing g / 32 % 32) 0 (word_at packing (14 * g + 6))
        (ap (λ (x : ℕ). x / 32 % 32) head-back
        ∙ head-second (o (3 * g)).register (o (3 * g + 1)).register (o (3 * g + 2)).register (or-plain (3 * g)).register
        (or-plain (3 * g + 1)).register (or-plain (3 * g + 2)).register)
        (sym (or-plain (3 * g + 1)).spare) word-second

    pub third_back : (part (group_of packing g) 2) ≡ o (3 * g + 2)
    third_back =
        entry-same (o (3 * g + 2)) (head_at packing g % 32) 0 (word_at packing (14 * g + 10))
        (ap (λ (x : ℕ). x % 32) head-back
        ∙ head-third (o (3 * g)).register (o (3 * g + 1)).register (o (3 * g + 2)).register (or-plain (3 * g)).register
        (or-plain (3 * g + 1)).register (or-plain (3 * g + 2)).register)
        (sym (or-plain (3 * g + 2)).spare) word-third

  pub position-back : (k : ℕ) → k < 3 * groups_for n → position_of packing k ≡ o k
  position-back =
      by_three (λ k. k < 3 * groups_for n → position_of packing k ≡ o k)
      (λ g h. position_first packing g ∙ first_back g (omega arith))
      (λ g h. position-second packing g ∙ second_back g (omega arith))
      (λ g h. position-third packing g ∙ third_back g (omega arith))

  -- its number of entries, where none of them has the number 31
  module _ (some : 0 < n) (real : (k : ℕ) → k < n → (e k).register ≡ 31 → ⊥) where
    there : (x : Entry) (k : ℕ) → k < n → x ≡ o k → x.register ≡ 31 → ⊥
    there x k h p q = real k h (ap (λ (y : Entry). y.register) (sym (p ∙ or-there e n k h)) ∙ q)

    gone : (x : Entry) (k : ℕ) → n ≤ k → x ≡ o k → x.register ≡ 31
    gone x k h p = ap (λ (y : Entry). y.register) (p ∙ or-missing e n k h)

    pub count-back : count_of packing ≡ n
    count-back =
        let size = packed-size e n in
        let g = length packing / 14 - 1 in
        let q : length packing / 14 ≡ groups_for n = omega arith in
        let h : g < groups_for n = omega arith in
        let x = group_of packing g in
        by_cases (ltb (3 * g + 2) n)
        (λ t.
        let u = ltb-true (3 * g + 2) n t in
        sym (count-is packing x 0 refl (closing-none x (there (part x 2) (3 * g + 2) u (third_back g h)))) ∙ omega arith)
        (λ t.
        let u = ltb-false (3 * g + 2) n t in
        let z = gone (part x 2) (3 * g + 2) u (third_back g h) in
        by_cases (ltb (3 * g + 1) n)
        (λ v.
        let w = ltb-true (3 * g + 1) n v in
        sym (count-is packing x 1 refl (closing-one x z (there (part x 1) (3 * g + 1) w (second_back g h)))) ∙ omega arith)
        (λ v.
        let w = ltb-false (3 * g + 1) n v in
        let y = gone (part x 1) (3 * g + 1) w (second_back g h) in
        sym (count-is packing x 2 refl (closing-two x z y (there (part x 0) (3 * g) (omega arith) (first_back g h)))) ∙ omega arith))

-- ---- the bytes of an edition 2 input, from its groups
module _ (m : List ℕ) (b : Bytes m) where
  word-first-byte : (at i : ℕ) → at ≡ i → word_at m at / 16777216 % 256 ≡ get_or m i 0
  word-first-byte at i q =
      split-first (get_or m at 0) (get_or m (at + 1) 0) (get_or m (at + 2) 0) (get_or m (at + 3) 0) (b at) (b (at + 1)) (b (at + 2)) (b (at + 3))
      ∙ ap (λ (x : ℕ). get_or m x 0) q

  word-second-byte : (at i : ℕ) → at + 1 ≡ i → word_at m at / 65536 % 256 ≡ get_or m i 0
  word-second-byte at i q =
      split-second (get_or m at 0) (get_or m (at + 1) 0) (get_or m (at + 2) 0) (get_or m (at + 3) 0) (b at) (b (at + 1)) (b (at + 2))
      (b (at + 3)) ∙ ap (λ (x : ℕ). get_or m x 0) q

  word-third-byte : (at i : ℕ) → at + 2 ≡ i → word_at m at / 256 % 256 ≡ get_or m i 0
  word-third-byte at i q =
      split-third (get_or m at 0) (get_or m (at + 1) 0) (get_or m (at + 2) 0) (get_or m (at + 3) 0) (b at) (b (at + 1)) (b (at + 2)) (b (at + 3))
      ∙ ap (λ (x : ℕ). get_or m x 0) q

  word-fourth-byte : (at i : ℕ) → at + 3 ≡ i → word_at m at % 256 ≡ get_or m i 0
  word-fourth-byte at i q =
      split-fourth (get_or m at 0) (get_or m (at + 1) 0) (get_or m (at + 2) 0) (get_or m (at + 3) 0) (b at) (b (at + 1)) (b (at + 2))
      (b (at + 3)) ∙ ap (λ (x : ℕ). get_or m x 0) q

  module _ (g : ℕ) (z : (group_of m g).zero ≡ 0) where
    abbrev x : Group
    x = group_of m g

    pub group-bytes : (j : ℕ) → j < 14 → get_or (group_bytes (part x 0) (part x 1) (part x 2)) j 0 ≡ get_or m (14 * g + j) 0
    unfolding group_bytes
    group-bytes zero h =
        let start : 14 * g ≡ 14 * g + 0 = omega arith in
        again-first (get_or m (14 * g) 0) (get_or m (14 * g + 1) 0) (b (14 * g)) (b (14 * g + 1)) z ∙ ap (λ (i : ℕ). get_or m i 0) start
    group-bytes (suc zero) h = again-second (get_or m (14 * g) 0) (get_or m (14 * g + 1) 0) (b (14 * g)) (b (14 * g + 1)) z
    group-bytes (suc (suc zero)) h = word-first-byte (14 * g + 2) (14 * g + 2) (omega arith)
    group-bytes (suc (suc (suc zero))) h = word-second-byte (14 * g + 2) (14 * g + 3) (omega arith)
    group-bytes (suc (suc (suc (suc zero)))) h = word-third-byte (14 * g + 2) (14 * g + 4) (omega arith)
    group-bytes (suc (suc (suc (suc (suc zero))))) h = word-fourth-byte (14 * g + 2) (14 * g + 5) (omega arith)
    group-bytes (suc (suc (suc (suc (suc (suc zero)))))) h = word-first-byte (14 * g + 6) (14 * g + 6) (omega arith)
    group-bytes (suc (suc (suc (suc (suc (suc (suc zero))))))) h = word-second-byte (14 * g + 6) (14 * g + 7) (omega arith)
    group-bytes (suc (suc (suc (suc (suc (suc (suc (suc zero)))))))) h = word-third-byte (14 * g + 6) (14 * g + 8) (omega arith)
    group-bytes (suc (suc (suc (suc (suc (suc (suc (suc (suc zero))))))))) h = word-fourth-byte (14 * g + 6) (14 * g + 9) (omega arith)
    group-bytes (suc (suc (suc (suc (suc (suc (suc (suc (suc (suc zero)))))))))) h =
        word-first-byte (14 * g + 10) (14 * g + 10) (omega arith)
    group-bytes (suc (suc (suc (suc (suc (suc (suc (suc (suc (suc (suc zero))))))))))) h =
        word-second-byte (14 * g + 10) (14 * g + 11) (omega arith)
    group-bytes (suc (suc (suc (suc (suc (suc (suc (suc (suc (suc (suc (suc zero)))))))))))) h =
        word-third-byte (14 * g + 10) (14 * g + 12) (omega arith)
    group-bytes (suc (suc (suc (suc (suc (suc (suc (suc (suc (suc (suc (suc (suc zero))))))))))))) h =
        word-fourth-byte (14 * g + 10) (14 * g + 13) (omega arith)
    group-bytes (suc (suc (suc (suc (suc (suc (suc (suc (suc (suc (suc (suc (suc (suc j)))))))))))))) h = absurd (omega arith)
