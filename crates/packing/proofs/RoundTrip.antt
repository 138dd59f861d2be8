-- A legal list comes back, and every accepted edition 2 file is the one its list gives.
-- Assumes nothing.
use mathlib.Core.Path.{◌≡◌, refl, ap, sym, subst, ◌∙◌}
use mathlib.Core.Bool.{Bool, true, false, cond, false≢true}
use mathlib.Core.List.{List}
use Prim.Native.Nat.{ℕ, ◌+◌, ◌-◌, ◌*◌, ◌/◌, ◌%◌, ◌≤◌, ◌<◌}
use native.Mathlib.Omega.{arith}
use borrow.Author.Tests.{eqb-true, eqb-false, eq-eqb, ne_eqb, ltb-true, ltb-false, lt-ltb, le-ltb}
use lib.Dec.{eqb, ltb}
use lib.ListN.{length, get_or}
use lib.Seq.{ext_get_or}
use Rattle.lemmas.proofs.Booleans.{by_cases, and_left, and_right, and_both, or-first}
use Rattle.entries.specs.Layout.{entry_of}
use Rattle.entries.specs.Legality.{entry_legal}
use Rattle.entries.specs.declared.decoding.Entry.{Entry}
use Rattle.packing.specs.Editions.{entry_bytes, group_bytes, missing, or_missing, groups_for, packed_of, list_of}
use Rattle.packing.specs.Groups.{part, word_at, head_at, group_of, position_of, count_of}
use Rattle.packing.specs.Reports.{report}
use Rattle.std.specs.Prelude.{None}
use Rattle.packing.specs.Conversions.{holds, judged_by, pack_report, passes, placed, well_formed, judgement, last_has_one}
use Rattle.packing.specs.Conversions.{unpack_report}
use Rattle.packing.specs.Conversions.{converted_to, pack_of, unpack_of}
use Rattle.packing.specs.RoundTrip.{Bytes, LegalList, done, ComesBack, OneForm, Sizes}
use Rattle.packing.proofs.Runs.{strung-agree}
use Rattle.packing.proofs.Puts.{position_first, position-second, position-third}
use Rattle.packing.proofs.Judges.{closing-third, closing-second, count_most}
use Rattle.packing.proofs.Fulls.{legal-real, legal-spare, legal-passes, legal-placed, all-four, four-all}
use Rattle.packing.proofs.Answers.{pack_size, pack-judged, unpack_size, unpack-judged, illegal_of, sound, failing_of, Unpacks}
use Rattle.packing.proofs.Answers.{unpacks, list-size, packed-size}
use Rattle.packing.proofs.Words.{join-small}
use Rattle.packing.proofs.Searches.{none_found, all_pass, all_hold, each_holds}
use Rattle.packing.proofs.Back.{Plain, entry-same, by_three, entry-back, list-whole, or-there, or-missing, group-byte, zero-back}
use Rattle.packing.proofs.Back.{first_back, second_back, third_back, position-back, count-back, group-bytes}

-- ---- a list whose entries are legal packs
module _ (l : List ℕ) (n : ℕ) (whole : length l ≡ 5 * n) (some : 0 < n) (few : n ≤ 4096)
    (legal : (k : ℕ) → k < n → entry_legal (entry_of l k) ≡ true) where
  count-is-n : length l / 5 ≡ n
  count-is-n = omega arith

  none : illegal_of l ≡ None
  none = none_found (λ k. entry_legal (entry_of l k)) 0 (length l / 5) (λ q a b. legal q (omega arith))

  packs-to : (room : ℕ) → groups_for n ≤ room / 14 → pack_report l room ≡ report 0 0 (14 * groups_for n)
  packs-to room h =
      let q = count-is-n in
      let size : pack_size l room ≡ false =
      rw (eq-eqb (length l % 5) 0 (omega arith), le-ltb (room / 14) (groups_for (length l / 5)) (omega arith)) in
      sym (pack-judged l room size (λ e. omega arith) (omega arith) (report 0 0 (14 * groups_for (length l / 5)))
      (sym (ap (judged_by (length l / 5)) none)))
      ∙ ap (λ (k : ℕ). report 0 0 (14 * groups_for k)) q

  pub pack-gives : (out : List ℕ) → groups_for n ≤ length out / 14
      → pack_of l out ≡ done (packed_of (entry_of l) n) (14 * groups_for n) out
  unfolding pack_of
  pack-gives out h =
      ap (converted_to (packed_of (entry_of l) (length l / 5)) out) (packs-to (length out) h)
      ∙ ap (λ (k : ℕ). done (packed_of (entry_of l) k) (14 * groups_for n) out) count-is-n

-- ---- an input that passes every test unpacks
pub unpacks-to : (m : List ℕ) (room : ℕ) → length m % 14 ≡ 0 → count_of m ≤ room / 5 → (length m ≡ 0 → ⊥) → count_of m ≤ 4096
    → failing_of m ≡ None → sound m ≡ true
    → unpack_report m room ≡ report 0 0 (5 * count_of m)
unpacks-to m room whole fits some few legal formed =
    let size : unpack_size m room (length m / 14) refl (count_of m) refl ≡ false =
    rw (eq-eqb (14 * (length m / 14)) (length m) (omega arith), le-ltb (room / 5) (count_of m) fits) in
    sym
    (unpack-judged m room (length m / 14) refl (count_of m) refl size some few (report 0 0 (5 * count_of m))
    (sym (ap (judgement (count_of m) (sound m)) legal ∙ ap (λ (t : Bool). cond t (report 0 0 (5 * count_of m)) (report 10 0 0)) formed)))

-- ---- a legal list comes back
module _ (l : List ℕ) (n : ℕ) (ok : LegalList l n) where
  abbrev e : ℕ → Entry
  e = entry_of l

  plain : (k : ℕ) → k < n → Plain (e k)
  plain k h =
      record {
        register = omega (arith, ok.bytes (5 * k));
        spare = legal-spare (e k) (ok.legal k h);
        word = join-small (get_or l (5 * k + 1) 0) (get_or l (5 * k + 2) 0) (get_or l (5 * k + 3) 0) (get_or l (5 * k + 4) 0)
            (ok.bytes (5 * k + 1)) (ok.bytes (5 * k + 2)) (ok.bytes (5 * k + 3)) (ok.bytes (5 * k + 4));
      }

  real : (k : ℕ) → k < n → (e k).register ≡ 31 → ⊥
  real k h = legal-real (e k) (ok.legal k h)

  abbrev m : List ℕ
  m = packed_of e n

  size : length m ≡ 14 * groups_for n
  size = packed-size e n

  count : count_of m ≡ n
  count = count-back e n plain ok.some real

  passing : (k : ℕ) → passes (or_missing e n k) ≡ true
  passing k =
      by_cases (ltb k n)
      (λ t. let h = ltb-true k n t in ap passes (or-there e n k h) ∙ legal-passes (e k) (ok.legal k h))
      (λ t. ap passes (or-missing e n k (ltb-false k n t)))

  in_place : (k : ℕ) → k < n → placed (e k) k n ≡ true
  in_place k h = legal-placed (e k) k n h (ok.legal k h)

  past : (k : ℕ) → n ≤ k → placed missing k n ≡ true
  past k h = rw (le-ltb k n h)

  placing : (k : ℕ) → placed (or_missing e n k) k n ≡ true
  placing k =
      by_cases (ltb k n)
      (λ t. let h = ltb-true k n t in ap (λ (x : Entry). placed x k n) (or-there e n k h) ∙ in_place k h)
      (λ t. let h = ltb-false k n t in ap (λ (x : Entry). placed x k n) (or-missing e n k h) ∙ past k h)

  placing-at : (x : Entry) (k : ℕ) → x ≡ or_missing e n k → placed x k (count_of m) ≡ true
  placing-at x k p = ap (λ (y : Entry). placed y k (count_of m)) p ∙ ap (placed (or_missing e n k) k) count ∙ placing k

  forming : (g : ℕ) → g < groups_for n → well_formed (group_of m g) (3 * g) (count_of m) ≡ true
  forming g h =
      let x = group_of m g in
      four-all (eqb x.zero 0) (placed (part x 0) (3 * g) (count_of m)) (placed (part x 1) (3 * g + 1) (count_of m))
      (placed (part x 2) (3 * g + 2) (count_of m))
      (eq-eqb x.zero 0 (zero-back e n plain g h)) (placing-at (part x 0) (3 * g) (first_back e n plain g h))
      (placing-at (part x 1) (3 * g + 1) (second_back e n plain g h)) (placing-at (part x 2) (3 * g + 2) (third_back e n plain g h))

  all_sound : sound m ≡ true
  all_sound =
      let s = size in
      let c = count in
      let some = ok.some in
      and_both (last_has_one m (count_of m)) (holds (λ k. well_formed (group_of m k) (3 * k) (count_of m)) 0 (length m / 14))
      (lt-ltb (3 * (length m / 14)) (count_of m + 3) (omega arith))
      (all_hold (λ k. well_formed (group_of m k) (3 * k) (count_of m)) 0 (length m / 14) (λ q a b. forming q (omega arith)))

  all-legal : failing_of m ≡ None
  all-legal =
      let s = size in
      none_found (λ p. passes (position_of m p)) 0 (3 * (length m / 14))
      (λ q a b. ap passes (position-back e n plain q (omega arith)) ∙ passing q)

  unpacks-back : (room : ℕ) → n ≤ room / 5 → unpack_report m room ≡ report 0 0 (5 * n)
  unpacks-back room h =
      let s = size in
      let c = count in
      let some = ok.some in
      let few = ok.few in
      unpacks-to m room (omega arith) (omega arith) (λ z. omega arith) (omega arith) all-legal all_sound
      ∙ ap (λ (k : ℕ). report 0 0 (5 * k)) c

  same-list : list_of (position_of m) (count_of m) ≡ l
  same-list =
      let some = ok.some in
      ap (list_of (position_of m)) count
      ∙ strung-agree (λ k. entry_bytes (position_of m k)) (λ k. entry_bytes (e k)) n
      (λ k h. ap entry_bytes (position-back e n plain k (omega arith) ∙ or-there e n k h))
      ∙ list-whole l ok.bytes n ok.whole

  back-gives : (back : List ℕ) → n ≤ length back / 5 → unpack_of m back ≡ done l (5 * n) back
  unfolding unpack_of
  back-gives back h =
      ap (converted_to (list_of (position_of m) (count_of m)) back) (unpacks-back (length back) h)
      ∙ ap (λ (y : List ℕ). done y (5 * n) back) same-list

pub comes_back : ComesBack
comes_back l n ok out back h k = (
  pack-gives l n ok.whole ok.some ok.few ok.legal out (omega arith),
  back-gives l n ok back (omega arith),
)

-- ---- every accepted file is the one its list gives
placed-in : (x : Entry) (p n : ℕ) → p < n → placed x p n ≡ true → x.register ≡ 31 → ⊥
placed-in x p n h s r =
    let k : placed x p n ≡ false = rw (eq-eqb x.register 31 r, lt-ltb p n h) in false≢true (sym k ∙ s)

placed-out : (x : Entry) (p n : ℕ) → n ≤ p → placed x p n ≡ true → x.word ≡ 0
placed-out x p n h s =
    by_cases (eqb x.word 0) (λ t. eqb-true x.word 0 t)
    (λ t. let k : placed x p n ≡ false = rw (t, le-ltb p n h) in absurd (false≢true (sym k ∙ s)))

module _ (m : List ℕ) where
  pub position-spare : (p : ℕ) → (position_of m p).spare ≡ 0
  position-spare =
      by_three (λ p. (position_of m p).spare ≡ 0) (λ g. ap (λ (x : Entry). x.spare) (position_first m g))
      (λ g. ap (λ (x : Entry). x.spare) (position-second m g)) (λ g. ap (λ (x : Entry). x.spare) (position-third m g))

  plain_at : Bytes m → (r at : ℕ) → r < 32 → Plain (record { register = r; spare = 0; word = word_at m at })
  plain_at b r at h =
      record {
        register = h;
        spare = refl;
        word = join-small (get_or m at 0) (get_or m (at + 1) 0) (get_or m (at + 2) 0) (get_or m (at + 3) 0) (b at) (b (at + 1)) (b (at + 2))
            (b (at + 3));
      }

  position-plain : Bytes m → (p : ℕ) → Plain (position_of m p)
  position-plain b =
      by_three (λ p. Plain (position_of m p))
      (λ g. subst Plain (sym (position_first m g)) (plain_at b (head_at m g / 1024 % 32) (14 * g + 2) (omega arith)))
      (λ g. subst Plain (sym (position-second m g)) (plain_at b (head_at m g / 32 % 32) (14 * g + 6) (omega arith)))
      (λ g. subst Plain (sym (position-third m g)) (plain_at b (head_at m g % 32) (14 * g + 10) (omega arith)))

module _ (m : List ℕ) (b : Bytes m) (room written : ℕ) (u : Unpacks m room written) where
  abbrev groups : ℕ
  groups = length m / 14

  abbrev n : ℕ
  n = count_of m

  abbrev formed_at : ℕ → Bool
  formed_at g = well_formed (group_of m g) (3 * g) n

  near : 3 * groups < n + 3
  near = ltb-true (3 * groups) (n + 3) (and_left (ltb (3 * groups) (n + 3)) (holds formed_at 0 groups) u.formed)

  formed-at : (g : ℕ) → g < groups → formed_at g ≡ true
  formed-at g h =
      each_holds formed_at 0 groups (and_right (ltb (3 * groups) (n + 3)) (holds formed_at 0 groups) u.formed) g (omega arith)
      (omega arith)

  abbrev parts : (g : ℕ) → g < groups
      → (eqb (group_of m g).zero 0 ≡ true) × (placed (part (group_of m g) 0) (3 * g) n ≡ true)
      × (placed (part (group_of m g) 1) (3 * g + 1) n ≡ true) × (placed (part (group_of m g) 2) (3 * g + 2) n ≡ true)
  parts g h =
      all-four (eqb (group_of m g).zero 0) (placed (part (group_of m g) 0) (3 * g) n) (placed (part (group_of m g) 1) (3 * g + 1) n)
      (placed (part (group_of m g) 2) (3 * g + 2) n) (formed-at g h)

  zero_bit : (g : ℕ) → g < groups → (group_of m g).zero ≡ 0
  zero_bit g h = eqb-true (group_of m g).zero 0 (parts g h).0

  placed_at : (p : ℕ) → p < 3 * groups → placed (position_of m p) p n ≡ true
  placed_at =
      by_three (λ p. p < 3 * groups → placed (position_of m p) p n ≡ true)
      (λ g h. ap (λ (x : Entry). placed x (3 * g) n) (position_first m g) ∙ (parts g (omega arith)).1)
      (λ g h. ap (λ (x : Entry). placed x (3 * g + 1) n) (position-second m g) ∙ (parts g (omega arith)).2)
      (λ g h. ap (λ (x : Entry). placed x (3 * g + 2) n) (position-third m g) ∙ (parts g (omega arith)).3)

  most : n ≤ 3 * groups
  most = count_most m

  real-at : (p : ℕ) → p < n → (position_of m p).register ≡ 31 → ⊥
  real-at p h = placed-in (position_of m p) p n h (placed_at p (omega (arith, most)))

  legal-at : (p : ℕ) → p < n → entry_legal (position_of m p) ≡ true
  legal-at p h =
      or-first (eqb (position_of m p).register 31) (entry_legal (position_of m p))
      (all_pass (λ p. passes (position_of m p)) 0 (3 * groups) u.legal p (omega arith) (omega (arith, most)))
      (ne_eqb (position_of m p).register 31 (real-at p h))

  -- the positions past the count hold 31s
  module _ (g : ℕ) (last : g ≡ groups - 1) (any : 0 < groups) where
    closed : (p : ℕ) → n ≤ p → p < 3 * groups → (position_of m p).register ≡ 31
    closed p h k =
        let far = near in
        by_cases (eqb p (3 * g + 2))
        (λ t.
        let q = eqb-true p (3 * g + 2) t in
        ap (λ (i : ℕ). (position_of m i).register) q ∙ ap (λ (y : Entry). y.register) (position-third m g)
        ∙ closing-third m g last any (omega arith))
        (λ t.
        let d = eqb-false p (3 * g + 2) t in
        let q : p ≡ 3 * g + 1 = omega (arith, d) in
        ap (λ (i : ℕ). (position_of m i).register) q ∙ ap (λ (y : Entry). y.register) (position-second m g)
        ∙ closing-second m g last any (omega arith))

  any-groups : 0 < groups
  any-groups = let w = u.whole in let s = u.some in omega (arith, s)

  missing_at : (p : ℕ) → n ≤ p → p < 3 * groups → position_of m p ≡ missing
  missing_at p h k =
      let y = position_of m p in
      entry-same missing y.register y.spare y.word (closed (groups - 1) refl any-groups p h k) (position-spare m p)
      (placed-out y p n h (placed_at p k))

  whole-or : (p : ℕ) → p < 3 * groups → or_missing (position_of m) n p ≡ position_of m p
  whole-or p k =
      by_cases (ltb p n) (λ t. or-there (position_of m) n p (ltb-true p n t))
      (λ t. let h = ltb-false p n t in or-missing (position_of m) n p h ∙ sym (missing_at p h k))

  groups-are : groups_for n ≡ groups
  groups-are = let a = near in let b = most in omega arith

  length-is : 14 * groups_for n ≡ length m
  length-is = let a = groups-are in let w = u.whole in omega arith

  bytes-at : (g j : ℕ) → g < groups → j < 14 → get_or (packed_of (position_of m) n) (14 * g + j) 0 ≡ get_or m (14 * g + j) 0
  bytes-at g j h i =
      let a = groups-are in
      let o = or_missing (position_of m) n in
      let y = group_of m g in
      group-byte (position_of m) n (λ k l. position-plain m b k) g j (omega arith) i
      ∙ ap (λ (s : Entry). get_or (group_bytes s (o (3 * g + 1)) (o (3 * g + 2))) j 0) (whole-or (3 * g) (omega arith) ∙ position_first m g)
      ∙ ap (λ (s : Entry). get_or (group_bytes (part y 0) s (o (3 * g + 2))) j 0) (whole-or (3 * g + 1) (omega arith) ∙ position-second m g)
      ∙ ap (λ (s : Entry). get_or (group_bytes (part y 0) (part y 1) s) j 0) (whole-or (3 * g + 2) (omega arith) ∙ position-third m g)
      ∙ group-bytes m b g (zero_bit g h) j i

  packed-again : packed_of (position_of m) n ≡ m
  packed-again =
      let size = packed-size (position_of m) n in
      let len = length-is in
      ext_get_or 0 (packed_of (position_of m) n) m (size ∙ len)
      (λ i h.
      let q : 14 * (i / 14) + i % 14 ≡ i = omega arith in
      ap (λ (k : ℕ). get_or (packed_of (position_of m) n) k 0) (sym q) ∙ bytes-at (i / 14) (i % 14) (omega arith) (omega arith)
      ∙ ap (λ (k : ℕ). get_or m k 0) q)

  abbrev list : List ℕ
  list = list_of (position_of m) n

  read_back : (k : ℕ) → k < n → entry_of list k ≡ position_of m k
  read_back k h = entry-back (position_of m) n k h (position-plain m b k)

  same_or : (k : ℕ) → or_missing (entry_of list) n k ≡ or_missing (position_of m) n k
  same_or k =
      by_cases (ltb k n)
      (λ t. let h = ltb-true k n t in or-there (entry_of list) n k h ∙ read_back k h ∙ sym (or-there (position_of m) n k h))
      (λ t. let h = ltb-false k n t in or-missing (entry_of list) n k h ∙ sym (or-missing (position_of m) n k h))

  same-packed : packed_of (entry_of list) n ≡ m
  same-packed =
      let o = or_missing (entry_of list) n in
      let r = or_missing (position_of m) n in
      strung-agree (λ g. group_bytes (o (3 * g)) (o (3 * g + 1)) (o (3 * g + 2)))
      (λ g. group_bytes (r (3 * g)) (r (3 * g + 1)) (r (3 * g + 2))) (groups_for n)
      (λ g h.
      ap (λ (s : Entry). group_bytes s (o (3 * g + 1)) (o (3 * g + 2))) (same_or (3 * g))
      ∙ ap (λ (s : Entry). group_bytes (r (3 * g)) s (o (3 * g + 2))) (same_or (3 * g + 1))
      ∙ ap (λ (s : Entry). group_bytes (r (3 * g)) (r (3 * g + 1)) s) (same_or (3 * g + 2)))
      ∙ packed-again

  pub gives-again : (out : List ℕ) → length m ≤ length out → pack_of list out ≡ done m (length m) out
  gives-again out h =
      let a = near in
      let s = any-groups in
      let len = length-is in
      pack-gives list n (list-size (position_of m) n) (omega arith) u.few (λ k i. ap entry_legal (read_back k i) ∙ legal-at k i) out
      (omega arith)
      ∙ ap (λ (k : ℕ). done (packed_of (entry_of list) n) k out) len
      ∙ ap (λ (x : List ℕ). done x (length m) out) same-packed

unpack-gives : (m back : List ℕ) (written : ℕ) → unpack_report m (length back) ≡ report 0 0 written
    → unpack_of m back ≡ done (list_of (position_of m) (count_of m)) written back
unfolding unpack_of
unpack-gives m back written e = ap (converted_to (list_of (position_of m) (count_of m)) back) e

pub one_form : OneForm
one_form m b back written e out h = (
  unpack-gives m back written e,
  gives-again m b (length back) written (unpacks m (length back) written e) out h,
)

pub sizes : Sizes
sizes e n = (list-size e n, packed-size e n)
