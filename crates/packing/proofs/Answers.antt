-- What a conversion answers, test by test; what it says of a list that it is done; and the output that it leaves.
-- Assumes nothing.
use mathlib.Core.Path.{◌≡◌, refl, ap, sym, ◌∙◌}
use mathlib.Core.Bool.{Bool, true, false, not, ◌&&◌, ◌||◌}
use mathlib.Core.List.{List, ◌++◌}
use Prim.Native.Nat.{ℕ, ◌+◌, ◌*◌, ◌/◌, ◌%◌, ◌≤◌, ◌<◌}
use native.Mathlib.Omega.{arith}
use borrow.Author.Tests.{eqb-true, eqb-false, eq-eqb, ne_eqb, lt-ltb, le-ltb, ltb-true, ltb-false, not-false}
use lib.Dec.{eqb, ltb}
use lib.ListN.{length, drop}
use lib.Seq.{sets}
use Rattle.lemmas.proofs.Booleans.{by_cases, or-none-left, or-none-right}
use Rattle.lemmas.proofs.Memories.{sets-front}
use Rattle.entries.specs.Layout.{entry_of}
use Rattle.entries.specs.Legality.{entry_legal}
use Rattle.entries.specs.declared.decoding.Entry.{Entry}
use Rattle.packing.specs.Editions.{strung, entry_bytes, group_bytes, groups_for, packed_group, packed_of, list_of, or_missing}
use Rattle.packing.specs.Groups.{group_of, position_of, count_of}
use Rattle.packing.specs.Reports.{Report, report, report_of}
use Rattle.std.specs.Prelude.{Option, Some, None, Ok, Err}
use Rattle.packing.specs.Conversions.{first_not, holds, refused_or, judged_by, legality_of, pack_report}
use Rattle.packing.specs.Conversions.{passes, well_formed, judgement, last_has_one, judged_whole, unpack_report}
use Rattle.packing.specs.Conversions.{converted, converted_to, output_by, pack_of, unpack_of}
use Rattle.packing.specs.declared.outcomes.FileRefusal.{FileRefusal}
use Rattle.packing.specs.declared.outcomes.FileRefusal.TheVariants.{WrongSize, NoEntries, TooMany, IllegalEntry, MalformedFile}
use Rattle.packing.proofs.Runs.{length-strung}
use Rattle.packing.proofs.Puts.{entry_length, group-length, packed-is}
use Rattle.packing.proofs.Judges.{count_most}

-- ---- room for n parts, as the code asks for it
room-five : (room n : ℕ) → ltb (room / 5) n ≡ ltb room (5 * n)
room-five room n =
    by_cases (ltb (room / 5) n)
    (λ t. let h = ltb-true (room / 5) n t in t ∙ sym (lt-ltb room (5 * n) (omega arith)))
    (λ t. let h = ltb-false (room / 5) n t in t ∙ sym (le-ltb room (5 * n) (omega arith)))

room-fourteen : (room n : ℕ) → ltb (room / 14) n ≡ ltb room (14 * n)
room-fourteen room n =
    by_cases (ltb (room / 14) n)
    (λ t. let h = ltb-true (room / 14) n t in t ∙ sym (lt-ltb room (14 * n) (omega arith)))
    (λ t. let h = ltb-false (room / 14) n t in t ∙ sym (le-ltb room (14 * n) (omega arith)))

whole-groups : (size groups : ℕ) → groups ≡ size / 14 → eqb (14 * groups) size ≡ eqb (size % 14) 0
whole-groups size groups q =
    by_cases (eqb (size % 14) 0)
    (λ t. let h = eqb-true (size % 14) 0 t in eq-eqb (14 * groups) size (omega arith) ∙ sym t)
    (λ t. let h = eqb-false (size % 14) 0 t in ne_eqb (14 * groups) size (λ e. h (omega arith)) ∙ sym t)

-- ---- test by test
module _ (l : List ℕ) (room : ℕ) where
  abbrev pub pack_size : Bool
  pack_size = not (eqb (length l % 5) 0) || ltb (room / 14) (groups_for (length l / 5))

  pack-size : pack_size ≡ (not (eqb (length l % 5) 0) || ltb room (14 * groups_for (length l / 5)))
  pack-size = ap (λ (t : Bool). not (eqb (length l % 5) 0) || t) (room-fourteen room (groups_for (length l / 5)))

  pub pack-wrong : pack_size ≡ true → report 2 0 0 ≡ pack_report l room
  unfolding pack_report
  pack-wrong e = rw (sym pack-size ∙ e)

  pub pack-none : pack_size ≡ false → length l ≡ 0 → report 3 0 0 ≡ pack_report l room
  unfolding pack_report
  pack-none e h = rw (sym pack-size ∙ e, eq-eqb (length l) 0 h)

  pub pack-many : pack_size ≡ false → (length l ≡ 0 → ⊥) → 4096 < length l / 5 → report 4 0 0 ≡ pack_report l room
  unfolding pack_report
  pack-many e h k = rw (sym pack-size ∙ e, ne_eqb (length l) 0 h, lt-ltb 4096 (length l / 5) k)

  pub pack-judged : pack_size ≡ false → (length l ≡ 0 → ⊥) → length l / 5 ≤ 4096 → (r : Report)
      → r ≡ legality_of l → r ≡ pack_report l room
  unfolding pack_report
  pack-judged e h k r q = rw (sym pack-size ∙ e, ne_eqb (length l) 0 h, le-ltb 4096 (length l / 5) k) q

  -- of so many groups and n entries, as the code has counted them
  module _ (groups : ℕ) (q : groups ≡ length l / 14) (n : ℕ) (p : n ≡ count_of l) where
    abbrev pub unpack_size : Bool
    unpack_size = not (eqb (14 * groups) (length l)) || ltb (room / 5) n

    unpack-size : unpack_size ≡ (not (eqb (length l % 14) 0) || ltb room (5 * count_of l))
    unpack-size =
        ap (λ (t : Bool). not t || ltb (room / 5) n) (whole-groups (length l) groups q)
        ∙ ap (λ (t : Bool). not (eqb (length l % 14) 0) || t) (room-five room n ∙ ap (λ (k : ℕ). ltb room (5 * k)) p)

    pub unpack-wrong : unpack_size ≡ true → report 2 0 0 ≡ unpack_report l room
    unfolding unpack_report
    unpack-wrong e = rw (sym unpack-size ∙ e)

    pub unpack-none : unpack_size ≡ false → length l ≡ 0 → report 3 0 0 ≡ unpack_report l room
    unfolding unpack_report
    unpack-none e h = rw (sym unpack-size ∙ e, eq-eqb (length l) 0 h)

    pub unpack-many : unpack_size ≡ false → (length l ≡ 0 → ⊥) → 4096 < n → report 4 0 0 ≡ unpack_report l room
    unfolding unpack_report
    unpack-many e h k = rw (sym unpack-size ∙ e, ne_eqb (length l) 0 h, lt-ltb 4096 (count_of l) (omega arith))

    pub unpack-judged : unpack_size ≡ false → (length l ≡ 0 → ⊥) → n ≤ 4096 → (r : Report) → r ≡ judged_whole l n → r ≡ unpack_report l room
    unfolding unpack_report
    unpack-judged e h k r j =
        rw (sym unpack-size ∙ e, ne_eqb (length l) 0 h, le-ltb 4096 (count_of l) (omega arith)) (j ∙ ap (judged_whole l) p)

    -- past both tests there is a group
    pub unpack-some : unpack_size ≡ false → (length l ≡ 0 → ⊥) → 0 < groups
    unpack-some e h =
        let whole = eqb (14 * groups) (length l) in
        omega (arith, h, eqb-true (14 * groups) (length l) (not-false whole (or-none-left (not whole) (ltb (room / 5) n) e)))

-- ---- what a conversion that is done says
record Went (a b c : Bool) (x : Report) (n : ℕ) : Type 0 where
  pub size : a ≡ false
  pub some : b ≡ false
  pub few : c ≡ false
  pub judged : x ≡ report 0 0 n

differ : (r : Report) (n : ℕ) → r ≡ report 0 0 n → (r.number ≡ 0 → ⊥) → ⊥
differ r n e h = h (ap (λ (s : Report). s.number) e)

went : (a b c : Bool) (x : Report) (n : ℕ) → refused_or a b c x ≡ report 0 0 n → Went a b c x n
went true b c x n e = absurd (differ (report 2 0 0) n e (λ k. omega arith))
went false true c x n e = absurd (differ (report 3 0 0) n e (λ k. omega arith))
went false false true x n e = absurd (differ (report 4 0 0) n e (λ k. omega arith))
went false false false x n e = record { size = refl; some = refl; few = refl; judged = e }

abbrev pub illegal_of : List ℕ → Option ℕ
illegal_of l = first_not (λ k. entry_legal (entry_of l k)) 0 (length l / 5)

pub record Packs (l : List ℕ) (room n : ℕ) : Type 0 where
  pub whole : length l % 5 ≡ 0
  pub fits : groups_for (length l / 5) ≤ room / 14
  pub some : length l ≡ 0 → ⊥
  pub few : length l / 5 ≤ 4096
  pub legal : illegal_of l ≡ None
  pub bytes : n ≡ 14 * groups_for (length l / 5)

legal-done : (count n : ℕ) (i : Option ℕ) → judged_by count i ≡ report 0 0 n → (i ≡ None) × (n ≡ 14 * groups_for count)
legal-done count n (Some p) e = absurd (differ (report 6 p 0) n e (λ k. omega arith))
legal-done count n None e = (refl, sym (ap (λ (r : Report). r.written) e))

pub packs : (l : List ℕ) (room n : ℕ) → pack_report l room ≡ report 0 0 n → Packs l room n
unfolding pack_report
packs l room n e =
    let s = length l / 5 in
    let part = not (eqb (length l % 5) 0) in
    let short = ltb room (14 * groups_for s) in
    let w = went (part || short) (eqb (length l) 0) (ltb 4096 s) (judged_by s (illegal_of l)) n e in
    let j = legal-done s n (illegal_of l) w.judged in
    record {
      whole = eqb-true (length l % 5) 0 (not-false (eqb (length l % 5) 0) (or-none-left part short w.size));
      fits = omega (arith, ltb-false room (14 * groups_for s) (or-none-right part short w.size));
      some = eqb-false (length l) 0 w.some;
      few = ltb-false 4096 s w.few;
      legal = j.0;
      bytes = j.1;
    }

abbrev pub sound : List ℕ → Bool
sound l = last_has_one l (count_of l) && holds (λ k. well_formed (group_of l k) (3 * k) (count_of l)) 0 (length l / 14)

abbrev pub failing_of : List ℕ → Option ℕ
failing_of l = first_not (λ p. passes (position_of l p)) 0 (3 * (length l / 14))

pub record Unpacks (l : List ℕ) (room n : ℕ) : Type 0 where
  pub whole : length l % 14 ≡ 0
  pub fits : count_of l ≤ room / 5
  pub some : length l ≡ 0 → ⊥
  pub few : count_of l ≤ 4096
  pub legal : failing_of l ≡ None
  pub formed : sound l ≡ true
  pub bytes : n ≡ 5 * count_of l

judged-done : (count n : ℕ) (s : Bool) (i : Option ℕ) → judgement count s i ≡ report 0 0 n
    → (i ≡ None) × (s ≡ true) × (n ≡ 5 * count)
judged-done count n s (Some p) e = absurd (differ (report 6 p 0) n e (λ k. omega arith))
judged-done count n true None e = (refl, refl, sym (ap (λ (r : Report). r.written) e))
judged-done count n false None e = absurd (differ (report 10 0 0) n e (λ k. omega arith))

pub unpacks : (l : List ℕ) (room n : ℕ) → unpack_report l room ≡ report 0 0 n → Unpacks l room n
unfolding unpack_report
unpacks l room n e =
    let s = count_of l in
    let part = not (eqb (length l % 14) 0) in
    let short = ltb room (5 * s) in
    let w = went (part || short) (eqb (length l) 0) (ltb 4096 s) (judgement s (sound l) (failing_of l)) n e in
    let j = judged-done s n (sound l) (failing_of l) w.judged in
    record {
      whole = eqb-true (length l % 14) 0 (not-false (eqb (length l % 14) 0) (or-none-left part short w.size));
      fits = omega (arith, ltb-false room (5 * s) (or-none-right part short w.size));
      some = eqb-false (length l) 0 w.some;
      few = ltb-false 4096 s w.few;
      legal = j.0;
      formed = j.1;
      bytes = j.2;
    }

-- ---- the sizes of the lists
pub list-size : (e : ℕ → Entry) (n : ℕ) → length (list_of e n) ≡ 5 * n
list-size e n = length-strung 5 (λ k. entry_bytes (e k)) (λ k. entry_length (e k)) n

pub packed-size : (e : ℕ → Entry) (n : ℕ) → length (packed_of e n) ≡ 14 * groups_for n
packed-size e n =
    let o = or_missing e n in
    length-strung 14 (λ g. group_bytes (o (3 * g)) (o (3 * g + 1)) (o (3 * g + 2)))
    (λ g. group-length (o (3 * g)) (o (3 * g + 1)) (o (3 * g + 2))) (groups_for n)

-- ---- a refusal leaves the output
refusal-keeps : (e : FileRefusal) (new out : List ℕ) → output_by (report_of (Err e)) new out ≡ out
refusal-keeps WrongSize new out = refl
refusal-keeps NoEntries new out = refl
refusal-keeps TooMany new out = refl
refusal-keeps (IllegalEntry k) new out = refl
refusal-keeps MalformedFile new out = refl

refused-with : (e : FileRefusal) (new out : List ℕ) (r : Report) → report_of (Err e) ≡ r → converted (Err e) out ≡ converted_to new out r
refused-with e new out r p = ap (converted (Err e)) (sym (refusal-keeps e new out)) ∙ ap (converted_to new out) p

-- ---- what packing leaves; n are the bytes written
pub pack-refused : (l out : List ℕ) (e : FileRefusal) → report_of (Err e) ≡ pack_report l (length out) → converted (Err e) out ≡ pack_of l out
unfolding pack_of
pack-refused l out e = refused-with e (packed_of (entry_of l) (length l / 5)) out (pack_report l (length out))

pub pack-room : (l : List ℕ) (room n : ℕ) → report 0 0 n ≡ pack_report l room → n / 14 ≤ room / 14
pack-room l room n e = let p = packs l room n (sym e) in omega (arith, p.fits, p.bytes)

all-groups : (l m out : List ℕ) (n : ℕ) → Packs l (length out) n → m ≡ sets out 0 (strung (packed_group l) (n / 14))
    → m ≡ packed_of (entry_of l) (length l / 5) ++ drop n out
all-groups l m out n p g =
    let s = length l / 5 in
    let b = p.bytes in
    let k : n / 14 ≡ groups_for s = omega arith in
    let size = packed-size (entry_of l) s in
    let fits = p.fits in
    g ∙ ap (λ (j : ℕ). sets out 0 (strung (packed_group l) j)) k ∙ ap (sets out 0) (packed-is l)
    ∙ sets-front (packed_of (entry_of l) s) out (omega arith)
    ∙ ap (λ (j : ℕ). packed_of (entry_of l) s ++ drop j out) (size ∙ sym b)

pub pack-done : (l out m : List ℕ) (n : ℕ) → report 0 0 n ≡ pack_report l (length out) → m ≡ sets out 0 (strung (packed_group l) (n / 14))
    → converted (Ok n) m ≡ pack_of l out
unfolding pack_of
pack-done l out m n e g =
    ap (converted (Ok n)) (all-groups l m out n (packs l (length out) n (sym e)) g)
    ∙ ap (converted_to (packed_of (entry_of l) (length l / 5)) out) e

-- ---- and unpacking
pub unpack-refused : (l out : List ℕ) (e : FileRefusal) → report_of (Err e) ≡ unpack_report l (length out) → converted (Err e) out ≡ unpack_of l out
unfolding unpack_of
unpack-refused l out e = refused-with e (list_of (position_of l) (count_of l)) out (unpack_report l (length out))

pub unpack-room : (l : List ℕ) (room n : ℕ) → report 0 0 n ≡ unpack_report l room → (n / 5 ≤ room / 5) × (n / 5 ≤ 3 * (length l / 14))
unpack-room l room n e =
    let p = unpacks l room n (sym e) in
    let b = p.bytes in
    let fits = p.fits in
    let most = count_most l in
    (omega arith, omega arith)

all-entries : (l m out : List ℕ) (n : ℕ) → Unpacks l (length out) n → m ≡ sets out 0 (list_of (position_of l) (n / 5))
    → m ≡ list_of (position_of l) (count_of l) ++ drop n out
all-entries l m out n p g =
    let s = count_of l in
    let b = p.bytes in
    let k : n / 5 ≡ s = omega arith in
    let size = list-size (position_of l) s in
    let fits = p.fits in
    g ∙ ap (λ (j : ℕ). sets out 0 (list_of (position_of l) j)) k
    ∙ sets-front (list_of (position_of l) s) out (omega arith)
    ∙ ap (λ (j : ℕ). list_of (position_of l) s ++ drop j out) (size ∙ sym b)

pub unpack-done : (l out m : List ℕ) (n : ℕ) → report 0 0 n ≡ unpack_report l (length out) → m ≡ sets out 0 (list_of (position_of l) (n / 5))
    → converted (Ok n) m ≡ unpack_of l out
unfolding unpack_of
unpack-done l out m n e g =
    ap (converted (Ok n)) (all-entries l m out n (unpacks l (length out) n (sym e)) g)
    ∙ ap (converted_to (list_of (position_of l) (count_of l)) out) e
