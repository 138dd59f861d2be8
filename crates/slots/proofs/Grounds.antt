-- What post, store and window write answer, by the tests that a call passes; that a refusal leaves the memory as it
-- was; and bytes put into a memory.
-- Assumes nothing.
use mathlib.Core.Path.{◌≡◌, refl, ap, sym, ◌∙◌}
use mathlib.Core.Bool.{Bool, true, false, cond, ◌&&◌, ◌||◌}
use mathlib.Core.List.{List, ◌++◌, append_assoc}
use Prim.Native.Nat.{ℕ, ◌+◌, ◌-◌, ◌*◌, ◌/◌, ◌%◌, ◌≤◌, ◌<◌}
use native.Mathlib.Omega.{arith}
use borrow.Author.Tests.{eq-eqb, ne_eqb, le-leb, lt-leb, leb-true}
use lib.Dec.{eqb, leb}
use lib.ListN.{length, take, drop}
use lib.Seq.{drop-drop}
use Rattle.lemmas.proofs.Booleans.{by_cases, of_either}
use Rattle.lemmas.specs.Memory.{put_into}
use Rattle.std.specs.Prelude.{Option, Some, None}
use Rattle.answers.specs.Reports.{Report, report}
use Rattle.lists.specs.Spans.{span_of, first_illegal}
use Rattle.slots.specs.Calls.{put_fitting, judged_by, post_report, holds_any, Lent, leaves, store_report, write_report}
use Rattle.slots.specs.Slots.{area_of}
use Rattle.slots.specs.declared.record.Sizes.{Sizes}
use Rattle.slots.specs.declared.record.Slot.{Slot}

module _ (z : Sizes) (a p : Slot) where
  -- ---- post
  module _ (l : List ℕ) (start count : ℕ) where
    pub post-wrong-size : (length l ≡ 5 * z.entries → ⊥) → report 2 0 0 ≡ post_report z a p l start count
    unfolding post_report
    post-wrong-size e = rw (ne_eqb (length l) (5 * z.entries) e)

    module _ (long : length l ≡ 5 * z.entries) where
      pub post-none : count ≡ 0 → report 3 0 0 ≡ post_report z a p l start count
      unfolding post_report
      post-none e = rw (eq-eqb (length l) (5 * z.entries) long, eq-eqb count 0 e)

      module _ (some : count ≡ 0 → ⊥) where
        pub post-past : z.entries < start + count → report 4 0 0 ≡ post_report z a p l start count
        unfolding post_report
        post-past h = rw (eq-eqb (length l) (5 * z.entries) long, ne_eqb count 0 some, lt-leb (start + count) z.entries h)

        module _ (fits : start + count ≤ z.entries) where
          pub post-full : (a.taken && p.taken) ≡ true → report 5 0 0 ≡ post_report z a p l start count
          unfolding post_report
          post-full h =
              rw (eq-eqb (length l) (5 * z.entries) long, ne_eqb count 0 some, le-leb (start + count) z.entries fits, h)

          pub post-judged : (a.taken && p.taken) ≡ false → (i j : Option ℕ) → i ≡ first_illegal l (span_of start count) → i ≡ j
              → judged_by j ≡ post_report z a p l start count
          unfolding post_report
          post-judged h i j s t =
              rw (eq-eqb (length l) (5 * z.entries) long, ne_eqb count 0 some, le-leb (start + count) z.entries fits, h)
              (ap judged_by (sym t ∙ s))

    -- a list that is not refused fits
    pub post-fits : (post_report z a p l start count).number ≡ 0 → start + count ≤ z.entries
    unfolding post_report
    post-fits h =
        by_cases (leb (start + count) z.entries) (λ t. leb-true (start + count) z.entries t)
        (λ t. absurd (refused (eqb (length l) (5 * z.entries)) (eqb count 0) (rw t at h)))
      where
        refused : (x y : Bool) → (cond x (cond y (report 3 0 0) (report 4 0 0)) (report 2 0 0)).number ≡ 0 → ⊥
        refused true true h = omega arith
        refused true false h = omega arith
        refused false y h = omega arith

  -- ---- store
  module _ (l : List ℕ) (first : ℕ) (bytes : List ℕ) where
    pub store-wrong-size : (eqb (length l) (5 * z.entries) && eqb (length bytes % 5) 0) ≡ false
        → leaves 2 l ≡ store_report z a p l first bytes
    unfolding store_report
    store-wrong-size e = rw e

    module _ (long : (eqb (length l) (5 * z.entries) && eqb (length bytes % 5) 0) ≡ true) where
      pub store-past : z.entries < first + length bytes / 5 → leaves 4 l ≡ store_report z a p l first bytes
      unfolding store_report
      store-past h = rw (long, lt-leb (first + length bytes / 5) z.entries h)

      module _ (fits : first + length bytes / 5 ≤ z.entries) where
        pub store-held : (holds_any a first (length bytes / 5) || holds_any p first (length bytes / 5)) ≡ true
            → leaves 8 l ≡ store_report z a p l first bytes
        unfolding store_report
        store-held h = rw (long, le-leb (first + length bytes / 5) z.entries fits, h)

        pub store-done : (holds_any a first (length bytes / 5) || holds_any p first (length bytes / 5)) ≡ false → (m : List ℕ)
            → m ≡ put_into l (5 * first) bytes → leaves 0 m ≡ store_report z a p l first bytes
        unfolding store_report
        store-done h m e = rw (long, le-leb (first + length bytes / 5) z.entries fits, h) (ap (leaves 0) e)

  -- ---- window write
  module _ (number offset : ℕ) (bytes buffer : List ℕ) where
    pub write-wrong-size : (leb number 1 && eqb (length buffer) (area_of z)) ≡ false
        → leaves 2 buffer ≡ write_report z a p number offset bytes buffer
    unfolding write_report
    write-wrong-size e = rw e

    module _ (named : (leb number 1 && eqb (length buffer) (area_of z)) ≡ true) where
      pub write-past : area_of z < offset + length bytes → leaves 4 buffer ≡ write_report z a p number offset bytes buffer
      unfolding write_report
      write-past h = rw (named, lt-leb (offset + length bytes) (area_of z) h)

      module _ (fits : offset + length bytes ≤ area_of z) where
        pub write-busy : (a.taken || p.taken) ≡ true → leaves 7 buffer ≡ write_report z a p number offset bytes buffer
        unfolding write_report
        write-busy h = rw (named, le-leb (offset + length bytes) (area_of z) fits, h)

        pub write_done : (a.taken || p.taken) ≡ false → (m : List ℕ) → m ≡ put_into buffer offset bytes
            → leaves 0 m ≡ write_report z a p number offset bytes buffer
        unfolding write_report
        write_done h m e = rw (named, le-leb (offset + length bytes) (area_of z) fits, h) (ap (leaves 0) e)

-- ---- a refusal leaves the memory as it was
leaves_by : (memory after : List ℕ) (number : ℕ) (long fits held : Bool) →
    let m = cond long (cond fits (cond held (leaves number memory) (leaves 0 after)) (leaves 4 memory)) (leaves 2 memory) in
    (m.report.number ≡ 0 → ⊥) → m.memory ≡ memory
leaves_by memory after number false fits held n = refl
leaves_by memory after number true false held n = refl
leaves_by memory after number true true true n = refl
leaves_by memory after number true true false n = absurd (n refl)

pub store-leaves : (z : Sizes) (a p : Slot) (l : List ℕ) (first : ℕ) (bytes : List ℕ)
    → ((store_report z a p l first bytes).report.number ≡ 0 → ⊥) → (store_report z a p l first bytes).memory ≡ l
unfolding store_report
store-leaves z a p l first bytes =
    leaves_by l (put_into l (5 * first) bytes) 8 (eqb (length l) (5 * z.entries) && eqb (length bytes % 5) 0)
    (leb (first + length bytes / 5) z.entries)
    (holds_any a first (length bytes / 5) || holds_any p first (length bytes / 5))

pub write-leaves : (z : Sizes) (a p : Slot) (number offset : ℕ) (bytes buffer : List ℕ)
    → ((write_report z a p number offset bytes buffer).report.number ≡ 0 → ⊥) → (write_report z a p number offset bytes buffer).memory ≡ buffer
unfolding write_report
write-leaves z a p number offset bytes buffer =
    leaves_by buffer (put_into buffer offset bytes) 7 (leb number 1 && eqb (length buffer) (area_of z))
    (leb (offset + length bytes) (area_of z))
    (a.taken || p.taken)

-- ---- a post reports no steps, a store and a window write neither place nor steps
judged-steps : (i : Option ℕ) → (judged_by i).steps ≡ 0
judged-steps (Some place) = refl
judged-steps None = refl

pub post_steps : (z : Sizes) (a p : Slot) (l : List ℕ) (start count : ℕ) → (post_report z a p l start count).steps ≡ 0
unfolding post_report
post_steps z a p l start count =
    let P : Report → Type 0 = λ t. t.steps ≡ 0 in
    of_either P (eqb (length l) (5 * z.entries))
    (of_either P (eqb count 0) refl
    (of_either P (leb (start + count) z.entries)
    (of_either P (a.taken && p.taken) refl (judged-steps (first_illegal l (span_of start count))))
    refl))
    refl

abbrev pub NumberAlone : Report → Type 0
NumberAlone t = t ≡ report t.number 0 0

lent-number : (x y : List ℕ) (number : ℕ) (long fits held : Bool)
    → NumberAlone (cond long (cond fits (cond held (leaves number x) (leaves 0 y)) (leaves 4 x)) (leaves 2 x)).report
lent-number x y number long fits held =
    let P : Lent → Type 0 = λ m. NumberAlone m.report in
    of_either P long (of_either P fits (of_either P held refl refl) refl) refl

pub store-number : (z : Sizes) (a p : Slot) (l : List ℕ) (first : ℕ) (bytes : List ℕ) → NumberAlone (store_report z a p l first bytes).report
unfolding store_report
store-number z a p l first bytes =
    lent-number l (put_into l (5 * first) bytes) 8 (eqb (length l) (5 * z.entries) && eqb (length bytes % 5) 0)
    (leb (first + length bytes / 5) z.entries)
    (holds_any a first (length bytes / 5) || holds_any p first (length bytes / 5))

pub write-number : (z : Sizes) (a p : Slot) (number offset : ℕ) (bytes buffer : List ℕ)
    → NumberAlone (write_report z a p number offset bytes buffer).report
unfolding write_report
write-number z a p number offset bytes buffer =
    lent-number buffer (put_into buffer offset bytes) 7 (leb number 1 && eqb (length buffer) (area_of z))
    (leb (offset + length bytes) (area_of z))
    (a.taken || p.taken)

-- the numbers that a store answers
pub store-answers : (P : ℕ → Type 0) → P 0 → P 2 → P 4 → P 8 → (z : Sizes) (a p : Slot) (l : List ℕ) (first : ℕ) (bytes : List ℕ)
    → P (store_report z a p l first bytes).report.number
unfolding store_report
store-answers P zero two four eight z a p l first bytes =
    let Q : Lent → Type 0 = λ m. P m.report.number in
    of_either Q (eqb (length l) (5 * z.entries) && eqb (length bytes % 5) 0)
    (of_either Q (leb (first + length bytes / 5) z.entries)
    (of_either Q (holds_any a first (length bytes / 5) || holds_any p first (length bytes / 5)) eight zero)
    four)
    two

-- ---- bytes into a memory: as a part of it that is replaced
pub put_part : (l bytes part : List ℕ) (at : ℕ) → at + length bytes ≤ length l → part ≡ bytes
    → take at l ++ (part ++ drop (at + length bytes - at) (drop at l)) ≡ put_into l at bytes
unfolding put_into
put_part l bytes part at h e =
    let k : at + length bytes - at ≡ length bytes = omega arith in
    rw (e, k, drop-drop (length bytes) at l) (sym (append_assoc (take at l) bytes (drop (at + length bytes) l)))

-- where they fit, and where they do not
pub put-fits : (l : List ℕ) (at : ℕ) (bytes : List ℕ) → at + length bytes ≤ length l → put_into l at bytes ≡ put_fitting l at bytes
put-fits l at bytes h = rw (le-leb (at + length bytes) (length l) h)

pub put-misses : (l : List ℕ) (at : ℕ) (bytes : List ℕ) → length l < at + length bytes → l ≡ put_fitting l at bytes
put-misses l at bytes h = rw (lt-leb (at + length bytes) (length l) h)
