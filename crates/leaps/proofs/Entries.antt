-- Entries of a list, one after the other, and the commands that they trigger.
-- Assumes nothing.
use mathlib.Core.Path.{◌≡◌, refl, ap, ap₂, sym, subst, ◌∙◌}
use mathlib.Core.Bool.{Bool, true, false, not, cond, ◌&&◌, ◌||◌, and-true, and-false}
use mathlib.Core.List.{List}
use Rattle.std.specs.Prelude.{Option, None, Some}
use Rattle.std.specs.Bool.{then_some}
use Prim.Native.Nat.{ℕ, suc, ◌+◌, ◌-◌, ◌*◌, ◌/◌, ◌%◌, ◌≤◌, ◌<◌, min}
use native.Mathlib.Omega.{arith}
use borrow.Author.Tests.{ne_eqb, lt-ltb, eqb-true, eqb-false, ltb-true, ltb-false, leb-true, leb-false}
use lib.Dec.{eqb, leb, ltb}
use lib.ListN.{length, get_or}
use Rattle.lemmas.proofs.Booleans.{by_cases, both, and_left, and_right}
use Rattle.geometry.specs.declared.Extent.{Extent}
use Rattle.entries.specs.Layout.{entry_of, word_at}
use Rattle.entries.specs.Legality.{data_legal, entry_legal}
use Rattle.entries.specs.Fields.{is_trigger}
use Rattle.entries.specs.declared.decoding.Entry.{Entry}
use Rattle.std.specs.Prelude.{Some, None}
use Rattle.entries.proofs.Decodes.{decoded-whole, decoded-none, word_in}
use Rattle.entries.proofs.Registers.{entry-held, high_held}
use Rattle.lists.specs.Spans.{end_of}
use Rattle.lists.specs.Cursors.{next_of, fetched_of, ended_of}
use Rattle.lists.specs.declared.cursors.Cursor.{Cursor}
use Rattle.lists.specs.declared.cursors.Next.TheVariants.{Ended, Take, Broken}
use Rattle.lists.proofs.Fetches.{next-ended, next-read}
use Rattle.commands.specs.Visits.{command_in, count_of}
use Rattle.commands.specs.Hatching.{hatches}
use Rattle.commands.specs.Entering.{writes, put_of, begin_of}
use Rattle.commands.specs.Steps.{Scene, visits_by, visits_of, entered_of}
use Rattle.commands.specs.declared.Engine.{Engine}
use Rattle.commands.proofs.Triggers.{put-entered, begin-rests, begin-busy, begin-ends}
use Rattle.leaps.specs.declared.list_runs.Progress.{Progress}
use Rattle.leaps.specs.declared.visits.Visits.{Visits}
use Rattle.leaps.specs.Leaps.{with_tile, finished_at, after_visits, NoneDone, OnceOn, AtOnce}
use Rattle.leaps.specs.ListRuns.{run_from, Going, Taken, EntryDone, EntriesRun, Unheld, ListRan}
use Rattle.leaps.proofs.Running.{Resting, resting-stops, resting-spent, entries-begun, going-takes, going-on, going-spent, reaches, ends_broken, broken-is}

-- a byte's upper five bits are past a number that they are not
above : (b n : ℕ) → b % 8 ≡ 0 → (b ≡ 8 * n → ⊥) → n ≤ b / 8 → suc n ≤ b / 8
above b n z other low =
    by_cases (eqb (b / 8) n) (λ t. absurd (other (omega (arith, z, eqb-true (b / 8) n t)))) (λ t. less (b / 8) n low (eqb-false (b / 8) n t))
  where
    less : (m n : ℕ) → n ≤ m → (m ≡ n → ⊥) → suc n ≤ m
    less m n low other = omega arith

zero-le : (n : ℕ) → 0 ≤ n
zero-le n = omega arith

-- no register has a number past 12
none-held : (register word : ℕ) → 12 < register → data_legal register word ≡ false
none-held register word high =
    sym (high_held register word (omega arith))
    ∙ ap₂ (λ a b. a && leb word 3 || b) (ne_eqb register 11 (λ e. omega arith)) (ne_eqb register 12 (λ e. omega arith))

-- an entry by its first byte: its register above three zeros
module _ (l : List ℕ) (place : ℕ) where
  abbrev word : ℕ
  word = word_at l place

  abbrev first : ℕ
  first = get_or l (5 * place) 0

  -- a first byte that no arm has
  module _ (n0 : first ≡ 0 → ⊥) (n1 : first ≡ 8 → ⊥) (n2 : first ≡ 16 → ⊥) (n3 : first ≡ 24 → ⊥) (n4 : first ≡ 32 → ⊥) (n5 : first ≡ 40 → ⊥)
      (n6 : first ≡ 48 → ⊥) (n7 : first ≡ 56 → ⊥) (n8 : first ≡ 64 → ⊥) (n9 : first ≡ 72 → ⊥) (n10 : first ≡ 80 → ⊥) (n11 : first ≡ 88 → ⊥)
      (n12 : first ≡ 96 → ⊥) where
    far : first % 8 ≡ 0 → 12 < first / 8
    far z =
        above first 12 z n12 (above first 11 z n11 (above first 10 z n10 (above first 9 z n9 (above first 8 z n8 (above first 7 z n7 (above first 6 z n6
        (above first 5 z n5 (above first 4 z n4 (above first 3 z n3 (above first 2 z n2 (above first 1 z n1 (above first 0 z n0 (zero-le (first / 8))))))))))))))

    illegal : entry_legal (entry_of l place) ≡ false
    illegal =
        by_cases (eqb (first % 8) 0)
        (λ t.
        let z = eqb-true (first % 8) 0 t in
        sym (entry-held (first % 8) (data_legal (first / 8) (entry_of l place).word) z) ∙ none-held (first / 8) (entry_of l place).word (far z))
        (λ t. ap (λ t. t && data_legal (first / 8) (entry_of l place).word) t)

    pub none-done : (extent : Extent) (budget : ℕ) (e : Engine) (d v : List ℕ) → EntryDone l extent budget place e d v None e d v
    none-done extent budget e d v = (illegal, refl, refl, refl)

  -- an entry within the memory
  module _ (inside : place < length l / 5) where
    entry-is : (number : ℕ) → first ≡ 8 * number → writes number word ≡ entry_of l place
    entry-is number h i =
        record { register = register i; spare = spare i; word = sym (word_in l place inside) i }
      where
        register : number ≡ first / 8
        register = omega (arith, h)

        spare : 0 ≡ first % 8
        spare = omega (arith, h)

    legal-is : (number : ℕ) → first ≡ 8 * number → (t : Bool) → t ≡ data_legal number word → entry_legal (entry_of l place) ≡ t
    legal-is number h t p =
        ap entry_legal (sym (entry-is number h)) ∙ sym (entry-held 0 (data_legal number word) refl) ∙ sym p

    -- what taking it comes to, by the first byte
    module _ (extent : Extent) (budget : ℕ) (e : Engine) (d v : List ℕ) where
      pub put-done : (number : ℕ) → first ≡ 8 * number → is_trigger number ≡ false → (legal : Bool) → legal ≡ data_legal number word → (f : Engine)
          → f ≡ cond legal (put_of e number word) e → EntryDone l extent budget place e d v (then_some legal 0) f d v
      unfolding visits_by
      put-done number h plain true q f p =
          let x = writes number word in (
            legal-is number h true q,
            record {
              within = omega arith;
              visits = ap (λ f. with_tile extent f d v) (p ∙ put-entered extent e x plain ∙ ap (entered_of extent e) (entry-is number h));
              busy = λ j h. absurd (omega (arith, h));
            },
          )
      put-done number h plain false q f p = (legal-is number h false q, p, refl, refl)

      pub trigger-done : first ≡ 96 → (k : ℕ) (f : Engine) (d' v' : List ℕ) → Taken budget extent e (writes 12 word) d v k f d' v'
          → EntryDone l extent budget place e d v (Some k) f d' v'
      unfolding data_legal
      trigger-done h k f d' v' done =
          (legal-is 12 h true refl, subst (λ x. Taken budget extent e x d v k f d' v') (entry-is 12 h) done)

-- visits at once, on the display and the virtual buffer
module _ (budget : ℕ) (extent : Extent) (e : Engine) (u : e.under_way ≡ true) where
  -- no pixel at once: the command has none, or is left as it is
  none_left : (r : Visits) → r.steps ≡ 0 → NoneDone extent e r → (t : Bool) → r.finished ≡ t
      → after_visits e r ≡ cond (eqb (count_of extent e) 0) (finished_at e e.pattern) e
  unfolding after_visits
  none_left r z n true t = rw (t, sym n.finished ∙ t, n.pattern)
  none_left r z n false t =
      let at : e.visited + r.steps ≡ e.visited = omega (arith, z) in
      rw (t, sym n.finished ∙ t)
      (λ i. record { under_way = sym u i; visited = at i; registers = e.registers; pattern = n.pattern i; last = e.last })

  pub at-once : (own other : List ℕ) (r : Visits) (own' : List ℕ) (to : Bool) → (command_in e).to_virtual ≡ to → OnceOn budget extent e own other r own'
      → (f : Engine) → f ≡ after_visits e r
      → AtOnce budget extent e (cond to other own) (cond to own other) r.steps f (cond to other own') (cond to own' other)
  at-once own other r own' to p o f q =
      record {
        within = o.within;
        none =
            λ z.
            let n = o.none z in
            (q ∙ none_left r z n.0 r.finished refl, ap (cond to other) n.1, ap (λ l. cond to l other) n.1);
        any = o.any;
        some = λ h. rw q (o.some h to p);
      }

-- the trigger, and pixels of its command at once
module _ (budget : ℕ) (extent : Extent) (e : Engine) (word : ℕ) (d v : List ℕ) (b : Engine) (p : b ≡ begin_of e word) where
  abbrev entered : Engine
  entered = entered_of extent e (writes 12 word)

  abbrev Triggered : ℕ → Engine → List ℕ → List ℕ → Type 0
  Triggered k f d' v' = Taken budget extent e (writes 12 word) d v k f d' v'

  pub triggered-rests : b.under_way ≡ false → Triggered 0 b d v
  unfolding visits_by
  triggered-rests u =
      record {
        within = omega arith;
        visits = ap (λ f. with_tile extent f d v) (p ∙ begin-rests extent e word (ap (λ (b : Engine). b.under_way) (sym p) ∙ u));
        busy = λ j h. absurd (omega (arith, h));
      }

  module _ (u : b.under_way ≡ true) (k : ℕ) (f : Engine) (d' v' : List ℕ) (once : AtOnce budget extent b d v k f d' v') where
    begun : (begin_of e word).under_way ≡ true
    begun = ap (λ (b : Engine). b.under_way) (sym p) ∙ u

    none-of : (t : Bool) → eqb (count_of extent b) 0 ≡ t → cond t (finished_at b b.pattern) b ≡ entered
    none-of true t =
        (λ i. record { under_way = false; visited = 0; registers = (p i).registers; pattern = (p i).pattern; last = (p i).registers.xy1 })
        ∙ begin-ends extent e word begun (ap (λ (b : Engine). eqb (count_of extent b) 0) (sym p) ∙ t)
    none-of false t = p ∙ begin-busy extent e word begun (ap (λ (b : Engine). eqb (count_of extent b) 0) (sym p) ∙ t)

    -- by whether there were any
    by : (t : Bool) → ltb 0 k ≡ t → Triggered k f d' v'
    unfolding visits_by
    by true t =
        let some = ltb-true 0 k t in
        let busy = none-of false (ne_eqb (count_of extent b) 0 (λ z. omega (arith, once.any some, z))) in
        let done = once.some some in
        record {
          within = once.within;
          visits = done.visits ∙ ap (λ b. visits_of k extent (with_tile extent b d v)) busy;
          busy = λ j h. ap (λ b. (visits_of j extent (with_tile extent b d v)).engine.under_way) (sym busy) ∙ done.busy j h;
        }
    by false t =
        let z : k ≡ 0 = omega (arith, ltb-false 0 k t) in
        let n = once.none z in
        record {
          within = once.within;
          visits =
              (λ i. with_tile extent ((n.0 ∙ none-of (eqb (count_of extent b) 0) refl) i) (n.1 i) (n.2 i))
              ∙ ap (λ k. visits_of k extent (with_tile extent entered d v)) (sym z);
          busy = λ j h. absurd (omega (arith, h, z));
        }

    pub triggered-goes : Triggered k f d' v'
    triggered-goes = by (ltb 0 k) refl

-- the loop over entries, up to the list's end or its memory's
module _ (l : List ℕ) (extent : Extent) (budget : ℕ) (c₀ : Cursor) (s₀ : Scene) (k : ℕ) (c : Cursor) (e : Engine) (d v : List ℕ)
    (resting : Resting l extent budget c₀ s₀ k c e d v) (end stop : ℕ) (stops : stop ≡ end_of c₀.span) (is : end ≡ min stop (length l / 5)) where
  abbrev Done : ℕ → Cursor → Engine → List ℕ → List ℕ → Type 0
  Done k c e d v = EntriesRun l extent budget c₀ s₀ (record { engine = e; cursor = c; steps = k }) d v

  -- a turn
  module _ (test : (ltb k budget && ltb c.next end) ≡ true) where
    abbrev entry : Entry
    entry = entry_of l c.next

    below : k < budget
    below = ltb-true k budget (and_left (ltb k budget) (ltb c.next end) test)

    before : c.next < end
    before = ltb-true c.next end (and_right (ltb k budget) (ltb c.next end) test)

    inside : c.next < length l / 5
    inside = omega (arith, before, is)

    more : c.next < end_of c.span
    more = omega (arith, before, is, stops, ap end_of resting.going.span_same)

    next-is : (t : Bool) → entry_legal entry ≡ t → next_of l c false ≡ cond t (Take entry) Broken
    next-is t h =
        sym (next-read l c false refl more (Some entry) (Some entry) (sym (decoded-whole l c.next inside)) refl)
        ∙ ap (λ t. cond t (Take entry) Broken) h

    module _ (r : Option ℕ) (f : Engine) (d' v' : List ℕ) (done : EntryDone l extent (budget - k - 1) c.next e d v r f d' v') where
      pub turn-refused : r ≡ None → Done k c f d' v'
      turn-refused h =
          let (illegal, p, q, z) = rw h at done in
          rw (p, q, z) (resting-stops l extent budget c₀ s₀ k c e d v below resting Broken true (next-is false illegal) (λ _ _ _. refl))

      module _ (n : ℕ) (h : r ≡ Some n) (ld : length d' ≡ length d) (lv : length v' ≡ length v) where
        goes : Going l extent budget c₀ s₀ (k + (n + 1)) (fetched_of c) (with_tile extent f d' v')
        goes =
            let (legal, taken) = rw h at done in
            let next = ap (next_of l c) resting.rests ∙ next-is true legal in
            let start = going-takes l extent budget c₀ s₀ k c (with_tile extent e d v) below resting.going entry next _ refl in
            let same : k + 1 + n ≡ k + (n + 1) = omega arith in
            subst (λ j. Going l extent budget c₀ s₀ j (fetched_of c) (with_tile extent f d' v')) same
            (going-on l extent budget c₀ s₀ (k + 1) (fetched_of c) _ start n (with_tile extent f d' v') (omega (arith, taken.within, below)) taken.visits
            taken.busy ld lv)

        pub turn-rests : f.under_way ≡ false → Resting l extent budget c₀ s₀ (k + (n + 1)) (fetched_of c) f d' v'
        turn-rests u = record { rests = u; going = goes }

        pub turn-begins : f.under_way ≡ true → Done (k + (n + 1)) (fetched_of c) f d' v'
        turn-begins u = entries-begun l extent budget c₀ s₀ (k + (n + 1)) (fetched_of c) f d' v' (omega arith) goes u

  -- its end: the budget is spent, or the list or its memory has no more entries
  pub loop-ends : (ltb k budget && ltb c.next end) ≡ false → Done k c e d v
  loop-ends h =
      by_cases (ltb k budget)
      (λ t.
      let below = ltb-true k budget t in
      let over = ltb-false c.next end (sym (ap (λ t. t && ltb c.next end) t) ∙ h) in
      let span = ap end_of resting.going.span_same in
      by_cases (leb (end_of c.span) c.next)
      (λ s. resting-stops l extent budget c₀ s₀ k c e d v below resting Ended false (sym (next-ended l c false refl (leb-true (end_of c.span) c.next s))) (λ _ _ _. refl))
      (λ s.
      let left = leb-false (end_of c.span) c.next s in
      let past : length l / 5 ≤ c.next = omega (arith, over, is, stops, span, left) in
      let none = decoded-none l c.next past in
      resting-stops l extent budget c₀ s₀ k c e d v below resting Broken true
      (sym (next-read l c false refl left None None (sym none) refl)) (λ _ _ _. refl)))
      (λ t. resting-spent l extent budget c₀ s₀ k c e d v (ltb-false k budget t) resting)

-- a turn by a register that triggers nothing
module _ (l : List ℕ) (extent : Extent) (budget : ℕ) (c₀ : Cursor) (s₀ : Scene) (k : ℕ) (c : Cursor) (e : Engine) (d v : List ℕ) (below : k < budget)
    (resting : Resting l extent budget c₀ s₀ k c e d v) (more : c.next < end_of c.span) (inside : c.next < length l / 5) where
  pub turn-put : (number : ℕ) → get_or l (5 * c.next) 0 ≡ 8 * number → is_trigger number ≡ false → (legal : Bool) → legal ≡ true
      → legal ≡ data_legal number (word_at l c.next) → (f : Engine) → f ≡ put_of e number (word_at l c.next)
      → Resting l extent budget c₀ s₀ (k + 1) (fetched_of c) f d v
  turn-put number h plain legal t q f p =
      let stop = end_of c₀.span in
      let end = min stop (length l / 5) in
      let before : c.next < end = omega (arith, more, inside, ap end_of resting.going.span_same) in
      let test = both (lt-ltb k budget below) (lt-ltb c.next end before) in
      let put = p ∙ sym (ap (λ t. cond t (put_of e number (word_at l c.next)) e) t) in
      let done = put-done l c.next inside extent (budget - k - 1) e d v number h plain legal q f put in
      turn-rests l extent budget c₀ s₀ k c e d v resting end stop refl refl test (then_some legal 0) f d v done 0 (ap (λ t. then_some t 0) t) refl refl
      (ap (λ (f : Engine). f.under_way) p)

-- ---- the steps with no tile held

module _ (l : List ℕ) (extent : Extent) (budget : ℕ) (c₀ : Cursor) (s₀ : Scene) (k : ℕ) (c : Cursor) (e : Engine) (d v : List ℕ) where
  pub unheld-spent : budget ≤ k → Going l extent budget c₀ s₀ k c (with_tile extent e d v)
      → Unheld l extent budget c₀ s₀ (record { engine = e; cursor = c; steps = k }) d v
  unheld-spent h going =
      record {
        going = going;
        cut = λ _. omega arith;
        over = λ _. reaches k c (with_tile extent e d v) false (run_from budget l extent c₀ s₀) (going-spent l extent budget c₀ s₀ k c (with_tile extent e d v) h going);
      }

-- what ended the steps of a list
module _ (l : List ℕ) (extent : Extent) (budget : ℕ) (c₀ : Cursor) (s₀ : Scene) (r : Progress) (d v : List ℕ) (u : Unheld l extent budget c₀ s₀ r d v)
    (ended hatched : Bool) (is : ended ≡ ended_of r.cursor r.engine.under_way) (has : hatched ≡ hatches r.engine) where
  abbrev broken : Bool
  broken = ltb r.steps budget && not ended && not hatched

  pub ran-list : ListRan l extent budget c₀ s₀ (record { engine = r.engine; cursor = r.cursor; steps = r.steps; broken = broken }) d v
  ran-list =
      record {
        going = λ _. u.going;
        cut = λ _ x. (u.cut x, ap (λ t. ltb r.steps budget && not ended && not t) (has ∙ x) ∙ and-false (ltb r.steps budget && not ended));
        over =
            λ _ y.
            let same =
            ap (λ t. ltb r.steps budget && not ended && not t) (has ∙ y) ∙ and-true (ltb r.steps budget && not ended)
            ∙ ap (λ t. ltb r.steps budget && not t) is ∙ ap (ends_broken budget) (u.over y) ∙ broken-is l extent budget c₀ s₀ in
            (λ i. record { steps = r.steps; cursor = r.cursor; after = with_tile extent r.engine d v; broken = same i }) ∙ u.over y;
      }
