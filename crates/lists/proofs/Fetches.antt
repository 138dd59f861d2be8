-- The next step of a list: what it says of the list, the tests that choose it, and that a list of legal entries in
-- memory is never broken.
-- Assumes nothing.
use mathlib.Core.Path.{◌≡◌, refl, ap, ap₂, sym, subst, ◌∙◌}
use mathlib.Core.Bool.{Bool, true, false, not, cond, ◌&&◌}
use mathlib.Core.List.{List, [], ◌∷◌}
use Prim.Native.Nat.{ℕ, ◌/◌, ◌≤◌, ◌<◌}
use native.Mathlib.Omega.{arith}
use borrow.Author.Tests.{leb-true, leb-false, ltb-true, ltb-false, le-leb, lt-leb}
use lib.Dec.{leb, ltb}
use lib.ListN.{length}
use Rattle.lemmas.proofs.Booleans.{by_cases, and_right}
use Rattle.entries.specs.Layout.{entry_of, decoded_of}
use Rattle.entries.specs.Legality.{decoded_legal, entry_legal, legal_at}
use Rattle.entries.proofs.Decodes.{decoded-whole, decoded-none}
use Rattle.entries.specs.declared.decoding.Entry.{Entry}
use Rattle.std.specs.Prelude.{Option}
use Rattle.lists.specs.Spans.{end_of}
use Rattle.lists.specs.Cursors.{judged, next_of, fetched_of, ended_of, rest_of, is_empty, AllLegal, FetchTakesTheHead}
use Rattle.lists.specs.declared.cursors.Cursor.{Cursor}
use Rattle.lists.specs.declared.cursors.Next.{Next}
use Rattle.lists.specs.declared.cursors.Next.TheVariants.{Ended, Visit, Take, Broken}
use Rattle.lists.proofs.Rests.{rest_end, rest-next, ended-resting, ends-where}

-- an entry that is taken
pub record Taking (l : List ℕ) (c : Cursor) (u : Bool) (e : Entry) : Type 0 where
  pub resting : u ≡ false
  pub more : c.next < end_of c.span
  pub legal : entry_legal e ≡ true
  pub inside : c.next < length l / 5
  pub head : rest_of l c ≡ e ∷ rest_of l (fetched_of c)

-- an entry that cannot be taken
pub record Breaking (l : List ℕ) (c : Cursor) (u : Bool) : Type 0 where
  pub resting : u ≡ false
  pub more : c.next < end_of c.span
  pub illegal : legal_at l c.next ≡ false

abbrev pub Chosen : List ℕ → Cursor → Bool → Next → Type 0
Chosen l c u Ended = (u ≡ false) × (rest_of l c ≡ [])
Chosen l c u Visit = u ≡ true
Chosen l c u (Take e) = Taking l c u e
Chosen l c u Broken = Breaking l c u

module _ (l : List ℕ) (c : Cursor) where
  -- the next entry, by what is read at its place
  read_taken : (more : c.next < end_of c.span) (inside : c.next < length l / 5) (t : Bool) → entry_legal (entry_of l c.next) ≡ t
      → Chosen l c false (cond t (Take (entry_of l c.next)) Broken)
  read_taken more inside true h = record { resting = refl; more = more; legal = h; inside = inside; head = rest-next l c more }
  read_taken more inside false h =
      record { resting = refl; more = more; illegal = ap decoded_legal (decoded-whole l c.next inside) ∙ h }

  read_at_lem : (more : c.next < end_of c.span) → Chosen l c false (judged (decoded_of l c.next))
  read_at_lem more =
      by_cases (ltb c.next (length l / 5))
      (λ t.
      let inside = ltb-true c.next (length l / 5) t in
      subst (λ d. Chosen l c false (judged d)) (sym (decoded-whole l c.next inside))
      (read_taken more inside (entry_legal (entry_of l c.next)) refl))
      (λ t.
      let none = decoded-none l c.next (ltb-false c.next (length l / 5) t) in
      subst (λ d. Chosen l c false (judged d)) (sym none) (record { resting = refl; more = more; illegal = ap decoded_legal none }))

  chosen_at : (u : Bool) → Chosen l c u (next_of l c u)
  unfolding next_of
  chosen_at true = refl
  chosen_at false =
      by_cases (leb (end_of c.span) c.next) (λ t. rw t (refl, rest_end l c (leb-true (end_of c.span) c.next t)))
      (λ t. rw t (read_at_lem (leb-false (end_of c.span) c.next t)))

  pub chosen : (u : Bool) (x : Next) → next_of l c u ≡ x → Chosen l c u x
  chosen u x e = subst (λ (x : Next). Chosen l c u x) e (chosen_at u)

-- a list whose next step is none has ended
pub next-over : (l : List ℕ) (c : Cursor) (u : Bool) → next_of l c u ≡ Ended → ended_of c u ≡ true
next-over l c u e =
    let t = chosen l c u Ended e in
    ends-where l c u ∙ ap₂ (λ u es. not u && is_empty es) t.0 t.1

-- and one whose next entry cannot be taken has not
pub broken-going : (l : List ℕ) (c : Cursor) (u : Bool) → next_of l c u ≡ Broken → ended_of c u ≡ false
broken-going l c u e =
    let t = chosen l c u Broken e in
    ap (λ u. not u && leb (end_of c.span) c.next) t.resting ∙ lt-leb (end_of c.span) c.next t.more

pub fetch-takes-the-head : FetchTakesTheHead
fetch-takes-the-head l c u e h = (chosen l c u (Take e) h).head

-- the next step, by the tests that it passes
module _ (l : List ℕ) (c : Cursor) (u : Bool) where
  pub next-visit : u ≡ true → Visit ≡ next_of l c u
  unfolding next_of
  next-visit h = rw h

  pub next-ended : u ≡ false → end_of c.span ≤ c.next → Ended ≡ next_of l c u
  unfolding next_of
  next-ended h k = rw (h, le-leb (end_of c.span) c.next k)

  pub ended-next : ended_of c u ≡ true → next_of l c u ≡ Ended
  ended-next h =
      sym (next-ended (ended-resting l c u h) (leb-true (end_of c.span) c.next (and_right (not u) (leb (end_of c.span) c.next) h)))

  pub next-read : u ≡ false → c.next < end_of c.span → (d e : Option Entry) → d ≡ decoded_of l c.next → d ≡ e
      → judged e ≡ next_of l c u
  unfolding next_of
  next-read h k d e p q = rw (h, lt-leb (end_of c.span) c.next k) (ap judged (sym q ∙ p))

-- a list whose entries to come are legal and in memory is never broken
head-legal : (e : Entry) (es fs : List Entry) → AllLegal fs → fs ≡ e ∷ es → (entry_legal e ≡ true) × AllLegal es
head-legal e es fs a p = subst AllLegal p a

pub tail-legal : (l : List ℕ) (c : Cursor) (u : Bool) (e : Entry) → next_of l c u ≡ Take e → AllLegal (rest_of l c) → AllLegal (rest_of l (fetched_of c))
tail-legal l c u e h a = (head-legal e (rest_of l (fetched_of c)) (rest_of l c) a (fetch-takes-the-head l c u e h)).1

module _ (l : List ℕ) (c : Cursor) (inside : end_of c.span ≤ length l / 5) (legal : AllLegal (rest_of l c)) where
  next-taken : c.next < end_of c.span → next_of l c false ≡ Take (entry_of l c.next)
  unfolding next_of
  next-taken more =
      let read = decoded-whole l c.next (omega arith) in
      let ok = (head-legal (entry_of l c.next) (rest_of l (fetched_of c)) (rest_of l c) legal (rest-next l c more)).0 in
      by_cases (leb (end_of c.span) c.next) (λ t. absurd (omega (arith, leb-true (end_of c.span) c.next t)))
      (λ t. rw (t, read, ok))

  pub never-broken : (u : Bool) → next_of l c u ≡ Broken → ⊥
  never-broken u h =
      let b = chosen l c u Broken h in
      let k : next_of l c false ≡ Broken = subst (λ u. next_of l c u ≡ Broken) b.resting h in
      let t = next-taken b.more in
      let z : ◌≡◌ {A = ℕ} 0 1 = cc in
      omega arith
