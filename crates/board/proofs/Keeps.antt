-- A step keeps the record well formed, and the buffers their lengths.
-- Assumes nothing.
use mathlib.Core.Path.{◌≡◌, refl, ap, sym, subst, ◌∙◌}
use mathlib.Core.Bool.{Bool, true, false, not, cond, ◌&&◌, ◌||◌}
use mathlib.Core.List.{List, []}
use Prim.Native.Nat.{ℕ, zero, suc, ◌<◌}
use native.Mathlib.Omega.{arith}
use lib.ListN.{length}
use Rattle.lemmas.proofs.Booleans.{by_cases, or-by, first_of, second-of}
use Rattle.lists.specs.Spans.{end_of, span_ok}
use Rattle.lists.specs.Cursors.{ended_of, fetched_of}
use Rattle.lists.specs.declared.cursors.Cursor.{Cursor}
use Rattle.lists.specs.declared.cursors.Next.{Next}
use Rattle.lists.specs.declared.cursors.Next.TheVariants.{Ended, Visit, Take, Broken}
use Rattle.lists.proofs.Fetches.{chosen}
use Rattle.lists.proofs.Rests.{ended-resting}
use Rattle.commands.specs.Steps.{Scene, visit_of, taken_of}
use Rattle.commands.specs.Record.{engine_ok, fill_ok}
use Rattle.commands.proofs.Visiting.{keeps-lengths}
use Rattle.commands.proofs.Sound.{visits-stay-ok, entries-stay-ok}
use Rattle.commands.proofs.Held.{visits-keep-fill, entries-keep-fill}
use Rattle.slots.specs.Slots.{sizes_ok, empty_slot, active_on, slot_ok, active_ok}
use Rattle.slots.proofs.Slotted.{Visiting, active-span, active-end, begins, stays-active}
use Rattle.board.specs.Steps.{Machine, next_on, with_steps, settled_of, moved_to, scene_of, act_of, step_of}
use Rattle.board.specs.Record.{well_formed}
use Rattle.board.specs.Runs.{Outcome, by_next, run_of}
use Rattle.board.specs.Left.{StaysWellFormed, KeepsLengths}
use Rattle.board.specs.declared.record.Board.{Board}
use Rattle.board.proofs.Forms.{Good, good_of, well-of, active-of, next-below, next-within}

-- a record whose active list has just had a step, before it is settled
record Stepped (b : Board) : Type 0 where
  sizes : sizes_ok b.sizes ≡ true
  engine : engine_ok b.sizes.extent b.engine ≡ true
  fill : fill_ok b.sizes.extent b.engine b.fill ≡ true
  taken : b.active.taken ≡ true
  span : span_ok b.active.cursor.span b.sizes.entries ≡ true
  pending : slot_ok b.pending b.sizes.entries ≡ true
  visiting : Visiting b.active.cursor

-- the record with the pending list in the active slot
abbrev pub followed : Board → Board
followed b = record { sizes = b.sizes; active = active_on b.pending; pending = empty_slot; engine = b.engine; fill = b.fill }

-- the list goes on
stays : (b : Board) → Stepped b → ended_of b.active.cursor b.engine.under_way ≡ false → Good b
stays b s h =
    record {
      sizes = s.sizes;
      engine = s.engine;
      fill = s.fill;
      active = stays-active b.active b.sizes.entries b.engine.under_way s.taken s.span s.visiting h;
      pending = s.pending;
      order = ap (λ t. t || (not b.pending.taken && not b.engine.under_way)) s.taken;
    }

-- the pending list becomes active
follows : (b : Board) → Stepped b → b.engine.under_way ≡ false → Good (followed b)
follows b s u =
    record {
      sizes = s.sizes;
      engine = s.engine;
      fill = s.fill;
      active = subst (λ u. active_ok (active_on b.pending) b.sizes.entries u ≡ true) (sym u) (begins b.pending b.sizes.entries s.pending);
      pending = refl;
      order = or-by b.pending.taken (true && not b.engine.under_way) (λ t. ap not u);
    }

settle-good : (b : Board) → Stepped b → Good (settled_of b)
unfolding settled_of
settle-good b s =
    let t = ended_of b.active.cursor b.engine.under_way in
    by_cases t
    (λ h. subst Good (first_of t (followed b) b h) (follows b s (ended-resting [] b.active.cursor b.engine.under_way h)))
    (λ h. subst Good (second-of t (followed b) b h) (stays b s h))

-- a step of the active list: to a cursor past its start, and a well formed engine and fill
pub moved-good : (m : Machine) (c : Cursor) (s : Scene) → Good m.board → m.board.active.taken ≡ true → c.span ≡ m.board.active.cursor.span
    → Visiting c → engine_ok m.board.sizes.extent s.engine ≡ true → fill_ok m.board.sizes.extent s.engine s.fill ≡ true
    → Good (moved_to m c s).board
moved-good m c s g t same v ok held =
    let b = m.board in
    settle-good (with_steps b c s.engine s.fill)
    (record {
      sizes = g.sizes;
      engine = ok;
      fill = held;
      taken = t;
      span = ap (λ s. span_ok s b.sizes.entries) same ∙ active-span b.active b.sizes.entries b.engine.under_way g.active t;
      pending = g.pending;
      visiting = v;
    })

-- a list whose next entry is before its end is in the active slot
pub holds-list : (b : Board) → Good b → b.active.cursor.next < end_of b.active.cursor.span → b.active.taken ≡ true
holds-list b g h =
    by_cases b.active.taken (λ t. t)
    (λ t. absurd (empty (active-end b.active b.sizes.entries b.engine.under_way g.active t)))
  where
    empty : end_of b.active.cursor.span ≡ 0 → ⊥
    empty e = omega arith

act-good : (l : List ℕ) (m : Machine) (x : Next) → next_on l m.board ≡ x → Good m.board → Good (act_of x m).board
act-good l m Ended e g = g
act-good l m Visit e g =
    let b = m.board in
    let u = chosen l b.active.cursor b.engine.under_way Visit e in
    moved-good m b.active.cursor (visit_of b.sizes.extent (scene_of m)) g (active-of b g u) refl (next-within b g u)
    (visits-stay-ok b.sizes.extent (scene_of m) g.engine)
    (visits-keep-fill b.sizes.extent (scene_of m) u g.fill)
act-good l m (Take x) e g =
    let b = m.board in
    let c = chosen l b.active.cursor b.engine.under_way (Take x) e in
    let t = holds-list b g c.more in
    let f = next-below b g t c.resting in
    moved-good m (fetched_of b.active.cursor) (taken_of b.sizes.extent (scene_of m) x) g t refl
    (record { past = omega (arith, f.from); within = omega (arith, c.more) })
    (entries-stay-ok b.sizes.extent (scene_of m) x c.legal g.engine)
    (entries-keep-fill b.sizes.extent (scene_of m) x)
act-good l m Broken e g = g

pub stays-well-formed : StaysWellFormed
unfolding step_of
stays-well-formed l m w =
    well-of (act_of (next_on l m.board) m).board (act-good l m (next_on l m.board) refl (good_of m.board w))

-- a run keeps it well formed
well-by : (x : Next) (m : Machine) (more : Outcome) → well_formed m.board ≡ true → well_formed more.after.board ≡ true
    → well_formed (by_next x m more).after.board ≡ true
well-by Ended m more w v = w
well-by Visit m more w v = v
well-by (Take x) m more w v = v
well-by Broken m more w v = w

pub run-well : (k : ℕ) (l : List ℕ) (m : Machine) → well_formed m.board ≡ true → well_formed (run_of k l m).after.board ≡ true
unfolding run_of
run-well zero l m w = w
run-well (suc k) l m w =
    well-by (next_on l m.board) m (run_of k l (step_of l m)) w (run-well k l (step_of l m) (stays-well-formed l m w))

pub step-lengths : KeepsLengths
unfolding step_of
step-lengths l m = go (next_on l m.board)
  where
    go : (x : Next) → (length (act_of x m).display ≡ length m.display) × (length (act_of x m).virt ≡ length m.virt)
    go Ended = (refl, refl)
    go Visit = keeps-lengths m.board.sizes.extent (scene_of m)
    go (Take x) = (refl, refl)
    go Broken = (refl, refl)

-- settling keeps the sizes
pub settled-sizes : (b : Board) → (settled_of b).sizes ≡ b.sizes
unfolding settled_of
settled-sizes b = by (ended_of b.active.cursor b.engine.under_way)
  where
    by : (t : Bool) → (cond t (followed b) b).sizes ≡ b.sizes
    by true = refl
    by false = refl

-- and the engine, and the fill
pub settled-engine : (b : Board) → (settled_of b).engine ≡ b.engine
unfolding settled_of
settled-engine b = by (ended_of b.active.cursor b.engine.under_way)
  where
    by : (t : Bool) → (cond t (followed b) b).engine ≡ b.engine
    by true = refl
    by false = refl

pub settled-fill : (b : Board) → (settled_of b).fill ≡ b.fill
unfolding settled_of
settled-fill b = by (ended_of b.active.cursor b.engine.under_way)
  where
    by : (t : Bool) → (cond t (followed b) b).fill ≡ b.fill
    by true = refl
    by false = refl

-- and so does a step
pub step-sizes : (l : List ℕ) (m : Machine) → (step_of l m).board.sizes ≡ m.board.sizes
unfolding step_of
step-sizes l m = go (next_on l m.board)
  where
    go : (x : Next) → (act_of x m).board.sizes ≡ m.board.sizes
    go Ended = refl
    go Visit =
        let s = visit_of m.board.sizes.extent (scene_of m) in
        settled-sizes (with_steps m.board m.board.active.cursor s.engine s.fill)
    go (Take x) =
        let s = taken_of m.board.sizes.extent (scene_of m) x in
        settled-sizes (with_steps m.board (fetched_of m.board.active.cursor) s.engine s.fill)
    go Broken = refl
