-- A well formed record, part by part.
-- Assumes nothing.
use mathlib.Core.Path.{◌≡◌, sym, subst, ◌∙◌}
use mathlib.Core.Bool.{Bool, true, false, not, ◌&&◌, false≢true}
use Prim.Native.Nat.{◌<◌}
use borrow.Author.Tests.{not-true}
use Rattle.lemmas.proofs.Booleans.{by_cases, both, and_left, and_right, or-first}
use Rattle.commands.specs.Visits.{count_of}
use Rattle.commands.specs.Record.{engine_ok, fill_ok}
use Rattle.commands.proofs.Sound.{engine-pixels}
use Rattle.slots.specs.Slots.{sizes_ok, slot_ok, active_ok}
use Rattle.slots.proofs.Slotted.{Fetching, Visiting, fetching-of, visiting-of, active-cursor}
use Rattle.board.specs.Record.{order_ok, well_formed}
use Rattle.board.specs.declared.record.Board.{Board}

pub record Good (b : Board) : Type 0 where
  pub sizes : sizes_ok b.sizes ≡ true
  pub engine : engine_ok b.sizes.extent b.engine ≡ true
  pub fill : fill_ok b.sizes.extent b.engine b.fill ≡ true
  pub active : active_ok b.active b.sizes.entries b.engine.under_way ≡ true
  pub pending : slot_ok b.pending b.sizes.entries ≡ true
  pub order : order_ok b ≡ true

pub good_of : (b : Board) → well_formed b ≡ true → Good b
unfolding well_formed
good_of b h =
    let z = sizes_ok b.sizes in
    let e = engine_ok b.sizes.extent b.engine in
    let f = fill_ok b.sizes.extent b.engine b.fill in
    let a = active_ok b.active b.sizes.entries b.engine.under_way in
    let p = slot_ok b.pending b.sizes.entries in
    let five = and_left (z && e && f && a && p) (order_ok b) h in
    let four = and_left (z && e && f && a) p five in
    let three = and_left (z && e && f) a four in
    let two = and_left (z && e) f three in
    record {
      sizes = and_left z e two;
      engine = and_right z e two;
      fill = and_right (z && e) f three;
      active = and_right (z && e && f) a four;
      pending = and_right (z && e && f && a) p five;
      order = and_right (z && e && f && a && p) (order_ok b) h;
    }

pub well-of : (b : Board) → Good b → well_formed b ≡ true
unfolding well_formed
well-of b g = both (both (both (both (both g.sizes g.engine) g.fill) g.active) g.pending) g.order

-- what the parts are to one another
module _ (b : Board) (g : Good b) where
  -- a command under way has an active list
  pub active-of : b.engine.under_way ≡ true → b.active.taken ≡ true
  active-of u =
      by_cases b.active.taken (λ t. t)
      (λ t.
      let waits = not b.pending.taken in
      let rests = not b.engine.under_way in
      let parts = or-first b.active.taken (waits && rests) g.order t in
      absurd (false≢true (sym (not-true b.engine.under_way (and_right waits rests parts)) ∙ u)))

  -- with no active list no list waits, and no command is under way
  pub none-waits : b.active.taken ≡ false → b.pending.taken ≡ false
  none-waits t =
      let waits = not b.pending.taken in
      let rests = not b.engine.under_way in
      not-true b.pending.taken (and_left waits rests (or-first b.active.taken (waits && rests) g.order t))

  pub at_rest : b.active.taken ≡ false → b.engine.under_way ≡ false
  at_rest t =
      let waits = not b.pending.taken in
      let rests = not b.engine.under_way in
      not-true b.engine.under_way (and_right waits rests (or-first b.active.taken (waits && rests) g.order t))

  pub pixels-of : b.engine.under_way ≡ true → b.engine.visited < count_of b.sizes.extent b.engine
  pixels-of u = engine-pixels b.sizes.extent b.engine g.engine u

  -- where the active list stands
  abbrev standing : Bool → Type 0
  standing u = active_ok b.active b.sizes.entries u ≡ true

  pub next-below : b.active.taken ≡ true → b.engine.under_way ≡ false → Fetching b.active.cursor
  next-below t u =
      fetching-of b.active.cursor (active-cursor b.active b.sizes.entries false (subst standing u g.active) t)

  pub next-within : b.engine.under_way ≡ true → Visiting b.active.cursor
  next-within u =
      visiting-of b.active.cursor (active-cursor b.active b.sizes.entries true (subst standing u g.active) (active-of u))
