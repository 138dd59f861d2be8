-- A record without a tile denotes that with the tile that stands in the buffers: it is well formed whatever they hold. And what the
-- steps of a list keep well formed.
-- Assumes nothing.
use mathlib.Core.Path.{◌≡◌, refl, ap, ap₂, sym, subst, ◌∙◌}
use mathlib.Core.Bool.{Bool, true, false, not, cond, ◌&&◌, ◌||◌}
use mathlib.Core.List.{List, []}
use Prim.Native.Nat.{ℕ, zero, suc, ◌-◌, ◌≤◌, ◌<◌}
use native.Mathlib.Omega.{arith}
use borrow.Author.Tests.{lt-ltb, eqb-true}
use lib.Dec.{eqb}
use Rattle.lemmas.specs.Turns.{in_turn}
use Rattle.lemmas.proofs.Booleans.{by_cases, and_left, and_right, and-true, both, second-of}
use Rattle.geometry.specs.declared.Extent.{Extent}
use Rattle.entries.specs.Fields.{command_of, is_blit}
use Rattle.entries.proofs.Registers.{blit-no-line}
use Rattle.entries.specs.declared.fields.Command.{Command}
use Rattle.registers.specs.States.{state_ok}
use Rattle.registers.specs.declared.file.Registers.{Registers}
use Rattle.tiles.specs.Tiles.{whole_at, no_fill, filled_with, fill_of, is_none, Sized}
use Rattle.tiles.specs.declared.Tile.{Tile}
use Rattle.lists.specs.Spans.{no_span}
use Rattle.lists.specs.Cursors.{next_of, cursor_on, fetched_of, ended_of}
use Rattle.lists.specs.declared.cursors.Cursor.{Cursor}
use Rattle.lists.specs.declared.cursors.Next.{Next}
use Rattle.lists.specs.declared.cursors.Next.TheVariants.{Ended, Visit, Take, Broken}
use Rattle.lists.proofs.Fetches.{chosen, next-visit}
use Rattle.commands.specs.Visits.{command_in, shows, count_of}
use Rattle.commands.specs.Hatching.{tiles, hatches, fill_taken, fill_after}
use Rattle.commands.specs.Steps.{Scene, scene, in_dashes, visit_of, visits_by, taken_of}
use Rattle.commands.specs.Record.{engine_ok, fill_ok}
use Rattle.commands.specs.declared.Engine.{Engine}
use Rattle.commands.proofs.Bounds.{count_same}
use Rattle.commands.proofs.Held.{no-fill-elsewhere, visits-keep-fill, entries-keep-fill}
use Rattle.commands.proofs.Sound.{command-going, engine-state, visits-stay-ok, entries-stay-ok}
use Rattle.commands.proofs.Visiting.{others-move-nothing}
use Rattle.leaps.specs.Leaps.{left_in}
use Rattle.leaps.specs.ListRuns.{Reached, stopped, longer, by_step, run_from, HatchDone}
use Rattle.leaps.proofs.Running.{visits-on, by_next_lem}
use Rattle.slots.specs.Slots.{sizes_ok, slot_ok, active_ok}
use Rattle.board.specs.Record.{well_formed}
use Rattle.board.specs.Bare.{tiled_board, bare_of}
use Rattle.board.specs.declared.bare.Bare.{Bare}
use Rattle.board.specs.declared.record.Board.{Board}
use Rattle.board.proofs.Forms.{good_of}
use Rattle.board.proofs.Goes.{ended-list}

-- ---- the tile that stands in the buffers

taken-by : (fills whole : Bool) (t : Tile) →
    let f = cond fills (cond whole (filled_with t) no_fill) no_fill in
    cond (fills && whole) f.whole (is_none f) ≡ true
unfolding in_turn
taken-by true true t = refl
taken-by true false t = refl
taken-by false whole t = refl

pub taken-ok : (extent : Extent) (e : Engine) (d v : List ℕ) → fill_ok extent e (fill_taken extent e d v) ≡ true
unfolding fill_of
taken-ok extent e d v = taken-by (hatches e) (whole_at extent e.registers.xy0) _

pub well-tiled : (b : Bare) (d v : List ℕ)
    → (sizes_ok b.sizes
    && engine_ok b.sizes.extent b.engine
    && active_ok b.active b.sizes.entries b.engine.under_way
    && slot_ok b.pending b.sizes.entries
    && (b.active.taken || (not b.pending.taken && not b.engine.under_way)))
    ≡ well_formed (tiled_board b d v)
unfolding well_formed
well-tiled b d v =
    let x = sizes_ok b.sizes && engine_ok b.sizes.extent b.engine in
    ap
    (λ t.
    t
    && active_ok b.active b.sizes.entries b.engine.under_way
    && slot_ok b.pending b.sizes.entries
    && (b.active.taken || (not b.pending.taken && not b.engine.under_way)))
    (sym (and-true x) ∙ ap (λ t. x && t) (sym (taken-ok b.sizes.extent b.engine d v)))

-- with no fill under way there is none in either
pub untiled : (b : Board) (d v : List ℕ) → hatches b.engine ≡ false → b.fill ≡ no_fill → b ≡ tiled_board (bare_of b) d v
untiled b d v h f i =
    record {
      sizes = b.sizes;
      active = b.active;
      pending = b.pending;
      engine = b.engine;
      fill = (f ∙ second-of (hatches b.engine) (fill_of b.sizes.extent b.engine.registers.xy0 (cond (command_in
          b.engine).from_virtual v d)) no_fill h) i;
    }

pub none-held : (b : Board) → well_formed b ≡ true → Sized b.fill.tile → hatches b.engine ≡ false → b.fill ≡ no_fill
none-held b w sized h =
    no-fill-elsewhere b.sizes.extent b.engine b.fill sized (good_of b w).fill
    (ap (λ t. t && whole_at b.sizes.extent b.engine.registers.xy0) h)

-- ---- what steps of a list keep well formed

abbrev pub Sound : Extent → Scene → Type 0
Sound extent s = (engine_ok extent s.engine ≡ true) × (fill_ok extent s.engine s.fill ≡ true)

pub run_sound : (budget : ℕ) (l : List ℕ) (extent : Extent) (c : Cursor) (s : Scene) → Sound extent s
    → Sound extent (run_from budget l extent c s).after
unfolding run_from
run_sound zero l extent c s ok = ok
run_sound (suc budget) l extent c s ok = go (run_sound budget l extent) (next_of l c s.engine.under_way) refl
  where
    go : ((c : Cursor) (s : Scene) → Sound extent s → Sound extent (run_from budget l extent c s).after) → (x : Next)
        → next_of l c s.engine.under_way ≡ x
        → Sound extent (by_step extent x c s (run_from budget l extent c (visit_of extent s)) (run_from budget l extent)).after
    go rest Ended h = ok
    go rest Visit h =
        rest c (visit_of extent s)
        (visits-stay-ok extent s ok.0, visits-keep-fill extent s (chosen l c s.engine.under_way Visit h) ok.1)
    go rest (Take x) h =
        rest (fetched_of c) (taken_of extent s x)
        (entries-stay-ok extent s x (chosen l c s.engine.under_way (Take x) h).legal ok.0, entries-keep-fill extent s x)
    go rest Broken h = ok

-- the visits of a held fill, by the run of a list that has ended
pub hatch-sound : (budget : ℕ) (extent : Extent) (s : Scene) (k : ℕ) (e : Engine) (d v : List ℕ) → HatchDone budget extent s k e d v
    → hatches s.engine ≡ true → Sound extent s → Sound extent (scene e (fill_after e s.fill) d v)
unfolding run_from
hatch-sound budget extent s k e d v done h ok =
    let c = cursor_on no_span in
    let t = scene e (fill_after e s.fill) d v in
    let none : run_from (budget - k) [] extent c t ≡ stopped c t false =
    by_cases (hatches e)
    (λ u. ap (λ i. run_from i [] extent c t) (spent (done.still u)))
    (λ u. ended-list (budget - k) [] extent c t (ap (λ (w : Bool). ended_of c w) (done.rests h u))) in
    subst (Sound extent) (sym (ap (λ (r : Reached). r.after) (sym (ap (longer k) none)
    ∙ (done.going h [] c).same))) (run_sound budget [] extent c s ok)
  where
    spent : budget ≤ k → budget - k ≡ 0
    spent q = omega arith

-- ---- a fill that the budget cuts: what the rest of the budget leaves of it

blit-no-dash : (c : Command) → tiles c ≡ true → in_dashes c ≡ false
blit-no-dash c h =
    ap (λ t. t && not c.solid) (blit-no-line c (and_left (is_blit c) c.apat h))

record Still (e : Engine) (c : Cursor) (r : Reached) : Type 0 where
  cursor-same : r.cursor ≡ c
  under : r.after.engine.under_way ≡ true
  registers-same : r.after.engine.registers ≡ e.registers
  pattern-same : r.after.engine.pattern ≡ e.pattern

still : (j : ℕ) (l : List ℕ) (extent : Extent) (c : Cursor) (s : Scene) → s.engine.under_way ≡ true
    → in_dashes (command_in s.engine) ≡ false
    → j < left_in extent s.engine → Still s.engine c (run_from j l extent c s)
unfolding run_from visits_by
still zero l extent c s u h few = record { cursor-same = refl; under = u; registers-same = refl; pattern-same = refl }
still (suc j) l extent c s u h few =
    let e = s.engine in
    let t = visit_of extent s in
    let on = visits-on extent s (suc zero) u (omega arith) in
    let count = count_same shows extent t.engine e on.registers-same on.last-same in
    let dashes = ap (λ (g : Registers). in_dashes (command_of g.cmd)) on.registers-same ∙ h in
    let more = still j l extent c t on.under dashes (omega (arith, on.at, count)) in
    subst (Still e c) (sym (by_next_lem l extent j c s Visit (sym (next-visit l c e.under_way u))))
    (record {
      cursor-same = more.cursor-same;
      under = more.under;
      registers-same = more.registers-same ∙ on.registers-same;
      pattern-same = more.pattern-same ∙ others-move-nothing (suc zero) extent s h;
    })

-- the engine that is cut is well formed where that after the visits is, and the list is the same
pub cut-sound : (j : ℕ) (l : List ℕ) (extent : Extent) (c : Cursor) (s : Scene) → hatches s.engine ≡ true → j < left_in extent s.engine
    → (let r = run_from j l extent c s in
    engine_ok extent r.after.engine ≡ true
    → (engine_ok extent s.engine ≡ true) × (r.cursor ≡ c) × (r.after.engine.under_way ≡ true))
unfolding run_from
cut-sound zero l extent c s h few ok = (ok, refl, and_left s.engine.under_way (tiles (command_in s.engine)) h)
cut-sound (suc j) l extent c s h few ok =
    let e = s.engine in
    let u = and_left e.under_way (tiles (command_in e)) h in
    let same = still (suc j) l extent c s u (blit-no-dash (command_in e) (and_right e.under_way (tiles (command_in e)) h)) few in
    let state : state_ok e.registers e.pattern ≡ true =
    sym (ap₂ state_ok same.registers-same same.pattern-same) ∙ engine-state extent (run_from (suc j) l extent c s).after.engine ok in
    let left = sym (command-going extent e u (count_of extent e) refl) ∙ lt-ltb e.visited (count_of extent e) (omega arith) in
    (both state left, same.cursor-same, same.under)
