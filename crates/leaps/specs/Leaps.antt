-- Many visits of one command at once: what the row and line loops are given. The visits themselves are those of `commands`.
use Rattle.std.specs.Prelude.{◌≡◌, Bool, true, false, not, cond, ◌&&◌, ◌||◌, Option, None, Some, List, ℕ, ◌+◌, ◌-◌, ◌*◌, ◌%◌, ◌≤◌, ◌<◌, min, max, eqb, leb, ltb}
use Rattle.std.specs.Bool.{then_some}
use Rattle.raster.specs.Selectors.{pen_of, selectors_of}
use Rattle.raster.specs.declared.Pen.{Pen}
use Rattle.raster.specs.declared.Selectors.{Selectors}
use Rattle.geometry.specs.Coordinates.{point_of}
use Rattle.geometry.specs.Blit.{blit_count}
use Rattle.geometry.specs.Visible.{visible_index}
use Rattle.geometry.specs.declared.Extent.{Extent}
use Rattle.geometry.specs.declared.Window.{Window}
use Rattle.geometry.specs.declared.visible.Range.{Range}
use Rattle.rows.specs.declared.Mix.{Mix}
use Rattle.stipples.specs.declared.Stipple.{Stipple}
use Rattle.blits.specs.Blits.{blitted}
use Rattle.blits.specs.Tiled.{copy_of, plane_of}
use Rattle.blits.specs.declared.Blit.{Blit}
use Rattle.blits.specs.declared.Paint.{Paint}
use Rattle.blits.specs.declared.tiled.Tiling.{Tiling}
use Rattle.blits.specs.declared.Paint.TheVariants.{Solid, Copied, Moved, Stippled, StippledWithin}
use Rattle.entries.specs.Fields.{pattern_control_of, is_blit}
use Rattle.entries.specs.declared.fields.Command.{Command}
use Rattle.registers.specs.declared.dashes.Pattern.{Pattern}
use Rattle.registers.specs.declared.file.Registers.{Registers}
use Rattle.strokes.specs.Strokes.{stroke_of, Dashed, dashed, dashes_of}
use Rattle.strokes.specs.declared.Dashes.{Dashes}
use Rattle.tiles.specs.Tiles.{fill_of}
use Rattle.commands.specs.Visits.{command_in, line_start, window_in, count_of}
use Rattle.commands.specs.Hatching.{fill_taken}
use Rattle.commands.specs.Steps.{Scene, scene, visits_of}
use Rattle.commands.specs.declared.Engine.{Engine}
use Rattle.leaps.specs.declared.visits.Share.{Share}
use Rattle.leaps.specs.declared.visits.Visits.{Visits}

-- The pen of a value. FORE, BACK, MASK and KEY are bytes where the registers are legal.
abbrev pub pen_in : Engine → ℕ → Pen
pen_in e value = pen_of (command_in e).code (value % 256) (e.registers.mask % 256)

abbrev pub selectors_in : Engine → Selectors
selectors_in e = selectors_of (command_in e).code (e.registers.mask % 256)

abbrev pub mix_in : Engine → Mix
mix_in e =
    record {
      selectors = selectors_in e;
      key = then_some (command_in e).key (e.registers.key % 256);
    }

-- The pen of a 0 bit, which draws nothing with TRNSP.
abbrev pub zero_pen_in : Engine → Option Pen
zero_pen_in e = cond (command_in e).trnsp None (Some (pen_in e e.registers.back))

abbrev pub stipple_in : Engine → Stipple
stipple_in e =
    record {
      fore = pen_in e e.registers.fore;
      back = zero_pen_in e;
    }

-- A blit draws with FORE, or from bytes or bits of the other buffer, or of the one that it draws on.
abbrev pub from_other : Engine → Paint
from_other e = cond (command_in e).stpl (Stippled (stipple_in e)) (Copied (mix_in e))

abbrev pub from_own : Engine → Paint
from_own e = cond (command_in e).stpl (StippledWithin (stipple_in e)) (Moved (mix_in e))

unfoldable pub paint_of : Engine → Paint
paint_of e =
    cond (command_in e).solid (Solid (pen_in e e.registers.fore))
    (cond (command_in e).to_virtual
    (cond (command_in e).from_virtual (from_own e) (from_other e))
    (cond (command_in e).from_virtual (from_other e) (from_own e)))

abbrev pub blit_in : Extent → Engine → Blit
blit_in extent e =
    record {
      width = extent.width;
      height = extent.height;
      window = window_in extent e.registers;
      from = e.registers.xy0;
      to = e.registers.xy1;
      size = e.registers.xy2;
      direction = e.registers.xy3;
      paint = paint_of e;
    }

-- Whether a blit reads the buffer that it draws on.
abbrev pub reads_own : Command → Bool
reads_own c = c.to_virtual && c.from_virtual || not c.to_virtual && not c.from_virtual

-- With APAT it draws a tile (02, R-7).
abbrev pub tiling_in : Extent → Engine → Tiling
tiling_in extent e =
    record {
      selectors = selectors_in e;
      width = extent.width;
      height = extent.height;
      window = window_in extent e.registers;
      to = e.registers.xy1;
      size = e.registers.xy2;
      direction = e.registers.xy3;
    }

-- Visit k of those that the window shows is this one of all visits of the blit; and n visits of `count`, from the next one on,
-- are those that show of a stretch of all visits: all of them, or from the first to the last of the n.
abbrev pub index_of : Window → Registers → ℕ → ℕ
index_of w g k = visible_index (point_of g.xy1) g.xy2 g.xy3 w k

unfoldable pub stretch_of : Window → Engine → ℕ → ℕ → Range
stretch_of w e count n =
    let g = e.registers in
    cond (eqb n count) (record { from = 0; past = blit_count g.xy2 })
    (record { from = index_of w g e.visited; past = index_of w g (e.visited + n - 1) + 1 })

-- Of a command's pixels, those that are left, and how many of these the budget reaches.
abbrev pub share_of : ℕ → ℕ → ℕ → Share
share_of count visited budget = record { left = count - visited; n = min budget (count - visited) }

-- A line draws with FORE, or with FORE and BACK by its pattern.
abbrev pub dashes_in : Engine → Dashes
dashes_in e =
    record {
      lpat = e.registers.lpat;
      fore = pen_in e e.registers.fore;
      back = zero_pen_in e;
      control = pattern_control_of e.registers.pctrl;
    }

-- n pixels of the line in CMD on the buffer that it draws on, and the pattern after them.
unfoldable pub stroke_in : Extent → Engine → ℕ → List ℕ → Dashed
stroke_in extent e n l =
    let a = point_of (line_start e) in
    let b = point_of e.registers.xy1 in
    let w = window_in extent e.registers in
    cond (command_in e).solid (dashed (stroke_of extent.width w (pen_in e e.registers.fore) a b e.visited n l) e.pattern)
    (dashes_of extent.width w (dashes_in e) a b e.visited n (dashed l e.pattern))

-- An engine with n more pixels visited and the pattern at q: with more pixels left, and once none is left.
abbrev pub moved_to : Engine → ℕ → Pattern → Engine
moved_to e n q = record { under_way = true; visited = e.visited + n; registers = e.registers; pattern = q; last = e.last }

abbrev pub finished_at : Engine → Pattern → Engine
finished_at e q =
    record { under_way = false; visited = 0; registers = e.registers; pattern = q; last = e.registers.xy1 }

unfoldable pub moved_by : Extent → Engine → ℕ → Pattern → Engine
moved_by extent e n q = cond (ltb n (count_of extent e - e.visited)) (moved_to e n q) (finished_at e q)

-- Whether n visits can be done at once: a command under way with that many pixels left, on buffers of that extent.
unfoldable pub can_leap : Extent → Engine → ℕ → ℕ → ℕ → Bool
can_leap extent e n display virt =
    e.under_way
    && ltb 0 n
    && leb n (count_of extent e - e.visited)
    && eqb display (extent.width * extent.height)
    && eqb virt (extent.width * extent.height)

-- Row by row from a tile.
unfoldable pub goes_by_tile : Extent → Engine → ℕ → ℕ → ℕ → Bool
goes_by_tile extent e n display virt =
    can_leap extent e n display virt && is_blit (command_in e) && (command_in e).apat && not (command_in e).solid

-- Engine and buffers after n visits. The fill is then that of the visits, and no code's affair.
abbrev pub Visited : ℕ → Extent → Scene → Engine → List ℕ → List ℕ → Type 0
Visited n extent s e display virt = scene e (visits_of n extent s).fill display virt ≡ visits_of n extent s

-- An engine after an entry, or with no fill under way: its tile is the one that stands in the buffers.
abbrev pub with_tile : Extent → Engine → List ℕ → List ℕ → Scene
with_tile extent e display virt = scene e (fill_taken extent e display virt) display virt

-- The visits that are left, and one where the count says that none is.
abbrev pub left_in : Extent → Engine → ℕ
left_in extent e = max 1 (count_of extent e - e.visited)

-- k visits of the command under way, within the budget, lead from s to t.
pub record VisitsDone (budget : ℕ) (extent : Extent) (s : Scene) (k : ℕ) (t : Scene) : Type 0 where
  pub some : 0 < k
  pub few : k ≤ budget
  pub visits : t ≡ visits_of k extent s
  pub busy : (j : ℕ) → j < k → (visits_of j extent s).engine.under_way ≡ true

-- Whether both buffers have that extent, with no more rows than coordinates reach.
unfoldable pub buffers_fit : Extent → ℕ → ℕ → Bool
buffers_fit extent display virt =
    leb extent.height 65536
    && eqb display (extent.width * extent.height)
    && eqb virt (extent.width * extent.height)

-- What is left of the command in CMD.
abbrev pub rest_in : Extent → Engine → ℕ
rest_in extent e = count_of extent e - e.visited

-- An engine after visits that were done at once.
unfoldable pub after_visits : Engine → Visits → Engine
after_visits e r = cond r.finished (finished_at e r.pattern) (moved_to e r.steps r.pattern)

-- No visit done at once: whether the command has none.
pub record NoneDone (extent : Extent) (e : Engine) (r : Visits) : Type 0 where
  pub finished : r.finished ≡ eqb (count_of extent e) 0
  pub pattern : r.pattern ≡ e.pattern

-- Some visits done at once, of those that are left.
pub record SomeDone (extent : Extent) (e : Engine) (r : Visits) : Type 0 where
  pub few : r.steps ≤ rest_in extent e
  pub finished : r.finished ≡ eqb r.steps (rest_in extent e)

-- Visits of the line in CMD, within the budget, on the buffer that it draws on.
pub record StrokeDone (budget : ℕ) (extent : Extent) (e : Engine) (own : List ℕ) (r : Visits) (own' : List ℕ) : Type 0 where
  pub within : r.steps ≤ budget
  pub none : r.steps ≡ 0 → NoneDone extent e r × (own' ≡ own)
  pub some : 0 < r.steps
      → SomeDone extent e r × (1 < count_of extent e) × (dashed own' r.pattern ≡ stroke_in extent e r.steps own)

-- Visits of the blit in CMD, from no tile.
pub record BlitDone (budget : ℕ) (extent : Extent) (e : Engine) (own other : List ℕ) (r : Visits) (own' : List ℕ) : Type 0 where
  pub within : r.steps ≤ budget
  pub none : r.steps ≡ 0 → NoneDone extent e r × (own' ≡ own)
  pub some : 0 < r.steps
      → SomeDone extent e r
      × ((command_in e).apat ≡ false)
      × (e.registers.key < 256)
      × (r.pattern ≡ e.pattern)
      × (let s = stretch_of (window_in extent e.registers) e (count_of extent e) r.steps in
      own' ≡ blitted (blit_in extent e) s.from (s.past - s.from) other own)

-- All visits of the fill with a tile in CMD: the tile stands in the source buffer; of one that is not whole nothing is drawn.
abbrev pub within_in : Engine → Bool
within_in e = reads_own (command_in e)

pub record TiledDone (budget : ℕ) (extent : Extent) (e : Engine) (own other : List ℕ) (r : Visits) (own' : List ℕ) : Type 0 where
  pub within : r.steps ≤ budget
  pub none : r.steps ≡ 0 → NoneDone extent e r × (own' ≡ own)
  pub some : 0 < r.steps
      → SomeDone extent e r
      × (r.steps ≡ count_of extent e)
      × ((command_in e).solid ≡ false)
      × (r.pattern ≡ e.pattern)
      × (let f = fill_of extent e.registers.xy0 (cond (within_in e) own other) in
      let s = stretch_of (window_in extent e.registers) e (count_of extent e) r.steps in
      own'
      ≡ cond f.whole
      (blitted (copy_of (tiling_in extent e)) s.from (s.past - s.from) (plane_of extent.width extent.height f.tile) own)
      own)

-- Visits of the command under way at once, on the buffer that it draws on; or none, where it is visited otherwise.
pub record OnceOn (budget : ℕ) (extent : Extent) (e : Engine) (own other : List ℕ) (r : Visits) (own' : List ℕ) : Type 0 where
  pub within : r.steps ≤ budget
  pub room : r.finished ≡ false → e.visited + r.steps < 4294967296
  pub none : r.steps ≡ 0 → NoneDone extent e r × (own' ≡ own)
  pub any : 0 < r.steps → 0 < count_of extent e
  pub some : 0 < r.steps → (to : Bool) → (command_in e).to_virtual ≡ to
      → VisitsDone budget extent (with_tile extent e (cond to other own) (cond to own other)) r.steps
      (with_tile extent (after_visits e r) (cond to other own') (cond to own' other))

-- The same on both buffers: k visits, with the engine after them.
pub record AtOnce (budget : ℕ) (extent : Extent) (e : Engine) (d v : List ℕ) (k : ℕ) (e' : Engine) (d' v' : List ℕ) : Type 0 where
  pub within : k ≤ budget
  pub none : k ≡ 0 → (e' ≡ cond (eqb (count_of extent e) 0) (finished_at e e.pattern) e) × (d' ≡ d) × (v' ≡ v)
  pub any : 0 < k → 0 < count_of extent e
  pub some : 0 < k → VisitsDone budget extent (with_tile extent e d v) k (with_tile extent e' d' v')

-- On the buffer that the command draws on, as on both.
abbrev pub LeftOn : ℕ → Extent → Engine → List ℕ → List ℕ → ℕ → Engine → List ℕ → Type 0
LeftOn budget extent e own other k e' own' =
    (to : Bool) → (command_in e).to_virtual ≡ to
    → AtOnce budget extent e (cond to other own) (cond to own other) k e' (cond to other own') (cond to own' other)
