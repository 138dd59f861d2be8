-- Many visits of a blit are the rows that the row loops draw.
-- Assumes nothing.
use mathlib.Core.Path.{◌≡◌, refl, ap, ap₂, sym, subst, ◌∙◌}
use mathlib.Core.Bool.{Bool, true, false, not, cond, ◌&&◌, ◌||◌, false≢true}
use mathlib.Core.List.{List}
use Prim.Native.Nat.{ℕ, ◌+◌, ◌-◌, ◌*◌, ◌≤◌, ◌<◌, min, max}
use native.Mathlib.Omega.{arith}
use borrow.Author.Tests.{eqb-true, eqb-false, eq-eqb, ltb-true, ltb-false, leb-false, le-leb, not-true}
use lib.Dec.{eqb, leb, ltb}
use lib.ListN.{length}
use Rattle.lemmas.proofs.Booleans.{by_cases, both, and_left, and_right, or-none-left, or-none-right, first_of, second-of, of_either}
use Rattle.lemmas.specs.Turns.{in_turn}
use Rattle.lemmas.proofs.Turns.{turn_agree}
use Rattle.geometry.specs.Coordinates.{origin, point_of}
use Rattle.geometry.specs.Clip.{rect_of, window_of, in_window, in_buffer}
use Rattle.geometry.specs.Blit.{blit_count, blit_point}
use Rattle.geometry.specs.Visible.{visible_count, Positive}
use Rattle.geometry.specs.declared.Window.{Window}
use Rattle.geometry.specs.declared.visible.Range.{Range}
use Rattle.geometry.proofs.Blits.{count-lt}
use Rattle.geometry.proofs.Visibility.{window-positive, index-past}
use Rattle.geometry.proofs.Stretches.{visible-lt, same_whole, same-stretch}
use Rattle.blits.specs.declared.Blit.{Blit}
use Rattle.blits.specs.declared.Paint.{Paint}
use Rattle.blits.specs.declared.Paint.TheVariants.{Copied}
use Rattle.blits.specs.Blits.{reads, source_width, target_at, source_at, visited, window_inside, blit_fits, blitted}
use Rattle.blits.proofs.Visits.{visit-hidden}
use Rattle.blits.proofs.Loops.{blit-in}
use Rattle.entries.specs.declared.fields.Command.{Command}
use Rattle.registers.specs.declared.file.Registers.{Registers}
use Rattle.strokes.specs.Strokes.{Dashed, dashed}
use Rattle.commands.specs.Visits.{command_in, window_in, shows, count_of, target_of, source_at as source_in}
use Rattle.entries.specs.Fields.{is_blit}
use Rattle.entries.proofs.Registers.{blit-no-line}
use Rattle.tiles.specs.Tiles.{no_fill, fill_of}
use Rattle.tiles.specs.declared.Fill.{Fill}
use Rattle.tiles.specs.declared.Tile.{Tile}
use Rattle.rows.specs.Rows.{unkeyed}
use Rattle.blits.specs.Tiled.{plane_of, copy_of}
use Rattle.blits.specs.declared.tiled.Tiling.{Tiling}
use Rattle.blits.proofs.Planes.{plane-long}
use Rattle.commands.specs.Hatching.{fill_after}
use Rattle.commands.specs.Steps.{scene, inked, pattern_after, visits_of}
use Rattle.commands.specs.declared.Engine.{Engine}
use Rattle.commands.proofs.Bounds.{count_same}
use Rattle.commands.proofs.Tests.{flag_is, count-blit}
use Rattle.leaps.specs.declared.visits.Visits.{Visits}
use Rattle.leaps.specs.declared.visits.Share.{Share}
use Rattle.leaps.specs.Leaps.{mix_in, reads_own, paint_of, share_of, blit_in, tiling_in, index_of, stretch_of, moved_to, moved_by, can_leap, goes_by_tile, after_visits, rest_in, within_in, SomeDone, TiledDone, BlitDone}
use Rattle.leaps.proofs.Visiting.{scene_on, unfilled, Marked, visits-are, Leaps, leaps-of, Fit, leaps-some, after-moved, AreVisits, none_done, some-done}
use Rattle.leaps.proofs.Blits.{marks-on, tile-marks, no-tile-marks}
use Rattle.geometry.specs.declared.Extent.{Extent}

pattern-stays : (e : Engine) → is_blit (command_in e) ≡ true → pattern_after e ≡ e.pattern
unfolding pattern_after
pattern-stays e h = rw (blit-no-line (command_in e) h)

same-blit : (extent : Extent) (e : Engine) (k : ℕ) → blit_in extent (moved_to e k e.pattern) ≡ blit_in extent e
unfolding paint_of
same-blit extent e k = refl

-- a window lies in its buffer
window-inside : (extent : Extent) (clip : Bool) (a b : ℕ) → window_inside extent.width extent.height (window_of extent clip a b) ≡ true
unfolding window_of
window-inside extent true a b =
    let width = extent.width in
    let height = extent.height in
    both
    (both (both (le-leb origin (max origin (rect_of a b).left) (omega arith)) (le-leb (min (origin + width) ((rect_of a b).right + 1)) (origin + width) (omega arith)))
    (le-leb origin (max origin (rect_of a b).top) (omega arith)))
    (le-leb (min (origin + height) ((rect_of a b).bottom + 1)) (origin + height) (omega arith))
window-inside extent false a b =
    let width = extent.width in
    let height = extent.height in
    both
    (both (both (le-leb origin origin (omega arith)) (le-leb (origin + width) (origin + width) (omega arith))) (le-leb origin origin (omega arith)))
    (le-leb (origin + height) (origin + height) (omega arith))

-- what lets visits go by rows
pub record Goes (extent : Extent) (e : Engine) (n display virt : ℕ) : Type 0 where
  pub leaps : Leaps extent e n display virt
  pub blit : is_blit (command_in e) ≡ true
  pub plain : (command_in e).apat ≡ false
  pub key-small : e.registers.key < 256

-- a blit in CMD, whatever it is painted from
abbrev pub blit_with : Extent → Engine → Paint → ℕ → Blit
blit_with extent e paint from =
    record {
      width = extent.width;
      height = extent.height;
      window = window_in extent e.registers;
      from = from;
      to = e.registers.xy1;
      size = e.registers.xy2;
      direction = e.registers.xy3;
      paint = paint;
    }

-- the stretch of all visits that n visits from the next one on lie in
module _ (extent : Extent) (e : Engine) (n : ℕ) (blit : is_blit (command_in e) ≡ true) (any : 0 < n) (few : e.visited + n ≤ count_of extent e) where
  abbrev window : Window
  window = window_in extent e.registers

  abbrev count : ℕ
  count = visible_count (point_of e.registers.xy1) e.registers.xy2 e.registers.xy3 window

  abbrev numbered : ℕ → ℕ
  numbered k = index_of window e.registers k

  shown : e.visited + n ≤ count
  shown = omega (arith, few, count-blit extent e blit)

  abbrev Past : Range → Type 0
  Past r = r.from + (r.past - r.from) ≤ blit_count e.registers.xy2

  stretch-past : Past (stretch_of window e (count_of extent e) n)
  unfolding stretch_of
  stretch-past =
      let g = e.registers in
      of_either Past (eqb n (count_of extent e)) (omega arith)
      (omega (
        arith,
        visible-lt (point_of g.xy1) g.xy2 g.xy3 window e.visited (omega (arith, shown, any)),
        visible-lt (point_of g.xy1) g.xy2 g.xy3 window (e.visited + n - 1) (omega (arith, shown, any)),
      ))

  -- what is hidden in it draws nothing
  module _ (paint : Paint) (from : ℕ) (source l : List ℕ) where
    abbrev act : ℕ → List ℕ → List ℕ
    act k = visited (blit_with extent e paint from) source k

    abbrev Draws : Range → Type 0
    Draws r = in_turn (λ i. act (r.from + i)) (r.past - r.from) l ≡ in_turn (λ i. act (numbered (e.visited + i))) n l

    idle : (k : ℕ) → k < blit_count e.registers.xy2
        → in_window window (blit_point (point_of e.registers.xy1) e.registers.xy2 e.registers.xy3 k) ≡ false → (m : List ℕ) → act k m ≡ m
    idle k h t m =
        let b = blit_with extent e paint from in
        let read = not (reads b.paint) || in_buffer (source_width b) b.height (source_at b k) in
        visit-hidden b source k m (λ u. false≢true (sym t ∙ and_left (in_window window (target_at b k)) read u))

    abbrev whole : Range
    whole = record { from = 0; past = blit_count e.registers.xy2 }

    abbrev part : Range
    part = record { from = numbered e.visited; past = numbered (e.visited + n - 1) + 1 }

    positive : Positive window
    positive = window-positive extent (command_in e).clip e.registers.clptl e.registers.clpbr

    whole-draws : n ≡ count_of extent e → Draws whole
    whole-draws p =
        let g = e.registers in
        let all : blit_count g.xy2 - 0 ≡ blit_count g.xy2 = omega arith in
        let first : e.visited ≡ 0 = omega (arith, few, p) in
        let same : count ≡ n = omega (arith, p, count-blit extent e blit) in
        ap (λ m. in_turn (λ i. act (0 + i)) m l) all
        ∙ turn_agree (λ i. act (0 + i)) act (blit_count g.xy2) l (λ k h m. let z : 0 + k ≡ k = omega arith in ap (λ k. act k m) z)
        ∙ sym (same_whole (point_of g.xy1) g.xy2 g.xy3 window positive act idle l)
        ∙ turn_agree (λ k. act (numbered k)) (λ i. act (numbered (e.visited + i))) count l
        (λ k h m. let z : k ≡ e.visited + k = omega (arith, first) in ap (λ k. act (numbered k) m) z)
        ∙ ap (λ m. in_turn (λ i. act (numbered (e.visited + i))) m l) same

    part-draws : Draws part
    part-draws =
        let g = e.registers in
        let a = e.visited in
        let last : a + n - 1 ≡ a + (n - 1) = omega (arith, any) in
        let more : n - 1 + 1 ≡ n = omega (arith, any) in
        ap (λ k. in_turn (λ i. act (numbered a + i)) (numbered k + 1 - numbered a) l) last
        ∙ same-stretch (point_of g.xy1) g.xy2 g.xy3 window positive act idle a (n - 1) (omega (arith, any, shown)) l
        ∙ ap (λ m. in_turn (λ i. act (numbered (a + i))) m l) more

    stretch-draws : Draws (stretch_of window e (count_of extent e) n)
    unfolding stretch_of
    stretch-draws =
        by_cases (eqb n (count_of extent e))
        (λ t. subst Draws (first_of (eqb n (count_of extent e)) whole part t) (whole-draws (eqb-true n (count_of extent e) t)))
        (λ t. subst Draws (second-of (eqb n (count_of extent e)) whole part t) part-draws)

fits : (extent : Extent) (e : Engine) (paint : Paint) (from first n own other : ℕ) → first + n ≤ blit_count e.registers.xy2
    → own ≡ extent.width * extent.height → other ≡ extent.width * extent.height → blit_fits (blit_with extent e paint from) first n other own ≡ true
fits extent e paint from first n own other few p q =
    both
    (both (both (eq-eqb own (extent.width * extent.height) p) (eq-eqb other (extent.width * extent.height) q))
    (window-inside extent (command_in e).clip e.registers.clptl e.registers.clpbr))
    (le-leb (first + n) (blit_count e.registers.xy2) few)

-- its ends are small
pub index-small : (w : Window) (g : Registers) (k r : ℕ) → r ≡ index_of w g k → g.xy2 < 4294967296 → r < 4294967296
index-small w g k r e h =
    let count = visible_count (point_of g.xy1) g.xy2 g.xy3 w in
    let most = count-lt g.xy2 h in
    by_cases (ltb k count)
    (λ t. omega (arith, e, most, visible-lt (point_of g.xy1) g.xy2 g.xy3 w k (ltb-true k count t)))
    (λ t. omega (arith, e, most, index-past (point_of g.xy1) g.xy2 g.xy3 w k _ refl (ltb-false k count t)))

-- n visits, from what the row loops did on the buffer that is drawn on: whatever is painted, it is what each visit marks
module _ (extent : Extent) (e : Engine) (n display virt : ℕ) (leaps : Leaps extent e n display virt) (blit : is_blit (command_in e) ≡ true) (f : Engine)
    (moved : f ≡ moved_by extent e n e.pattern) (tile : Fill) (to : Bool) (v : (command_in e).to_virtual ≡ to) (own other : List ℕ) where
  -- after k visits; the pattern stays
  module _ (paint : Paint) (from : ℕ) (source : List ℕ) where
    abbrev index : ℕ → ℕ
    index k = index_of (window_in extent e.registers) e.registers k

    abbrev row_state : ℕ → Dashed
    row_state k = dashed (in_turn (λ i. visited (blit_with extent e paint from) source (index (e.visited + i))) k own) e.pattern

    abbrev pub Marks : Type 0
    Marks =
        (k : ℕ) → e.visited + k < count_of extent e → (l : List ℕ) →
        let f = moved_to e k e.pattern in
        inked f (source_in extent f tile (e.visited + k) (cond to other l) (cond to l other)) (target_of extent f (e.visited + k)) l
        ≡ visited (blit_with extent e paint from) source (index (e.visited + k)) l

    rows-marked : Marks → Marked extent e tile to other row_state
    unfolding in_turn
    rows-marked marks =
        record {
          buffers = λ k few. marks k few (row_state k).buffer;
          patterns = λ k few. pattern-stays (moved_to e k e.pattern) blit;
        }

    pub rows-by : Marks → length own ≡ extent.width * extent.height → length source ≡ extent.width * extent.height → (m : List ℕ) →
        let r = stretch_of (window_in extent e.registers) e (count_of extent e) n in
        m ≡ blitted (blit_with extent e paint from) r.from (r.past - r.from) source own
        → scene_on tile f to m other ≡ visits_of n extent (scene_on tile e to own other)
    unfolding in_turn
    rows-by marks own-long source-long m h =
        let b = blit_with extent e paint from in
        let r = stretch_of (window_in extent e.registers) e (count_of extent e) n in
        let past = stretch-past extent e n blit leaps.any leaps.few in
        let drawn = stretch-draws extent e n blit leaps.any leaps.few paint from source own in
        let same =
        h
        ∙ sym (blit-in b r.from (r.past - r.from) source own
        (fits extent e paint from r.from (r.past - r.from) (length own) (length source) past own-long source-long))
        ∙ drawn in
        (λ i. scene_on tile (moved i) to (same i) other)
        ∙ sym (visits-are extent e tile to other row_state v leaps.under-way leaps.some refl (rows-marked marks) n leaps.few)

  -- visits that mark nothing
  pub none-by : ((k : ℕ) → e.visited + k < count_of extent e → (l : List ℕ) →
      let f = moved_to e k e.pattern in
      inked f (source_in extent f tile (e.visited + k) (cond to other l) (cond to l other)) (target_of extent f (e.visited + k)) l ≡ l)
      → scene_on tile f to own other ≡ visits_of n extent (scene_on tile e to own other)
  none-by marks =
      (λ i. scene_on tile (moved i) to own other)
      ∙ sym (visits-are extent e tile to other (λ _. dashed own e.pattern) v leaps.under-way leaps.some refl
      (record { buffers = λ k few. marks k few own; patterns = λ k few. pattern-stays (moved_to e k e.pattern) blit }) n leaps.few)

-- with no tile
module _ (extent : Extent) (e : Engine) (n display virt : ℕ) (g : Goes extent e n display virt) (f : Engine) (moved : f ≡ moved_by extent e n e.pattern) where
  rows_are : (to : Bool) (own other : List ℕ) → length own ≡ extent.width * extent.height → length other ≡ extent.width * extent.height
      → (command_in e).to_virtual ≡ to → (m : List ℕ) →
      let r = stretch_of (window_in extent e.registers) e (count_of extent e) n in
      m ≡ blitted (blit_in extent e) r.from (r.past - r.from) other own
      → scene f no_fill (cond to other m) (cond to m other) ≡ visits_of n extent (scene e no_fill (cond to other own) (cond to own other))
  rows_are to own other own-long other-long v m h =
      sym (unfilled f (cond to other m) (cond to m other))
      ∙ rows-by extent e n display virt g.leaps g.blit f moved no_fill to v own other (paint_of e) e.registers.xy0 other
      (λ k few l.
      let f = moved_to e k e.pattern in
      marks-on extent f (e.visited + k) g.blit (omega (arith, few, count_same shows extent f e refl refl)) g.key-small g.plain to l other v
      ∙ ap (λ b. visited b other (index_of (window_in extent e.registers) e.registers (e.visited + k)) l) (same-blit extent e k))
      own-long other-long m h
      ∙ ap (visits_of n extent) (unfilled e (cond to other own) (cond to own other))

-- what lets visits go by rows from a tile
pub record GoesTiled (extent : Extent) (e : Engine) (n display virt : ℕ) : Type 0 where
  pub leaps : Leaps extent e n display virt
  pub blit : is_blit (command_in e) ≡ true
  pub hatched : (command_in e).apat ≡ true
  pub unsolid : (command_in e).solid ≡ false

pub goes-tiled : (extent : Extent) (e : Engine) (n display virt : ℕ) → goes_by_tile extent e n display virt ≡ true → GoesTiled extent e n display virt
unfolding goes_by_tile
goes-tiled extent e n display virt h =
    let c1 = can_leap extent e n display virt in
    let c2 = is_blit (command_in e) in
    let c3 = (command_in e).apat in
    let c4 = not (command_in e).solid in
    let h3 = and_left (c1 && c2 && c3) c4 h in
    let h2 = and_left (c1 && c2) c3 h3 in
    record {
      leaps = leaps-of extent e n display virt (and_left c1 c2 h2);
      blit = and_right c1 c2 h2;
      hatched = and_right (c1 && c2) c3 h3;
      unsolid = not-true (command_in e).solid (and_right (c1 && c2 && c3) c4 h);
    }

-- from a tile, which is held while the fill is under way
module _ (extent : Extent) (e : Engine) (n display virt : ℕ) (g : GoesTiled extent e n display virt) (f : Engine)
    (moved : f ≡ moved_by extent e n e.pattern) (fill : Fill) (to : Bool) (v : (command_in e).to_virtual ≡ to) (own other : List ℕ) where
  held : scene_on fill e to own other ≡ scene e fill (cond to other own) (cond to own other)
  held = ap (λ f. scene e f (cond to other own) (cond to own other)) (sym (first_of e.under_way fill no_fill g.leaps.under-way))

  few-in : (k : ℕ) → e.visited + k < count_of extent e → e.visited + k < count_of extent (moved_to e k e.pattern)
  few-in k few = omega (arith, few, count_same shows extent (moved_to e k e.pattern) e refl refl)

  pub tiled-are : fill.whole ≡ true → length own ≡ extent.width * extent.height → (m : List ℕ) →
      let r = stretch_of (window_in extent e.registers) e (count_of extent e) n in
      m ≡ blitted (copy_of (tiling_in extent e)) r.from (r.past - r.from) (plane_of extent.width extent.height fill.tile) own
      → scene f (fill_after f fill) (cond to other m) (cond to m other) ≡ visits_of n extent (scene e fill (cond to other own) (cond to own other))
  tiled-are whole own-long m h =
      rows-by extent e n display virt g.leaps g.blit f moved fill to v own other (Copied (unkeyed (mix_in e).selectors)) e.registers.xy1
      (plane_of extent.width extent.height fill.tile)
      (λ k few l.
      tile-marks extent (moved_to e k e.pattern) (e.visited + k) g.blit (few-in k few) g.hatched g.unsolid fill (cond to other l) (cond to l other) whole l)
      own-long (plane-long extent.width extent.height fill.tile) m h
      ∙ ap (visits_of n extent) held

  unwhole-are : fill.whole ≡ false
      → scene f (fill_after f fill) (cond to other own) (cond to own other) ≡ visits_of n extent (scene e fill (cond to other own) (cond to own other))
  unwhole-are missing =
      none-by extent e n display virt g.leaps g.blit f moved fill to v own other
      (λ k few l.
      no-tile-marks extent (moved_to e k e.pattern) (e.visited + k) g.blit (few-in k few) g.hatched g.unsolid fill (cond to other l) (cond to l other)
      missing l)
      ∙ ap (visits_of n extent) held

pub missing-are : (extent : Extent) (e : Engine) (n display virt : ℕ) → GoesTiled extent e n display virt → (f : Engine) → f ≡ moved_by extent e n e.pattern
    → (fill : Fill) → fill.whole ≡ false → (d v : List ℕ) → scene f (fill_after f fill) d v ≡ visits_of n extent (scene e fill d v)
missing-are extent e n display virt g f moved fill missing d v =
    by_cases (command_in e).to_virtual
    (λ t. unwhole-are extent e n display virt g f moved fill true t v d missing)
    (λ t. unwhole-are extent e n display virt g f moved fill false t d v missing)

-- what the rows were given, in a stretch and in all
pub tiled-as : (extent : Extent) (e : Engine) (n : ℕ) (t : Tiling) (c : ℕ) (s : Range) (k : ℕ) (tile : Tile) → t ≡ tiling_in extent e → c ≡ count_of extent e
    → s ≡ stretch_of t.window e c n → k ≡ s.past - s.from → (own : List ℕ) →
    let r = stretch_of (window_in extent e.registers) e (count_of extent e) n in
    blitted (copy_of t) s.from k (plane_of t.width t.height tile) own
    ≡ blitted (copy_of (tiling_in extent e)) r.from (r.past - r.from) (plane_of extent.width extent.height tile) own
tiled-as extent e n t c s k tile p q h u own =
    let same = h ∙ ap₂ (λ (t : Tiling) c. stretch_of t.window e c n) p q in
    ap (λ k. blitted (copy_of t) s.from k (plane_of t.width t.height tile) own) u
    ∙ ap₂ (λ (t : Tiling) (s : Range). blitted (copy_of t) s.from (s.past - s.from) (plane_of t.width t.height tile) own) p same

pub tiled-whole : (extent : Extent) (e : Engine) (n : ℕ) (t : Tiling) (k : ℕ) (tile : Tile) → t ≡ tiling_in extent e → n ≡ count_of extent e
    → k ≡ blit_count e.registers.xy2 → (own : List ℕ) →
    let r = stretch_of (window_in extent e.registers) e (count_of extent e) n in
    blitted (copy_of t) 0 k (plane_of t.width t.height tile) own
    ≡ blitted (copy_of (tiling_in extent e)) r.from (r.past - r.from) (plane_of extent.width extent.height tile) own
unfolding stretch_of
tiled-whole extent e n t k tile p q u own =
    let b : Blit = copy_of (tiling_in extent e) in
    let plane = plane_of extent.width extent.height tile in
    let w = window_in extent e.registers in
    let whole : Range = record { from = 0; past = blit_count e.registers.xy2 } in
    let part : Range = record { from = index_of w e.registers e.visited; past = index_of w e.registers (e.visited + n - 1) + 1 } in
    let all : k ≡ blit_count e.registers.xy2 - 0 = omega (arith, u) in
    ap₂ (λ (t : Tiling) k. blitted (copy_of t) 0 k (plane_of t.width t.height tile) own) p all
    ∙ ap (λ (r : Range). blitted b r.from (r.past - r.from) plane own) (first_of (eqb n (count_of extent e)) whole part (eq-eqb n (count_of extent e) q))

-- ---- a blit visited at once, by the number that was counted

module _ (budget : ℕ) (extent : Extent) (e : Engine) (own other : List ℕ) (blit : is_blit (command_in e) ≡ true) (w : Window) (count : ℕ)
    (shown : w ≡ window_in extent e.registers)
    (counted : count ≡ visible_count (point_of e.registers.xy1) e.registers.xy2 e.registers.xy3 w) where
  all_shown : count ≡ count_of extent e
  all_shown =
      counted ∙ ap (visible_count (point_of e.registers.xy1) e.registers.xy2 e.registers.xy3) shown ∙ count-blit extent e blit

  pub blit-none : BlitDone budget extent e own other (record { pattern = e.pattern; steps = 0; finished = eqb count 0 }) own
  blit-none =
      record { within = omega arith; none = λ _. (none_done extent e count all_shown, refl); some = λ h. absurd (omega (arith, h)) }

  pub tiled-none : TiledDone budget extent e own other (record { pattern = e.pattern; steps = 0; finished = eqb count 0 }) own
  tiled-none =
      record { within = omega arith; none = λ _. (none_done extent e count all_shown, refl); some = λ h. absurd (omega (arith, h)) }

  -- all of a fill with a tile
  module _ (c : Command) (is : c ≡ command_in e) (tests : (eqb count 0 || ltb budget count || ltb 0 e.visited || c.solid) ≡ false) (within : Bool)
      (reads : within ≡ reads_own c) (fill : Fill)
      (taken : fill ≡ fill_of extent e.registers.xy0 (cond within own other)) where
    begins : (eqb count 0 || ltb budget count || ltb 0 e.visited) ≡ false
    begins = or-none-left (eqb count 0 || ltb budget count || ltb 0 e.visited) c.solid tests

    reaches-it : (eqb count 0 || ltb budget count) ≡ false
    reaches-it = or-none-left (eqb count 0 || ltb budget count) (ltb 0 e.visited) begins

    abbrev all_visits : Visits
    all_visits = record { pattern = e.pattern; steps = count; finished = eqb count count }

    whole-done : SomeDone extent e all_visits
    whole-done =
        let first = ltb-false 0 e.visited (or-none-right (eqb count 0 || ltb budget count) (ltb 0 e.visited) begins) in
        let all : count ≡ rest_in extent e = omega (arith, first, all_shown) in
        record { few = omega (arith, all); finished = ap (eqb count) all }

    from-tile : (m : List ℕ) →
        let s = stretch_of (window_in extent e.registers) e (count_of extent e) count in
        m ≡ cond fill.whole (blitted (copy_of (tiling_in extent e)) s.from (s.past - s.from) (plane_of extent.width extent.height fill.tile) own) own
        → TiledDone budget extent e own other all_visits m
    from-tile m h =
        let s = stretch_of (window_in extent e.registers) e (count_of extent e) count in
        let some = eqb-false count 0 (or-none-left (eqb count 0) (ltb budget count) reaches-it) in
        let same : fill ≡ fill_of extent e.registers.xy0 (cond (within_in e) own other) =
        taken ∙ ap (λ b. fill_of extent e.registers.xy0 (cond b own other)) (reads ∙ ap reads_own is) in
        record {
          within = omega (arith, ltb-false budget count (or-none-right (eqb count 0) (ltb budget count) reaches-it));
          none = λ z. absurd (some z);
          some =
              λ _. (
                whole-done,
                all_shown,
                flag_is e c is (λ c. c.solid) false (or-none-right (eqb count 0 || ltb budget count || ltb 0 e.visited) c.solid tests),
                refl,
                h
                    ∙ ap (λ (f : Fill). cond f.whole
                    (blitted (copy_of (tiling_in extent e)) s.from (s.past - s.from) (plane_of extent.width extent.height f.tile) own) own) same,
              );
        }

    pub tiled-drawn : fill.whole ≡ true → (t : Tiling) → t ≡ tiling_in extent e → (k : ℕ) → k ≡ blit_count e.registers.xy2 → (m : List ℕ)
        → m ≡ blitted (copy_of t) 0 k (plane_of t.width t.height fill.tile) own → TiledDone budget extent e own other all_visits m
    tiled-drawn whole t made k all m h =
        from-tile m (h ∙ tiled-whole extent e count t k fill.tile made all_shown all own ∙ first_of fill.whole _ own whole)

    pub tiled-missing : fill.whole ≡ false → (m : List ℕ) → m ≡ own → TiledDone budget extent e own other all_visits m
    tiled-missing missing m h = from-tile m (h ∙ second-of fill.whole _ own missing)

  module _ (s : Share) (shared : s ≡ share_of count e.visited budget) (c : Command) (is : c ≡ command_in e)
      (tests : (eqb s.n 0 || c.apat || leb 256 e.registers.key) ≡ false) where
    abbrev n : ℕ
    n = s.n

    rest : s.left ≡ count - e.visited
    rest = ap (λ (s : Share). s.left) shared

    least : n ≡ min budget (count - e.visited)
    least = ap (λ (s : Share). s.n) shared

    unspent : (eqb n 0 || c.apat) ≡ false
    unspent = or-none-left (eqb n 0 || c.apat) (leb 256 e.registers.key) tests

    pub some_left : (0 < n) × (e.visited + n ≤ count)
    some_left =
        let any = eqb-false n 0 (or-none-left (eqb n 0) c.apat unspent) in
        (omega (arith, any), omega (arith, any, rest, least))

    pub blit-some : (b : Blit) → b ≡ blit_in extent e → (p : Range) → p ≡ stretch_of w e count n → (k : ℕ)
        → k ≡ p.past - p.from → (own' : List ℕ) → own' ≡ blitted b p.from k other own
        → BlitDone budget extent e own other (record { pattern = e.pattern; steps = n; finished = eqb n s.left }) own'
    blit-some b made p part k long own' drawn =
        let same = part ∙ ap₂ (λ w c. stretch_of w e c n) shown all_shown in
        record {
          within = omega (arith, least);
          none = λ z. absurd (omega (arith, z, some_left.0));
          some =
              λ _. (
                some-done extent e count all_shown budget s shared e.pattern,
                flag_is e c is (λ c. c.apat) false (or-none-right (eqb n 0) c.apat unspent),
                leb-false 256 e.registers.key (or-none-right (eqb n 0 || c.apat) (leb 256 e.registers.key) tests),
                refl,
                drawn
                    ∙ ap (λ k. blitted b p.from k other own) long
                    ∙ ap₂ (λ (b : Blit) (p : Range). blitted b p.from (p.past - p.from) other own) made same,
              );
        }

pub blit-visits : (budget : ℕ) (extent : Extent) (e : Engine) (own other : List ℕ) → is_blit (command_in e) ≡ true → e.under_way ≡ true
    → Fit extent (length own) (length other) → (r : Visits) (own' : List ℕ) → BlitDone budget extent e own other r own' → 0 < r.steps
    → AreVisits extent e own other r own'
blit-visits budget extent e own other blit under-way fit r own' done any to drawn =
    let some = done.some any in
    let goes : Goes extent e r.steps (length own) (length other) =
    record {
      leaps = leaps-some extent e r some.0 any (length own) (length other) fit under-way;
      blit = blit;
      plain = some.1;
      key-small = some.2;
    } in
    rows_are extent e r.steps (length own) (length other) goes (after_visits e r)
    (after-moved extent e r some.0 any ∙ ap (moved_by extent e r.steps) some.3) to own other fit.own-long fit.other-long drawn
    own' some.4

-- the buffer that a fill reads, by the two flags
source_is : (to from : Bool) (own other : List ℕ)
    → cond (to && from || not to && not from) own other ≡ cond from (cond to own other) (cond to other own)
source_is true true own other = refl
source_is true false own other = refl
source_is false true own other = refl
source_is false false own other = refl

pub tiled-visits : (budget : ℕ) (extent : Extent) (e : Engine) (own other : List ℕ) → is_blit (command_in e) ≡ true → (command_in e).apat ≡ true
    → e.under_way ≡ true → Fit extent (length own) (length other) → (r : Visits) (own' : List ℕ) → TiledDone budget extent e own other r own' → 0 < r.steps
    → (to : Bool) → (command_in e).to_virtual ≡ to →
    let d = cond to other own in
    let v = cond to own other in
    let f = fill_of extent e.registers.xy0 (cond (command_in e).from_virtual v d) in
    scene (after_visits e r) (fill_after (after_visits e r) f) (cond to other own') (cond to own' other) ≡ visits_of r.steps extent (scene e f d v)
tiled-visits budget extent e own other blit hatched under-way fit r own' done any to drawn =
    let some = done.some any in
    let goes : GoesTiled extent e r.steps (length own) (length other) =
    record {
      leaps = leaps-some extent e r some.0 any (length own) (length other) fit under-way;
      blit = blit;
      hatched = hatched;
      unsolid = some.2;
    } in
    let moved = after-moved extent e r some.0 any ∙ ap (moved_by extent e r.steps) some.3 in
    let from = (command_in e).from_virtual in
    let f = fill_of extent e.registers.xy0 (cond from (cond to own other) (cond to other own)) in
    let s = stretch_of (window_in extent e.registers) e (count_of extent e) r.steps in
    let same : fill_of extent e.registers.xy0 (cond (within_in e) own other) ≡ f =
    ap (fill_of extent e.registers.xy0) (ap (λ t. cond (t && from || not t && not from) own other) drawn ∙ source_is to from own other) in
    let left = some.4 ∙ ap (λ (f : Fill). cond f.whole
    (blitted (copy_of (tiling_in extent e)) s.from (s.past - s.from) (plane_of extent.width extent.height f.tile) own) own) same in
    by_cases f.whole
    (λ t. tiled-are extent e r.steps (length own) (length other) goes (after_visits e r) moved f to drawn own other t fit.own-long own' (left ∙ sym (first_of f.whole _ own t)))
    (λ t.
    ap (λ m. scene (after_visits e r) (fill_after (after_visits e r) f) (cond to other m) (cond to m other)) (left ∙ sym (second-of f.whole _ own t))
    ∙ missing-are extent e r.steps (length own) (length other) goes (after_visits e r) moved f t (cond to other own) (cond to own other))
