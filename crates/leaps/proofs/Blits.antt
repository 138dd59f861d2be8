-- A visit of a blit is the one that the row loops draw.
-- Assumes nothing.
use Rattle.std.specs.Prelude.{Option, Some, None}
use mathlib.Core.Path.{◌≡◌, refl, ap, ap₂, sym, ◌∙◌}
use mathlib.Core.Bool.{Bool, true, false, not, cond, ◌&&◌, ◌||◌, and-true}
use mathlib.Core.List.{List}
use Prim.Native.Nat.{ℕ, ◌+◌, ◌-◌, ◌*◌, ◌/◌, ◌%◌, ◌<◌}
use native.Mathlib.Nat.{mod-eq_of_lt, mul_left_comm}
use native.Mathlib.Omega.{arith}
use lib.Dec.{eqb}
use lib.ListN.{get_or, set}
use lib.Seq.{set-get_or}
use Rattle.std.specs.Bool.{then_some}
use Rattle.lemmas.proofs.Booleans.{by_cases, and_right}
use Rattle.raster.specs.Raster.{bit, new_byte}
use Rattle.raster.specs.Selectors.{drawn, selected}
use Rattle.raster.proofs.Wide.{pen-as, selectors-as}
use Rattle.geometry.specs.Coordinates.{origin, point_of}
use Rattle.geometry.specs.Clip.{in_buffer, place_of, in_window, place_in}
use Rattle.geometry.specs.Blit.{blit_count, cell_visit, blit_point}
use Rattle.geometry.specs.declared.Point.{Point}
use Rattle.geometry.proofs.Blits.{cell-visit}
use Rattle.geometry.proofs.Stretches.{visible-lt}
use Rattle.geometry.proofs.Windows.{window-lets-through, buffer-of}
use Rattle.rows.specs.Rows.{is_key, mixed}
use Rattle.stipples.specs.Stipples.{bit_at, drawn_if, stippled}
use Rattle.blits.specs.Blits.{painted, reads, source_pixels, visited}
use Rattle.blits.specs.declared.Paint.{Paint}
use Rattle.blits.specs.declared.Paint.TheVariants.{Solid, Copied, Moved, Stippled, StippledWithin}
use Rattle.commands.specs.Visits.{command_in, window_in, count_of, cell_at, visit_at, clipped_out, through_to, target_of, source_at}
use Rattle.commands.proofs.Tests.{count-blit, cell-blit, position-blit}
use Rattle.sources.proofs.Reading.{source-solid, source-read, source-tiled, tiled-by, tile-missing, tile-pixel}
use Rattle.entries.specs.Fields.{is_blit}
use Rattle.sources.specs.Sources.{keyed, read_at, copied_at, copied_of, by_bit, bit_of, stippled_at, stippled_of, read_of, tiled_at}
use Rattle.tiles.specs.Tiles.{no_fill, pixel_of}
use Rattle.tiles.specs.declared.Fill.{Fill}
use Rattle.blits.specs.Tiled.{plane_of, copy_of}
use Rattle.blits.proofs.Planes.{plane-at}
use Rattle.commands.specs.Steps.{inked}
use Rattle.leaps.specs.Leaps.{pen_in, mix_in, stipple_in, from_other, from_own, paint_of, blit_in, tiling_in, index_of}
use Rattle.commands.specs.declared.Engine.{Engine}
use Rattle.geometry.specs.declared.Extent.{Extent}

-- a place, by two tests and by one
one-test : (t u : Bool) (p : Option ℕ) → cond t None (cond u p None) ≡ cond (not t && u) p None
one-test true u p = refl
one-test false u p = refl

-- the place of a visit that lies at a point
pub place-of-visit : (extent : Extent) (e : Engine) (k : ℕ) (p : Point) → visit_at extent e k ≡ Some p
    → target_of extent e k ≡ cond (in_window (window_in extent e.registers) p) (Some (place_in extent.width p)) None
unfolding place_of
place-of-visit extent e k p h =
    ap (through_to extent e.registers) h ∙ one-test (clipped_out e.registers p) (in_buffer extent.width extent.height p) (Some (place_in extent.width p))
    ∙ ap (λ t. cond t (Some (place_in extent.width p)) None)
    (sym (window-lets-through extent (command_in e).clip e.registers.clptl e.registers.clpbr p))

module _ (extent : Extent) (e : Engine) (k : ℕ) (blit : is_blit (command_in e) ≡ true) (few : k < count_of extent e) where
  abbrev index : ℕ
  index = index_of (window_in extent e.registers) e.registers k

  abbrev target : Point
  target = blit_point (point_of e.registers.xy1) e.registers.xy2 e.registers.xy3 index

  abbrev source : Point
  source = blit_point (point_of e.registers.xy0) e.registers.xy2 e.registers.xy3 index

  abbrev seen : Bool
  seen = in_window (window_in extent e.registers) target

  below : index < blit_count e.registers.xy2
  below =
      let g = e.registers in
      visible-lt (point_of g.xy1) g.xy2 g.xy3 (window_in extent g) k (omega (arith, few, count-blit extent e blit))

  -- the cell's pixel, from a corner on
  from-corner : (corner : ℕ)
      → cell_visit (point_of corner) e.registers.xy3 (cell_at extent e k) ≡ Some (blit_point (point_of corner) e.registers.xy2 e.registers.xy3 index)
  from-corner corner =
      ap (cell_visit (point_of corner) e.registers.xy3) (sym (cell-blit extent e k blit))
      ∙ cell-visit (point_of corner) e.registers.xy2 e.registers.xy3 index below

  visit-is : visit_at extent e k ≡ Some target
  visit-is = sym (position-blit e k (cell_at extent e k) blit) ∙ from-corner e.registers.xy1

  place_is : target_of extent e k ≡ cond seen (Some (place_in extent.width target)) None
  place_is = place-of-visit extent e k target visit-is

  read_at_lem : (t : Bool) (buffer : List ℕ) (i : ℕ)
      → read_at (command_in e) e.registers buffer (cond t (Some i) None) ≡ cond t (keyed (command_in e) e.registers (get_or buffer i 0)) None
  read_at_lem true buffer i = refl
  read_at_lem false buffer i = refl

  copied_is : (buffer : List ℕ)
      → copied_of (command_in e) e.registers extent (cell_at extent e k) buffer
      ≡ cond (in_buffer extent.width extent.height source) (keyed (command_in e) e.registers (get_or buffer (place_in extent.width source) 0)) None
  unfolding copied_of place_of
  copied_is buffer =
      ap (copied_at (command_in e) e.registers extent buffer) (from-corner e.registers.xy0)
      ∙ read_at_lem (in_buffer extent.width extent.height source) buffer (place_in extent.width source)

  stippled-is : (buffer : List ℕ)
      → stippled_of (command_in e) e.registers extent (cell_at extent e k) buffer
      ≡ cond (in_buffer (8 * extent.width) extent.height source) (by_bit (command_in e) e.registers (bit_of extent.width buffer source)) None
  unfolding stippled_of
  stippled-is buffer = ap (stippled_at (command_in e) e.registers extent buffer) (from-corner e.registers.xy0)

-- bit x of row y is bit x mod 8 of byte x div 8: rows are whole bytes
bit_is : (width : ℕ) (buffer : List ℕ) (p : Point) → bit_of width buffer p ≡ bit_at buffer (place_in (8 * width) p)
bit_is width buffer p =
    let x = p.x - origin in
    let y = p.y - origin in
    ap₂ (λ k i. eqb (bit (7 - k) (get_or buffer i 0)) 1) (first x (y * width) (y * (8 * width)) (mul_left_comm y 8 width))
    (byte x (y * width) (y * (8 * width)) (mul_left_comm y 8 width))
  where
    first : (x bytes bits : ℕ) → bits ≡ 8 * bytes → x % 8 ≡ (bits + x) % 8
    first x bytes bits h = omega arith

    byte : (x bytes bits : ℕ) → bits ≡ 8 * bytes → bytes + x / 8 ≡ (bits + x) / 8
    byte x bytes bits h = omega arith

pub code-small : (e : Engine) → (command_in e).code < 256
code-small e = omega arith

-- the new byte of a value is drawn by its pen
value-drawn : (e : Engine) (v old : ℕ) → new_byte (command_in e).code v old e.registers.mask ≡ drawn (pen_in e v) old
value-drawn e v old = sym (pen-as (command_in e).code e.registers.mask (code-small e) v old)

-- the mark of a value at a place that may be hidden
pub ink-value : (e : Engine) (v : ℕ) (t : Bool) (i : ℕ) (l : List ℕ)
    → inked e (Some v) (cond t (Some i) None) l ≡ cond t (set l i (new_byte (command_in e).code v (get_or l i 0) e.registers.mask)) l
ink-value e v true i l = refl
ink-value e v false i l = refl

-- a byte that is KEY, with KEY set
key-set : (t : Bool) (key s : ℕ) → is_key (then_some t key) s ≡ (t && eqb s key)
key-set true key s = refl
key-set false key s = refl

-- the mark of a byte that is read, unless it is KEY
ink-keyed : (e : Engine) (s i : ℕ) (l : List ℕ) → e.registers.key < 256
    → inked e (keyed (command_in e) e.registers s) (Some i) l ≡ set l i (mixed (mix_in e) s (get_or l i 0))
unfolding mixed
ink-keyed e s i l small =
    let same : e.registers.key % 256 ≡ e.registers.key = mod-eq_of_lt small in
    by_cases ((command_in e).key && eqb s e.registers.key)
    (λ t.
    ap (λ t. inked e (cond t None (Some s)) (Some i) l) t ∙ sym (set-get_or l i 0)
    ∙ ap (λ t. set l i (cond t (get_or l i 0) (drawn (selected (mix_in e).selectors s) (get_or l i 0))))
    (sym (key-set (command_in e).key (e.registers.key % 256) s ∙ ap (λ k. (command_in e).key && eqb s k) same ∙ t)))
    (λ t.
    ap (λ t. inked e (cond t None (Some s)) (Some i) l) t
    ∙ ap (set l i) (sym (selectors-as (command_in e).code e.registers.mask (code-small e) s (get_or l i 0)))
    ∙ ap (λ t. set l i (cond t (get_or l i 0) (drawn (selected (mix_in e).selectors s) (get_or l i 0))))
    (sym (key-set (command_in e).key (e.registers.key % 256) s ∙ ap (λ k. (command_in e).key && eqb s k) same ∙ t)))

-- the mark of a bit
ink-bit : (e : Engine) (one : Bool) (i : ℕ) (l : List ℕ) → inked e (by_bit (command_in e) e.registers one) (Some i) l ≡ set l i (stippled (stipple_in e) one (get_or l i 0))
ink-bit e true i l = ap (set l i) (value-drawn e e.registers.fore (get_or l i 0))
ink-bit e false i l = by (command_in e).trnsp
  where
    by : (t : Bool)
        → inked e (cond t None (Some e.registers.back)) (Some i) l
        ≡ set l i (drawn_if (cond t None (Some (pen_in e e.registers.back))) (get_or l i 0))
    by true = sym (set-get_or l i 0)
    by false = ap (set l i) (value-drawn e e.registers.back (get_or l i 0))

-- what is read, at a place and from a place that may be hidden
ink-read : (e : Engine) (s : Option ℕ) (x : ℕ) (t u : Bool) (i : ℕ) (l : List ℕ) → inked e s (Some i) l ≡ set l i x
    → inked e (cond u s None) (cond t (Some i) None) l ≡ cond (t && u) (set l i x) l
ink-read e s x true true i l h = h
ink-read e s x true false i l h = refl
ink-read e s x false u i l h = kept (cond u s None)
  where
    kept : (o : Option ℕ) → inked e o None l ≡ l
    kept (Some v) = refl
    kept None = refl

-- a visit's mark, by what the blit is painted from
module _ (extent : Extent) (e : Engine) (k : ℕ) (blit : is_blit (command_in e) ≡ true) (few : k < count_of extent e) (small : e.registers.key < 256)
    (plain : (command_in e).apat ≡ false) where
  abbrev at : ℕ
  at = place_in extent.width (target extent e k blit few)

  abbrev shown : Bool
  shown = seen extent e k blit few

  -- the source in rows of so many pixels
  abbrev from : ℕ → ℕ
  from stride = place_in stride (source extent e k blit few)

  abbrev inside : ℕ → Bool
  inside stride = in_buffer stride extent.height (source extent e k blit few)

  -- a visit of a blit with this paint
  abbrev marked : Paint → List ℕ → List ℕ → List ℕ
  marked paint other l =
      let stride = source_pixels paint extent.width in
      cond (shown && (not (reads paint) || inside stride)) (set l at (painted paint other l (from stride) (get_or l at 0))) l

  solid-marks : (l other : List ℕ)
      → inked e (Some e.registers.fore) (target_of extent e k) l
      ≡ marked (Solid (pen_in e e.registers.fore)) other l
  solid-marks l other =
      ap (λ q. inked e (Some e.registers.fore) q l) (place_is extent e k blit few) ∙ ink-value e e.registers.fore shown at l
      ∙ ap₂ (λ t x. cond t (set l at x) l) (sym (and-true shown)) (value-drawn e e.registers.fore (get_or l at 0))

  byte-marks : (l buffer : List ℕ)
      → inked e (copied_of (command_in e) e.registers extent (cell_at extent e k) buffer) (target_of extent e k) l
      ≡ cond (shown && inside extent.width) (set l at (mixed (mix_in e) (get_or buffer (from extent.width) 0) (get_or l at 0))) l
  byte-marks l buffer =
      let s = get_or buffer (from extent.width) 0 in
      ap₂ (λ s q. inked e s q l) (copied_is extent e k blit few buffer) (place_is extent e k blit few)
      ∙ ink-read e (keyed (command_in e) e.registers s) (mixed (mix_in e) s (get_or l at 0)) shown (inside extent.width) at l (ink-keyed e s at l small)

  bit-marks : (l buffer : List ℕ)
      → inked e (stippled_of (command_in e) e.registers extent (cell_at extent e k) buffer) (target_of extent e k) l
      ≡ cond (shown && inside (8 * extent.width)) (set l at (stippled (stipple_in e) (bit_at buffer (from (8 * extent.width))) (get_or l at 0))) l
  bit-marks l buffer =
      let p = source extent e k blit few in
      let one = bit_of extent.width buffer p in
      ap₂ (λ s q. inked e s q l) (stippled-is extent e k blit few buffer) (place_is extent e k blit few)
      ∙ ink-read e (by_bit (command_in e) e.registers one) (stippled (stipple_in e) one (get_or l at 0)) shown (inside (8 * extent.width)) at l (ink-bit e one at l)
      ∙ ap (λ one. cond (shown && inside (8 * extent.width)) (set l at (stippled (stipple_in e) one (get_or l at 0))) l) (bit_is extent.width buffer p)

  -- bits or bytes
  by_kind : (t : Bool) (a b : Option ℕ) (p q : Paint) (l other : List ℕ) → inked e a (target_of extent e k) l ≡ marked p other l
      → inked e b (target_of extent e k) l ≡ marked q other l → inked e (cond t a b) (target_of extent e k) l ≡ marked (cond t p q) other l
  by_kind true a b p q l other f g = f
  by_kind false a b p q l other f g = g

  -- from the other buffer, and from the one that is drawn on
  other-marks : (l other : List ℕ)
      → inked e (read_of (command_in e) e.registers extent (cell_at extent e k) other) (target_of extent e k) l ≡ marked (from_other e) other l
  other-marks l other =
      let bits = stippled_of (command_in e) e.registers extent (cell_at extent e k) other in
      let bytes = copied_of (command_in e) e.registers extent (cell_at extent e k) other in
      by_kind (command_in e).stpl bits bytes (Stippled (stipple_in e)) (Copied (mix_in e)) l other (bit-marks l other) (byte-marks l other)

  own-marks : (l other : List ℕ)
      → inked e (read_of (command_in e) e.registers extent (cell_at extent e k) l) (target_of extent e k) l ≡ marked (from_own e) other l
  own-marks l other =
      let bits = stippled_of (command_in e) e.registers extent (cell_at extent e k) l in
      let bytes = copied_of (command_in e) e.registers extent (cell_at extent e k) l in
      by_kind (command_in e).stpl bits bytes (StippledWithin (stipple_in e)) (Moved (mix_in e)) l other (bit-marks l l) (byte-marks l l)

  -- the mark on the buffer that is drawn on, beside the other one
  abbrev Marks : Option ℕ → List ℕ → List ℕ → Type 0
  Marks s own other = inked e s (target_of extent e k) own ≡ visited (blit_in extent e) other (index extent e k blit few) own

  marks-as : (paint : Paint) (s : Option ℕ) (own other : List ℕ) → paint_of e ≡ paint
      → inked e s (target_of extent e k) own ≡ marked paint other own → Marks s own other
  unfolding visited
  marks-as paint s own other p h = h ∙ ap (λ p. marked p other own) (sym p)

  -- `to` is whether the virtual buffer is drawn on
  abbrev MarksOn : Bool → List ℕ → List ℕ → Type 0
  MarksOn to own other = Marks (source_at extent e no_fill k (cond to other own) (cond to own other)) own other

  -- from a buffer that is read
  source-marks : (from : Bool) (d v own other : List ℕ) (paint : Paint) → (command_in e).solid ≡ false → (command_in e).from_virtual ≡ from
      → paint_of e ≡ paint
      → inked e (read_of (command_in e) e.registers extent (cell_at extent e k) (cond from v d)) (target_of extent e k) own ≡ marked paint other own
      → Marks (source_at extent e no_fill k d v) own other
  source-marks from d v own other paint s f p h =
      marks-as paint (source_at extent e no_fill k d v) own other p
      (ap (λ s. inked e s (target_of extent e k) own)
      (sym (source-read (command_in e) e.registers e.pattern extent no_fill (cell_at extent e k) d v s blit plain from f)) ∙ h)

  read-marks-on : (to from : Bool) (own other : List ℕ) → (command_in e).solid ≡ false → (command_in e).to_virtual ≡ to
      → (command_in e).from_virtual ≡ from → MarksOn to own other
  unfolding paint_of
  read-marks-on true true own other s v f = source-marks true other own own other (from_own e) s f (rw (s, v, f)) (own-marks own other)
  read-marks-on true false own other s v f = source-marks false other own own other (from_other e) s f (rw (s, v, f)) (other-marks own other)
  read-marks-on false true own other s v f = source-marks true own other own other (from_other e) s f (rw (s, v, f)) (other-marks own other)
  read-marks-on false false own other s v f = source-marks false own other own other (from_own e) s f (rw (s, v, f)) (own-marks own other)

  pub marks-on : (to : Bool) (own other : List ℕ) → (command_in e).to_virtual ≡ to → MarksOn to own other
  unfolding paint_of
  marks-on to own other v =
      by_cases (command_in e).solid
      (λ s.
      let d = cond to other own in
      let w = cond to own other in
      marks-as (Solid (pen_in e e.registers.fore)) (source_at extent e no_fill k d w) own other (rw s)
      (ap (λ s. inked e s (target_of extent e k) own)
      (sym (source-solid (command_in e) e.registers e.pattern extent no_fill (cell_at extent e k) d w s)) ∙ solid-marks own other))
      (λ s. read-marks-on to (command_in e).from_virtual own other s v refl)

-- a visit's mark from a tile
module _ (extent : Extent) (e : Engine) (k : ℕ) (blit : is_blit (command_in e) ≡ true) (few : k < count_of extent e) (hatched : (command_in e).apat ≡ true)
    (unsolid : (command_in e).solid ≡ false) (fill : Fill) (d v : List ℕ) where
  abbrev here : Point
  here = target extent e k blit few

  tile-source : tiled_at fill (Some here) ≡ source_at extent e fill k d v
  tile-source =
      tiled-by e.registers fill (cell_at extent e k) (cell_visit (point_of e.registers.xy1) e.registers.xy3 (cell_at extent e k)) (Some here) refl
      (from-corner extent e k blit few e.registers.xy1)
      ∙ source-tiled (command_in e) e.registers e.pattern extent fill (cell_at extent e k) d v unsolid blit hatched

  pub no-tile-marks : fill.whole ≡ false → (l : List ℕ) → inked e (source_at extent e fill k d v) (target_of extent e k) l ≡ l
  no-tile-marks h l = ap (λ s. inked e s (target_of extent e k) l) (sym tile-source ∙ sym (tile-missing fill here h))

  seen-in : seen extent e k blit few ≡ true → in_buffer extent.width extent.height here ≡ true
  seen-in t =
      and_right (not (clipped_out e.registers here)) (in_buffer extent.width extent.height here)
      (sym (window-lets-through extent (command_in e).clip e.registers.clptl e.registers.clpbr here) ∙ t)

  abbrev plane : List ℕ
  plane = plane_of extent.width extent.height fill.tile

  abbrev pixel : ℕ
  pixel = pixel_of fill.tile (here.x - origin) (here.y - origin)

  pixel-is : seen extent e k blit few ≡ true → get_or plane (place_in extent.width here) 0 ≡ pixel
  pixel-is t =
      let inside = buffer-of extent.width extent.height here (seen-in t) in
      plane-at extent.width extent.height fill.tile (here.x - origin) (here.y - origin) inside.2 inside.3

  -- what is seen is read from the plane
  both_ways : (t u : Bool) (l : List ℕ) (i a b : ℕ) → (t ≡ true → u ≡ true) → (t ≡ true → a ≡ b) → cond t (set l i a) l ≡ cond (t && (false || u)) (set l i b) l
  both_ways true u l i a b h e = ap (set l i) (e refl) ∙ ap (λ u. cond (true && (false || u)) (set l i b) l) (sym (h refl))
  both_ways false u l i a b h e = refl

  pub tile-marks : fill.whole ≡ true → (l : List ℕ)
      → inked e (source_at extent e fill k d v) (target_of extent e k) l ≡ visited (copy_of (tiling_in extent e)) plane (index extent e k blit few) l
  unfolding visited mixed
  tile-marks h l =
      let at = place_in extent.width here in
      ap₂ (λ s q. inked e s q l) (sym tile-source ∙ sym (tile-pixel fill here h (here.x - origin) (here.y - origin) pixel refl refl refl))
      (place_is extent e k blit few)
      ∙ ink-value e pixel (seen extent e k blit few) at l
      ∙ both_ways (seen extent e k blit few) (in_buffer extent.width extent.height here) l at
      (new_byte (command_in e).code pixel (get_or l at 0) e.registers.mask)
      (drawn (selected (mix_in e).selectors (get_or plane at 0)) (get_or l at 0))
      seen-in
      (λ t.
      sym (selectors-as (command_in e).code e.registers.mask (code-small e) pixel (get_or l at 0))
      ∙ ap (λ s. drawn (selected (mix_in e).selectors s) (get_or l at 0)) (sym (pixel-is t)))
