-- A SOLID line without NLST draws a stroke, whose pixels are at places of their own and from B to A the same in the opposite
-- order. So it leaves the same picture from either end, and code 6 twice restores it: of every scene, in lists, by the calls.
-- Assumes nothing.
use Rattle.std.specs.Prelude.{Some}
use mathlib.Core.Path.{◌≡◌, refl, ap, sym, ◌∙◌}
use mathlib.Core.Bool.{Bool, true, false, not, cond, ◌&&◌, ◌||◌}
use mathlib.Core.List.{List, [], ◌∷◌, ◌++◌}
use Prim.Native.Nat.{ℕ, suc, ◌+◌, ◌-◌, ◌%◌, ◌≤◌, ◌<◌}
use native.Mathlib.Omega.{arith}
use borrow.Author.Tests.{lt-ltb}
use lib.Dec.{eqb, ltb}
use lib.ListN.{get_or}
use Rattle.lemmas.specs.Turns.{in_turn}
use Rattle.lemmas.proofs.Booleans.{and_right, both, first_of}
use Rattle.lemmas.proofs.Turns.{turn_agree}
use Rattle.lemmas.proofs.Orders.{either_order, twice-undone}
use Rattle.raster.specs.Raster.{new_byte}
use Rattle.raster.specs.Selectors.{pen_of, drawn}
use Rattle.raster.specs.declared.Pen.{Pen}
use Rattle.raster.proofs.Undone.{six-undoes-itself}
use Rattle.raster.proofs.Wide.{pen-as}
use Rattle.geometry.specs.Coordinates.{point_of}
use Rattle.geometry.specs.Clip.{rect_of, in_rect, in_buffer, place_in, window_of, in_window}
use Rattle.geometry.specs.Line.{steps_of, line_count, line_point}
use Rattle.geometry.specs.declared.Extent.{Extent}
use Rattle.geometry.specs.declared.Point.{Point}
use Rattle.geometry.specs.declared.Window.{Window}
use Rattle.geometry.proofs.Clips.{places-differ}
use Rattle.geometry.proofs.Windows.{window-lets-through}
use Rattle.geometry.proofs.Lines.{points-differ}
use Rattle.geometry.proofs.Ends.{steps-turned, same-from-b}
use Rattle.entries.specs.Fields.{blits, polylines, lines, command_of}
use Rattle.entries.specs.declared.decoding.Entry.{Entry}
use Rattle.registers.specs.Registers.{written_of}
use Rattle.tiles.specs.Tiles.{no_fill}
use Rattle.tiles.specs.declared.Fill.{Fill}
use Rattle.sources.proofs.Reading.{source-solid}
use Rattle.strokes.specs.Strokes.{plotted, pixels_of, Dashed}
use Rattle.strokes.proofs.Traced.{pixels-in-turn}
use Rattle.commands.specs.Hatching.{fill_after}
use Rattle.commands.specs.Visits.{command_in, line_start, shows, count_of, cell_at, target_of, source_at}
use Rattle.commands.specs.Steps.{Scene, scene, inked, visits_of, with_word, entered_by, taken_of}
use Rattle.commands.specs.Wholes.{pixels_left, done_by, done_of}
use Rattle.commands.specs.declared.Engine.{Engine}
use Rattle.commands.proofs.Visiting.{visits-registers}
use Rattle.commands.proofs.Counts.{take_done}
use Rattle.commands.proofs.Lists.{done-parts, lists-end}
use Rattle.leaps.specs.Leaps.{moved_to, moved_by}
use Rattle.leaps.proofs.Visiting.{scene_on, Marked, visits-are}
use Rattle.leaps.proofs.Strokes.{count-is, solid_state, solid-strokes}
use Rattle.board.specs.Steps.{Machine, scene_of}
use Rattle.board.proofs.Wholes.{posted-rest, posted-done}
use Rattle.statements.specs.SolidLines.{SamePicture, SolidLine, Context, context_of, drawn_of, SameFromEitherEnd, exclusive_or, TwiceRestores, writing, line_from, LineNext, SameInLists, TwiceInLists, Job, entries_of, ran_on, Completed, SameWhenPosted, TwiceWhenPosted}
use Rattle.statements.proofs.Bytes.{done-bytes}

-- ---- the stroke of a line from A to B
abbrev pen_in : Context → Pen
pen_in c = pen_of (command_of c.cmd).code (c.fore % 256) (c.mask % 256)

abbrev window_in : Extent → Context → Window
window_in extent c = window_of extent (command_of c.cmd).clip c.clptl c.clpbr

abbrev point_at : ℕ → ℕ → ℕ → Point
point_at a b k = line_point (point_of a) (point_of b) k

abbrev pixel : Extent → Context → ℕ → ℕ → ℕ → List ℕ → List ℕ
pixel extent c a b k = plotted extent.width (window_in extent c) (pen_in c) (point_at a b k)

abbrev pixel_count : ℕ → ℕ → ℕ
pixel_count a b = steps_of (point_of a) (point_of b) + 1

abbrev stroke : Extent → Context → ℕ → ℕ → List ℕ → List ℕ
stroke extent c a b l = in_turn (pixel extent c a b) (pixel_count a b) l

-- the pixels that are drawn are at places that are all different
module _ (extent : Extent) (c : Context) (a b : ℕ) where
  abbrev place : ℕ → ℕ
  place k = place_in extent.width (point_at a b k)

  abbrev visible : ℕ → Bool
  visible k = in_window (window_in extent c) (point_at a b k)

  in_buffer_lem : (k : ℕ) → visible k ≡ true → in_buffer extent.width extent.height (point_at a b k) ≡ true
  in_buffer_lem k h =
      let clip = (command_of c.cmd).clip in
      let p = point_at a b k in
      and_right (not (clip && not (in_rect (rect_of c.clptl c.clpbr) p))) (in_buffer extent.width extent.height p)
      (sym (window-lets-through extent clip c.clptl c.clpbr p) ∙ h)

  places-apart : (i j : ℕ) → i < pixel_count a b → j < pixel_count a b → visible i ≡ true → visible j ≡ true → place i ≡ place j → i ≡ j
  places-apart i j h k s t e =
      points-differ (point_of a) (point_of b) i j (omega (arith, h)) (omega (arith, k))
      (places-differ extent (point_at a b i) (point_at a b j) (in_buffer_lem i s) (in_buffer_lem j t) e)

-- from the other end
stroke-turned : (extent : Extent) (c : Context) (a b : ℕ) (l : List ℕ) → stroke extent c a b l ≡ stroke extent c b a l
unfolding plotted
stroke-turned extent c a b l =
    let n = steps_of (point_of a) (point_of b) in
    turn_agree (pixel extent c a b) (λ k. pixel extent c b a (n + 1 - suc k)) (n + 1) l
    (λ k h m.
    ap (λ p. plotted extent.width (window_in extent c) (pen_in c) p m)
    (same-from-b (point_of a) (point_of b) k (inside n k h) ∙ ap (point_at b a) (from_end n k)))
    ∙ ap (λ n. in_turn (λ k. pixel extent c b a (n + 1 - suc k)) (n + 1) l) (sym (steps-turned (point_of a) (point_of b)))
    ∙ either_order (visible extent c b a) (place extent c b a) (λ k. drawn (pen_in c)) (pixel_count b a) (places-apart extent c b a) l
  where
    inside : (n k : ℕ) → k < n + 1 → k ≤ n
    inside n k h = omega arith

    from_end : (n k : ℕ) → n - k ≡ n + 1 - suc k
    from_end n k = omega arith

-- twice with code 6
pen-undone : (c : Context) → (command_of c.cmd).code ≡ exclusive_or → (x : ℕ) → x < 256 → drawn (pen_in c) (drawn (pen_in c) x) ≡ x
pen-undone c six x h =
    let new : (d : ℕ) → drawn (pen_in c) d ≡ new_byte exclusive_or c.fore d c.mask =
    λ d.
    pen-as (command_of c.cmd).code c.mask (omega (arith, six)) c.fore d
    ∙ ap (λ n. new_byte n c.fore d c.mask) six in
    new (drawn (pen_in c) x)
    ∙ ap (λ d. new_byte exclusive_or c.fore d c.mask) (new x)
    ∙ six-undoes-itself c.fore x c.mask h

stroke-undone : (extent : Extent) (c : Context) (a b : ℕ) → (command_of c.cmd).code ≡ exclusive_or → (l : List ℕ)
    → ((k : ℕ) → get_or l k 0 < 256) → stroke extent c a b (stroke extent c a b l) ≡ l
unfolding plotted
stroke-undone extent c a b six l bytes =
    let at = place extent c a b in
    twice-undone (visible extent c a b) at (λ k. drawn (pen_in c)) (pixel_count a b) (places-apart extent c a b) l
    (λ k h. pen-undone c six (get_or l (at k) 0) (bytes (at k)))

-- ---- all visits of the line draw its stroke on the one buffer, and the other stays
abbrev to_virtual : Context → Bool
to_virtual c = (command_of c.cmd).to_virtual

abbrev drawn_if : Bool → (List ℕ → List ℕ) → List ℕ → List ℕ
drawn_if t f l = cond t (f l) l

-- a SOLID line draws the same whatever tile is held
any-tile : (extent : Extent) (e : Engine) (tile : Fill) (to : Bool) (other : List ℕ) (t : ℕ → Dashed) → (command_in e).solid ≡ true
    → Marked extent e no_fill to other t → Marked extent e tile to other t
any-tile extent e tile to other t solid marked =
    record {
      buffers = λ k few.
          let f = moved_to e k (t k).pattern in
          let own = (t k).buffer in
          let value : (tile : Fill) → Some e.registers.fore ≡ source_at extent f tile (e.visited + k) (cond to other own) (cond to own other) =
          λ tile. source-solid (command_in f) f.registers f.pattern extent tile (cell_at extent f (e.visited + k)) (cond to other own) (cond to own other) solid in
          ap (λ o. inked f o (target_of extent f (e.visited + k)) own) (sym (value tile) ∙ value no_fill) ∙ marked.buffers k few;
      patterns = marked.patterns;
    }

module _ (extent : Extent) (a b : ℕ) (s : Scene) (line : SolidLine a b s.engine) where
  abbrev e : Engine
  e = s.engine

  abbrev c : Context
  c = context_of e.registers

  all-pixels : count_of extent e ≡ pixel_count a b
  all-pixels =
      count-is extent e line.line ∙ (λ i. line_count (point_of (line.start i)) (point_of (line.end i)) (line.style.no-nlst i))

  left : pixels_left shows extent e ≡ pixel_count a b
  left =
      let whole : count_of extent e - 0 ≡ count_of extent e = omega arith in
      (λ i. cond (line.under-way i) (count_of extent e - line.unvisited i) 0) ∙ whole ∙ all-pixels

  strokes : (l : List ℕ) → (solid_state extent e line.line l (pixel_count a b)).buffer ≡ stroke extent c a b l
  strokes l =
      let n = pixel_count a b in
      let on : (k : ℕ) → e.visited + k ≡ k = λ k. omega (arith, line.unvisited) in
      sym (pixels-in-turn extent.width (window_in extent c) (pen_in c) (point_of (line_start e)) (point_of e.registers.xy1) e.visited n l)
      ∙ (λ i.
      in_turn (λ k. plotted extent.width (window_in extent c) (pen_in c) (line_point (point_of (line.start i)) (point_of (line.end i)) (on k i))) n l)

  visits-draw : (to : Bool) → to_virtual c ≡ to → (own other : List ℕ) → s ≡ scene_on s.fill e to own other
      → drawn_of extent s ≡ scene_on s.fill (moved_by extent e (pixel_count a b) e.pattern) to (stroke extent c a b own) other
  unfolding pixels_of
  visits-draw to t own other q =
      let n = pixel_count a b in
      let some = below e.visited (steps_of (point_of a) (point_of b)) (count_of extent e) line.unvisited all-pixels in
      let few = within e.visited n (count_of extent e) line.unvisited all-pixels in
      (λ i. visits_of (left i) extent (q i))
      ∙ visits-are extent e s.fill to other (solid_state extent e line.line own) t line.under-way some refl
      (any-tile extent e s.fill to other (solid_state extent e line.line own) line.style.solid
      (solid-strokes extent e line.line line.style.solid to other own)) n few
      ∙ ap (λ l. scene_on s.fill (moved_by extent e n e.pattern) to l other) (strokes own)
    where
      below : (v n c : ℕ) → v ≡ 0 → c ≡ n + 1 → v < c
      below v n c p q = omega arith

      within : (v n c : ℕ) → v ≡ 0 → c ≡ n → v + n ≤ c
      within v n c p q = omega arith

  abbrev Draws : Bool → Type 0
  Draws to =
      ((drawn_of extent s).display ≡ drawn_if (not to) (stroke extent c a b) s.display)
      × ((drawn_of extent s).virt ≡ drawn_if to (stroke extent c a b) s.virt)

  with-fill : s ≡ scene e (fill_after e s.fill) s.display s.virt
  with-fill = ap (λ f. scene e f s.display s.virt) (first_of e.under_way s.fill no_fill line.under-way)

  draws-on : (to : Bool) → to_virtual c ≡ to → Draws to
  draws-on true t = let r = visits-draw true t s.virt s.display with-fill in (ap (λ r. r.display) r, ap (λ r. r.virt) r)
  draws-on false t = let r = visits-draw false t s.display s.virt with-fill in (ap (λ r. r.display) r, ap (λ r. r.virt) r)

  draws : Draws (to_virtual c)
  draws = draws-on (to_virtual c) refl

pub same-from-either-end : SameFromEitherEnd
same-from-either-end extent a b s t one two same picture =
    let x = draws extent a b s one in
    let y = draws extent b a t two in
    record {
      display-same = x.0 ∙ either_way (λ c. not (to_virtual c)) picture.display-same ∙ sym y.0;
      virt-same = x.1 ∙ either_way to_virtual picture.virt-same ∙ sym y.1;
    }
  where
    either_way : (to : Context → Bool) {l m : List ℕ} → l ≡ m →
        let c = context_of s.engine.registers in
        let d = context_of t.engine.registers in
        drawn_if (to c) (stroke extent c a b) l ≡ drawn_if (to d) (stroke extent d b a) m
    either_way to {l} {m} p =
        let c = context_of s.engine.registers in
        (λ i. drawn_if (to c) (λ l. stroke-turned extent c a b l i) l)
        ∙ (λ i. drawn_if (to (same i)) (stroke extent (same i) b a) (p i))

pub twice-restores : TwiceRestores
twice-restores extent a b s t one two same six bytes picture =
    let x = draws extent a b s one in
    let y = draws extent a b t two in
    record {
      display-same = y.0 ∙ again (λ c. not (to_virtual c)) (sym picture.display-same ∙ x.0) bytes.display-bytes;
      virt-same = y.1 ∙ again to_virtual (sym picture.virt-same ∙ x.1) bytes.virt-bytes;
    }
  where
    drawn-twice : (t : Bool) (f : List ℕ → List ℕ) (l : List ℕ) → f (f l) ≡ l → drawn_if t f (drawn_if t f l) ≡ l
    drawn-twice true f l p = p
    drawn-twice false f l p = refl

    again : (to : Context → Bool) {l m : List ℕ} →
        let c = context_of s.engine.registers in
        let d = context_of t.engine.registers in
        m ≡ drawn_if (to c) (stroke extent c a b) l → ((k : ℕ) → get_or l k 0 < 256) → drawn_if (to d) (stroke extent d a b) m ≡ l
    again to {l} {m} p h =
        let c = context_of s.engine.registers in
        (λ i. drawn_if (to (sym same i)) (stroke extent (sym same i) a b) (p i))
        ∙ drawn-twice (to c) (stroke extent c a b) l (stroke-undone extent c a b six l h)

-- ---- in lists: a line's ends are written, and it is triggered
abbrev triggered_from : Extent → Scene → ℕ → ℕ → Scene
triggered_from extent t a b = taken_of extent (taken_of extent t (writing 9 a)) (writing 12 b)

module _ (extent : Extent) (t : Scene) (a b : ℕ) where
  same-context : context_of (triggered_from extent t a b).engine.registers ≡ context_of t.engine.registers
  unfolding entered_by written_of
  same-context = refl

  is-line : LineNext t.engine → SolidLine a b (triggered_from extent t a b).engine
  unfolding entered_by written_of
  is-line next =
      let f = with_word (taken_of extent t (writing 9 a)).engine (writing 12 b) in
      let line = ap lines next.opcode in
      let all : count_of extent f ≡ pixel_count a b =
      count-is extent f line
      ∙ (λ i. line_count (point_of (cond (polylines (next.opcode i)) f.last a)) (point_of b) (next.style.no-nlst i)) in
      record {
        under-way =
            both (ap (λ o. blits o || lines o) next.opcode)
            (ap (ltb 0) all ∙ lt-ltb 0 (pixel_count a b) (omega arith));
        unvisited = refl;
        line = line;
        style = next.style;
        start = ap (λ o. cond (polylines o) (triggered_from extent t a b).engine.last a) next.opcode;
        end = refl;
      }

  line-done : t.engine.under_way ≡ false → done_of extent t (line_from a b) ≡ drawn_of extent (triggered_from extent t a b)
  unfolding done_by entered_by
  line-done rest =
      take_done shows extent t rest (writing 9 a) (writing 12 b ∷ [])
      ∙ take_done shows extent (taken_of extent t (writing 9 a)) refl (writing 12 b) []

-- after other entries
module _ (extent : Extent) (s : Scene) (rest : s.engine.under_way ≡ false) (es : List Entry) (a b : ℕ) where
  line_after : done_of extent s (es ++ line_from a b) ≡ drawn_of extent (triggered_from extent (done_of extent s es) a b)
  line_after =
      done-parts shows extent s es (line_from a b) rest
      ∙ line-done extent (done_of extent s es) a b (lists-end shows extent s es rest).idle

  context-after : context_of (done_of extent s (es ++ line_from a b)).engine.registers ≡ context_of (done_of extent s es).engine.registers
  context-after =
      let t = triggered_from extent (done_of extent s es) a b in
      ap (λ r. context_of r.engine.registers) line_after
      ∙ ap context_of (visits-registers shows (pixels_left shows extent t.engine) extent t)
      ∙ same-context extent (done_of extent s es) a b

  next-after : LineNext (done_of extent s es).engine → LineNext (done_of extent s (es ++ line_from a b)).engine
  next-after next =
      record {
        opcode = ap (λ (c : Context). (command_of c.cmd).opcode) context-after ∙ next.opcode;
        style =
            record {
              solid = ap (λ (c : Context). (command_of c.cmd).solid) context-after ∙ next.style.solid;
              no-nlst = ap (λ (c : Context). (command_of c.cmd).nlst) context-after ∙ next.style.no-nlst;
            };
      }

picture-by : {s t : Scene} → s ≡ t → SamePicture s t
picture-by p = record { display-same = ap (λ s. s.display) p; virt-same = ap (λ s. s.virt) p }

picture-join : {s t u : Scene} → SamePicture s t → SamePicture t u → SamePicture s u
picture-join p q =
    record { display-same = p.display-same ∙ q.display-same; virt-same = p.virt-same ∙ q.virt-same }

pub same-in-lists : SameInLists
same-in-lists extent s es a b rest next =
    let t = done_of extent s es in
    picture-join (picture-by (line_after extent s rest es a b))
    (picture-join
    (same-from-either-end extent a b (triggered_from extent t a b) (triggered_from extent t b a) (is-line extent t a b next)
    (is-line extent t b a next) (same-context extent t a b ∙ sym (same-context extent t b a))
    (record { display-same = refl; virt-same = refl }))
    (picture-by (sym (line_after extent s rest es b a))))

pub twice-in-lists : TwiceInLists
twice-in-lists extent s es a b rest next six bytes =
    let t = done_of extent s es in
    let once = es ++ line_from a b in
    let u = done_of extent s once in
    let again = next-after extent s rest es a b next in
    let kept = done-bytes extent s es bytes in
    let drawn-once = line_after extent s rest es a b in
    let restored =
    twice-restores extent a b (triggered_from extent t a b) (triggered_from extent u a b) (is-line extent t a b next) (is-line extent u a b again)
    (same-context extent t a b ∙ sym (context-after extent s rest es a b) ∙ sym (same-context extent u a b))
    (ap (λ (c : Context). (command_of c.cmd).code) (same-context extent t a b) ∙ six)
    (record { display-bytes = kept.display-bytes; virt-bytes = kept.virt-bytes })
    (record { display-same = ap (λ s. s.display) (sym drawn-once); virt-same = ap (λ s. s.virt) (sym drawn-once) }) in
    picture-join (picture-by (line_after extent s rest once a b))
    (record { display-same = restored.display-same; virt-same = restored.virt-same })

-- ---- posted and run
module _ (m : Machine) (j : Job) (w : Completed m j) where
  at_rest : m.board.engine.under_way ≡ false
  at_rest = posted-rest j.memory j.start j.count m.board w.idle w.accepted

  ran-is : (es : List Entry) → entries_of j ≡ es → scene_of (ran_on m j).after ≡ done_of m.board.sizes.extent (scene_of m) es
  ran-is es p =
      posted-done m.board j.memory j.start j.count j.budget m.display m.virt w.idle w.accepted w.done w.emptied
      ∙ ap (done_of m.board.sizes.extent (scene_of m)) p

pub same-when-posted : SameWhenPosted
same-when-posted m i j es a b w v p q next =
    picture-join (picture-by (ran-is m i w (es ++ line_from a b) p))
    (picture-join (same-in-lists m.board.sizes.extent (scene_of m) es a b (at_rest m i w) next)
    (picture-by (sym (ran-is m j v (es ++ line_from b a) q))))

pub twice-when-posted : TwiceWhenPosted
twice-when-posted m j es a b w p next six bytes =
    picture-join (picture-by (ran-is m j w (es ++ line_from a b ++ line_from a b) p))
    (twice-in-lists m.board.sizes.extent (scene_of m) es a b (at_rest m j w) next six bytes)
