-- Many visits of a line are the pixels that the line loops draw.
-- Assumes nothing.
use Rattle.std.specs.Prelude.{Some, None}
use mathlib.Core.Path.{◌≡◌, refl, ap, ap₂, sym, ◌∙◌}
use mathlib.Core.Bool.{Bool, true, false, cond, ◌||◌}
use mathlib.Core.List.{List}
use Prim.Native.Nat.{ℕ, ◌+◌, ◌-◌, ◌*◌, ◌≤◌, ◌<◌, min, max}
use native.Mathlib.Nat.{mul-le-mul_left, mul_comm}
use native.Mathlib.Omega.{arith}
use borrow.Author.Tests.{eqb-false, ltb-false, lt-ltb, le-leb}
use lib.Dec.{eqb, ltb}
use lib.ListN.{length, get_or, set}
use Rattle.lemmas.proofs.Booleans.{by_cases, both, or-none-left, or-none-right}
use Rattle.raster.proofs.Wide.{pen-as}
use Rattle.geometry.specs.Coordinates.{origin, point_of}
use Rattle.geometry.specs.Clip.{rect_of, window_of, in_window, place_in}
use Rattle.geometry.specs.Line.{steps_of, line_count, line_point}
use Rattle.geometry.specs.declared.Point.{Point}
use Rattle.geometry.specs.declared.Window.{Window}
use Rattle.geometry.proofs.Lines.{line_at, count-le}
use Rattle.entries.specs.declared.fields.Command.{Command}
use Rattle.registers.specs.Patterns.{pattern_bit}
use Rattle.registers.specs.declared.dashes.Pattern.{Pattern}
use Rattle.strokes.specs.Strokes.{plotted, pixels_of, window_fits, stroke_fits, stroke_of, Dashed, dashed, drawn_by, dash, dash_pixels, dashes_of}
use Rattle.strokes.proofs.Drawn.{stroke-fit, dashes-fit}
use Rattle.commands.specs.Visits.{command_in, line_start, window_in, count_of, cell_at, visit_at, target_of, source_at}
use Rattle.commands.proofs.Tests.{count-line, position-line}
use Rattle.sources.proofs.Reading.{source-solid, source-dash}
use Rattle.entries.specs.Fields.{is_line}
use Rattle.entries.proofs.Registers.{line-no-blit}
use Rattle.sources.specs.Sources.{dash_of}
use Rattle.tiles.specs.Tiles.{no_fill}
use Rattle.commands.specs.Steps.{scene, inked, pattern_after, visits_of}
use Rattle.commands.specs.declared.Engine.{Engine}
use Rattle.leaps.specs.declared.visits.Visits.{Visits}
use Rattle.leaps.specs.declared.visits.Share.{Share}
use Rattle.leaps.specs.Leaps.{moved_to, moved_by, pen_in, dashes_in, share_of, stroke_in, after_visits, StrokeDone}
use Rattle.leaps.proofs.Visiting.{scene_on, unfilled, Marked, visits-are, Leaps, Fit, leaps-some, after-moved, AreVisits, none_done, some-done}
use Rattle.leaps.proofs.Blits.{place-of-visit, code-small, ink-value}
use Rattle.geometry.specs.declared.Extent.{Extent}

pub count-is : (extent : Extent) (e : Engine) → is_line (command_in e) ≡ true → count_of extent e ≡ line_count (point_of (line_start e)) (point_of e.registers.xy1) (command_in e).nlst
count-is extent e h = sym (count-line extent e (line-no-blit (command_in e) h) h)

-- the mark of a value is a pixel plotted with its pen
ink-plots : (extent : Extent) (e : Engine) (v : ℕ) (p : Point) (l : List ℕ) →
    let w = window_in extent e.registers in
    inked e (Some v) (cond (in_window w p) (Some (place_in extent.width p)) None) l ≡ plotted extent.width w (pen_in e v) p l
unfolding plotted
ink-plots extent e v p l =
    let w = window_in extent e.registers in
    let i = place_in extent.width p in
    ink-value e v (in_window w p) i l
    ∙ ap (λ x. cond (in_window w p) (set l i x) l) (sym (pen-as (command_in e).code e.registers.mask (code-small e) v (get_or l i 0)))

module _ (extent : Extent) (e : Engine) (line : is_line (command_in e) ≡ true) where
  abbrev point : ℕ → Point
  point k = line_point (point_of (line_start e)) (point_of e.registers.xy1) (e.visited + k)

  abbrev window : Window
  window = window_in extent e.registers

  module _ (k : ℕ) (q : Pattern) (few : e.visited + k < count_of extent e) where
    abbrev here : Engine
    here = moved_to e k q

    visit-is : visit_at extent here (e.visited + k) ≡ Some (point k)
    visit-is =
        sym (position-line here (e.visited + k) (cell_at extent here (e.visited + k)) (line-no-blit (command_in e) line) line)
        ∙ sym (line_at (point_of (line_start e)) (point_of e.registers.xy1) (command_in e).nlst (e.visited + k) (omega (arith, few, count-is extent e line)))

    place_is : target_of extent here (e.visited + k) ≡ cond (in_window window (point k)) (Some (place_in extent.width (point k))) None
    place_is = place-of-visit extent here (e.visited + k) (point k) visit-is

    -- with SOLID
    solid-mark : (command_in e).solid ≡ true → (d v l : List ℕ)
        → inked here (source_at extent here no_fill (e.visited + k) d v) (target_of extent here (e.visited + k)) l
        ≡ plotted extent.width window (pen_in e e.registers.fore) (point k) l
    solid-mark s d v l =
        ap₂ (λ o p. inked here o p l)
        (sym (source-solid (command_in here) here.registers here.pattern extent no_fill (cell_at extent here (e.visited + k)) d v s))
        place_is
        ∙ ink-plots extent here e.registers.fore (point k) l

    solid-pattern : (command_in e).solid ≡ true → pattern_after here ≡ q
    unfolding pattern_after
    solid-pattern s = rw (line, s)

    -- in dashes
    dash-mark : (command_in e).solid ≡ false → (d v l : List ℕ)
        → inked here (source_at extent here no_fill (e.visited + k) d v) (target_of extent here (e.visited + k)) l
        ≡ (dash extent.width window (dashes_in e) (point k) (dashed l q)).buffer
    unfolding dash_of dash
    dash-mark s d v l =
        ap₂ (λ o p. inked here o p l)
        (sym (source-dash (command_in here) here.registers here.pattern extent no_fill (cell_at extent here (e.visited + k)) d v s (line-no-blit (command_in e) line)))
        place_is
        ∙ by (pattern_bit e.registers.lpat q) (command_in e).trnsp
      where
        by : (b t : Bool)
            → inked here (cond b (Some e.registers.fore) (cond t None (Some e.registers.back)))
            (cond (in_window window (point k)) (Some (place_in extent.width (point k))) None) l
            ≡ drawn_by (cond b (Some (pen_in e e.registers.fore)) (cond t None (Some (pen_in e e.registers.back))))
            (λ pen. plotted extent.width window pen (point k) l) l
        by true t = ink-plots extent here e.registers.fore (point k) l
        by false true = refl
        by false false = ink-plots extent here e.registers.back (point k) l

    dash-pattern : (command_in e).solid ≡ false → (l : List ℕ)
        → pattern_after here ≡ (dash extent.width window (dashes_in e) (point k) (dashed l q)).pattern
    unfolding pattern_after dash
    dash-pattern s l = rw (line, s)

  -- the two kinds of strokes
  abbrev pub solid_state : List ℕ → ℕ → Dashed
  solid_state l k =
      dashed (pixels_of extent.width window (pen_in e e.registers.fore) (point_of (line_start e)) (point_of e.registers.xy1) e.visited k l) e.pattern

  abbrev dash_state : List ℕ → ℕ → Dashed
  dash_state l k = dash_pixels extent.width window (dashes_in e) (point_of (line_start e)) (point_of e.registers.xy1) e.visited k (dashed l e.pattern)

  pub solid-strokes : (command_in e).solid ≡ true → (to : Bool) (other l : List ℕ) → Marked extent e no_fill to other (solid_state l)
  unfolding pixels_of
  solid-strokes s to other l =
      record {
        buffers =
            λ k few.
            let own = (solid_state l k).buffer in solid-mark k e.pattern few s (cond to other own) (cond to own other) own;
        patterns = λ k few. solid-pattern k e.pattern few s;
      }

  dash-strokes : (command_in e).solid ≡ false → (to : Bool) (other l : List ℕ) → Marked extent e no_fill to other (dash_state l)
  unfolding dash_pixels
  dash-strokes s to other l =
      record {
        buffers =
            λ k few.
            let own = (dash_state l k).buffer in
            dash-mark k (dash_state l k).pattern few s (cond to other own) (cond to own other) own;
        patterns = λ k few. dash-pattern k (dash_state l k).pattern few s (dash_state l k).buffer;
      }

-- what lets visits go by a stroke
pub record Goes (extent : Extent) (e : Engine) (n display virt : ℕ) : Type 0 where
  pub leaps : Leaps extent e n display virt
  pub line : is_line (command_in e) ≡ true
  pub long : 1 < count_of extent e
  pub tall : extent.height ≤ 65536

-- a window fits its buffer
bounded : (width height bottom : ℕ) → bottom ≤ origin + height → (bottom - origin) * width ≤ width * height
bounded width height bottom h =
    omega (arith, mul_comm (bottom - origin) width, mul-le-mul_left {m = bottom - origin} {n = height} width (omega (arith, h)))

window-fits : (extent : Extent) (clip : Bool) (a b long : ℕ) → extent.height ≤ 65536 → long ≡ extent.width * extent.height
    → window_fits extent.width (window_of extent clip a b) long ≡ true
unfolding window_of
window-fits extent true a b long tall e =
    let width = extent.width in
    let height = extent.height in
    let bottom = min (origin + height) ((rect_of a b).bottom + 1) in
    both
    (both
    (both (both (le-leb origin (max origin (rect_of a b).left) (omega arith)) (le-leb (min (origin + width) ((rect_of a b).right + 1)) (origin + width) (omega arith)))
    (le-leb origin (max origin (rect_of a b).top) (omega arith)))
    (le-leb bottom (origin + 65536) (omega (arith, tall))))
    (le-leb ((bottom - origin) * width) long (rw e (bounded width height bottom (omega arith))))
window-fits extent false a b long tall e =
    let width = extent.width in
    let height = extent.height in
    both
    (both
    (both (both (le-leb origin origin (omega arith)) (le-leb (origin + width) (origin + width) (omega arith))) (le-leb origin origin (omega arith)))
    (le-leb (origin + height) (origin + 65536) (omega (arith, tall))))
    (le-leb ((origin + height - origin) * width) long (rw e (bounded width height (origin + height) (omega arith))))

stroke-fits : (extent : Extent) (e : Engine) (n display virt long : ℕ) → Goes extent e n display virt → long ≡ extent.width * extent.height
    → stroke_fits extent.width (window_in extent e.registers) (point_of (line_start e)) (point_of e.registers.xy1) e.visited n long ≡ true
stroke-fits extent e n display virt long g h =
    let a = point_of (line_start e) in
    let b = point_of e.registers.xy1 in
    both
    (both (window-fits extent (command_in e).clip e.registers.clptl e.registers.clpbr long g.tall h)
    (lt-ltb 0 (steps_of a b) (omega (arith, g.long, count-is extent e g.line, count-le a b (command_in e).nlst))))
    (le-leb (e.visited + n) (steps_of a b + 1) (omega (arith, g.leaps.few, count-is extent e g.line, count-le a b (command_in e).nlst)))

-- n visits, from what the line loops did on the buffer that is drawn on
module _ (extent : Extent) (e : Engine) (n display virt : ℕ) (g : Goes extent e n display virt) (s : Dashed) (f : Engine)
    (moved : f ≡ moved_by extent e n s.pattern) (to : Bool) (drawn : (command_in e).to_virtual ≡ to) (own other : List ℕ)
    (own-long : length own ≡ extent.width * extent.height) where
  -- the states that the visits leave
  visits-to : (t : ℕ → Dashed) → t 0 ≡ dashed own e.pattern → Marked extent e no_fill to other t → s ≡ t n
      → scene f no_fill (cond to other s.buffer) (cond to s.buffer other) ≡ visits_of n extent (scene e no_fill (cond to other own) (cond to own other))
  visits-to t start marked is =
      sym (unfilled f (cond to other s.buffer) (cond to s.buffer other))
      ∙ (λ i. scene_on no_fill ((moved ∙ ap (λ (s : Dashed). moved_by extent e n s.pattern) is) i) to (is i).buffer other)
      ∙ sym (visits-are extent e no_fill to other t drawn g.leaps.under-way g.leaps.some (ap (λ (s : Dashed). s.pattern) start) marked n g.leaps.few)
      ∙ ap (λ (s : Dashed). visits_of n extent (scene_on no_fill e to s.buffer other)) start
      ∙ ap (visits_of n extent) (unfilled e (cond to other own) (cond to own other))

  stroke-is : s ≡ stroke_in extent e n own → scene f no_fill (cond to other s.buffer) (cond to s.buffer other) ≡ visits_of n extent (scene e no_fill (cond to other own) (cond to own other))
  unfolding stroke_in pixels_of dash_pixels
  stroke-is h =
      let a = point_of (line_start e) in
      let b = point_of e.registers.xy1 in
      let w = window_in extent e.registers in
      let pen = pen_in e e.registers.fore in
      let fit = stroke-fits extent e n display virt (length own) g own-long in
      let line = dashed (stroke_of extent.width w pen a b e.visited n own) e.pattern in
      let dotted = dashes_of extent.width w (dashes_in e) a b e.visited n (dashed own e.pattern) in
      by_cases (command_in e).solid
      (λ t.
      visits-to (solid_state extent e g.line own) refl (solid-strokes extent e g.line t to other own)
      (h ∙ ap (λ t. cond t line dotted) t ∙ ap (λ m. dashed m e.pattern) (sym (stroke-fit extent.width w pen a b e.visited n own _ fit refl))))
      (λ t.
      visits-to (dash_state extent e g.line own) refl (dash-strokes extent e g.line t to other own)
      (h ∙ ap (λ t. cond t line dotted) t ∙ sym (dashes-fit extent.width w (dashes_in e) a b e.visited n (dashed own e.pattern) _ fit refl)))

-- ---- a line visited at once, by the number that was counted

module _ (budget : ℕ) (extent : Extent) (e : Engine) (own : List ℕ) (line : is_line (command_in e) ≡ true) (c : Command) (is : c ≡ command_in e)
    (start count : ℕ) (starts : start ≡ line_start e) (counted : count ≡ line_count (point_of start) (point_of e.registers.xy1) c.nlst) where
  all-counted : count ≡ count_of extent e
  all-counted =
      counted ∙ ap₂ (λ k (c : Command). line_count (point_of k) (point_of e.registers.xy1) c.nlst) starts is ∙ sym (count-is extent e line)

  pub stroke-none : StrokeDone budget extent e own (record { pattern = e.pattern; steps = 0; finished = eqb count 0 }) own
  stroke-none =
      record { within = omega arith; none = λ _. (none_done extent e count all-counted, refl); some = λ h. absurd (omega (arith, h)) }

  pub stroke-some : (s : Share) → s ≡ share_of count e.visited budget → (eqb s.n 0 || ltb count 2) ≡ false
      → (q : Pattern) (own' : List ℕ) → dashed own' q ≡ stroke_in extent e s.n own
      → StrokeDone budget extent e own (record { pattern = q; steps = s.n; finished = eqb s.n s.left }) own'
  stroke-some s shared tests q own' drawn =
      let any = eqb-false s.n 0 (or-none-left (eqb s.n 0) (ltb count 2) tests) in
      let long = ltb-false count 2 (or-none-right (eqb s.n 0) (ltb count 2) tests) in
      record {
        within = omega (arith, ap (λ (s : Share). s.n) shared);
        none = λ z. absurd (any z);
        some = λ _. (some-done extent e count all-counted budget s shared q, omega (arith, long, all-counted), drawn);
      }

pub stroke-visits : (budget : ℕ) (extent : Extent) (e : Engine) (own other : List ℕ) → is_line (command_in e) ≡ true → e.under_way ≡ true
    → Fit extent (length own) (length other) → (r : Visits) (own' : List ℕ) → StrokeDone budget extent e own r own' → 0 < r.steps
    → AreVisits extent e own other r own'
stroke-visits budget extent e own other line under-way fit r own' done any to drawn =
    let some = done.some any in
    let goes : Goes extent e r.steps (length own) (length other) =
    record { leaps = leaps-some extent e r some.0 any (length own) (length other) fit under-way; line = line; long = some.1; tall = fit.tall } in
    stroke-is extent e r.steps (length own) (length other) goes (dashed own' r.pattern) (after_visits e r) (after-moved extent e r some.0 any) to drawn
    own other fit.own-long some.2
