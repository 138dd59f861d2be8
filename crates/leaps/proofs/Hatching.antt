-- Visits with and without the tile of a fill: which tile there is after them, and that a fill ends with its last pixel.
-- Assumes nothing.
use mathlib.Core.Path.{◌≡◌, refl, ap, ap₂, sym, subst, ◌∙◌}
use mathlib.Core.Bool.{Bool, true, false, cond, ◌&&◌, false≢true}
use mathlib.Core.List.{List}
use Prim.Native.Nat.{ℕ, zero, suc, ◌+◌, ◌-◌, ◌≤◌, ◌<◌, min}
use native.Mathlib.Omega.{arith}
use borrow.Author.Tests.{eqb-true, eqb-false, ltb-true, ltb-false, le-ltb, leb-true, leb-false}
use lib.Dec.{eqb, ltb, leb}
use lib.ListN.{length}
use Rattle.lemmas.proofs.Booleans.{by_cases, and_left, and_right, and-true, first_of, second-of}
use Rattle.geometry.specs.declared.Extent.{Extent}
use Rattle.entries.specs.Fields.{command_of, is_blit, is_line}
use Rattle.registers.specs.declared.file.Registers.{Registers}
use Rattle.tiles.specs.Tiles.{no_fill, fill_of}
use Rattle.tiles.specs.declared.Fill.{Fill}
use Rattle.commands.specs.Visits.{command_in, shows, count_of}
use Rattle.commands.specs.Hatching.{tiles, hatches, fill_taken, fill_after}
use Rattle.commands.specs.Steps.{Scene, scene, advanced_by, advanced_of, visit_by, visits_by, visits_of}
use Rattle.commands.specs.declared.Engine.{Engine}
use Rattle.commands.proofs.Bounds.{pixels-lt, count_same}
use Rattle.commands.proofs.Visiting.{visits-registers}
use Rattle.leaps.specs.declared.hatched.Burst.{Burst}
use Rattle.leaps.specs.declared.visits.Visits.{Visits}
use Rattle.leaps.specs.Leaps.{Visited, with_tile, left_in, rest_in, VisitsDone, after_visits, NoneDone, SomeDone, StrokeDone, BlitDone, TiledDone, OnceOn}
use Rattle.leaps.specs.ListRuns.{Going, BurstDone, HatchDone}
use Rattle.leaps.proofs.Visiting.{Fit, AreVisits}
use Rattle.leaps.proofs.Rows.{blit-visits, tiled-visits}
use Rattle.entries.proofs.Registers.{line-no-blit}
use Rattle.leaps.proofs.Strokes.{stroke-visits}
use Rattle.leaps.proofs.Running.{visits-on, visits-done, going_start, going-visits}

-- engine and buffers of visits, whatever is known of the fill
pub visited-by : (n : ℕ) (extent : Extent) (s : Scene) (e : Engine) (f : Fill) (d v : List ℕ) → scene e f d v ≡ visits_of n extent s
    → Visited n extent s e d v
visited-by n extent s e f d v p i =
    record { engine = (p i).engine; fill = (visits_of n extent s).fill; display = (p i).display; virt = (p i).virt }

pub with-fill : (e : Engine) (f g : Fill) (d v : List ℕ) (t : Scene) → g ≡ f → scene e f d v ≡ t → scene e g d v ≡ t
with-fill e f g d v t p q = ap (λ g. scene e g d v) p ∙ q

pub visited-with : (n : ℕ) (extent : Extent) (s : Scene) (e : Engine) (d v : List ℕ) → Visited n extent s e d v → (f : Fill)
    → (visits_of n extent s).fill ≡ f → scene e f d v ≡ visits_of n extent s
visited-with n extent s e d v p f q = with-fill e (visits_of n extent s).fill f d v (visits_of n extent s) (sym q) p

-- ---- where there is no tile

and_none : (a b : Bool) → b ≡ false → (a && b) ≡ false
and_none true b h = h
and_none false b h = refl

pub no_tile : (extent : Extent) (e : Engine) (d v : List ℕ) → hatches e ≡ false → fill_taken extent e d v ≡ no_fill
no_tile extent e d v h = sym (second-of (hatches e) (fill_of extent e.registers.xy0 (cond (command_in e).from_virtual v d)) no_fill h)

pub without-tile : (extent : Extent) (e : Engine) (d v : List ℕ) → hatches e ≡ false → scene e no_fill d v ≡ with_tile extent e d v
without-tile extent e d v h = ap (λ f. scene e f d v) (sym (no_tile extent e d v h))

-- a command under way that is no fill with a tile
pub plain-command : (e : Engine) → e.under_way ≡ true → hatches e ≡ false → tiles (command_in e) ≡ false
plain-command e u h = ap (λ t. t && tiles (command_in e)) (sym u) ∙ h

blit-plain : (e : Engine) → (command_in e).apat ≡ false → hatches e ≡ false
blit-plain e h = and_none e.under_way (tiles (command_in e)) (and_none (is_blit (command_in e)) (command_in e).apat h)

line_plain : (e : Engine) → is_line (command_in e) ≡ true → hatches e ≡ false
line_plain e h = and_none e.under_way (tiles (command_in e)) (ap (λ t. t && (command_in e).apat) (line-no-blit (command_in e) h))

none_after : (n : ℕ) (extent : Extent) (s : Scene) → s.fill ≡ no_fill → (visits_of n extent s).fill ≡ no_fill
unfolding visits_by visit_by
none_after zero extent s h = h
none_after (suc n) extent s h =
    by_cases (advanced_of extent (visits_of n extent s).engine).under_way
    (λ t. rw t (none_after n extent s h))
    (λ t. rw t)

-- after its visits there is none either
module _ (n : ℕ) (extent : Extent) (e : Engine) (d v : List ℕ) (u : e.under_way ≡ true) (h : hatches e ≡ false) where
  pub visits-without : (r : Engine) (d' v' : List ℕ) → scene r no_fill d' v' ≡ visits_of n extent (scene e no_fill d v)
      → with_tile extent r d' v' ≡ visits_of n extent (with_tile extent e d v)
  visits-without r d' v' p =
      let same : r.registers ≡ e.registers =
      ap (λ (s : Scene). s.engine.registers) p ∙ visits-registers shows n extent (scene e no_fill d v) in
      let plain : hatches r ≡ false =
      and_none r.under_way (tiles (command_in r))
      (ap (λ (g : Registers). tiles (command_of g.cmd)) same ∙ plain-command e u h) in
      sym (without-tile extent r d' v' plain) ∙ p ∙ ap (visits_of n extent) (without-tile extent e d v h)

  pub each-without : (f : Fill) → f ≡ no_fill → (r : Engine) (d' v' : List ℕ) → Visited n extent (scene e f d v) r d' v'
      → with_tile extent r d' v' ≡ visits_of n extent (with_tile extent e d v)
  each-without f q r d' v' p =
      visits-without r d' v'
      (visited-with n extent (scene e f d v) r d' v' p no_fill (none_after n extent (scene e f d v) q) ∙ ap (λ f. visits_of n extent (scene e f d v)) q)

-- ---- the last pixel

advance-over : (extent : Extent) (f : Engine) → count_of extent f ≤ f.visited + 1 → (advanced_of extent f).under_way ≡ false
unfolding advanced_by
advance-over extent f h = rw (le-ltb (f.visited + 1) (count_of extent f) h)

over-after : (m : ℕ) (extent : Extent) (s : Scene) → s.engine.under_way ≡ true → suc m ≡ left_in extent s.engine
    → (visits_of (suc m) extent s).engine.under_way ≡ false
unfolding visits_by visit_by
over-after m extent s u all =
    let e = s.engine in
    let f = (visits_of m extent s).engine in
    by_cases (ltb e.visited (count_of extent e))
    (λ t.
    let some = ltb-true e.visited (count_of extent e) t in
    let on = visits-on extent s m u (omega arith) in
    let same : count_of extent f ≡ count_of extent e = count_same shows extent f e on.registers-same on.last-same in
    advance-over extent f (omega (arith, on.at, same)))
    (λ t. none m (ltb-false e.visited (count_of extent e) t) (omega (arith, ltb-false e.visited (count_of extent e) t)))
  where
    none : (m : ℕ) → count_of extent s.engine ≤ s.engine.visited → m ≡ 0 → (advanced_of extent (visits_of m extent s).engine).under_way ≡ false
    none zero few z = advance-over extent s.engine (omega arith)
    none (suc m) few z = absurd (omega arith)

pub visits-over : (n : ℕ) (extent : Extent) (s : Scene) → s.engine.under_way ≡ true → n ≡ left_in extent s.engine
    → (visits_of n extent s).engine.under_way ≡ false
visits-over zero extent s u all = absurd (omega arith)
visits-over (suc m) extent s u all = over-after m extent s u all

pub fill-over : (n : ℕ) (extent : Extent) (s : Scene) → 0 < n → (visits_of n extent s).engine.under_way ≡ false
    → (visits_of n extent s).fill ≡ no_fill
unfolding visits_by visit_by
fill-over zero extent s some over = absurd (omega arith)
fill-over (suc m) extent s some over = rw over

-- the fill after visits: the tile while it is under way
tile-while : (m : ℕ) (extent : Extent) (s : Scene) → ((j : ℕ) → j < suc m → (visits_of j extent s).engine.under_way ≡ true)
    → (visits_of m extent s).fill ≡ s.fill
unfolding visits_by visit_by
tile-while zero extent s busy = refl
tile-while (suc m) extent s busy = rw (busy (suc m) (omega arith)) (tile-while m extent s (λ j h. busy j (omega arith)))

pub fill-while : (n : ℕ) (extent : Extent) (s : Scene) → 0 < n
    → ((j : ℕ) → j < n → (visits_of j extent s).engine.under_way ≡ true)
    → (visits_of n extent s).fill ≡ fill_after (visits_of n extent s).engine s.fill
unfolding visits_by visit_by
fill-while zero extent s some busy = absurd (omega arith)
fill-while (suc m) extent s some busy = ap (fill_after (advanced_of extent (visits_of m extent s).engine)) (tile-while m extent s busy)

-- ---- what the visits of a command come to

idle-rests : (e : Engine) → e.under_way ≡ false → hatches e ≡ false
idle-rests e h = ap (λ t. t && tiles (command_in e)) h

-- all that are left of a fill with a tile
pub whole-fill : (n : ℕ) (extent : Extent) (e : Engine) (d v : List ℕ) (f : Fill) → f ≡ fill_taken extent e d v → e.under_way ≡ true → 0 < n
    → n ≡ left_in extent e → (r : Engine) (d' v' : List ℕ) → Visited n extent (scene e f d v) r d' v'
    → with_tile extent r d' v' ≡ visits_of n extent (with_tile extent e d v)
whole-fill n extent e d v f p u some all r d' v' q =
    let s = scene e f d v in
    let over = visits-over n extent s u all in
    let rests = idle-rests r (ap (λ (s : Scene). s.engine.under_way) q ∙ over) in
    sym (without-tile extent r d' v' rests) ∙ visited-with n extent s r d' v' q no_fill (fill-over n extent s some over)
    ∙ ap (λ f. visits_of n extent (scene e f d v)) p

-- all that the budget allows, but of a fill with a tile that it cuts
module _ (budget : ℕ) (extent : Extent) (e : Engine) (d v : List ℕ) (u : e.under_way ≡ true) (some : 0 < budget) (r : Burst)
    (q : r.steps ≡ min budget (left_in extent e)) (h : (hatches e && ltb budget (left_in extent e)) ≡ false) (f : Fill) (taken : f ≡ fill_taken extent e d v)
    (d' v' : List ℕ) (visited : Visited r.steps extent (scene e f d v) r.engine d' v') where
  any : 0 < r.steps
  any = omega (arith, q, some)

  burst-visits : with_tile extent r.engine d' v' ≡ visits_of r.steps extent (with_tile extent e d v)
  burst-visits =
      by_cases (hatches e)
      (λ t.
      let all = ltb-false budget (left_in extent e) (ap (λ t. t && ltb budget (left_in extent e)) (sym t) ∙ h) in
      whole-fill r.steps extent e d v f taken u any (omega (arith, all, q)) r.engine d' v' visited)
      (λ t. each-without r.steps extent e d v u t f (taken ∙ no_tile extent e d v t) r.engine d' v' visited)

  pub burst-done : BurstDone budget extent e d v r d' v'
  burst-done =
      record {
        some = λ _. visits-done budget extent (with_tile extent e d v) (left_in extent e) r.steps (with_tile extent r.engine d' v') u some refl q burst-visits;
        none = λ z. absurd (omega (arith, any, z));
      }

-- ---- pixels of a command visited at once, with no tile before or after

module _ (budget : ℕ) (extent : Extent) (e : Engine) (own other : List ℕ) (u : e.under_way ≡ true) (sized : e.registers.xy2 < 4294967296)
    (numbered : e.visited < 4294967296) where
  module _ (r : Visits) (own' : List ℕ) (within : r.steps ≤ budget) (none : r.steps ≡ 0 → NoneDone extent e r × (own' ≡ own))
      (some : 0 < r.steps → SomeDone extent e r) where
    room-left : r.finished ≡ false → e.visited + r.steps < 4294967296
    room-left more =
        by_cases (eqb r.steps 0) (λ t. omega (arith, eqb-true r.steps 0 t, numbered))
        (λ t.
        let any : 0 < r.steps = omega (arith, eqb-false r.steps 0 t) in
        let less = eqb-false r.steps (rest_in extent e) (sym (some any).finished ∙ more) in
        omega (arith, less, (some any).few, pixels-lt extent e sized))

    once_by : (0 < r.steps → (to : Bool) → (command_in e).to_virtual ≡ to
        → with_tile extent (after_visits e r) (cond to other own') (cond to own' other) ≡ visits_of r.steps extent (with_tile extent e (cond to other own) (cond to own other)))
        → OnceOn budget extent e own other r own'
    once_by visits =
        record {
          within = within;
          room = room-left;
          none = none;
          any = λ any. omega (arith, any, (some any).few);
          some =
              λ any to drawn.
              let d = cond to other own in
              let v = cond to own other in
              record {
                some = any;
                few = within;
                visits = visits any to drawn;
                busy = λ j below. (visits-on extent (with_tile extent e d v) j u (omega (arith, below, (some any).few))).under;
              };
        }

    once-on : (0 < r.steps → (hatches e ≡ false) × AreVisits extent e own other r own') → OnceOn budget extent e own other r own'
    once-on visits =
        once_by
        (λ any to drawn.
        visits-without r.steps extent e (cond to other own) (cond to own other) u (visits any).0 (after_visits e r) (cond to other own') (cond to own' other)
        ((visits any).1 to drawn))

  pub stroke-once : Fit extent (length own) (length other) → is_line (command_in e) ≡ true → (r : Visits) (own' : List ℕ)
      → StrokeDone budget extent e own r own' → OnceOn budget extent e own other r own'
  stroke-once fit line r own' done =
      once-on r own' done.within done.none (λ any. (done.some any).0)
      (λ any. (line_plain e line, stroke-visits budget extent e own other line u fit r own' done any))

  pub blit-once : Fit extent (length own) (length other) → is_blit (command_in e) ≡ true → (r : Visits) (own' : List ℕ)
      → BlitDone budget extent e own other r own' → OnceOn budget extent e own other r own'
  blit-once fit blit r own' done =
      once-on r own' done.within done.none (λ any. (done.some any).0)
      (λ any. (blit-plain e (done.some any).1, blit-visits budget extent e own other blit u fit r own' done any))

  -- all of a fill with a tile, which is then held nowhere
  pub tiled-once : Fit extent (length own) (length other) → is_blit (command_in e) ≡ true → (command_in e).apat ≡ true → (r : Visits) (own' : List ℕ)
      → TiledDone budget extent e own other r own' → OnceOn budget extent e own other r own'
  tiled-once fit blit hatched r own' done =
      once_by r own' done.within done.none (λ any. (done.some any).0)
      (λ any to drawn.
      let d = cond to other own in
      let v = cond to own other in
      let some = done.some any in
      let f = fill_of extent e.registers.xy0 (cond (command_in e).from_virtual v d) in
      let under : hatches e ≡ true = ap₂ ◌&&◌ u (ap₂ ◌&&◌ blit hatched) in
      let taken : f ≡ fill_taken extent e d v = first_of (hatches e) f no_fill under in
      whole-fill r.steps extent e d v f taken u any (omega (arith, any, some.1, some.0.few)) (after_visits e r) (cond to other own') (cond to own' other)
      (visited-by _ _ _ _ _ _ _ (tiled-visits budget extent e own other blit hatched u fit r own' done any to drawn)))

  -- a command with no pixels
  pub none-once : count_of extent e ≡ 0 → OnceOn budget extent e own other (record { pattern = e.pattern; steps = 0; finished = true }) own
  none-once empty =
      once-on (record { pattern = e.pattern; steps = 0; finished = true }) own (omega arith)
      (λ _. (record { finished = ap (λ k. eqb k 0) (sym empty); pattern = refl }, refl))
      (λ h. absurd (omega (arith, h))) (λ h. absurd (omega (arith, h)))

-- ---- a fill with a tile, with the budget that there is

module _ (budget : ℕ) (extent : Extent) (e : Engine) (f : Fill) (d v : List ℕ) (x : hatches e ≡ true) (some : 0 < budget) (n : ℕ)
    (q : n ≡ min budget (left_in extent e)) (r : Engine) (d' v' : List ℕ) (visited : Visited n extent (scene e f d v) r d' v')
    (display-long : length d' ≡ length d) (virt-long : length v' ≡ length v) where
  abbrev here : Scene
  here = scene e f d v

  under : e.under_way ≡ true
  under = and_left e.under_way (tiles (command_in e)) x

  engine-is : r ≡ (visits_of n extent here).engine
  engine-is = ap (λ (s : Scene). s.engine) visited

  done : VisitsDone budget extent here n (visits_of n extent here)
  done = visits-done budget extent here (left_in extent e) n (visits_of n extent here) under some refl q refl

  after : scene r (fill_after r f) d' v' ≡ visits_of n extent here
  after =
      visited-with n extent here r d' v' visited (fill_after r f)
      (fill-while n extent here done.some done.busy ∙ ap (λ e. fill_after e f) (sym engine-is))

  rests-by : hatches r ≡ false → r.under_way ≡ false
  rests-by y =
      let same : tiles (command_in r) ≡ true =
      ap (λ (g : Registers). tiles (command_of g.cmd)) (ap (λ (e : Engine). e.registers) engine-is ∙ visits-registers shows n extent here)
      ∙ and_right e.under_way (tiles (command_in e)) x in
      sym (and-true r.under_way) ∙ ap (λ t. r.under_way && t) (sym same) ∙ y

  pub hatch-some : HatchDone budget extent here n r d' v'
  hatch-some =
      record {
        idle = λ y. absurd (false≢true (sym y ∙ x));
        going =
            λ _ l c.
            let start = going_start l extent budget c here in
            let whole : budget - 0 ≡ budget = omega arith in
            let none : 0 + n ≡ n = omega arith in
            subst (λ k. Going l extent budget c here k c (scene r (fill_after r f) d' v')) none
            (going-visits l extent budget c here 0 c here some start n (scene r (fill_after r f) d' v')
            (record { some = done.some; few = omega (arith, done.few); visits = after; busy = done.busy }) display-long virt-long);
        spent = λ _ few. omega (arith, q);
        still =
            λ y.
            by_cases (leb budget n) (λ t. leb-true budget n t)
            (λ t.
            let all : n ≡ left_in extent e = omega (arith, q, leb-false budget n t) in
            absurd (false≢true (sym (idle-rests r (ap (λ (e : Engine). e.under_way) engine-is ∙ visits-over n extent here under all)) ∙ y)));
        few = omega (arith, q);
        rests = λ _ y. rests-by y;
      }
