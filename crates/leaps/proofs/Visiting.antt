-- Visits of a command one after the other, by the buffer and the pattern state that each of them leaves.
-- Assumes nothing.
use mathlib.Core.Path.{◌≡◌, refl, ap, sym, ◌∙◌}
use mathlib.Core.Bool.{Bool, true, false, cond, ◌&&◌}
use mathlib.Core.List.{List}
use Prim.Native.Nat.{ℕ, zero, suc, ◌+◌, ◌-◌, ◌*◌, ◌≤◌, ◌<◌}
use native.Mathlib.Omega.{arith}
use borrow.Author.Tests.{eqb-true, eqb-false, ltb-true, ltb-false, leb-true, lt-ltb, le-ltb}
use lib.Dec.{eqb, ltb, leb}
use Rattle.lemmas.proofs.Booleans.{by_cases, and_left, and_right, first_of, second-of}
use Rattle.registers.specs.declared.dashes.Pattern.{Pattern}
use Rattle.strokes.specs.Strokes.{Dashed}
use Rattle.commands.specs.Visits.{command_in, shows, count_of, target_of, source_at}
use Rattle.tiles.specs.Tiles.{no_fill}
use Rattle.tiles.specs.declared.Fill.{Fill}
use Rattle.commands.specs.Hatching.{fill_after}
use Rattle.commands.specs.Steps.{Scene, scene, inked, pattern_after, advanced_by, advanced_of, visit_by, visit_of, visits_by, visits_of}
use Rattle.commands.specs.declared.Engine.{Engine}
use Rattle.commands.proofs.Bounds.{count_same}
use Rattle.leaps.specs.declared.visits.Visits.{Visits}
use Rattle.leaps.specs.declared.visits.Share.{Share}
use Rattle.leaps.specs.Leaps.{moved_to, finished_at, moved_by, can_leap, buffers_fit, rest_in, share_of, after_visits, NoneDone, SomeDone}
use Rattle.geometry.specs.declared.Extent.{Extent}

-- An engine beside the buffer that it draws on, which is the virtual one where `to` is true, and the other one; with the tile of
-- its fill while that is under way.
abbrev pub scene_on : Fill → Engine → Bool → List ℕ → List ℕ → Scene
scene_on tile e to own other = scene e (fill_after e tile) (cond to other own) (cond to own other)

-- no tile stays none
none_stays : (b : Bool) → cond b no_fill no_fill ≡ no_fill
none_stays true = refl
none_stays false = refl

pub unfilled : (e : Engine) (d v : List ℕ) → scene e (fill_after e no_fill) d v ≡ scene e no_fill d v
unfilled e d v = ap (λ f. scene e f d v) (none_stays e.under_way)

visit-on : (extent : Extent) (tile : Fill) (e : Engine) (m : ℕ) (q : Pattern) (to : Bool) (own other : List ℕ) →
    let f = moved_to e m q in
    (command_in f).to_virtual ≡ to →
    let at = target_of extent f f.visited in
    let s = source_at extent f tile f.visited (cond to other own) (cond to own other) in
    visit_of extent (scene_on tile f to own other) ≡ scene_on tile (advanced_of extent f) to (inked f s at own) other
unfolding visit_by
visit-on extent tile e m q true own other v =
    let f = moved_to e m q in
    let g = advanced_of extent f in
    let at = target_of extent f f.visited in
    let s = source_at extent f tile f.visited other own in
    ap (λ t. scene g (fill_after g tile) (cond t other (inked f s at other)) (cond t (inked f s at own) own)) v
visit-on extent tile e m q false own other v =
    let f = moved_to e m q in
    let g = advanced_of extent f in
    let at = target_of extent f f.visited in
    let s = source_at extent f tile f.visited own other in
    ap (λ t. scene g (fill_after g tile) (cond t own (inked f s at own)) (cond t (inked f s at other) other)) v

same_test : (v m c : ℕ) → v + m < c → ltb (v + m + 1) c ≡ ltb (suc m) (c - v)
same_test v m c h =
    by_cases (ltb (suc m) (c - v))
    (λ t. let k = ltb-true (suc m) (c - v) t in rw (t, lt-ltb (v + m + 1) c (omega arith)))
    (λ t. let k = ltb-false (suc m) (c - v) t in rw (t, le-ltb (v + m + 1) c (omega arith)))

module _ (extent : Extent) (e : Engine) where
  pub moved-within : (m : ℕ) (q : Pattern) → e.visited + m < count_of extent e → moved_by extent e m q ≡ moved_to e m q
  unfolding moved_by
  moved-within m q h =
      ap (λ t. cond t (moved_to e m q) (finished_at e q)) (lt-ltb m (count_of extent e - e.visited) (omega (arith, h)))

  pub moved-over : (m : ℕ) (q : Pattern) → count_of extent e ≤ e.visited + m → moved_by extent e m q ≡ finished_at e q
  unfolding moved_by
  moved-over m q h =
      ap (λ t. cond t (moved_to e m q) (finished_at e q)) (le-ltb m (count_of extent e - e.visited) (omega (arith, h)))

  advance : (m : ℕ) (q : Pattern) → e.visited + m < count_of extent e
      → advanced_of extent (moved_to e m q) ≡ moved_by extent e (suc m) (pattern_after (moved_to e m q))
  unfolding advanced_by moved_by
  advance m q h =
      let f = moved_to e m q in
      let p = pattern_after f in
      let next : e.visited + m + 1 ≡ e.visited + suc m = omega arith in
      let moved : ℕ → Engine = λ k. record { under_way = true; visited = k; registers = e.registers; pattern = p; last = e.last } in
      ap (λ t. cond t (moved (e.visited + m + 1)) (finished_at e p))
      (ap (ltb (e.visited + m + 1)) (count_same shows extent f e refl refl) ∙ same_test e.visited m (count_of extent e) h)
      ∙ ap (λ k. cond (ltb (suc m) (count_of extent e - e.visited)) (moved k) (finished_at e p)) next

  starts : e.under_way ≡ true → e ≡ moved_to e 0 e.pattern
  starts h =
      let none : e.visited ≡ e.visited + 0 = omega arith in
      λ i. record { under_way = h i; visited = none i; registers = e.registers; pattern = e.pattern; last = e.last }

  module _ (tile : Fill) (to : Bool) (other : List ℕ) (t : ℕ → Dashed) where
    -- each state is a visit after the one before
    pub record Marked : Type 0 where
      pub buffers : (k : ℕ) → e.visited + k < count_of extent e →
          let f = moved_to e k (t k).pattern in
          let own = (t k).buffer in
          inked f (source_at extent f tile (e.visited + k) (cond to other own) (cond to own other)) (target_of extent f (e.visited + k)) own
          ≡ (t (suc k)).buffer
      pub patterns : (k : ℕ) → e.visited + k < count_of extent e → pattern_after (moved_to e k (t k).pattern) ≡ (t (suc k)).pattern

    module _ (drawn : (command_in e).to_virtual ≡ to) (under-way : e.under_way ≡ true) (some : e.visited < count_of extent e)
        (first : (t 0).pattern ≡ e.pattern) (marked : Marked) where
      pub visits-are : (n : ℕ) → e.visited + n ≤ count_of extent e
          → visits_of n extent (scene_on tile e to (t 0).buffer other) ≡ scene_on tile (moved_by extent e n (t n).pattern) to (t n).buffer other
      unfolding visits_by
      visits-are zero few =
          ap (λ f. scene_on tile f to (t 0).buffer other)
          (starts under-way ∙ ap (moved_to e 0) (sym first) ∙ sym (moved-within 0 (t 0).pattern (omega (arith, some))))
      visits-are (suc m) few =
          let here : e.visited + m < count_of extent e = omega (arith, few) in
          ap (visit_of extent)
          (visits-are m (omega (arith, few)) ∙ ap (λ f. scene_on tile f to (t m).buffer other) (moved-within m (t m).pattern here))
          ∙ visit-on extent tile e m (t m).pattern to (t m).buffer other drawn
          ∙ (λ i. scene_on tile ((advance m (t m).pattern here ∙ ap (moved_by extent e (suc m)) (marked.patterns m here)) i) to (marked.buffers m here i) other)

-- what lets visits be done at once
pub record Leaps (extent : Extent) (e : Engine) (n display virt : ℕ) : Type 0 where
  pub under-way : e.under_way ≡ true
  pub any : 0 < n
  pub some : e.visited < count_of extent e
  pub few : e.visited + n ≤ count_of extent e
  pub display-long : display ≡ extent.width * extent.height
  pub virt-long : virt ≡ extent.width * extent.height

pub leaps-of : (extent : Extent) (e : Engine) (n display virt : ℕ) → can_leap extent e n display virt ≡ true → Leaps extent e n display virt
unfolding can_leap
leaps-of extent e n display virt h =
    let left = count_of extent e - e.visited in
    let c1 = e.under_way in
    let c2 = ltb 0 n in
    let c3 = leb n left in
    let c4 = eqb display (extent.width * extent.height) in
    let c5 = eqb virt (extent.width * extent.height) in
    let h4 = and_left (c1 && c2 && c3 && c4) c5 h in
    let h3 = and_left (c1 && c2 && c3) c4 h4 in
    let h2 = and_left (c1 && c2) c3 h3 in
    let any = ltb-true 0 n (and_right c1 c2 h2) in
    let few = leb-true n left (and_right (c1 && c2) c3 h3) in
    record {
      under-way = and_left c1 c2 h2;
      any = any;
      some = omega arith;
      few = omega arith;
      display-long = eqb-true display (extent.width * extent.height) (and_right (c1 && c2 && c3) c4 h4);
      virt-long = eqb-true virt (extent.width * extent.height) (and_right (c1 && c2 && c3 && c4) c5 h);
    }

-- buffers of one extent, with no more rows than coordinates reach
pub record Fit (extent : Extent) (own other : ℕ) : Type 0 where
  pub tall : extent.height ≤ 65536
  pub own-long : own ≡ extent.width * extent.height
  pub other-long : other ≡ extent.width * extent.height

pub fit_of : (extent : Extent) (own other : ℕ) → buffers_fit extent own other ≡ true → Fit extent own other
unfolding buffers_fit
fit_of extent own other h =
    let area = extent.width * extent.height in
    let c1 = leb extent.height 65536 in
    let c2 = eqb own area in
    let c3 = eqb other area in
    let h2 = and_left (c1 && c2) c3 h in
    record {
      tall = leb-true extent.height 65536 (and_left c1 c2 h2);
      own-long = eqb-true own area (and_right c1 c2 h2);
      other-long = eqb-true other area (and_right (c1 && c2) c3 h);
    }

-- ---- visits done at once, of those that are left

module _ (extent : Extent) (e : Engine) (r : Visits) (done : SomeDone extent e r) (any : 0 < r.steps) where
  pub leaps-some : (own other : ℕ) → Fit extent own other → e.under_way ≡ true → Leaps extent e r.steps own other
  leaps-some own other fit under-way =
      record {
        under-way = under-way;
        any = any;
        some = omega (arith, done.few, any);
        few = omega (arith, done.few, any);
        display-long = fit.own-long;
        virt-long = fit.other-long;
      }

  pub after-moved : after_visits e r ≡ moved_by extent e r.steps r.pattern
  unfolding after_visits
  after-moved =
      let over = finished_at e r.pattern in
      let more = moved_to e r.steps r.pattern in
      by_cases r.finished
      (λ t.
      let all = eqb-true r.steps (rest_in extent e) (sym done.finished ∙ t) in
      sym (first_of r.finished over more t) ∙ sym (moved-over extent e r.steps r.pattern (omega (arith, all))))
      (λ t.
      let less = eqb-false r.steps (rest_in extent e) (sym done.finished ∙ t) in
      sym (second-of r.finished over more t) ∙ sym (moved-within extent e r.steps r.pattern (omega (arith, less, done.few))))

-- that they are so many visits with no tile, on either buffer
abbrev pub AreVisits : Extent → Engine → List ℕ → List ℕ → Visits → List ℕ → Type 0
AreVisits extent e own other r own' =
    (to : Bool) → (command_in e).to_virtual ≡ to
    → scene (after_visits e r) no_fill (cond to other own') (cond to own' other)
    ≡ visits_of r.steps extent (scene e no_fill (cond to other own) (cond to own other))

-- by the number that was counted
module _ (extent : Extent) (e : Engine) (count : ℕ) (counted : count ≡ count_of extent e) where
  pub none_done : NoneDone extent e (record { pattern = e.pattern; steps = 0; finished = eqb count 0 })
  none_done = record { finished = ap (λ k. eqb k 0) counted; pattern = refl }

  pub some-done : (budget : ℕ) (s : Share) → s ≡ share_of count e.visited budget → (q : Pattern)
      → SomeDone extent e (record { pattern = q; steps = s.n; finished = eqb s.n s.left })
  some-done budget s shared q =
      let rest = ap (λ (s : Share). s.left) shared in
      let least = ap (λ (s : Share). s.n) shared in
      record {
        few = omega (arith, counted, rest, least);
        finished = ap (eqb s.n) (rest ∙ ap (λ k. k - e.visited) counted);
      }
