-- A blit by the cells that show leaves what it leaves by all of them, since the others draw nothing; so whole lists leave the
-- same by either rule.
-- Assumes nothing.
use Rattle.std.specs.Prelude.{Option, Some, None}
use mathlib.Core.Path.{◌≡◌, refl, ap, ap₂, sym, ◌∙◌}
use mathlib.Core.Bool.{Bool, true, false, not, cond, ◌&&◌, ◌||◌, false≢true}
use mathlib.Core.List.{List, [], ◌∷◌, foldl}
use Prim.Native.Nat.{ℕ, zero, suc, ◌+◌, ◌-◌, ◌<◌}
use native.Mathlib.Omega.{arith}
use borrow.Author.Tests.{eqb-true, ne_eqb, lt-ltb, le-ltb}
use lib.Dec.{eqb, ltb}
use lib.ListN.{length, get_or}
use Rattle.lemmas.specs.Turns.{in_turn}
use Rattle.lemmas.specs.Numbers.{filtered}
use Rattle.lemmas.proofs.Booleans.{by_cases, of_either}
use Rattle.lemmas.proofs.Turns.{turn_agree, turn-join}
use Rattle.geometry.specs.Coordinates.{point_of}
use Rattle.geometry.specs.Clip.{in_buffer, place_of, place_in}
use Rattle.geometry.specs.Blit.{blit_cells, cell_point, cell_visit}
use Rattle.geometry.specs.declared.Cell.{Cell}
use Rattle.geometry.specs.declared.Extent.{Extent}
use Rattle.entries.specs.Fields.{command_of, is_blit, is_line, draws, is_trigger, triggers}
use Rattle.entries.proofs.Registers.{blit-no-line}
use Rattle.entries.specs.declared.decoding.Entry.{Entry}
use Rattle.registers.specs.declared.dashes.Pattern.{Pattern}
use Rattle.registers.specs.declared.file.Registers.{Registers}
use Rattle.sources.proofs.Reading.{source-solid, source-blit}
use Rattle.tiles.specs.Tiles.{no_fill}
use Rattle.tiles.specs.declared.Fill.{Fill}
use Rattle.commands.specs.Visits.{command_in, clipped_out, Rule, shows, every, cells_by, count_by, cell_by, through_to, target_from, source_from}
use Rattle.commands.specs.Hatching.{fill_taken, fill_after}
use Rattle.commands.specs.Steps.{Scene, scene, inked, pattern_after, advanced_by, visit_by, visits_by, pattern_set, with_word, triggered_by, entered_by, taken_by}
use Rattle.commands.specs.Wholes.{pixels_left, finished_by, done_by}
use Rattle.commands.specs.Shown.{OthersKeep, PictureUnchanged}
use Rattle.commands.specs.declared.Engine.{Engine}
use Rattle.commands.proofs.Tests.{position-blit}
use Rattle.commands.proofs.Counts.{rest-finished}
use Rattle.commands.proofs.Visiting.{visits-none, visits-registers, hidden-inks-nothing}

-- display and virtual buffer
abbrev Buffers : Type 0
Buffers = List ℕ × List ℕ

abbrev pictured : Engine → Fill → Buffers → Scene
pictured e f b = scene e f b.0 b.1

-- an engine that an entry left, with what it takes
abbrev entered : Extent → Engine → Buffers → Scene
entered extent e b = pictured e (fill_taken extent e b.0 b.1) b

-- an engine with these registers: of it a blit's mark reads nothing else
abbrev resting : Registers → Engine
resting g = record { under_way = false; visited = 0; registers = g; pattern = record { place = 0; repeat = 0 }; last = 0 }

-- the buffers after a mark of the source at the place
abbrev inked_on : Engine → Option ℕ → Option ℕ → Buffers → Buffers
inked_on e s q b =
    (cond (command_in e).to_virtual b.0 (inked e s q b.0), cond (command_in e).to_virtual (inked e s q b.1) b.1)

-- the buffers after a visit at a cell of the blit in these registers
abbrev marked : Extent → Registers → Fill → Option Cell → Buffers → Buffers
marked extent g f cell b =
    inked_on (resting g) (source_from extent (resting g) f cell b.0 b.1) (through_to extent g (cell_visit (point_of g.xy1) g.xy3 cell)) b

-- ---- a cell that does not show draws nothing
hidden-place : (extent : Extent) (g : Registers) (cell : Option Cell) → shows extent g cell ≡ false
    → through_to extent g (cell_visit (point_of g.xy1) g.xy3 cell) ≡ None
unfolding shows place_of
hidden-place extent g (Some c) h =
    let p = cell_point (point_of g.xy1) g.xy3 c.column c.row in
    let inside = in_buffer extent.width extent.height p in
    by (clipped_out g p) inside (Some (place_in extent.width p)) h
  where
    by : (out inside : Bool) (q : Option ℕ) → (not out && inside) ≡ false → cond out None (cond inside q None) ≡ None
    by true inside q h = refl
    by false true q h = absurd (false≢true (sym h))
    by false false q h = refl
hidden-place extent g None h = refl

hidden-marks : (extent : Extent) (g : Registers) (f : Fill) (cell : Option Cell) → shows extent g cell ≡ false → (b : Buffers) → marked extent g f cell b ≡ b
hidden-marks extent g f cell h b =
    let e = resting g in
    let s = source_from extent e f cell b.0 b.1 in
    let q = through_to extent g (cell_visit (point_of g.xy1) g.xy3 cell) in
    let none = hidden-place extent g cell h in
    ap₂ (λ d v. (d, v))
    (of_either (λ l. l ≡ b.0) (command_in e).to_virtual refl (hidden-inks-nothing e s q b.0 none))
    (of_either (λ l. l ≡ b.1) (command_in e).to_virtual (hidden-inks-nothing e s q b.1 none) refl)

-- steps at the elements of a list, less those that fail a test and change nothing
module _ {A S : Type 0} (act : A → S → S) where
  abbrev over : S → List A → S
  over s l = foldl (λ s x. act x s) s l

  over-filtered : (p : A → Bool) → ((x : A) → p x ≡ false → (s : S) → act x s ≡ s) → (l : List A) (s : S) → over s (filtered p l) ≡ over s l
  unfolding filtered
  over-filtered p idle [] s = refl
  over-filtered p idle (x ∷ l) s =
      by_cases (p x)
      (λ t. ap (λ t. over s (cond t (x ∷ filtered p l) (filtered p l))) t ∙ over-filtered p idle l (act x s))
      (λ t. ap (λ t. over s (cond t (x ∷ filtered p l) (filtered p l))) t ∙ over-filtered p idle l s ∙ ap (λ s. over s l) (sym (idle x t s)))

  over-turns : (l : List A) (d : A) (s : S) → in_turn (λ k. act (get_or l k d)) (length l) s ≡ over s l
  unfolding in_turn
  over-turns [] d s = refl
  over-turns (x ∷ l) d s =
      let f : ℕ → S → S = λ k. act (get_or (x ∷ l) k d) in
      let e : suc (length l) ≡ 1 + length l = omega arith in
      ap (λ n. in_turn f n s) e
      ∙ sym (turn-join f s 1 (length l))
      ∙ turn_agree (λ i. f (1 + i)) (λ i. act (get_or l i d)) (length l) (act x s)
      (λ k h t. let e : 1 + k ≡ suc k = omega arith in ap (λ i. f i t) e)
      ∙ over-turns l d (act x s)

-- ---- one visit of a blit, by any rule
module _ (extent : Extent) (e : Engine) (blit : is_blit (command_in e) ≡ true) where
  same-ink : (s : Option ℕ) (q : Option ℕ) (l : List ℕ) → inked e s q l ≡ inked (resting e.registers) s q l
  same-ink (Some v) (Some i) l = refl
  same-ink (Some v) None l = refl
  same-ink None q l = refl

  same-inks : (s : Option ℕ) (q : Option ℕ) (b : Buffers) → inked_on e s q b ≡ inked_on (resting e.registers) s q b
  same-inks s q b =
      ap₂ (λ d v. (cond (command_in e).to_virtual b.0 d, cond (command_in e).to_virtual v b.1)) (same-ink s q b.0) (same-ink s q b.1)

  -- the pattern is not read
  same_source : (f : Fill) (cell : Option Cell) (b : Buffers) → source_from extent e f cell b.0 b.1 ≡ source_from extent (resting e.registers) f cell b.0 b.1
  same_source f cell b =
      let c = command_in e in
      let g = e.registers in
      let q = (resting g).pattern in
      by_cases c.solid
      (λ t. sym (source-solid c g e.pattern extent f cell b.0 b.1 t) ∙ source-solid c g q extent f cell b.0 b.1 t)
      (λ t. sym (source-blit c g e.pattern extent f cell b.0 b.1 t blit) ∙ source-blit c g q extent f cell b.0 b.1 t blit)

  visit-marks : (rule : Rule) (f : Fill) (b : Buffers) →
      let a = advanced_by rule extent e in
      visit_by rule extent (pictured e f b) ≡ pictured a (fill_after a f) (marked extent e.registers f (cell_by rule extent e e.visited) b)
  unfolding visit_by
  visit-marks rule f b =
      let a = advanced_by rule extent e in
      let cell = cell_by rule extent e e.visited in
      ap (pictured a (fill_after a f))
      (ap₂ (λ s v. inked_on e s (through_to extent e.registers v) b) (same_source f cell b) (sym (position-blit e e.visited cell blit))
      ∙ same-inks (source_from extent (resting e.registers) f cell b.0 b.1) (through_to extent e.registers (cell_visit (point_of e.registers.xy1) e.registers.xy3 cell)) b)

-- ---- all visits of a blit, by any rule
-- a blit that has visited j pixels, and one that has finished
abbrev midway : Registers → Pattern → ℕ → ℕ → Engine
midway g q last j = record { under_way = true; visited = j; registers = g; pattern = q; last = last }

abbrev finished : Registers → Pattern → Engine
finished g q = record { under_way = false; visited = 0; registers = g; pattern = q; last = g.xy1 }

module _ (rule : Rule) (extent : Extent) (g : Registers) (q : Pattern) (last : ℕ) (blit : is_blit (command_of g.cmd) ≡ true) (f : Fill) where
  abbrev cells : List (Option Cell)
  cells = cells_by rule extent g

  abbrev act : ℕ → Buffers → Buffers
  act k = marked extent g f (get_or cells k None)

  count-is : (e : Engine) → e.registers ≡ g → count_by rule extent e ≡ length cells
  unfolding count_by
  count-is e p = rw (p, blit)

  cell-is : (j : ℕ) → cell_by rule extent (midway g q last j) j ≡ get_or cells j None
  unfolding cell_by
  cell-is j = rw blit

  keeps-pattern : (j : ℕ) → pattern_after (midway g q last j) ≡ q
  unfolding pattern_after
  keeps-pattern j = rw (blit-no-line (command_of g.cmd) blit)

  advanced : (j : ℕ) → advanced_by rule extent (midway g q last j) ≡ cond (ltb (suc j) (length cells)) (midway g q last (suc j)) (finished g q)
  unfolding advanced_by
  advanced j =
      let e : j + 1 ≡ suc j = omega arith in
      rw (count-is (midway g q last j) refl, e, keeps-pattern j)

  -- after visit j, by whether there are more; with the last the tile goes
  abbrev after : Bool → ℕ → Buffers → Scene
  after more j b =
      let e = cond more (midway g q last (suc j)) (finished g q) in
      pictured e (fill_after e f) b

  step : (j : ℕ) (b : Buffers) → visit_by rule extent (pictured (midway g q last j) f b) ≡ after (ltb (suc j) (length cells)) j (act j b)
  step j b =
      visit-marks extent (midway g q last j) blit rule f b
      ∙ ap₂ (λ e cell. pictured e (fill_after e f) (marked extent g f cell b)) (advanced j) (cell-is j)

  some-visits : (m : ℕ) (b : Buffers) → m < length cells
      → visits_by rule m extent (pictured (midway g q last 0) f b) ≡ pictured (midway g q last m) f (in_turn act m b)
  unfolding visits_by in_turn
  some-visits zero b l = refl
  some-visits (suc m) b l =
      ap (visit_by rule extent) (some-visits m b (omega arith)) ∙ step m (in_turn act m b)
      ∙ ap (λ t. after t m (act m (in_turn act m b))) (lt-ltb (suc m) (length cells) l)

  all-visits : (n : ℕ) (b : Buffers) → length cells ≡ suc n
      → visits_by rule (suc n) extent (pictured (midway g q last 0) f b) ≡ pictured (finished g q) no_fill (in_turn act (suc n) b)
  unfolding visits_by in_turn
  all-visits n b p =
      ap (visit_by rule extent) (some-visits n b (omega arith)) ∙ step n (in_turn act n b)
      ∙ ap (λ t. after t n (act n (in_turn act n b))) (le-ltb (suc n) (length cells) (omega arith))

-- ---- a trigger and all visits of its blit
module _ (rule : Rule) (extent : Extent) (number : ℕ) (f : Engine) (b : Buffers) (trigger : is_trigger number ≡ true)
    (blit : is_blit (command_in f) ≡ true) where
  -- what the blit takes, if it visits any
  abbrev taken : Fill
  taken = fill_taken extent (midway f.registers (pattern_set number f) f.last 0) b.0 b.1

  abbrev left : Buffers
  left = foldl (λ b cell. marked extent f.registers taken cell b) b (cells_by rule extent f.registers)

  triggering : triggers number (command_in f) ≡ true
  triggering = ap₂ (λ t u. t && (u || is_line (command_in f))) trigger blit

  -- by the number of cells
  begun : (n : ℕ) → count_by rule extent f ≡ n
      → triggered_by rule extent number f
      ≡ record {
        under_way = ltb 0 n;
        visited = 0;
        registers = f.registers;
        pattern = pattern_set number f;
        last = cond (eqb n 0) f.registers.xy1 f.last;
      }
  begun n p i =
      record {
        under_way = triggering i && ltb 0 (p i);
        visited = 0;
        registers = f.registers;
        pattern = pattern_set number f;
        last = cond (triggering i && eqb (p i) 0) f.registers.xy1 f.last;
      }

  some : (n : ℕ)
      → record {
        under_way = ltb 0 (suc n);
        visited = 0;
        registers = f.registers;
        pattern = pattern_set number f;
        last = cond (eqb (suc n) 0) f.registers.xy1 f.last;
      }
      ≡ midway f.registers (pattern_set number f) f.last 0
  some n i =
      record {
        under_way = lt-ltb 0 (suc n) (omega arith) i;
        visited = 0;
        registers = f.registers;
        pattern = pattern_set number f;
        last = cond (ne_eqb (suc n) 0 (λ p. omega arith) i) f.registers.xy1 f.last;
      }

  by_count : (n : ℕ) → length (cells_by rule extent f.registers) ≡ n
      → finished_by rule extent (entered extent (triggered_by rule extent number f) b)
      ≡ pictured (finished f.registers (pattern_set number f)) no_fill
      (in_turn (λ k. marked extent f.registers taken (get_or (cells_by rule extent f.registers) k None)) n b)
  unfolding in_turn
  by_count zero p =
      let none = count-is rule extent f.registers (pattern_set number f) f.last blit taken f refl ∙ p in
      ap (λ e. finished_by rule extent (entered extent e b)) (begun 0 none)
      ∙ sym (visits-none rule extent (pictured (finished f.registers (pattern_set number f)) no_fill b))
  by_count (suc n) p =
      let g = f.registers in
      let q = pattern_set number f in
      let all = count-is rule extent g q f.last blit taken f refl ∙ p in
      let left : count_by rule extent (midway g q f.last 0) - 0 ≡ suc n =
      let c = count-is rule extent g q f.last blit taken (midway g q f.last 0) refl ∙ p in omega (arith, c) in
      ap (λ e. finished_by rule extent (entered extent e b)) (begun (suc n) all ∙ some n)
      ∙ ap (λ n. visits_by rule n extent (pictured (midway g q f.last 0) taken b)) left
      ∙ all-visits rule extent g q f.last blit taken n b p

  blit-done : finished_by rule extent (entered extent (triggered_by rule extent number f) b)
      ≡ pictured (finished f.registers (pattern_set number f)) no_fill left
  blit-done =
      let g = f.registers in
      by_count (length (cells_by rule extent g)) refl
      ∙ ap (pictured (finished g (pattern_set number f)) no_fill) (over-turns (marked extent g taken) (cells_by rule extent g) None b)

every-passes : (extent : Extent) (g : Registers) (l : List (Option Cell)) → filtered (every extent g) l ≡ l
unfolding filtered every
every-passes extent g [] = refl
every-passes extent g (x ∷ l) = ap (λ l. x ∷ l) (every-passes extent g l)

blit-unchanged : (extent : Extent) (number : ℕ) (f : Engine) (b : Buffers) → is_trigger number ≡ true → is_blit (command_in f) ≡ true
    → finished_by shows extent (entered extent (triggered_by shows extent number f) b)
    ≡ finished_by every extent (entered extent (triggered_by every extent number f) b)
blit-unchanged extent number f b trigger blit =
    let g = f.registers in
    let end = finished g (pattern_set number f) in
    let t = taken shows extent number f b trigger blit in
    blit-done shows extent number f b trigger blit
    ∙ ap (pictured end no_fill) (over-filtered (marked extent g t) (shows extent g) (hidden-marks extent g t) (blit_cells g.xy2) b)
    ∙ ap (λ l. pictured end no_fill (foldl (λ b cell. marked extent g t cell b) b l)) (sym (every-passes extent g (blit_cells g.xy2)))
    ∙ sym (blit-done every extent number f b trigger blit)

-- ---- any other command has the same steps by any rule
pub others_keep : OthersKeep
unfolding count_by
others_keep rule extent e h = rw h

other-cell : (rule : Rule) (extent : Extent) (e : Engine) (k : ℕ) → is_blit (command_in e) ≡ false → cell_by rule extent e k ≡ cell_by every extent e k
unfolding cell_by
other-cell rule extent e k h = rw h

other-advanced : (rule : Rule) (extent : Extent) (e : Engine) → is_blit (command_in e) ≡ false → advanced_by rule extent e ≡ advanced_by every extent e
unfolding advanced_by
other-advanced rule extent e h =
    let q = pattern_after e in
    ap (λ n.
    cond (ltb (e.visited + 1) n) (midway e.registers q e.last (e.visited + 1)) (finished e.registers q))
    (others_keep rule extent e h)

other-visit : (rule : Rule) (extent : Extent) (s : Scene) → is_blit (command_in s.engine) ≡ false → visit_by rule extent s ≡ visit_by every extent s
unfolding visit_by
other-visit rule extent s h =
    let e = s.engine in
    let f = s.fill in
    let b : Buffers = (s.display, s.virt) in
    ap₂ (λ a cell. pictured a (fill_after a f) (inked_on e (source_from extent e f cell b.0 b.1) (target_from extent e e.visited cell) b))
    (other-advanced rule extent e h) (other-cell rule extent e e.visited h)

other-visits : (rule : Rule) (n : ℕ) (extent : Extent) (s : Scene) → is_blit (command_in s.engine) ≡ false
    → visits_by rule n extent s ≡ visits_by every n extent s
unfolding visits_by
other-visits rule zero extent s h = refl
other-visits rule (suc n) extent s h =
    let r = visits_by every n extent s in
    ap (visit_by rule extent) (other-visits rule n extent s h)
    ∙ other-visit rule extent r (ap (λ (g : Registers). is_blit (command_of g.cmd)) (visits-registers every n extent s) ∙ h)

other-unchanged : (extent : Extent) (number : ℕ) (f : Engine) (b : Buffers) → is_blit (command_in f) ≡ false
    → finished_by shows extent (entered extent (triggered_by shows extent number f) b)
    ≡ finished_by every extent (entered extent (triggered_by every extent number f) b)
other-unchanged extent number f b h =
    let keep = others_keep shows extent f h in
    let t = triggered_by every extent number f in
    (λ i.
    finished_by shows extent
    (entered extent
    (record {
      under_way = triggers number (command_in f) && ltb 0 (keep i);
      visited = 0;
      registers = f.registers;
      pattern = pattern_set number f;
      last = cond (triggers number (command_in f) && eqb (keep i) 0) f.registers.xy1 f.last;
    })
    b))
    ∙ ap (λ n. visits_by shows (cond t.under_way (n - 0) 0) extent (entered extent t b)) (others_keep shows extent t h)
    ∙ other-visits shows (pixels_left every extent t) extent (entered extent t b) h

-- another register than XY1 triggers nothing
nothing-triggered : (rule : Rule) (extent : Extent) (number : ℕ) (f : Engine) (b : Buffers) → is_trigger number ≡ false
    → finished_by rule extent (entered extent (triggered_by rule extent number f) b)
    ≡ pictured (record { under_way = false; visited = 0; registers = f.registers; pattern = pattern_set number f; last = f.last }) no_fill b
nothing-triggered rule extent number f b h =
    let e : Engine = record { under_way = false; visited = 0; registers = f.registers; pattern = pattern_set number f; last = f.last } in
    (λ i.
    finished_by rule extent
    (entered extent
    (record {
      under_way = h i && draws (command_in f) && ltb 0 (count_by rule extent f);
      visited = 0;
      registers = f.registers;
      pattern = pattern_set number f;
      last = cond (h i && draws (command_in f) && eqb (count_by rule extent f) 0) f.registers.xy1 f.last;
    })
    b))
    ∙ sym (visits-none rule extent (pictured e no_fill b))

-- ---- an entry, and entries one after the other
entry-unchanged : (extent : Extent) (s : Scene) (entry : Entry)
    → finished_by shows extent (taken_by shows extent s entry) ≡ finished_by every extent (taken_by every extent s entry)
unfolding entered_by
entry-unchanged extent s entry =
    let f = with_word s.engine entry in
    let number = entry.register in
    let b : Buffers = (s.display, s.virt) in
    by_cases (is_trigger number)
    (λ t.
    by_cases (is_blit (command_in f)) (λ u. blit-unchanged extent number f b t u) (λ u. other-unchanged extent number f b u))
    (λ t. nothing-triggered shows extent number f b t ∙ sym (nothing-triggered every extent number f b t))

done-same : (extent : Extent) (es : List Entry) (s t : Scene) → finished_by shows extent s ≡ finished_by every extent t
    → done_by shows extent s es ≡ done_by every extent t es
unfolding done_by
done-same extent [] s t p = p
done-same extent (e ∷ es) s t p =
    done-same extent es (taken_by shows extent (finished_by shows extent s) e) (taken_by every extent (finished_by every extent t) e)
    (ap (λ r. finished_by shows extent (taken_by shows extent r e)) p ∙ entry-unchanged extent (finished_by every extent t) e)

pub picture-unchanged : PictureUnchanged
picture-unchanged extent s es h = done-same extent es s s (rest-finished shows extent s h ∙ sym (rest-finished every extent s h))
