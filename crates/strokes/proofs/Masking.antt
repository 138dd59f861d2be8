-- A pattern's mask, what is mixed by it, and round after round of it.
-- Assumes nothing.
use mathlib.Core.Path.{◌≡◌, refl, ap, sym, subst, ◌∙◌}
use mathlib.Core.Bool.{Bool, true, false, cond, ◌&&◌}
use mathlib.Core.List.{List}
use Prim.Native.Nat.{ℕ, zero, suc, ◌+◌, ◌-◌, ◌*◌, ◌/◌, ◌%◌, ◌^◌, ◌≤◌, ◌<◌, min}
use native.Mathlib.Nat.{mul_assoc, mul_comm, mul-le-mul, div-add-mod, div-mul-le_self, mod-lt, mod-eq_of_lt, div-eq_of_lt}
use native.Mathlib.Nat.{add-mul-div_right, add-mul-mod_self_right}
use native.Mathlib.Omega.{arith}
use borrow.Author.Tests.{leb-true, ltb-true, eqb-true, eqb-false}
use lib.Bits.{bit_and, bit_xor, differ, and_comm, and_mask, and_lt, xor_lt}
use lib.Dec.{eqb, leb, ltb}
use lib.ListN.{length, get_or, set, length-set}
use lib.Seq.{get_or-set_same, get_or-set_other}
use Rattle.std.specs.Prelude.{None}
use Rattle.lemmas.specs.Turns.{in_turn}
use Rattle.lemmas.proofs.Booleans.{by_cases, and_left, and_right}
use Rattle.lemmas.proofs.Sweeps.{set_all}
use Rattle.lemmas.proofs.Turns.{turn-none, turn_more, turn_agree, turn-join}
use Rattle.raster.specs.Selectors.{drawn}
use Rattle.raster.specs.declared.Pen.{Pen}
use Rattle.raster.proofs.Bits.{bit-ind, bit-xor, same_bits}
use Rattle.entries.specs.declared.fields.PatternControl.{PatternControl}
use Rattle.registers.specs.Patterns.{pattern_bit, next_of, moves_of, in_range}
use Rattle.registers.specs.declared.dashes.Pattern.{Pattern}
use Rattle.registers.proofs.Rounds.{moves-in-one-go}
use Rattle.rows.specs.Rows.{mixed}
use Rattle.rows.specs.declared.Mix.{Mix}
use Rattle.strokes.specs.Strokes.{plot, dashed}
use Rattle.strokes.specs.Bresenham.{course_at, plot_dash_at}
use Rattle.strokes.specs.Phases.{pattern_of, dash_pen, back_pen}
use Rattle.strokes.specs.Masks.{goes_round, Round, mask_at, Masks, Rounds, Mixes, mix_at}
use Rattle.strokes.specs.declared.Dashes.{Dashes}
use Rattle.strokes.specs.declared.phases.Phase.{Phase}
use Rattle.strokes.specs.declared.bresenham.Course.{Course}
use Rattle.strokes.proofs.Dashing.{plot-dash-of, bit-of}

-- what the test says
range-parts : (c : PatternControl) (p : Pattern) → in_range c p ≡ true → (p.place < c.length) × (p.repeat < c.scale)
unfolding in_range
range-parts c p h =
    let place = ltb p.place c.length in
    let repeat = ltb p.repeat c.scale in
    (ltb-true p.place c.length (and_left place repeat h), ltb-true p.repeat c.scale (and_right place repeat h))

pub record Goes (c : PatternControl) (p : Pattern) (n : ℕ) : Type 0 where
  pub range : in_range c p ≡ true
  pub sizes : (0 < c.length) × (c.length ≤ 32) × (0 < c.scale) × (c.scale ≤ 8)
  pub few : n ≤ 65536

pub goes_of : (c : PatternControl) (p : Pattern) (n : ℕ) → goes_round c p n ≡ true → Goes c p n
goes_of c p n h =
    let a = leb (64 * c.scale) n in
    let b = leb n 65536 in
    let l = leb c.length 32 in
    let s = leb c.scale 8 in
    let abls = and_left (a && b && l && s) (in_range c p) h in
    let range = and_right (a && b && l && s) (in_range c p) h in
    let abl = and_left (a && b && l) s abls in
    let ab = and_left (a && b) l abl in
    let within = range-parts c p range in
    record {
      range = range;
      sizes = (
        omega (arith, within),
        leb-true c.length 32 (and_right (a && b) l abl),
        omega (arith, within),
        leb-true c.scale 8 (and_right (a && b && l) s abls),
      );
      few = leb-true n 65536 (and_right a b ab);
    }

-- so many whole turns of the pattern
module _ (c : PatternControl) (p : Pattern) (turns : ℕ) (h : in_range c p ≡ true) where
  whole-turns : moves_of c (turns * (c.length * c.scale)) p ≡ p
  whole-turns =
      let within = range-parts c p h in
      let scale : 0 < c.scale = omega (arith, within) in
      let by-scale : turns * (c.length * c.scale) ≡ turns * c.length * c.scale = sym (mul_assoc turns c.length c.scale) in
      let repeat : (p.repeat + turns * (c.length * c.scale)) % c.scale ≡ p.repeat =
      ap (λ (k : ℕ). (p.repeat + k) % c.scale) by-scale
      ∙ add-mul-mod_self_right p.repeat (turns * c.length) c.scale ∙ mod-eq_of_lt within.1 in
      let gone : (p.repeat + turns * (c.length * c.scale)) / c.scale ≡ turns * c.length =
      ap (λ (k : ℕ). (p.repeat + k) / c.scale) by-scale ∙ add-mul-div_right p.repeat (turns * c.length) scale
      ∙ ap (λ (k : ℕ). k + turns * c.length) (div-eq_of_lt within.1) ∙ omega arith in
      let place : (p.place + (p.repeat + turns * (c.length * c.scale)) / c.scale) % c.length ≡ p.place =
      ap (λ (k : ℕ). (p.place + k) % c.length) gone ∙ add-mul-mod_self_right p.place turns c.length ∙ mod-eq_of_lt within.0 in
      moves-in-one-go c (turns * (c.length * c.scale)) p h ∙ (λ i. record { place = place i; repeat = repeat i })

once-sizes : (c : PatternControl) → (0 < c.length) × (c.length ≤ 32) × (0 < c.scale) × (c.scale ≤ 8)
    → (0 < c.length * c.scale) × (c.length * c.scale ≤ 256)
once-sizes c h = (
  mul-le-mul {n₁ = 1} {m₁ = 1} {n₂ = c.length} {m₂ = c.scale} h.0 h.2,
  mul-le-mul {n₁ = c.length} {m₁ = c.scale} {n₂ = 32} {m₂ = 8} h.1 h.3,
)

pub round-of : (c : PatternControl) → (0 < c.length) × (c.length ≤ 32) × (0 < c.scale) × (c.scale ≤ 8)
    → Round c ((c.length * c.scale + 31) / (c.length * c.scale) * (c.length * c.scale))
round-of c h =
    let once : ℕ = c.length * c.scale in
    let turns : ℕ = (once + 31) / once in
    let size = once-sizes c h in
    record {
      some = omega (arith, div-add-mod (once + 31) once, mod-lt (once + 31) size.0, mul_comm turns once);
      most = omega (arith, div-mul-le_self (once + 31) once, size);
      back = λ p range. whole-turns c p turns range;
    }

-- the mask of j pixels, and the phase after them
pub record Masking (d : Dashes) (q : Pattern) (mask : List ℕ) (p : Phase) (j : ℕ) : Type 0 where
  pub long : length mask ≡ 640
  pub masks : Masks (mask_at d q) mask j
  pub phase-is : pattern_of p ≡ moves_of d.control j q
  pub lpat_is : p.lpat ≡ d.lpat

pub masking-start : (d : Dashes) (q : Pattern) (mask : List ℕ) (p : Phase) → length mask ≡ 640 → (pattern_of p ≡ q) × (p.lpat ≡ d.lpat)
    → Masking d q mask p 0
masking-start d q mask p long h =
    record {
      long = long;
      masks = record { right = λ k l. absurd (omega (arith, l)); left = λ k l. absurd (omega (arith, l)) };
      phase-is = h.0 ∙ turn-none (λ _. next_of d.control) q;
      lpat_is = h.1;
    }

bit_byte : (k : ℕ) → k < 2 → k * 255 ≡ cond (eqb k 1) 255 0
bit_byte zero h = refl
bit_byte (suc zero) h = refl
bit_byte (suc (suc k)) h = absurd (omega arith)

module _ {d : Dashes} {q : Pattern} {mask : List ℕ} {p : Phase} {j bit : ℕ} (o : Masking d q mask p j)
    (more : j < 320) (bit_is : bit ≡ p.bits % 2) where
  mask-byte : bit * 255 ≡ mask_at d q j
  mask-byte =
      bit_byte bit (omega (arith, bit_is, mod-lt p.bits {m = 2} (omega arith)))
      ∙ ap (λ (t : Bool). cond t 255 0) (bit-of d.lpat bit p o.lpat_is bit_is)
      ∙ ap (λ (r : Pattern). cond (pattern_bit d.lpat r) 255 0) o.phase-is

  abbrev masked : List ℕ
  masked = set (set mask (320 + j) (bit * 255)) (319 - j) (bit * 255)

  mask-right : (k : ℕ) → k < j + 1 → get_or masked (320 + k) 0 ≡ mask_at d q k
  mask-right k l =
      get_or-set_other (set mask (320 + j) (bit * 255)) (319 - j) (320 + k) (bit * 255) 0 (λ e. omega arith)
      ∙ by_cases (eqb k j)
      (λ t.
      let same : k ≡ j = eqb-true k j t in
      rw same (get_or-set_same mask (320 + j) (bit * 255) 0 (rw o.long (omega arith)) ∙ mask-byte))
      (λ t.
      let other = eqb-false k j t in
      get_or-set_other mask (320 + j) (320 + k) (bit * 255) 0 (λ e. other (omega arith)) ∙ o.masks.right k (omega (arith, other)))

  mask-left : (k : ℕ) → k < j + 1 → get_or masked (319 - k) 0 ≡ mask_at d q k
  mask-left k l =
      by_cases (eqb k j)
      (λ t.
      let same : k ≡ j = eqb-true k j t in
      let inside : 319 - j < length (set mask (320 + j) (bit * 255)) = rw (length-set mask (320 + j) (bit * 255), o.long) (omega arith) in
      rw same (get_or-set_same (set mask (320 + j) (bit * 255)) (319 - j) (bit * 255) 0 inside ∙ mask-byte))
      (λ t.
      let other = eqb-false k j t in
      get_or-set_other (set mask (320 + j) (bit * 255)) (319 - j) (319 - k) (bit * 255) 0 (λ e. other (omega arith))
      ∙ get_or-set_other mask (320 + j) (319 - k) (bit * 255) 0 (λ e. omega arith) ∙ o.masks.left k (omega (arith, other)))

  pub masking-turn : {r : Phase} → (pattern_of r ≡ next_of d.control (pattern_of p)) × (r.lpat ≡ p.lpat) → Masking d q masked r (j + 1)
  masking-turn {r} next =
      record {
        long = length-set (set mask (320 + j) (bit * 255)) (319 - j) (bit * 255) ∙ length-set mask (320 + j) (bit * 255) ∙ o.long;
        masks = record { right = mask-right; left = mask-left };
        phase-is = turn_more (λ _. next_of d.control) q j (pattern_of p) (pattern_of r) o.phase-is next.0;
        lpat_is = next.1 ∙ o.lpat_is;
      }

pub masking-end : {d : Dashes} {q : Pattern} {n : ℕ} {mask : List ℕ} {p : Phase} {j : ℕ} → Masking d q mask p j → j ≡ n
    → Masks (mask_at d q) mask n
masking-end o same = rw (← same) o.masks

-- a bit of the mask picks the pen
xor-twice : (a b : ℕ) → a < 256 → b < 256 → bit_xor (bit_xor a b) b ≡ a
xor-twice a b h g =
    same_bits (bit_xor (bit_xor a b) b) a (xor_lt 8 (bit_xor a b) b (xor_lt 8 a b h g) g) h
    (λ k l.
    simp bit-xor
    (back-again (a / 2 ^ k % 2) (b / 2 ^ k % 2) (mod-lt (a / 2 ^ k) (omega arith)) (mod-lt (b / 2 ^ k) (omega arith))))
  where
    back-again : (x y : ℕ) → x < 2 → y < 2 → differ (differ x y) y ≡ x
    back-again x y h g =
        bit-ind (λ x. differ (differ x y) y ≡ x) (bit-ind (λ y. differ (differ 0 y) y ≡ 0) refl refl y g)
        (bit-ind (λ y. differ (differ 1 y) y ≡ 1) refl refl y g) x h

ones : (x : ℕ) → x < 256 → bit_and 255 x ≡ x
ones x h = and_comm 255 x ∙ and_mask x 8 ∙ mod-eq_of_lt h

picked : (a b : ℕ) → a < 256 → b < 256 → bit_xor (bit_and 255 (bit_xor a b)) b ≡ a
picked a b h g = ap (λ (k : ℕ). bit_xor k b) (ones (bit_xor a b) (xor_lt 8 a b h g)) ∙ xor-twice a b h g

abbrev mix_by : Pen → Pen → Mix
mix_by a b =
    record {
      selectors = record { both = bit_xor a.keep b.keep; old = b.keep; source = bit_xor a.flip b.flip; none = b.flip };
      key = None;
    }

module _ (a b : Pen) (ak : a.keep < 256) (af : a.flip < 256) (bk : b.keep < 256) (bf : b.flip < 256) where
  mix-draws : (t : Bool) (old : ℕ) → mixed (mix_by a b) (cond t 255 0) old ≡ drawn (cond t a b) old
  unfolding mixed
  mix-draws true old = λ i. bit_xor (bit_and old (picked a.keep b.keep ak bk i)) (picked a.flip b.flip af bf i)
  mix-draws false old = refl

  draws-bytes : (t : Bool) (old : ℕ) → old < 256 → drawn (cond t a b) old < 256
  draws-bytes true old h = xor_lt 8 (bit_and old a.keep) a.flip (and_lt 8 old a.keep h ak) af
  draws-bytes false old h = xor_lt 8 (bit_and old b.keep) b.flip (and_lt 8 old b.keep h bk) bf

pub mixes : (d : Dashes) (b : Pen) → b ≡ back_pen d → d.fore.keep < 256 → d.fore.flip < 256 → b.keep < 256 → b.flip < 256
    → Mixes d (mix_by d.fore b)
mixes d b e ak af bk bf =
    record {
      draws = λ t old. mix-draws d.fore b ak af bk bf t old ∙ ap (λ (r : Pen). drawn (cond t d.fore r) old) e;
      bytes = λ t old h. subst (λ (r : Pen). drawn (cond t d.fore r) old < 256) e (draws-bytes d.fore b ak af bk bf t old h);
    }

-- a row in dashes, by its mask
module _ (d : Dashes) (mix : Mix) (w : Mixes d mix) (course : Course) (q : Pattern) (l : List ℕ)
    (small : (k : ℕ) → get_or l k 0 < 256) where
  abbrev draw_at : ℕ → List ℕ → List ℕ
  draw_at k t = mix_at mix course k (mask_at d q k) t

  draw-is : (k : ℕ) (t : List ℕ) → draw_at k t ≡ plot (dash_pen d (moves_of d.control k q)) (course_at course k).place t
  draw-is k t =
      ap (set t (course_at course k).place)
      (w.draws (pattern_bit d.lpat (moves_of d.control k q)) (get_or t (course_at course k).place 0))

  all_small : (n k : ℕ) → get_or (in_turn draw_at n l) k 0 < 256
  unfolding in_turn
  all_small zero k = small k
  all_small (suc n) k =
      let t = in_turn draw_at n l in
      let at = (course_at course n).place in
      rw (draw-is n t)
      (set_all (λ (x : ℕ). x < 256) t at (drawn (dash_pen d (moves_of d.control n q)) (get_or t at 0))
      (w.bytes (pattern_bit d.lpat (moves_of d.control n q)) (get_or t at 0) (all_small n at)) (all_small n) k)

  dashes-masked : (n : ℕ) → dashed (in_turn draw_at n l) (moves_of d.control n q) ≡ in_turn (plot_dash_at d course) n (dashed l q)
  unfolding in_turn
  dashes-masked zero = refl
  dashes-masked (suc n) =
      let t = in_turn draw_at n l in
      let at = (course_at course n).place in
      let r = moves_of d.control n q in
      plot-dash-of d at t r (next_of d.control r) (dash_pen d r) (mixed mix (mask_at d q n) (get_or t at 0)) (all_small n) refl
      (w.draws (pattern_bit d.lpat r) (get_or t at 0)) refl
      ∙ ap (plot_dash_at d course n) (dashes-masked n)

  pub dashes-mixed : (n : ℕ) (m : List ℕ) (r : Pattern) → m ≡ in_turn draw_at n l → r ≡ moves_of d.control n q
      → dashed m r ≡ in_turn (plot_dash_at d course) n (dashed l q)
  dashes-mixed n m r e f = (λ i. dashed (e i) (f i)) ∙ dashes-masked n

-- rounds of the mask: l₀ has j of n pixels mixed, and the mask begins anew
pub record Mixing (mix : Mix) (course : Course) (m n : ℕ) (mask l₀ l : List ℕ) (j : ℕ) : Type 0 where
  pub as_long : length l ≡ length l₀
  pub bytes : (pixel : ℕ → ℕ) → Rounds pixel mask m → l ≡ in_turn (λ k. mix_at mix course k (pixel k)) (min j n) l₀
  pub anew : (pixel : ℕ → ℕ) → Rounds pixel mask m → (i : ℕ) → pixel (j + i) ≡ pixel i

pub mixing-start : (mix : Mix) (course : Course) (m n : ℕ) (mask l : List ℕ) → Mixing mix course m n mask l l 0
mixing-start mix course m n mask l =
    record {
      as_long = refl;
      bytes =
          λ pixel r.
          let draw : ℕ → List ℕ → List ℕ = λ k. mix_at mix course k (pixel k) in
          turn-none draw l ∙ ap (λ (k : ℕ). in_turn draw k l) (omega arith);
      anew = λ pixel r i. ap pixel (omega arith);
    }

fewer-masks : {pixel : ℕ → ℕ} {mask : List ℕ} {m n : ℕ} → Masks pixel mask m → n ≤ m → Masks pixel mask n
fewer-masks o h = record { right = λ k l. o.right k (omega (arith, h)); left = λ k l. o.left k (omega (arith, h)) }

pub mixing-turn : {mix : Mix} {course : Course} {m n : ℕ} {mask l₀ l t : List ℕ} {j k : ℕ}
    → Mixing mix course m n mask l₀ l j → j < n → k ≡ min m (n - j) → length t ≡ length l
    → ((pixel : ℕ → ℕ) → Masks pixel mask k → t ≡ in_turn (λ i. mix_at mix course (j + i) (pixel i)) k l)
    → Mixing mix course m n mask l₀ t (j + m)
mixing-turn {mix} {course} {m} {n} {mask} {l₀} {l} {t} {j} {k} o more e as_long drew =
    record {
      as_long = as_long ∙ o.as_long;
      bytes =
          λ pixel r.
          let draw : ℕ → List ℕ → List ℕ = λ i. mix_at mix course i (pixel i) in
          let before : min j n ≡ j = omega arith in
          let after : j + k ≡ min (j + m) n = omega arith in
          drew pixel (fewer-masks r.first (omega arith))
          ∙ turn_agree (λ i. mix_at mix course (j + i) (pixel i)) (λ i. draw (j + i)) k l
          (λ i h u. ap (λ (x : ℕ). mix_at mix course (j + i) x u) (sym (o.anew pixel r i)))
          ∙ ap (in_turn (λ i. draw (j + i)) k) (o.bytes pixel r ∙ ap (λ (i : ℕ). in_turn draw i l₀) before) ∙ turn-join draw l₀ j k
          ∙ ap (λ (i : ℕ). in_turn draw i l₀) after;
      anew =
          λ pixel r i.
          let whole : j + m + i ≡ m + (j + i) = omega arith in
          ap pixel whole ∙ r.again (j + i) ∙ o.anew pixel r i;
    }

pub mixing-end : {mix : Mix} {course : Course} {m n : ℕ} {mask l₀ l : List ℕ} {j : ℕ} → Mixing mix course m n mask l₀ l j → n ≤ j
    → (pixel : ℕ → ℕ) → Rounds pixel mask m → l ≡ in_turn (λ k. mix_at mix course k (pixel k)) n l₀
mixing-end {mix} {course} {m} {n} {mask} {l₀} {l} {j} o h pixel r =
    o.bytes pixel r ∙ ap (λ (i : ℕ). in_turn (λ k. mix_at mix course k (pixel k)) i l₀) (omega arith)

pub rounds-of : (d : Dashes) (q : Pattern) (mask : List ℕ) (m : ℕ) → Masks (mask_at d q) mask m → Round d.control m
    → in_range d.control q ≡ true → Rounds (mask_at d q) mask m
rounds-of d q mask m o r range =
    record {
      first = o;
      again =
          λ k.
          ap (λ (p : Pattern). cond (pattern_bit d.lpat p) 255 0)
          (sym (turn-join (λ _. next_of d.control) q m k) ∙ ap (moves_of d.control k) (r.back q range));
    }
