-- Rows from bits: a few pixels more, one pixel more, and bits that no visit writes; what the loops over a row keep.
-- Assumes nothing.
use mathlib.Core.Path.{◌≡◌, refl, ap, ap₂, sym, subst, ◌∙◌}
use mathlib.Core.Bool.{Bool, true, false, cond}
use mathlib.Core.List.{List}
use mathlib.Core.Logic.{◌⊎◌, inl, inr, ⊎_elim}
use Prim.Native.Nat.{ℕ, ◌+◌, ◌-◌, ◌*◌, ◌/◌, ◌%◌, ◌≤◌, ◌<◌}
use native.Mathlib.Omega.{arith}
use lib.ListN.{length, get_or}
use Rattle.lemmas.specs.Sweeps.{sweep}
use Rattle.lemmas.proofs.Sweeps.{sweep-start, sweep-end, sweep-agree, sweep-join, sweep-stays}
use Rattle.lemmas.proofs.Orders.{turned-from}
use Rattle.stipples.specs.Stipples.{bit_in, bit_at, stippled}
use Rattle.stipples.specs.declared.Stipple.{Stipple}
use Rattle.blits.specs.Bits.{by_byte, expanded, expanded_within, expanded_back, BitsStay, Apart}
use Rattle.blits.specs.declared.bits.BitPlace.{BitPlace}

-- visit k writes at `to k` by the bit that `read k` has of the bytes as they stand
abbrev pub by : Stipple → (ℕ → ℕ) → (ℕ → List ℕ → Bool) → ℕ → List ℕ → List ℕ
by s to read n l = sweep to (λ k m. stippled s (read k m) (get_or m (to k) 0)) n l

-- a row, and b pixels more by the bits of a byte
module _ (s : Stipple) (to : ℕ → ℕ) (read : ℕ → List ℕ → Bool) (a b n : ℕ) (l m r : List ℕ) (at bits : ℕ) where
  more : a + b ≡ n → m ≡ by s to read a l → r ≡ by_byte s b m at bits → ((k : ℕ) → k < b → at + k ≡ to (a + k))
      → ((k : ℕ) → k < b → bit_in k bits ≡ read (a + k) (by_byte s k m at bits)) → r ≡ by s to read n l
  more whole e g places reads =
      g
      ∙ sweep-agree (λ k. at + k) (λ k w. stippled s (bit_in k bits) (get_or w (at + k) 0)) m (λ k. to (a + k))
      (λ k w. stippled s (read (a + k) w) (get_or w (to (a + k)) 0)) b places
      (λ k p. ap₂ (λ t x. stippled s t (get_or (by_byte s k m at bits) x 0)) (reads k p) (places k p))
      ∙ rw (e, ← whole) (sweep-join to (λ k w. stippled s (read k w) (get_or w (to k) 0)) l a b)

-- by bits of another buffer
pub expanded-more : (s : Stipple) (a b n : ℕ) (l m r : List ℕ) (at : ℕ) (source : List ℕ) (from bits place start : ℕ) → a + b ≡ n → place ≡ at + a
    → start ≡ from + a → m ≡ expanded s a l at source from → r ≡ by_byte s b m place bits
    → ((k : ℕ) → k < b → bit_in k bits ≡ bit_at source (start + k)) → r ≡ expanded s n l at source from
expanded-more s a b n l m r at source from bits place start whole here there e g reads =
    more s (λ k. at + k) (λ k w. bit_at source (from + k)) a b n l m r place bits whole e g (λ k p. omega arith)
    (λ k p. let same : start + k ≡ from + (a + k) = omega arith in reads k p ∙ ap (bit_at source) same)

-- one pixel by a bit of the same buffer; `to` and `of` are the places and the bits in the order of the visits
own-more : (s : Stipple) (to of : ℕ → ℕ) (a : ℕ) (l m r : List ℕ) (bits place start : ℕ) → place ≡ to a → start ≡ of a
    → m ≡ by s to (λ k w. bit_at w (of k)) a l → r ≡ by_byte s 1 m place bits
    → ((k : ℕ) → k < 1 → bit_in k bits ≡ bit_at m (start + k)) → r ≡ by s to (λ k w. bit_at w (of k)) (a + 1) l
unfolding sweep
own-more s to of a l m r bits place start here there e g reads =
    more s to (λ k w. bit_at w (of k)) a 1 (a + 1) l m r place bits refl e g
    (λ k p.
    let none : 0 ≡ k = omega arith in
    let same : place + 0 ≡ place = omega arith in
    let first : a ≡ a + 0 = omega arith in
    subst (λ k. place + k ≡ to (a + k)) none (same ∙ here ∙ ap to first))
    (λ k p.
    let none : 0 ≡ k = omega arith in
    let same : start + 0 ≡ start = omega arith in
    let first : a ≡ a + 0 = omega arith in
    reads k p ∙ subst (λ k. bit_at m (start + k) ≡ bit_at (by_byte s k m place bits) (of (a + k))) none (ap (bit_at m) (same ∙ there ∙ ap of first)))

-- bits that no visit writes
module _ (s : Stipple) (n at byte first : ℕ) (in-byte : first < 8) (apart : Apart at byte n) (l : List ℕ) where
  abbrev from : ℕ
  from = 8 * byte + first

  unwritten : (x p : ℕ) → x < n → at ≤ p → p < at + n → (from + x) / 8 ≡ p → ⊥
  unwritten x p h low high e = ⊎_elim (λ q. omega arith) (λ q. omega arith) apart

  bits-stay : (to : ℕ → ℕ) (value : ℕ → List ℕ → ℕ) (k x : ℕ) → x < n → ((j : ℕ) → j < k → (at ≤ to j) × (to j < at + n))
      → bit_at (sweep to value k l) (from + x) ≡ bit_at l (from + x)
  bits-stay to value k x h inside =
      ap (bit_in ((from + x) % 8)) (sweep-stays to value l k ((from + x) / 8) (λ j p e. unwritten x (to j) h (inside j p).0 (inside j p).1 e))

  within-apart : expanded s n l at l from ≡ expanded_within s n l at from
  within-apart =
      sym
      (sweep-agree (λ k. at + k) (λ k m. stippled s (bit_at m (from + k)) (get_or m (at + k) 0)) l (λ k. at + k)
      (λ k m. stippled s (bit_at l (from + k)) (get_or m (at + k) 0)) n (λ k p. refl)
      (λ k p.
      ap (λ t. stippled s t (get_or (expanded_within s k l at from) (at + k) 0))
      (bits-stay (λ k. at + k) (λ k m. stippled s (bit_at m (from + k)) (get_or m (at + k) 0)) k k p (λ j q. (omega arith, omega arith)))))

  abbrev back_place : ℕ → ℕ
  back_place k = at + n - (k + 1)

  abbrev back_value : ℕ → List ℕ → ℕ
  back_value k m = stippled s (bit_at m (from + n - (k + 1))) (get_or m (at + n - (k + 1)) 0)

  back-apart : expanded s n l at l from ≡ expanded_back s n l at from
  back-apart =
      sym
      (sweep-agree back_place back_value l back_place (λ k m. stippled s (bit_at l (from + n - (k + 1))) (get_or m (at + n - (k + 1)) 0)) n (λ k p. refl)
      (λ k p.
      let same : from + n - (k + 1) ≡ from + (n - (k + 1)) = omega arith in
      ap (λ t. stippled s t (get_or (sweep back_place back_value k l) (at + n - (k + 1)) 0))
      (ap (bit_at (sweep back_place back_value k l)) same
      ∙ bits-stay back_place back_value k (n - (k + 1)) (omega arith) (λ j q. (omega arith, omega arith)) ∙ ap (bit_at l) (sym same)))
      ∙ turned-from (λ i. stippled s (bit_at l i)) n l at from)

  -- those of a row stay as they are
  stay : (k i : ℕ) → k ≤ n → i < n → bit_at (expanded s k l at l from) (from + i) ≡ bit_at l (from + i)
  stay k i few h =
      bits-stay (λ k. at + k) (λ k m. stippled s (bit_at l (from + k)) (get_or m (at + k) 0)) k i h (λ j p. (omega arith, omega arith))

  -- in either direction
  pub own-apart : (back : Bool) (r : List ℕ) → r ≡ expanded s n l at l from → r ≡ cond back (expanded_back s n l at from) (expanded_within s n l at from)
  own-apart true r e = e ∙ back-apart
  own-apart false r e = e ∙ within-apart

-- ---- eight pixels a turn
pub apart-stay : (at byte first n : ℕ) → first < 8 → Apart at byte n → BitsStay (λ l. l) at byte first n
apart-stay at byte first n small apart s l k i few h = stay s n at byte first small apart l k i few h

-- k times eight of n pixels are drawn by bits of `source`, which left t
pub record Expanding (s : Stipple) (n : ℕ) (l : List ℕ) (at : ℕ) (source : List ℕ) (byte first : ℕ) (t : List ℕ) (k : ℕ) : Type 0 where
  pub few : 8 * k ≤ n
  pub long : length t ≡ length l
  pub drawn : t ≡ expanded s (8 * k) l at source (8 * byte + first)

pub expanding-start : (s : Stipple) (n : ℕ) (l : List ℕ) (at : ℕ) (source : List ℕ) (byte first : ℕ) → Expanding s n l at source byte first l 0
expanding-start s n l at source byte first = record { few = omega arith; long = refl; drawn = sweep-start _ _ l }

module _ {s : Stipple} {n : ℕ} {l : List ℕ} {at : ℕ} {source : List ℕ} {byte first : ℕ} {t : List ℕ} {k : ℕ}
    (x : Expanding s n l at source byte first t k) where
  pub expanding-end : n ≤ 8 * k → t ≡ expanded s n l at source (8 * byte + first)
  expanding-end h = sweep-end _ _ l (8 * k) n t x.few h x.drawn

  -- m pixels more, by bits of byte i
  module _ (m i : ℕ) (h : 8 * k + m ≤ n) (next : i ≡ byte + k) where
    -- where the bits of the row stay as they are, they are those that were there
    pub stayed : (bytes : List ℕ → List ℕ) → source ≡ bytes l → BitsStay bytes at byte first n → (bits : ℕ)
        → ((j : ℕ) → j < m → bit_in j bits ≡ bit_at (bytes t) (8 * i + first + j)) → (j : ℕ) → j < m → bit_in j bits ≡ bit_at source (8 * i + first + j)
    stayed bytes e stay bits reads j p =
        let same : 8 * i + first + j ≡ 8 * byte + first + (8 * k + j) = omega arith in
        reads j p ∙ ap (bit_at (bytes t)) same
        ∙ ap (λ t. bit_at (bytes t) (8 * byte + first + (8 * k + j))) (x.drawn ∙ ap (λ o. expanded s (8 * k) l at o (8 * byte + first)) e)
        ∙ stay s l (8 * k) (8 * k + j) x.few (omega arith) ∙ ap (λ o. bit_at o (8 * byte + first + (8 * k + j))) (sym e) ∙ ap (bit_at source) (sym same)

    pub expanding-more : (c place : ℕ) (r : List ℕ) (bits : ℕ) → 8 * k + m ≡ c → place ≡ at + 8 * k → r ≡ by_byte s m t place bits
        → ((j : ℕ) → j < m → bit_in j bits ≡ bit_at source (8 * i + first + j)) → r ≡ expanded s c l at source (8 * byte + first)
    expanding-more c place r bits e p g reads =
        expanded-more s (8 * k) m c l t r at source (8 * byte + first) bits place (8 * i + first) e p (omega arith) x.drawn g reads

  pub expanding-turn : (i place : ℕ) (r : List ℕ) (bits : ℕ) → 8 * k + 8 ≤ n → i ≡ byte + k → place ≡ at + 8 * k → length r ≡ length t
      → r ≡ by_byte s 8 t place bits → ((j : ℕ) → j < 8 → bit_in j bits ≡ bit_at source (8 * i + first + j))
      → Expanding s n l at source byte first r (k + 1)
  expanding-turn i place r bits h next p e g reads =
      record {
        few = omega arith;
        long = e ∙ x.long;
        drawn = expanding-more 8 i h next (8 * (k + 1)) place r bits (omega arith) p g reads;
      }

-- ---- 8 or 16 pixels

pub eight-of : (n : ℕ) → (n ≡ 8) ⊎ (n ≡ 16) → 8 ≤ n
eight-of n (inl e) = omega arith
eight-of n (inr e) = omega arith

pub only-eight : (n : ℕ) → (n ≡ 8) ⊎ (n ≡ 16) → (n ≡ 16 → ⊥) → n ≤ 8
only-eight n (inl e) h = omega arith
only-eight n (inr e) h = absurd (h e)

-- ---- one pixel a turn

-- k of n pixels are drawn, each by its bit as it stands then, which left t; p is bit `next` of the buffer
pub record OneByOne (s : Stipple) (to of : ℕ → ℕ) (n : ℕ) (l t : List ℕ) (p : BitPlace) (next k : ℕ) : Type 0 where
  pub few : k ≤ n
  pub long : length t ≡ length l
  pub here : 8 * p.byte + p.bit ≡ next
  pub drawn : t ≡ by s to (λ k w. bit_at w (of k)) k l

pub one-start : (s : Stipple) (to of : ℕ → ℕ) (n : ℕ) (l : List ℕ) (p : BitPlace) (next : ℕ) → 8 * p.byte + p.bit ≡ next
    → OneByOne s to of n l l p next 0
one-start s to of n l p next e = record { few = omega arith; long = refl; here = e; drawn = sweep-start _ _ l }

module _ {s : Stipple} {to of : ℕ → ℕ} {n : ℕ} {l t : List ℕ} {p : BitPlace} {next k : ℕ} (x : OneByOne s to of n l t p next k) where
  -- a pixel by the bit at q, with p' the next
  pub one-turn : k < n → (q p' : BitPlace) (next' : ℕ) (r : List ℕ) (bits : ℕ) → 8 * q.byte + q.bit ≡ of k → 8 * p'.byte + p'.bit ≡ next'
      → length r ≡ length t → r ≡ by_byte s 1 t (to k) bits → ((j : ℕ) → j < 1 → bit_in j bits ≡ bit_at t (8 * q.byte + q.bit + j))
      → OneByOne s to of n l r p' next' (k + 1)
  one-turn h q p' next' r bits e e' same g reads =
      record {
        few = omega arith;
        long = same ∙ x.long;
        here = e';
        drawn = own-more s to of k l t r bits (to k) (8 * q.byte + q.bit) refl e x.drawn g reads;
      }
