-- What a stage accepts of a text, by the byte at its front, and where the text ends.
-- Assumes nothing.
use mathlib.Core.Path.{◌≡◌, refl, ap, sym, ◌∙◌}
use mathlib.Core.Bool.{Bool, true, false, not, ◌&&◌, and-false}
use mathlib.Core.List.{List, [], ◌∷◌}
use Prim.Native.Nat.{ℕ, zero, suc, ◌+◌, ◌≤◌, ◌<◌}
use native.Mathlib.Numerals.{add-one}
use native.Mathlib.Omega.{arith}
use borrow.Author.Tests.{ltb-true, ltb-false, le-leb}
use lib.Dec.{eqb, ltb, leb}
use lib.Seq.{drop-nil}
use Rattle.lemmas.proofs.Booleans.{by_cases, and_left, and_right}
use Rattle.pictures.specs.Texts.{is_white, is_digit, without_comments, take_while, drop_while, with_digit, value_from, reads, numbers_of}
use Rattle.pictures.specs.Readers.{wanted_of, later_of, Longer, goes_on, Follows}
use Rattle.pictures.specs.declared.headers.Stage.{Stage}
use Rattle.pictures.specs.declared.headers.Stage.TheVariants.{Start, White, Number, Broken}
use Rattle.pictures.proofs.Texts.{digit-not-white, white-not-digit, reads_other, value-past}

-- ---- the three numbers
pub wanted-grey : (w h k : ℕ) → (k ≡ 0 → ⊥) → (k ≡ 1 → ⊥) → 255 ≡ wanted_of w h k
wanted-grey w h zero f g = absurd (f refl)
wanted-grey w h (suc zero) f g = absurd (g refl)
wanted-grey w h (suc (suc zero)) f g = refl
wanted-grey w h (suc (suc (suc k))) f g = refl

wanted-below : (w h k : ℕ) → w < 4294967296 → h < 4294967296 → wanted_of w h k < 4294967296
wanted-below w h zero p q = p
wanted-below w h (suc zero) p q = q
wanted-below w h (suc (suc zero)) p q = omega arith
wanted-below w h (suc (suc (suc k))) p q = omega arith

later-none : (w h k : ℕ) → 2 ≤ k → later_of w h k ≡ []
later-none w h zero l = absurd (omega arith)
later-none w h (suc zero) l = absurd (omega arith)
later-none w h (suc (suc k)) l = drop-nil k

pub before-grey : (v n k : ℕ) → (eqb v n && ltb k 2) ≡ true → k < 2
before-grey v n k e = ltb-true k 2 (and_right (eqb v n) (ltb k 2) e)

pub longer-past : (v b : ℕ) → 4294967295 < v → Longer v b v
longer-past v b h n p l =
    value-past v n l (omega arith) ∙ sym (value-past (with_digit v b) n l (omega arith))

module _ (w h b : ℕ) where
  -- ---- white space
  module _ (e : is_white b ≡ true) where
    pub white-start : Follows w h Start b (White 0)
    unfolding goes_on reads drop_while
    white-start t = rw e

    pub white-white : (k : ℕ) → Follows w h (White k) b (White k)
    unfolding goes_on drop_while
    white-white k t = rw e

    number-over : (k v : ℕ) (t : List ℕ) → goes_on w h (Number k v) (b ∷ t) ≡ (eqb v (wanted_of w h k) && reads (later_of w h k) (b ∷ t))
    unfolding goes_on take_while drop_while
    number-over k v t = rw (white-not-digit b e)

    next-number : (k : ℕ) → k < 2 → (t : List ℕ) → goes_on w h (White (suc k)) t ≡ reads (later_of w h k) (b ∷ t)
    unfolding goes_on reads drop_while
    next-number zero l t = rw e
    next-number (suc zero) l t = rw e
    next-number (suc (suc k)) l t = absurd (omega arith)

    pub white-number : (k v n : ℕ) → n ≡ wanted_of w h k → (eqb v n && ltb k 2) ≡ true → Follows w h (Number k v) b (White (k + 1))
    white-number k v n q p t =
        let same : eqb v (wanted_of w h k) ≡ true = ap (eqb v) (sym q) ∙ and_left (eqb v n) (ltb k 2) p in
        rw add-one
        (next-number k (before-grey v n k p) t
        ∙ sym (number-over k v t ∙ ap (λ (x : Bool). x && reads (later_of w h k) (b ∷ t)) same))

    pub white-broken : (k v n : ℕ) → n ≡ wanted_of w h k → (eqb v n && ltb k 2) ≡ false → Follows w h (Number k v) b Broken
    unfolding goes_on reads
    white-broken k v n q p t =
        sym
        (number-over k v t
        ∙ by_cases (ltb k 2)
        (λ l. ap (λ (x : Bool). x && reads (later_of w h k) (b ∷ t)) (ap (eqb v) (sym q) ∙ first-false (eqb v n) (ltb k 2) l p))
        (λ l.
        ap (λ (ns : List ℕ). eqb v (wanted_of w h k) && reads ns (b ∷ t)) (later-none w h k (ltb-false k 2 l))
        ∙ and-false (eqb v (wanted_of w h k))))
      where
        first-false : (x y : Bool) → y ≡ true → (x && y) ≡ false → x ≡ false
        first-false true y f g = sym f ∙ g
        first-false false y f g = refl

  pub broken-stays : Follows w h Broken b Broken
  unfolding goes_on
  broken-stays t = refl

  -- ---- a digit
  module _ (e : is_digit b ≡ true) where
    pub digit-start : Follows w h Start b Broken
    unfolding goes_on
    digit-start t = sym (reads_other (numbers_of w h) b t (digit-not-white b e))

    module _ (p : w < 4294967296) (q : h < 4294967296) (k : ℕ) where
      goes-longer : (v u : ℕ) → Longer v b u → (t : List ℕ) → let later = reads (later_of w h k) (drop_while is_digit t) in
          (eqb (value_from u (take_while is_digit t)) (wanted_of w h k) && later)
          ≡ (eqb (value_from v (b ∷ take_while is_digit t)) (wanted_of w h k) && later)
      goes-longer v u f t =
          ap (λ (x : Bool). x && reads (later_of w h k) (drop_while is_digit t))
          (f (wanted_of w h k) (wanted-below w h k p q) (take_while is_digit t))

      pub digit-white : (u : ℕ) → Longer 0 b u → Follows w h (White k) b (Number k u)
      unfolding goes_on take_while drop_while
      digit-white u f t = rw (digit-not-white b e, e) (goes-longer 0 u f t)

      pub digit-number : (v u : ℕ) → Longer v b u → Follows w h (Number k v) b (Number k u)
      unfolding goes_on take_while drop_while
      digit-number v u f t = rw e (goes-longer v u f t)

  -- ---- another byte
  other : (s : Stage) → is_white b ≡ false → is_digit b ≡ false → (t : List ℕ) → goes_on w h s (b ∷ t) ≡ false
  unfolding goes_on take_while drop_while
  other Start f g t = reads_other (numbers_of w h) b t f
  other (White k) f g t = rw (f, g)
  other (Number k v) f g t = rw (g, reads_other (later_of w h k) b t f) (and-false (eqb v (wanted_of w h k)))
  other Broken f g t = refl

  pub other-broken : (s : Stage) → is_white b ≡ false → is_digit b ≡ false → Follows w h s b Broken
  unfolding goes_on
  other-broken s f g t = sym (other s f g t)

-- ---- the text's end, inside a comment or not
pub start-ends : (w h : ℕ) (c : Bool) → goes_on w h Start (without_comments c []) ≡ false
unfolding goes_on without_comments reads
start-ends w h true = refl
start-ends w h false = refl

pub white-ends : (w h k : ℕ) (c : Bool) → goes_on w h (White k) (without_comments c []) ≡ false
unfolding goes_on without_comments drop_while
white-ends w h k true = refl
white-ends w h k false = refl

all_read : (w h k : ℕ) → reads (later_of w h k) [] ≡ leb 2 k
unfolding reads
all_read w h zero = refl
all_read w h (suc zero) = refl
all_read w h (suc (suc k)) =
    ap (λ (ns : List ℕ). reads ns []) (later-none w h (suc (suc k)) (omega arith)) ∙ sym (le-leb 2 (suc (suc k)) (omega arith))

pub number-ends : (w h k v : ℕ) (c : Bool)
    → goes_on w h (Number k v) (without_comments c []) ≡ (not c && eqb v (wanted_of w h k) && leb 2 k)
unfolding goes_on without_comments take_while drop_while
number-ends w h k v true = other w h 35 (Number k v) refl refl []
number-ends w h k v false = ap (λ (x : Bool). eqb v (wanted_of w h k) && x) (all_read w h k)

pub broken-ends : (w h : ℕ) (c : Bool) → goes_on w h Broken (without_comments c []) ≡ false
unfolding goes_on
broken-ends w h c = refl
