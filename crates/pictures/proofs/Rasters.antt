-- A picture's parts, and where its pixels start, by the tests that it passes; what reading answers by them.
-- Assumes nothing.
use mathlib.Core.Path.{◌≡◌, ap, sym, ◌∙◌}
use mathlib.Core.Bool.{Bool, true, false, ◌&&◌}
use mathlib.Core.List.{List, ◌++◌, append-nil}
use Prim.Native.Nat.{ℕ, ◌+◌, ◌-◌, ◌*◌, ◌≤◌, ◌<◌}
use native.Mathlib.Omega.{arith}
use borrow.Author.Tests.{eq-eqb, ne_eqb, le-leb, lt-leb, eqb-true, leb-true}
use lib.Dec.{eqb, leb}
use lib.ListN.{length, get_or, take, drop, length-drop}
use lib.Seq.{slice, take-length, drop-length}
use Rattle.std.proofs.lemmas.List.{drop-take}
use Rattle.lemmas.proofs.Booleans.{by_cases, and_left, and_right}
use Rattle.pictures.specs.Texts.{is_white, says_size}
use Rattle.pictures.specs.Pictures.{is_picture}
use Rattle.pictures.specs.Lent.{lent}
use Rattle.pictures.specs.Reading.{raster_of, read_of}
use Rattle.std.specs.Prelude.{Some, None, Ok, Err}
use Rattle.pictures.specs.declared.reading.ReadError.TheVariants.{WrongSize, NotAPicture}
use Rattle.pictures.proofs.Puts.{part-is}

-- what the text between P5 and the white space says
pub said-of : (w h : ℕ) (l : List ℕ) (end : ℕ) (t : Bool) → 2 ≤ end → t ≡ says_size w h (take (end - 2) (drop 2 l))
    → says_size w h (slice 2 end l) ≡ t
said-of w h l end t a e =
    let k : end ≡ 2 + (end - 2) = omega arith in
    ap (says_size w h) (ap (λ (n : ℕ). drop 2 (take n l)) k ∙ drop-take 2 (end - 2) l) ∙ sym e

module _ (w h : ℕ) (l : List ℕ) where
  -- ---- the tests of a picture
  pub raster-short : length l < w * h + 3 → None ≡ raster_of w h l
  unfolding raster_of is_picture
  raster-short a = rw (lt-leb (w * h + 3) (length l) a)

  module _ (long : w * h + 3 ≤ length l) (end : ℕ) (e : end ≡ length l - (w * h + 1)) (f : Bool) (g : f ≡ is_white (get_or l end 0)) where
    -- P5, and the one white space
    abbrev framed : Bool
    framed = eqb (get_or l 0 0) 80 && eqb (get_or l 1 0) 53 && f

    pub picture-is : is_picture w h l ≡ (framed && says_size w h (slice 2 end l))
    unfolding is_picture
    picture-is = rw (← e, ← g, le-leb (w * h + 3) (length l) long)

    pub raster-unframed : framed ≡ false → None ≡ raster_of w h l
    unfolding raster_of
    raster-unframed x = rw (picture-is, x)

    pub raster-unsaid : framed ≡ true → says_size w h (slice 2 end l) ≡ false → None ≡ raster_of w h l
    unfolding raster_of
    raster-unsaid x y = rw (picture-is, x, y)

    pub raster-from : framed ≡ true → says_size w h (slice 2 end l) ≡ true
        → (start : ℕ) → start ≡ length l - w * h → Some start ≡ raster_of w h l
    unfolding raster_of
    raster-from x y start i = rw (picture-is, x, y, i)

  pub picture-tests : is_picture w h l ≡ true →
      let end = length l - (w * h + 1) in
      (w * h + 3 ≤ length l) × (get_or l 0 0 ≡ 80) × (get_or l 1 0 ≡ 53) × (is_white (get_or l end 0) ≡ true)
      × (says_size w h (slice 2 end l) ≡ true)
  unfolding is_picture
  picture-tests e =
      let end = length l - (w * h + 1) in
      let a = leb (w * h + 3) (length l) in
      let p = eqb (get_or l 0 0) 80 in
      let q = eqb (get_or l 1 0) 53 in
      let r = is_white (get_or l end 0) in
      let s = says_size w h (slice 2 end l) in
      let front : (a && (p && q && r)) ≡ true = and_left (a && (p && q && r)) s e in
      let three : (p && q && r) ≡ true = and_right a (p && q && r) front in
      let two : (p && q) ≡ true = and_left (p && q) r three in (
        leb-true (w * h + 3) (length l) (and_left a (p && q && r) front),
        eqb-true (get_or l 0 0) 80 (and_left p q two),
        eqb-true (get_or l 1 0) 53 (and_right p q two),
        and_right (p && q) r three,
        and_right (a && (p && q && r)) s e,
      )

  -- ---- where a raster was found or not
  pub raster-found : (start : ℕ) → Some start ≡ raster_of w h l → (is_picture w h l ≡ true) × (start ≡ length l - w * h)
  unfolding raster_of
  raster-found start e = by_cases (is_picture w h l) (λ t. (t, same (length l - w * h) (rw t at e))) (λ t. absurd (never (rw t at e)))
    where
      same : (i : ℕ) → Some start ≡ Some i → start ≡ i
      same i q = cc

      never : Some start ≡ None → ⊥
      never q = let z : ◌≡◌ {A = ℕ} 0 1 = cc in omega arith

  pub raster-none : None ≡ raster_of w h l → is_picture w h l ≡ false
  unfolding raster_of
  raster-none e = by_cases (is_picture w h l) (λ t. absurd (never (length l - w * h) (rw t at e))) (λ t. t)
    where
      never : (i : ℕ) → None ≡ Some i → ⊥
      never i q = let z : ◌≡◌ {A = ℕ} 0 1 = cc in omega arith

  pub raster-fits : (start : ℕ) → Some start ≡ raster_of w h l → (start ≤ length l) × (length (drop start l) ≡ w * h)
  raster-fits start e =
      let p = raster-found start e in
      let long : w * h + 3 ≤ length l = (picture-tests p.0).0 in
      (omega (arith, p.1), length-drop start l ∙ omega (arith, p.1))

  -- ---- what reading answers
  module _ (buffer : List ℕ) (n : ℕ) (area : n ≡ w * h) where
    pub read-wrong-size : (length buffer ≡ n → ⊥) → lent (Err WrongSize) buffer ≡ read_of w h l buffer
    unfolding read_of
    read-wrong-size e = rw (ne_eqb (length buffer) (w * h) (λ f. e (f ∙ sym area)))

    module _ (whole : length buffer ≡ n) where
      pub read-refused : None ≡ raster_of w h l → lent (Err NotAPicture) buffer ≡ read_of w h l buffer
      unfolding read_of
      read-refused e = rw (eq-eqb (length buffer) (w * h) (whole ∙ area), raster-none e)

      -- the pixels are copied over the whole buffer
      pub read_done : (start : ℕ) (m : List ℕ) → Some start ≡ raster_of w h l →
          let x = take (length l - start) (drop start l) in
          m ≡ take (length x) x ++ drop (length x) buffer → lent (Ok tt) m ≡ read_of w h l buffer
      unfolding read_of
      read_done start m e f =
          let p = raster-found start e in
          let x = drop start l in
          let same : length x ≡ length buffer = (raster-fits start e).1 ∙ sym (whole ∙ area) in
          rw (eq-eqb (length buffer) (w * h) (whole ∙ area), p.0)
          (ap (lent (Ok tt))
          (f ∙ rw (part-is l start, take-length x, same, drop-length buffer) (append-nil x ∙ ap (λ (k : ℕ). drop k l) p.1)))

      pub read_all : (start : ℕ) (m : List ℕ) → Some start ≡ raster_of w h l → m ≡ take (length l - start) (drop start l)
          → lent (Ok tt) m ≡ read_of w h l buffer
      read_all start m e f =
          let x = take (length l - start) (drop start l) in
          let same : length x ≡ length buffer =
          ap length (part-is l start) ∙ (raster-fits start e).1 ∙ sym (whole ∙ area) in
          read_done start m e
          (f ∙ sym (rw (take-length x, same, drop-length buffer) (append-nil x)))
