-- The test of a picture against the parts of one; what is written is a picture, and is read back.
-- Assumes nothing.
use mathlib.Core.Path.{◌≡◌, refl, ap, sym, ◌∙◌}
use mathlib.Core.Bool.{true, false}
use mathlib.Core.List.{List, [], ◌∷◌, ◌++◌, append-nil, append_assoc}
use Prim.Native.Nat.{ℕ, suc, ◌+◌, ◌-◌, ◌*◌, ◌≤◌}
use native.Mathlib.Omega.{arith}
use borrow.Author.Tests.{eq-eqb, le-leb}
use lib.ListN.{length, get_or, drop, length-append, length-drop}
use lib.Seq.{slice, take_at, drop_at, take-append_seam, get_or-append_seam, split_at, append_snoc}
use Rattle.pictures.specs.Texts.{ascii, is_white, is_digit, without_comments, take_while, drop_while, reads, numbers_of, says_size}
use Rattle.pictures.specs.Pictures.{Picture, is_picture, pixels_of, decimal_by, decimal_of, header_of, picture_of, size_of}
use Rattle.pictures.specs.Lent.{lent}
use Rattle.pictures.specs.Writing.{written_of}
use Rattle.pictures.specs.Reading.{read_of}
use Rattle.std.specs.Prelude.{Ok}
use Rattle.pictures.specs.RoundTrip.{AcceptsPictures, Unpadded, WritesPictures, Sizes, Restores}
use Rattle.pictures.proofs.Decimals.{decimal}
use Rattle.pictures.proofs.Numerals.{passes, keeps, no-comment, drop-digit, reads-decimal}
use Rattle.pictures.proofs.Puts.{header-length, picture-length}
use Rattle.pictures.proofs.Rasters.{picture-is, picture-tests}

-- ---- the test against the parts
split : (area : ℕ) (l : List ℕ) → area + 3 ≤ length l → get_or l 0 0 ≡ 80 → get_or l 1 0 ≡ 53
    → let end = length l - (area + 1) in l ≡ 80 ∷ 53 ∷ slice 2 end l ++ get_or l end 0 ∷ drop (length l - area) l
split area [] h p q = absurd (omega arith)
split area (a ∷ []) h p q = absurd (omega arith)
split area (a ∷ b ∷ m) h p q =
    let n = length m - (area + 1) in
    let at : suc (suc (length m)) - (area + 1) ≡ suc (suc n) = omega arith in
    let next : suc (suc (length m)) - area ≡ suc (suc (suc n)) = omega arith in
    rw (at, next, p, q) (ap (λ (x : List ℕ). 80 ∷ 53 ∷ x) (split_at m n 0 (omega arith)))

picture-of : (w h : ℕ) (l : List ℕ) → is_picture w h l ≡ true → Picture w h l
picture-of w h l e =
    let t = picture-tests w h l e in
    let end = length l - (w * h + 1) in
    record {
      text = slice 2 end l;
      white = get_or l end 0;
      pixels = pixels_of w h l;
      parts = split (w * h) l t.0 t.1 t.2;
      said = t.4;
      one-white = t.3;
      whole = length-drop (length l - w * h) l ∙ omega (arith, t.0);
    }

-- a picture's parts pass
module _ (w h : ℕ) (text : List ℕ) (white : ℕ) (pixels : List ℕ) (e : length pixels ≡ w * h) where
  abbrev parts : List ℕ
  parts = 80 ∷ 53 ∷ text ++ white ∷ pixels

  long : length parts ≡ 2 + length text + 1 + w * h
  long = let n = length-append text (white ∷ pixels) in omega arith

  parts-pass : is_white white ≡ true → says_size w h text ≡ true → is_picture w h parts ≡ true
  parts-pass p q =
      picture-is w h parts (omega (arith, long)) (suc (suc (length text))) (omega (arith, long)) true
      (sym (ap is_white (get_or-append_seam text white pixels 0) ∙ p))
      ∙ ap (says_size w h) (take-append_seam text (white ∷ pixels)) ∙ q

  parts-pixels : pixels_of w h parts ≡ pixels
  parts-pixels =
      ap (λ (x : List ℕ). drop (length parts - w * h) x) (sym (append_snoc (80 ∷ 53 ∷ text) white pixels))
      ∙ drop_at (80 ∷ 53 ∷ text ++ (white ∷ [])) pixels (length parts - w * h) (omega (arith, length-append text (white ∷ []), long))

pub accepts-pictures : AcceptsPictures
accepts-pictures w h l = (
  picture-of w h l,
  λ p. (
    ap (is_picture w h) p.parts ∙ parts-pass w h p.text p.white p.pixels p.whole p.one-white p.said,
    ap (pixels_of w h) p.parts ∙ parts-pixels w h p.text p.white p.pixels p.whole,
  ),
)

pub unpadded : Unpadded
unfolding drop_while
unpadded n =
    let x = decimal_of n in
    let d = decimal n in (
      ap (drop_while is_digit) (sym (append-nil x)) ∙ passes (drop_while is_digit) drop-digit x d.digits [],
      d.value,
      d.unpadded,
    )

-- ---- what is written, between P5 and the one white space after the 255
abbrev after_width : ℕ → List ℕ
after_width h = ascii " " ++ (decimal_of h ++ ascii "\n255")

abbrev written : ℕ → ℕ → List ℕ
written w h = ascii "\n" ++ (decimal_of w ++ after_width h)

no-comments : (w h : ℕ) → without_comments false (written w h) ≡ written w h
unfolding without_comments
no-comments w h =
    ap (λ (t : List ℕ). ascii "\n" ++ t)
    (keeps (without_comments false) no-comment (decimal_of w) (decimal w).digits (after_width h)
    ∙ ap (λ (t : List ℕ). decimal_of w ++ (ascii " " ++ t))
    (keeps (without_comments false) no-comment (decimal_of h) (decimal h).digits (ascii "\n255")))

written-said : (w h : ℕ) → says_size w h (written w h) ≡ true
written-said w h =
    ap (reads (numbers_of w h)) (no-comments w h)
    ∙ reads-decimal w 10 (h ∷ 255 ∷ []) (after_width h) refl refl
    ∙ reads-decimal h 32 (255 ∷ []) (ascii "\n255") refl refl
    ∙ grey
  where
    grey : reads (255 ∷ []) (ascii "\n255") ≡ true
    grey = unfold reads take_while drop_while in refl

pub writes-pictures : WritesPictures
unfolding header_of
writes-pictures w h pixels e = (
  record {
    text = written w h;
    white = 10;
    pixels = pixels;
    parts = simp append_assoc;
    said = written-said w h;
    one-white = refl;
    whole = e;
  },
  refl,
)

pub sizes : Sizes
unfolding header_of decimal_of decimal_by
sizes = (λ w h. ap (λ (n : ℕ). n + w * h) (header-length w h), refl)

pub restores : Restores
unfolding written_of read_of
restores w h pixels output buffer e f g =
    let x = picture_of w h pixels in
    let p = writes-pictures w h pixels e in
    let q = (accepts-pictures w h x).1 p.0 in
    let all = take_at x (drop (size_of w h) output) (size_of w h) (picture-length w h pixels e) in
    rw (eq-eqb (length pixels) (w * h) e, le-leb (size_of w h) (length output) f, all, eq-eqb (length buffer) (w * h) g, q.0)
    (ap (lent (Ok tt)) (q.1 ∙ p.1))
