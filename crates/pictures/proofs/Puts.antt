-- Bytes put into the output one part after the other: digits, a header, a picture; and the size of a picture.
-- Assumes nothing.
use mathlib.Core.Path.{◌≡◌, refl, ap, ap₂, sym, ◌∙◌}
use mathlib.Core.List.{List, [], ◌∷◌, ◌++◌, append_assoc, append-nil}
use Prim.Native.Nat.{ℕ, ◌+◌, ◌-◌, ◌*◌, ◌/◌, ◌%◌, ◌≤◌, ◌<◌}
use native.Mathlib.Omega.{arith}
use borrow.Author.Tests.{eq-eqb, ne_eqb, le-leb, lt-leb}
use lib.ListN.{length, set, take, drop, length-append, length-drop}
use lib.Seq.{sets-eq, take_all, take-length, drop-drop, drop-length}
use Rattle.lemmas.proofs.Memories.{sets-join, sets-front}
use Rattle.lemmas.proofs.Products.{product-most}
use Rattle.pictures.specs.Texts.{ascii}
use Rattle.pictures.specs.Pictures.{decimal_of, header_of, picture_of, size_of}
use Rattle.pictures.specs.Lent.{Lent, lent}
use Rattle.pictures.specs.Writing.{put_at, written_of}
use Rattle.std.specs.Prelude.{Ok, Err}
use Rattle.pictures.specs.declared.writing.WriteError.TheVariants.{WrongSize, TooShort}
use Rattle.pictures.proofs.Decimals.{decimal-last, decimal-tenth, length_most}

-- the part of a slice from a place on
pub part-is : (l : List ℕ) (at : ℕ) → take (length l - at) (drop at l) ≡ drop at l
part-is l at = take_all (length l - at) (drop at l) (omega (arith, length-drop at l))

-- bytes copied over such a part
pub put-copied : (l bytes part : List ℕ) (at n : ℕ) → at + length bytes ≤ length l → n ≡ length bytes
    → part ≡ take (length bytes) bytes ++ drop (length bytes) (take (length l - at) (drop at l))
    → lent (at + n) (take at l ++ (part ++ drop (length l - at) (drop at l))) ≡ put_at l at bytes
put-copied l bytes part at n h e f =
    let past : at + (length l - at) ≡ length l = omega arith in
    let none : drop (length l - at) (drop at l) ≡ [] =
    drop-drop (length l - at) at l ∙ ap (λ (k : ℕ). drop k l) past ∙ drop-length l in
    ap₂ lent (ap (λ (k : ℕ). at + k) e)
    (rw (none, append-nil part, f, take-length bytes, part-is l at, drop-drop (length bytes) at l)
    (sym (append_assoc (take at l) bytes (drop (at + length bytes) l)) ∙ sym (sets-eq bytes l at h)))

-- the same over a part as long as the bytes
pub put-over : (l bytes part : List ℕ) (at : ℕ) → at + length bytes ≤ length l → part ≡ bytes
    → lent (at + length bytes) (take at l ++ (part ++ drop (at + length bytes - at) (drop at l))) ≡ put_at l at bytes
put-over l bytes part at h f =
    let k : at + length bytes - at ≡ length bytes = omega arith in
    ap (lent (at + length bytes))
    (rw (f, k, drop-drop (length bytes) at l)
    (sym (append_assoc (take at l) bytes (drop (at + length bytes) l)) ∙ sym (sets-eq bytes l at h)))

-- the place after bytes that were put
pub place : {p q : Lent ℕ} → p ≡ q → p.answer ≡ q.answer
place e = ap (λ (p : Lent ℕ). p.answer) e

-- two parts one after the other
pub put_then : (l xs ys : List ℕ) (at : ℕ) (p q : Lent ℕ) → p ≡ put_at l at xs → q ≡ put_at p.bytes p.answer ys
    → q ≡ put_at l at (xs ++ ys)
put_then l xs ys at p q e f =
    let long : at + length xs + length ys ≡ at + length (xs ++ ys) = omega (arith, length-append xs ys) in
    f ∙ ap (λ (p : Lent ℕ). put_at p.bytes p.answer ys) e ∙ ap₂ lent long (sets-join xs ys l at)

-- the digits of a number
pub put_last : (l : List ℕ) (at n : ℕ) → n < 10 → lent (at + 1) (set l at (48 + n)) ≡ put_at l at (decimal_of n)
put_last l at n h = ap (put_at l at) (sym (decimal-last n h))

pub put-tenth : (l : List ℕ) (at n : ℕ) (p : Lent ℕ) → 10 ≤ n → p ≡ put_at l at (decimal_of (n / 10))
    → lent (p.answer + 1) (set p.bytes p.answer (48 + n % 10)) ≡ put_at l at (decimal_of n)
put-tenth l at n p h e =
    put_then l (decimal_of (n / 10)) ((48 + n % 10) ∷ []) at p _ e refl ∙ ap (put_at l at) (sym (decimal-tenth n h))

-- ---- a header
pub header-length : (w h : ℕ) → length (header_of w h) ≡ 9 + length (decimal_of w) + length (decimal_of h)
unfolding header_of
header-length w h = simp length-append (omega arith)

pub put-header : (w h : ℕ) (l : List ℕ) (a b c d e : Lent ℕ)
    → a ≡ put_at l 0 (ascii "P5\n") → b ≡ put_at a.bytes a.answer (decimal_of w)
    → c ≡ put_at b.bytes b.answer (ascii " ") → d ≡ put_at c.bytes c.answer (decimal_of h)
    → e ≡ put_at d.bytes d.answer (ascii "\n255\n") → e ≡ put_at l 0 (header_of w h)
unfolding header_of
put-header w h l a b c d e p q r s t =
    let x = ascii "P5\n" ++ decimal_of w in
    let y = x ++ ascii " " in
    put_then l (y ++ decimal_of h) (ascii "\n255\n") 0 d e
    (put_then l y (decimal_of h) 0 c d (put_then l x (ascii " ") 0 b c (put_then l (ascii "P5\n") (decimal_of w) 0 a b p q) r) s) t

-- ---- the size of a picture
pub size_is : (w h a b n : ℕ) → a ≡ length (decimal_of w) → b ≡ length (decimal_of h) → n ≡ w * h → 9 + a + b + n ≡ size_of w h
size_is w h a b n p q r = omega (arith, header-length w h)

pub size_fits : (w h : ℕ) → w < 4294967296 → h < 4294967296
    → 9 + length (decimal_of w) + length (decimal_of h) + w * h < 18446744073709551616
size_fits w h p q = omega (arith, length_most w, length_most h, product-most w h p q)

pub picture-length : (w h : ℕ) (pixels : List ℕ) → length pixels ≡ w * h → length (picture_of w h pixels) ≡ size_of w h
picture-length w h pixels e = length-append (header_of w h) pixels ∙ ap (λ (n : ℕ). length (header_of w h) + n) e

-- ---- what writing answers, by the tests that it passes
module _ (w h : ℕ) (pixels out : List ℕ) (n : ℕ) (area : n ≡ w * h) where
  pub write-wrong-size : (length pixels ≡ n → ⊥) → lent (Err WrongSize) out ≡ written_of w h pixels out
  unfolding written_of
  write-wrong-size e = rw (ne_eqb (length pixels) (w * h) (λ f. e (f ∙ sym area)))

  module _ (whole : length pixels ≡ n) (size : ℕ) (e : size ≡ size_of w h) where
    pub write-too-short : length out < size → lent (Err TooShort) out ≡ written_of w h pixels out
    unfolding written_of
    write-too-short k = rw (eq-eqb (length pixels) (w * h) (whole ∙ area), lt-leb (size_of w h) (length out) (omega arith))

    pub write_done : (p q : Lent ℕ) → size ≤ length out → p ≡ put_at out 0 (header_of w h) → q ≡ put_at p.bytes p.answer pixels
        → lent (Ok size) q.bytes ≡ written_of w h pixels out
    unfolding written_of
    write_done p q k f g =
        let x = picture_of w h pixels in
        let all = picture-length w h pixels (whole ∙ area) in
        rw (eq-eqb (length pixels) (w * h) (whole ∙ area), le-leb (size_of w h) (length out) (omega arith))
        (ap₂ lent (ap Ok e)
        (ap (λ (r : Lent ℕ). r.bytes) (put_then out (header_of w h) pixels 0 p q f g)
        ∙ sets-front x out (omega arith) ∙ ap (λ (k : ℕ). x ++ drop k out) all))
