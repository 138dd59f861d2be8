-- A reader at the start of a text, after a byte, and at the text's end.
-- Assumes nothing.
use mathlib.Core.Path.{◌≡◌, refl, ap, sym, ◌∙◌}
use mathlib.Core.Bool.{Bool, true, false, not, ◌&&◌}
use mathlib.Core.List.{List, [], ◌∷◌}
use Prim.Native.Nat.{ℕ, suc, ◌+◌, ◌≤◌, ◌<◌}
use native.Mathlib.Numerals.{add-one}
use borrow.Author.Tests.{eq-eqb, ne_eqb}
use lib.Dec.{eqb, leb}
use lib.ListN.{length, get_or, drop, drop_of_length-le}
use Rattle.std.proofs.Math.Seq.{drop-cons}
use Rattle.pictures.specs.Texts.{ends_comment, without_comments, says_size}
use Rattle.pictures.specs.Readers.{wanted_of, goes_on, Follows, accepts}
use Rattle.pictures.specs.declared.headers.Stage.{Stage}
use Rattle.pictures.specs.declared.headers.Stage.TheVariants.{Start, Number}
use Rattle.pictures.specs.declared.headers.Reader.{Reader}
use Rattle.pictures.proofs.Stages.{number-ends}

abbrev reader : Bool → Stage → Reader
reader comment stage = record { comment = comment; stage = stage }

module _ (w h : ℕ) where
  pub at-start : (l : List ℕ) → accepts w h (reader false Start) l ≡ says_size w h l
  unfolding goes_on
  at-start l = refl

  module _ (r : Reader) (b : ℕ) where
    pub in-comment : (f : Bool) → r.comment ≡ true → f ≡ ends_comment b
        → (l : List ℕ) → accepts w h (reader (not f) r.stage) l ≡ accepts w h r (b ∷ l)
    unfolding without_comments
    in-comment f p q l = rw (q, p)

    pub comment-starts : r.comment ≡ false → b ≡ 35
        → (l : List ℕ) → accepts w h (reader true r.stage) l ≡ accepts w h r (b ∷ l)
    unfolding without_comments
    comment-starts p q l = rw (p, eq-eqb b 35 q)

    pub text-byte : (s : Stage) → r.comment ≡ false → (b ≡ 35 → ⊥) → Follows w h r.stage b s
        → (l : List ℕ) → accepts w h (reader false s) l ≡ accepts w h r (b ∷ l)
    unfolding without_comments
    text-byte s p q k l = rw (p, ne_eqb b 35 q) (k (without_comments false l))

  module _ (r : Reader) where
    pub ends-number : (k v n : ℕ) → r.stage ≡ Number k v → n ≡ wanted_of w h k
        → (not r.comment && eqb v n && leb 2 k) ≡ accepts w h r []
    ends-number k v n p q = rw (p, q) (sym (number-ends w h k v r.comment))

    pub ends-early : (s : Stage) → r.stage ≡ s → ((c : Bool) → goes_on w h s (without_comments c []) ≡ false)
        → false ≡ accepts w h r []
    ends-early s p q = rw p (sym (q r.comment))

  -- the loop over a text's bytes, which are `all` of them accepted or not
  module _ (l : List ℕ) (all : Bool) where
    pub accepts-next : (r s : Reader) (k : ℕ) → k < length l
        → ((t : List ℕ) → accepts w h s t ≡ accepts w h r (get_or l k 0 ∷ t)) → accepts w h r (drop k l) ≡ all
        → accepts w h s (drop (k + 1) l) ≡ all
    accepts-next r s k a e i = rw add-one (e (drop (suc k) l) ∙ ap (accepts w h r) (sym (drop-cons l k 0 a)) ∙ i)

    pub accepts-all : (r : Reader) (k : ℕ) (x : Bool) → length l ≤ k → accepts w h r (drop k l) ≡ all
        → x ≡ accepts w h r [] → x ≡ all
    accepts-all r k x a i e = e ∙ ap (accepts w h r) (sym (drop_of_length-le l a)) ∙ i
