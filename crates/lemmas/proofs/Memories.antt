-- A memory after bytes were put into it, at once or one by one: its length, the bytes before and after them, and bytes put in two
-- parts.
-- Assumes nothing.
use mathlib.Core.Path.{◌≡◌, ap, ap₂, sym, ◌∙◌}
use mathlib.Core.List.{List, [], ◌∷◌, ◌++◌, append_assoc, append-nil}
use Prim.Native.Nat.{ℕ, suc, ◌+◌, ◌-◌, ◌≤◌, ◌<◌}
use native.Mathlib.Omega.{arith}
use lib.ListN.{length, get_or, set, take, drop, length-append, length-drop, drop_of_length-le, take-append-drop, get_or-append}
use lib.Seq.{get_or-append-add, get_or-take, get_or-drop, length-take-le, take_at, drop_at, drop-drop, sets, sets-eq}
use Rattle.lemmas.specs.Memory.{put_into}

-- before and after the bytes that were put
module _ (l : List ℕ) (at : ℕ) (bytes : List ℕ) (h : at + length bytes ≤ length l) where
  head-long : length (take at l) ≡ at
  head-long = length-take-le at l (omega arith)

  front_long : length (take at l ++ bytes) ≡ at + length bytes
  front_long = length-append (take at l) bytes ∙ ap (λ n. n + length bytes) head-long

  pub put-before : (i : ℕ) → i < at → get_or (put_into l at bytes) i 0 ≡ get_or l i 0
  unfolding put_into
  put-before i k =
      get_or-append (take at l ++ bytes) (drop (at + length bytes) l) 0 i (omega (arith, front_long))
      ∙ get_or-append (take at l) bytes 0 i (omega (arith, head-long)) ∙ get_or-take at l i 0 k

  pub put-after : (i : ℕ) → at + length bytes ≤ i → get_or (put_into l at bytes) i 0 ≡ get_or l i 0
  unfolding put_into
  put-after i k =
      let j = i - (at + length bytes) in
      let split : i ≡ length (take at l ++ bytes) + j = omega (arith, front_long) in
      let whole : at + length bytes + j ≡ i = omega arith in
      ap (λ i. get_or (take at l ++ bytes ++ drop (at + length bytes) l) i 0) split
      ∙ get_or-append-add (take at l ++ bytes) (drop (at + length bytes) l) j 0 ∙ get_or-drop (at + length bytes) l j 0
      ∙ ap (λ i. get_or l i 0) whole

  pub put-length : length (put_into l at bytes) ≡ length l
  unfolding put_into
  put-length =
      length-append (take at l ++ bytes) (drop (at + length bytes) l)
      ∙ omega (arith, front_long, length-drop (at + length bytes) l)

  -- more bytes put behind them
  pub put-join : (more : List ℕ) → put_into (put_into l at bytes) (at + length bytes) more ≡ put_into l at (bytes ++ more)
  unfolding put_into
  put-join more =
      let n = at + length bytes in
      let front = take at l ++ bytes in
      let rest = drop n l in
      let end : n + length more ≡ at + length (bytes ++ more) = omega (arith, length-append bytes more) in
      ap₂ ◌++◌ (ap (λ m. m ++ more) (take_at front rest n front_long) ∙ append_assoc (take at l) bytes more)
      (sym (drop-drop (length more) n (front ++ rest))
      ∙ ap (drop (length more)) (drop_at front rest n front_long)
      ∙ drop-drop (length more) n l
      ∙ ap (λ k. drop k l) end)

-- no bytes put change nothing
pub put-none : (l : List ℕ) (at : ℕ) → put_into l at [] ≡ l
unfolding put_into
put-none l at =
    let same : at + 0 ≡ at = omega arith in
    ap (λ front. front ++ drop (at + 0) l) (append-nil (take at l)) ∙ ap (λ k. take at l ++ drop k l) same ∙ take-append-drop at l

-- as many bytes as the memory has replace it
pub put_whole : (l bytes : List ℕ) → length bytes ≡ length l → put_into l 0 bytes ≡ bytes
unfolding put_into
put_whole l bytes e =
    let end : 0 + length bytes ≡ length bytes = omega arith in
    ap (λ k. bytes ++ drop k l) end ∙ ap (λ rest. bytes ++ rest) (drop_of_length-le l {i = length bytes} (omega (arith, e))) ∙ append-nil bytes

-- ---- bytes put one by one, in two parts, and from the front
pub sets-join : (xs ys l : List ℕ) (at : ℕ) → sets (sets l at xs) (at + length xs) ys ≡ sets l at (xs ++ ys)
sets-join [] ys l at = let h : at + 0 ≡ at = omega arith in rw h
sets-join (x ∷ xs) ys l at =
    let h : at + suc (length xs) ≡ suc at + length xs = omega arith in rw h (sets-join xs ys (set l at x) (suc at))

pub sets-front : (xs l : List ℕ) → length xs ≤ length l → sets l 0 xs ≡ xs ++ drop (length xs) l
sets-front xs l h =
    let e : 0 + length xs ≡ length xs = omega arith in
    sets-eq xs l 0 (omega arith) ∙ ap (λ (k : ℕ). xs ++ drop k l) e
