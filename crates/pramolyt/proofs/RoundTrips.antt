-- A record comes back from its image, and an image from its record.
-- Assumes nothing.
use mathlib.Core.Path.{◌≡◌, refl, ap, ◌∙◌}
use mathlib.Core.Bool.{Bool, true, false, cond, ◌&&◌, ◌||◌}
use mathlib.Core.List.{List, [], ◌∷◌, ◌++◌, map}
use Prim.Native.Nat.{ℕ, zero, suc, ◌+◌, ◌≤◌, ◌<◌}
use native.Mathlib.Omega.{arith}
use borrow.Author.Tests.{ltb-true}
use lib.Dec.{eqb, ltb}
use lib.ListN.{length, get_or, drop, replicate}
use lib.Seq.{drop-cons}
use Rattle.lemmas.specs.Numbers.{below}
use Rattle.lemmas.specs.Turns.{in_turn}
use Rattle.lemmas.proofs.Booleans.{both, and_left, and_right}
use Rattle.slots.specs.Slots.{slot_of}
use Rattle.board.specs.Bare.{bare_of}
use Rattle.board.specs.declared.record.Board.{Board}
use Rattle.pramolyt.specs.FillImage.{fill_at, tile_word, tile_blank_in}
use Rattle.pramolyt.specs.Image.{flag_of, sizes_words, slot_words, command_words, registers_words, pattern_words, last_words, words_of, bare_in, DecodesEncoded, EncodesFlags, EncodesDecoded}
use Rattle.pramolyt.proofs.FillTrips.{fill-encoded, fill-decoded}

flag-decoded : (t : Bool) → eqb (flag_of t) 1 ≡ t
flag-decoded true = refl
flag-decoded false = refl

flag-encoded : (x : ℕ) → ltb x 2 ≡ true → flag_of (eqb x 1) ≡ x
flag-encoded zero h = refl
flag-encoded (suc zero) h = refl
flag-encoded (suc (suc x)) h = let k : suc (suc x) < 2 = ltb-true _ _ h in absurd (omega arith)

-- the words before the fill's
abbrev pub head_of : Board → List ℕ
head_of b =
    sizes_words b.sizes
    ++ slot_words (slot_of b.active)
    ++ slot_words b.pending
    ++ (b.active.cursor.next ∷ [])
    ++ command_words b.engine
    ++ registers_words b.engine.registers
    ++ pattern_words b.engine.pattern
    ++ last_words b.engine

pub bare-decoded : (b : Board) → bare_in (words_of b) ≡ bare_of b
bare-decoded b = rw (flag-decoded b.active.taken, flag-decoded b.pending.taken, flag-decoded b.engine.under_way)

pub decodes-encoded : DecodesEncoded
decodes-encoded b kept =
    rw (flag-decoded b.active.taken, flag-decoded b.pending.taken, flag-decoded b.engine.under_way)
    (ap (λ f. record { sizes = b.sizes; active = b.active; pending = b.pending; engine = b.engine; fill = f })
    (fill-decoded (head_of b) refl b.fill kept))

flag-below : (t : Bool) → ltb (flag_of t) 2 ≡ true
flag-below true = refl
flag-below false = refl

fill-below : (b : Board) (t : Bool) →
    let w = head_of b ++ cond t (1 ∷ map (tile_word b.fill.tile) (below 32)) (replicate 33 0) in
    (ltb (get_or w fill_at 0) 2 ≡ true) × ((eqb (get_or w fill_at 0) 1 || tile_blank_in w) ≡ true)
unfolding in_turn
fill-below b true = (refl, refl)
fill-below b false = (refl, refl)

pub encodes-flags : EncodesFlags
encodes-flags b =
    let fill = fill-below b b.fill.whole in
    both (both (both (both (flag-below b.active.taken) (flag-below b.pending.taken)) (flag-below b.engine.under_way)) fill.0) fill.1

-- n words from word i on, and those after them
abbrev words_from : ℕ → ℕ → List ℕ → List ℕ
words_from zero i w = []
words_from (suc n) i w = get_or w i 0 ∷ words_from n (suc i) w

words-drop : (n i : ℕ) (w : List ℕ) → i + n ≤ length w → words_from n i w ++ drop (i + n) w ≡ drop i w
words-drop zero i w h = let q : i + 0 ≡ i = omega arith in rw q
words-drop (suc n) i w h =
    let k : i < length w = omega arith in
    let q : i + suc n ≡ suc i + n = omega arith in
    rw (q, drop-cons w i 0, words-drop n (suc i) w (omega arith))

pub encodes-decoded : EncodesDecoded
encodes-decoded w h f =
    let a = ltb (get_or w 3 0) 2 in
    let p = ltb (get_or w 6 0) 2 in
    let c = ltb (get_or w 10 0) 2 in
    let g = ltb (get_or w fill_at 0) 2 in
    let zeros = eqb (get_or w fill_at 0) 1 || tile_blank_in w in
    let flags = and_left (a && p && c && g) zeros f in
    let three = and_left (a && p && c) g flags in
    let two = and_left (a && p) c three in
    rw (
      flag-encoded (get_or w 3 0) (and_left a p two),
      flag-encoded (get_or w 6 0) (and_right a p two),
      flag-encoded (get_or w 10 0) (and_right (a && p) c three),
    )
    (ap (λ l. words_from 28 0 w ++ l) (fill-encoded w h (and_right (a && p && c) g flags) (and_right (a && p && c && g) zeros f))
    ∙ words-drop 28 0 w (omega arith))
