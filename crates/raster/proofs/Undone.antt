-- Code 6 undoes itself, bit by bit.
-- Assumes nothing.
use mathlib.Core.Path.{◌≡◌, refl, ap, sym, ◌∙◌}
use Prim.Native.Nat.{ℕ, zero, suc, ◌%◌, ◌<◌}
use native.Mathlib.Omega.{arith}
use lib.Dec.{lit<}
use Rattle.raster.specs.Raster.{bit, new_bit, new_byte}
use Rattle.raster.specs.Codes.{SixUndoesItself}
use Rattle.raster.proofs.Bits.{bit-ind, same_bits}
use Rattle.raster.proofs.Rule.{new_byte-lt, new_byte-bit, new_byte-low}

bit-undone : (s d m : ℕ) → s < 2 → d < 2 → new_bit 6 s (new_bit 6 s d m) m ≡ d
unfolding new_bit
bit-undone s d zero h k = refl
bit-undone s d (suc m) h k =
    let twice : ℕ → ℕ → ℕ = λ s d. new_bit 6 s (new_bit 6 s d 1) 1 in
    bit-ind (λ s. twice s d ≡ d) (bit-ind (λ d. twice 0 d ≡ d) refl refl d k) (bit-ind (λ d. twice 1 d ≡ d) refl refl d k) s h

byte-undone : (s d m : ℕ) → d < 256 → m < 256 → new_byte 6 s (new_byte 6 s d m) m ≡ d
byte-undone s d m h l =
    let once = new_byte 6 s d m in
    let small = new_byte-lt 6 s d m (lit< tt) h l in
    same_bits (new_byte 6 s once m) d (new_byte-lt 6 s once m (lit< tt) small l) h
    (λ k q.
    new_byte-bit k 6 s once m q (lit< tt) small l
    ∙ ap (λ x. new_bit 6 (bit k s) x (bit k m)) (new_byte-bit k 6 s d m q (lit< tt) h l)
    ∙ bit-undone (bit k s) (bit k d) (bit k m) (omega arith) (omega arith))

pub six-undoes-itself : SixUndoesItself
six-undoes-itself s d m h =
    let low : (x : ℕ) → new_byte 6 s x m ≡ new_byte 6 (s % 256) x (m % 256) = λ x. sym (new_byte-low 6 s x m) in
    low (new_byte 6 s d m) ∙ ap (λ x. new_byte 6 (s % 256) x (m % 256)) (low d) ∙ byte-undone (s % 256) d (m % 256) h (omega arith)
