-- Rows of pixels from bits (02, R-2), in the order of their visits. Places in the source are bits.
use Rattle.std.specs.Prelude.{◌≡◌, List, ◌⊎◌, ℕ, ◌+◌, ◌-◌, ◌*◌, ◌/◌, ◌≤◌, ◌<◌, get_or}
use Rattle.lemmas.specs.Sweeps.{sweep}
use Rattle.stipples.specs.Stipples.{bit_in, bit_at, stippled}
use Rattle.stipples.specs.declared.Stipple.{Stipple}
use Rattle.stipples.specs.declared.Inks.{Inks}

-- No byte is kept.
abbrev pub Plain : Inks → Type 0
Plain q = (q.keep ≡ 0) × (q.keep_change ≡ 0)

-- n pixels of l from `at` on, by the bits of one byte.
abbrev pub by_byte : Stipple → ℕ → List ℕ → ℕ → ℕ → List ℕ
by_byte s n l at bits = sweep (λ k. at + k) (λ k m. stippled s (bit_in k bits) (get_or m (at + k) 0)) n l

-- By the bits of another buffer from bit `from` on.
abbrev pub expanded : Stipple → ℕ → List ℕ → ℕ → List ℕ → ℕ → List ℕ
expanded s n l at source from = sweep (λ k. at + k) (λ k m. stippled s (bit_at source (from + k)) (get_or m (at + k) 0)) n l

-- By bits of the same buffer, from left to right and back.
abbrev pub expanded_within : Stipple → ℕ → List ℕ → ℕ → ℕ → List ℕ
expanded_within s n l at from = sweep (λ k. at + k) (λ k m. stippled s (bit_at m (from + k)) (get_or m (at + k) 0)) n l

abbrev pub expanded_back : Stipple → ℕ → List ℕ → ℕ → ℕ → List ℕ
expanded_back s n l at from =
    sweep (λ k. at + n - (k + 1)) (λ k m. stippled s (bit_at m (from + n - (k + 1))) (get_or m (at + n - (k + 1)) 0)) n l

-- What n bits from bit `first` of a byte on need of a buffer.
pub record BitsFit (byte first n other : ℕ) : Type 0 where
  pub in-byte : first < 8
  pub within : 8 * byte + first + n ≤ 8 * other

-- No pixel of a row is a byte that its bits lie in.
abbrev pub Apart : ℕ → ℕ → ℕ → Type 0
Apart at byte n = (at + n ≤ byte) ⊎ (byte + n / 8 + 2 ≤ at)

-- The bits of a row stay as they are while it is drawn; `bytes` is what they lie in.
abbrev pub BitsStay : (List ℕ → List ℕ) → ℕ → ℕ → ℕ → ℕ → Type 0
BitsStay bytes at byte first n =
    (s : Stipple) (l : List ℕ) (k i : ℕ) → k ≤ n → i < n
    → bit_at (bytes (expanded s k l at (bytes l) (8 * byte + first))) (8 * byte + first + i) ≡ bit_at (bytes l) (8 * byte + first + i)

-- What n bits of a row need of the bytes that they lie in, of which there are so many.
pub record RowBits (bytes : List ℕ → List ℕ) (at byte first n size : ℕ) : Type 0 where
  pub fit : BitsFit byte first n size
  pub few : size < 18446744073709551616
  pub stay : BitsStay bytes at byte first n
