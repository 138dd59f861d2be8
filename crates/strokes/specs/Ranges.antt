-- The pixels of a line that are visible in a window.
use Rattle.std.specs.Prelude.{◌≡◌, true, false, ℕ, ◌+◌, ◌*◌, ◌≤◌, ◌<◌}
use Rattle.geometry.specs.Clip.{in_window}
use Rattle.geometry.specs.Line.{nearest_of, line_point}
use Rattle.geometry.specs.declared.Point.{Point}
use Rattle.geometry.specs.declared.Window.{Window}
use Rattle.geometry.specs.declared.visible.Range.{Range}

-- Of pixels that go 2d each, the first r have gone at most 2nm + half.
pub record Counts (n d m half r : ℕ) : Type 0 where
  pub within : (i : ℕ) → i < r → 2 * (i * d) ≤ 2 * (n * m) + half
  pub past : (i : ℕ) → r ≤ i → 2 * (n * m) + half < 2 * (i * d)

-- Of n + 1 pixels that go 2d each, the first r have gone less than `way`, and the others have not.
pub record Before (n d way half r : ℕ) : Type 0 where
  pub before : (i : ℕ) → i ≤ n → i < r → 2 * (i * d) + 2 * n ≤ 2 * (n * way) + half
  pub after : (i : ℕ) → i ≤ n → r ≤ i → 2 * (n * way) + half < 2 * (i * d) + 2 * n

-- The first r pixels lie below c, and the others do not.
pub record Below (n a b c r : ℕ) : Type 0 where
  pub before : (i : ℕ) → i ≤ n → i < r → nearest_of n i a b < c
  pub after : (i : ℕ) → i ≤ n → r ≤ i → c ≤ nearest_of n i a b

-- The first r pixels lie at or above c, and the others do not.
pub record AtLeast (n a b c r : ℕ) : Type 0 where
  pub before : (i : ℕ) → i ≤ n → i < r → c ≤ nearest_of n i a b
  pub after : (i : ℕ) → i ≤ n → r ≤ i → nearest_of n i a b < c

-- The pixels of a range, and no others, are at least `low` and below `high`.
pub record Ranges (n a b low high : ℕ) (s : Range) : Type 0 where
  pub inside : (i : ℕ) → i ≤ n → s.from ≤ i → i < s.past → (low ≤ nearest_of n i a b) × (nearest_of n i a b < high)
  pub only : (i : ℕ) → i ≤ n → low ≤ nearest_of n i a b → nearest_of n i a b < high → (s.from ≤ i) × (i < s.past)

-- Of n pixels from `first` on, those of a range are visible in the window, and no others.
pub record Visible (w : Window) (a b : Point) (first n : ℕ) (s : Range) : Type 0 where
  pub from_first : first ≤ s.from
  pub to_last : s.past ≤ first + n
  pub inside : (i : ℕ) → s.from ≤ i → i < s.past → in_window w (line_point a b i) ≡ true
  pub only : (i : ℕ) → first ≤ i → i < first + n → in_window w (line_point a b i) ≡ true → (s.from ≤ i) × (i < s.past)

-- Of n pixels from `first` on, none is visible in the window.
abbrev pub Hidden : Window → Point → Point → ℕ → ℕ → Type 0
Hidden w a b first n = (i : ℕ) → first ≤ i → i < first + n → in_window w (line_point a b i) ≡ false
