-- The clip rectangle and the buffer's bounds (01, Pixels, and What the engine has).
use Rattle.std.specs.Prelude.{◌≡◌, Bool, true, false, not, cond, ◌&&◌, ◌⊎◌, ℕ, ◌+◌, ◌-◌, ◌*◌, ◌<◌, min, max, leb, ltb, Option, Some, None}
use Rattle.geometry.specs.Coordinates.{origin, point_of}
use Rattle.geometry.specs.declared.Extent.{Extent}
use Rattle.geometry.specs.declared.Point.{Point}
use Rattle.geometry.specs.declared.Rect.{Rect}
use Rattle.geometry.specs.declared.Window.{Window}

-- CLPTL to CLPBR
abbrev pub rect_of : ℕ → ℕ → Rect
rect_of top_left bottom_right =
    record {
      left = (point_of top_left).x;
      top = (point_of top_left).y;
      right = (point_of bottom_right).x;
      bottom = (point_of bottom_right).y;
    }

-- "both corners inside"
abbrev pub in_rect : Rect → Point → Bool
in_rect r p = leb r.left p.x && leb p.x r.right && leb r.top p.y && leb p.y r.bottom

-- a pixel of a buffer of width x height
abbrev pub in_buffer : ℕ → ℕ → Point → Bool
in_buffer width height p = leb origin p.x && leb origin p.y && ltb (p.x - origin) width && ltb (p.y - origin) height

-- "pixel (x, y) at y x width + x"; outside the buffer a point has no place
abbrev pub place_in : ℕ → Point → ℕ
place_in width p = (p.y - origin) * width + (p.x - origin)

unfoldable pub place_of : Extent → Point → Option ℕ
place_of extent p = cond (in_buffer extent.width extent.height p) (Some (place_in extent.width p)) None

-- What clip and buffer let through, as one window: left <= x < right and top <= y < bottom.
unfoldable pub window_of : Extent → Bool → ℕ → ℕ → Window
window_of extent clip top_left bottom_right =
    cond clip
    (record {
      left = max origin (rect_of top_left bottom_right).left;
      right = min (origin + extent.width) ((rect_of top_left bottom_right).right + 1);
      top = max origin (rect_of top_left bottom_right).top;
      bottom = min (origin + extent.height) ((rect_of top_left bottom_right).bottom + 1);
    })
    (record { left = origin; right = origin + extent.width; top = origin; bottom = origin + extent.height })

abbrev pub in_window : Window → Point → Bool
in_window w p = leb w.left p.x && ltb p.x w.right && leb w.top p.y && ltb p.y w.bottom

-- That a window lets through what clip and buffer do; proved in proofs/Windows.antt.
abbrev pub WindowLetsThrough : Type 0
WindowLetsThrough =
    (extent : Extent) (clip : Bool) (top_left bottom_right : ℕ) (p : Point)
    → in_window (window_of extent clip top_left bottom_right) p
    ≡ (not (clip && not (in_rect (rect_of top_left bottom_right) p)) && in_buffer extent.width extent.height p)

-- "A reversed clip draws nothing"; a place lies in its buffer, and two pixels at one place are the same. Proved in
-- proofs/Clips.antt.
abbrev pub ReversedHoldsNothing : Type 0
ReversedHoldsNothing = (r : Rect) → (r.right < r.left) ⊎ (r.bottom < r.top) → (p : Point) → in_rect r p ≡ false

abbrev pub PlacesFit : Type 0
PlacesFit = (extent : Extent) (p : Point) (i : ℕ) → place_of extent p ≡ Some i → i < extent.width * extent.height

abbrev pub PlacesDiffer : Type 0
PlacesDiffer =
    (extent : Extent) (p q : Point) → in_buffer extent.width extent.height p ≡ true
    → in_buffer extent.width extent.height q ≡ true → place_in extent.width p ≡ place_in extent.width q → p ≡ q
