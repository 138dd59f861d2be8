-- A fill that is taken from buffers of bytes, or none, comes back from its words.
-- Assumes nothing.
use mathlib.Core.Path.{◌≡◌, refl, ap, sym, subst, ◌∙◌}
use mathlib.Core.Bool.{cond, false≢true}
use mathlib.Core.List.{List}
use Prim.Native.Nat.{ℕ, ◌+◌, ◌*◌, ◌%◌, ◌<◌}
use native.Mathlib.Omega.{arith}
use lib.ListN.{length, get_or, get_or-replicate}
use Rattle.lemmas.proofs.Booleans.{by_cases, of_either, first_of, second-of}
use Rattle.lemmas.proofs.Numbers.{map-below-length, map-below-at}
use Rattle.geometry.specs.Coordinates.{point_of}
use Rattle.geometry.specs.Clip.{place_in}
use Rattle.geometry.specs.declared.Extent.{Extent}
use Rattle.tiles.specs.Tiles.{row_of, tile_of, no_row, pixel_of, whole_at, blank_row, no_fill, filled_with, fill_of, Sized}
use Rattle.tiles.specs.declared.Row.{Row}
use Rattle.tiles.specs.declared.Fill.{Fill}
use Rattle.tiles.proofs.Pixels.{pixels-of-whole}
use Rattle.commands.specs.Visits.{command_in}
use Rattle.commands.specs.Hatching.{hatches, fill_taken}
use Rattle.commands.specs.declared.Engine.{Engine}
use Rattle.pramolyt.specs.FillImage.{Kept}

pub none_kept : Kept no_fill
none_kept =
    record {
      sized = record { rows = refl; pixels = λ j h. ap (λ (r : Row). length r.pixels) (get_or-replicate 8 j blank_row no_row h) };
      bytes = λ x y.
          let zero : pixel_of no_fill.tile x y ≡ 0 =
          ap (λ (r : Row). get_or r.pixels (x % 16) 0) (get_or-replicate 8 (y % 8) blank_row no_row (omega arith))
          ∙ get_or-replicate 16 (x % 16) 0 0 (omega arith) in
          omega (arith, zero);
      none = λ h. refl;
    }

tile-sized : (buffer : List ℕ) (width at : ℕ) → Sized (tile_of buffer width at)
tile-sized buffer width at =
    let f : ℕ → Row = λ j. row_of buffer (at + j * width) in
    record {
      rows = map-below-length f 8;
      pixels = λ j h.
          ap (λ (r : Row). length r.pixels) (map-below-at f 8 no_row j h) ∙ map-below-length (λ i. get_or buffer (at + j * width + i) 0) 16;
    }

tile-kept : (extent : Extent) (corner : ℕ) (buffer : List ℕ) → ((k : ℕ) → get_or buffer k 0 < 256) → Kept (fill_of extent corner buffer)
unfolding fill_of
tile-kept extent corner buffer h =
    let f = filled_with (tile_of buffer extent.width (place_in extent.width (point_of corner))) in
    by_cases (whole_at extent corner)
    (λ t.
    let is = first_of (whole_at extent corner) f no_fill t in
    subst Kept is
    (record {
      sized = tile-sized buffer extent.width (place_in extent.width (point_of corner));
      bytes = λ x y.
          subst (λ n. n < 256) (sym (ap (λ (f : Fill). pixel_of f.tile x y) is ∙ (pixels-of-whole extent corner buffer x y t).1)) (h _);
      none = λ e. absurd (false≢true (sym e));
    }))
    (λ t. subst Kept (second-of (whole_at extent corner) f no_fill t) none_kept)

pub taken-kept : (extent : Extent) (e : Engine) (d v : List ℕ) → ((k : ℕ) → get_or d k 0 < 256) → ((k : ℕ) → get_or v k 0 < 256)
    → Kept (fill_taken extent e d v)
taken-kept extent e d v hd hv =
    of_either Kept (hatches e)
    (tile-kept extent e.registers.xy0 (cond (command_in e).from_virtual v d)
    (of_either (λ (l : List ℕ). (k : ℕ) → get_or l k 0 < 256) (command_in e).from_virtual hv hd))
    none_kept
