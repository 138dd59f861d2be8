-- One row drawn by its parts: what it needs, and that it is the visits of that row.
-- Assumes nothing.
use mathlib.Core.Path.{◌≡◌, ap, sym, ◌∙◌}
use mathlib.Core.Bool.{Bool, true, false, ◌&&◌}
use mathlib.Core.List.{List}
use Prim.Native.Nat.{ℕ, ◌+◌, ◌-◌, ◌*◌, ◌≤◌, ◌<◌, min, max}
use native.Mathlib.Nat.{mul_assoc}
use native.Mathlib.Omega.{arith}
use borrow.Author.Tests.{leb-true}
use lib.Dec.{leb}
use lib.ListN.{length}
use Rattle.lemmas.proofs.Booleans.{and_left, and_right}
use Rattle.geometry.specs.Coordinates.{origin, point_of}
use Rattle.geometry.specs.Blit.{width_of, right_to_left, away}
use Rattle.geometry.specs.declared.Window.{Window}
use Rattle.geometry.proofs.Clips.{area}
use Rattle.lemmas.specs.Turns.{in_turn}
use Rattle.blits.specs.Blits.{reads, source_pixels, source_width, visited, window_inside}
use Rattle.blits.specs.Ranges.{visible_columns}
use Rattle.blits.specs.Places.{target_row, source_row, left_edge, place_at}
use Rattle.blits.specs.Rows.{row_of}
use Rattle.blits.specs.declared.Blit.{Blit}
use Rattle.blits.specs.declared.Paint.{Paint}
use Rattle.blits.specs.declared.Paint.TheVariants.{Solid, Copied, Moved, Stippled, StippledWithin}
use Rattle.blits.proofs.Visits.{x-from}
use Rattle.blits.proofs.Axes.{ColumnIn, RowIn, column-of}
use Rattle.blits.proofs.Painted.{same-source-row}
use Rattle.blits.proofs.Drawn.{from-least, past-most, row-hidden, row-drawn}

pub edge-below : (back : Bool) (x a z : ℕ) → x < 131072 → a < 65536 → left_edge back x a z < 262144
edge-below true x a z h k = omega arith
edge-below false x a z h k = omega arith

pub away-below : (back : Bool) (c k : ℕ) → c < 131072 → k < 65536 → away back c k < 262144
away-below true c k h l = omega arith
away-below false c k h l = omega arith

-- the edges of columns a to before z
edge-from : (back : Bool) (x a z o : ℕ) → a < z → o ≤ away back x a → o ≤ away back x (z - 1) → o ≤ left_edge back x a z
edge-from true x a z o some p q = q
edge-from false x a z o some p q = p

edge_to : (back : Bool) (x a z right : ℕ) → 65536 ≤ x → z ≤ 65536 → a < z → away back x a < right → away back x (z - 1) < right
    → left_edge back x a z + (z - a) ≤ right
edge_to true x a z right high small some p q = omega arith
edge_to false x a z right high small some p q = omega arith

-- n pixels of a row from the edge e on lie in the buffer
room : (width height y e n : ℕ) → 0 < n → origin ≤ e → e + n ≤ origin + width → y - origin < height
    → (y - origin) * width + (e - origin) + n ≤ width * height
room width height y e n some low high row =
    omega (arith, area width height (e - origin + n - 1) (y - origin) (omega arith) row)

-- a buffer as a source: as many rows, each of the source's width
source-area : (paint : Paint) (width height own : ℕ) → own ≡ width * height → source_pixels paint width * height ≡ source_pixels paint own
source-area (Solid pen) width height own e = sym e
source-area (Copied mix) width height own e = sym e
source-area (Moved mix) width height own e = sym e
source-area (Stippled s) width height own e = omega (arith, e, mul_assoc 8 width height)
source-area (StippledWithin s) width height own e = omega (arith, e, mul_assoc 8 width height)

pub record Inside (width height : ℕ) (w : Window) : Type 0 where
  pub left_in : origin ≤ w.left
  pub right-in : w.right ≤ origin + width
  pub top_in : origin ≤ w.top
  pub bottom-in : w.bottom ≤ origin + height

pub inside_of : (width height : ℕ) (w : Window) → window_inside width height w ≡ true → Inside width height w
inside_of width height w h =
    let l = leb origin w.left in
    let r = leb w.right (origin + width) in
    let t = leb origin w.top in
    let b = leb w.bottom (origin + height) in
    let three = and_left (l && r && t) b h in
    let two = and_left (l && r) t three in
    record {
      left_in = leb-true origin w.left (and_left l r two);
      right-in = leb-true w.right (origin + width) (and_right l r two);
      top_in = leb-true origin w.top (and_right (l && r) t three);
      bottom-in = leb-true w.bottom (origin + height) (and_right (l && r && t) b h);
    }

-- what m visits of row r from column c on need
pub record RowFits (b : Blit) (r c m other own : ℕ) : Type 0 where
  pub size_small : b.size < 4294967296
  pub row_small : r < 65536
  pub columns : c + m ≤ width_of b.size
  pub own-area : own ≡ b.width * b.height
  pub other-area : other ≡ b.width * b.height
  pub inside : window_inside b.width b.height b.window ≡ true

module _ (b : Blit) (other : List ℕ) (r c m own : ℕ) (f : RowFits b r c m (length other) own) (a z : ℕ)
    (begins : a ≡ max c (visible_columns b).from) (stops : z ≡ min (c + m) (visible_columns b).past) where
  abbrev visit : ℕ → List ℕ → List ℕ
  visit i l = visited b other (width_of b.size * r + c + i) l

  pub z-small : z ≤ 65536
  z-small = omega (arith, (past-most (c + m) (visible_columns b).past z stops).0, f.columns, f.size_small)

  pub none-in-row : (l : List ℕ) → (RowIn b r → ⊥) → l ≡ in_turn visit m l
  none-in-row l h = row-hidden b other r c m f.columns f.size_small l (λ i q t. h t.0)

  pub none-in-columns : (l : List ℕ) → z ≤ a → l ≡ in_turn visit m l
  none-in-columns l h =
      row-hidden b other r c m f.columns f.size_small l
      (λ i q t. outside c m (visible_columns b).from (visible_columns b).past a z i begins stops h q t.1 t.2)
    where
      outside : (c m from past a z i : ℕ) → a ≡ max c from → z ≡ min (c + m) past → z ≤ a → i < m → from ≤ c + i → c + i < past → ⊥
      outside c m from past a z i e g h q p t = omega arith

  module _ (some : a < z) (row : RowIn b r) where
    abbrev back : Bool
    back = right_to_left b.direction

    abbrev target_place : ℕ
    target_place = place_at b.to b.width b.direction a z r

    abbrev source_place : ℕ
    source_place = place_at b.from (source_width b) b.direction a z r

    inside : Inside b.width b.height b.window
    inside = inside_of b.width b.height b.window f.inside

    within : (j : ℕ) → a ≤ j → j < z → ColumnIn b j
    within j p q =
        column-of b j (omega (arith, z-small, q))
        (omega (arith, (from-least c (visible_columns b).from a begins).1, p))
        (omega (arith, (past-most (c + m) (visible_columns b).past z stops).1, q))

    first : ColumnIn b a
    first = within a (omega arith) some

    last : ColumnIn b (z - 1)
    last = within (z - 1) (omega (arith, some)) (omega (arith, some))

    pub target_room : target_place + (z - a) ≤ own
    target_room =
        let x = (point_of b.to).x in
        let to = edge_to back x a z b.window.right (x-from b.to) z-small some first.high last.high in
        let from =
        edge-from back x a z origin some (omega (arith, inside.left_in, first.low)) (omega (arith, inside.left_in, last.low)) in
        omega (
          arith,
          f.own-area,
          room b.width b.height (target_row b r) (left_edge back x a z) (z - a) (omega (arith, some)) from (omega (arith, to, inside.right-in))
              (omega (arith, row.low, row.high, inside.top_in, inside.bottom-in)),
        )

    pub source-columns : reads b.paint ≡ true →
        let edge = left_edge back (point_of b.from).x a z in (origin ≤ edge) × (edge + (z - a) ≤ origin + source_width b)
    source-columns t =
        let x = (point_of b.from).x in
        let p = first.source t in
        let q = last.source t in (
          edge-from back x a z origin some p.0 q.0,
          edge_to back x a z (origin + source_width b) (x-from b.from) z-small some p.1 q.1,
        )

    pub source-room : reads b.paint ≡ true → source_place + (z - a) ≤ source_pixels b.paint own
    source-room t =
        let here = row.source t in
        omega (
          arith,
          source-area b.paint b.width b.height own f.own-area,
          room (source_width b) b.height (source_row b r) (left_edge back (point_of b.from).x a z) (z - a) (omega (arith, some)) (source-columns t).0
              (source-columns t).1 (omega (arith, here.0, here.1)),
        )

    pub whole_row : (at from : ℕ) → at ≡ target_place → (reads b.paint ≡ true → from ≡ source_place) → (l : List ℕ)
        → row_of b.paint back other at from (z - a) l ≡ in_turn visit m l
    whole_row at from p q l =
        ap (λ at. row_of b.paint back other at from (z - a) l) p
        ∙ same-source-row b.paint back other target_place from source_place (z - a) l q
        ∙ row-drawn b other r c m f.columns f.size_small a z begins stops some row inside.left_in l
