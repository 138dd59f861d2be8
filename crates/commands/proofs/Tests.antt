-- What a command's decoded fields say of the definitions: the kind and the visit.
-- Assumes nothing.
use Rattle.std.specs.Prelude.{Option, None}
use mathlib.Core.Path.{◌≡◌, ap, ap₂, sym, ◌∙◌}
use mathlib.Core.Bool.{Bool, true, false, cond, ◌||◌, false≢true}
use mathlib.Core.List.{List}
use Prim.Native.Nat.{ℕ}
use lib.Dec.{ltb}
use lib.ListN.{length, get_or}
use Rattle.lemmas.proofs.Booleans.{by_cases, first_of, second-of}
use Rattle.geometry.specs.Coordinates.{point_of}
use Rattle.geometry.specs.Line.{line_count, line_visit}
use Rattle.geometry.specs.Blit.{cell_visit}
use Rattle.geometry.specs.Visible.{visible_count, visible_cell}
use Rattle.geometry.specs.declared.Cell.{Cell}
use Rattle.geometry.specs.declared.Extent.{Extent}
use Rattle.geometry.specs.declared.Point.{Point}
use Rattle.entries.specs.Fields.{is_blit, is_line, draws}
use Rattle.entries.specs.declared.fields.Command.{Command}
use Rattle.commands.specs.Visits.{command_in, line_start, window_in, shows, cells_by, count_by, count_of, cell_by, cell_at, position_of}
use Rattle.commands.specs.declared.Engine.{Engine}
use Rattle.commands.proofs.Shown.{shown-count, shown-cell}

-- c is the decoded command
module _ (e : Engine) (c : Command) (p : c ≡ command_in e) where
  -- a flag, or any test on the fields
  pub flag_is : (f : Command → Bool) (b : Bool) → f c ≡ b → f (command_in e) ≡ b
  flag_is f b h = ap f (sym p) ∙ h

  pub test-is : (f : Command → Bool) (t : Bool) → t ≡ f c → (b : Bool) → t ≡ b → f (command_in e) ≡ b
  test-is f t q b r = flag_is f b (sym q ∙ r)

-- what a command visits, by its kind
module _ (extent : Extent) (e : Engine) where
  abbrev line_to : ℕ
  line_to = line_count (point_of (line_start e)) (point_of e.registers.xy1) (command_in e).nlst

  -- the cells that a blit shows
  abbrev shown : List (Option Cell)
  shown = cells_by shows extent e.registers

  pub count-blit : is_blit (command_in e) ≡ true
      → visible_count (point_of e.registers.xy1) e.registers.xy2 e.registers.xy3 (window_in extent e.registers)
      ≡ count_of extent e
  unfolding count_by
  count-blit h =
      shown-count extent e.registers ∙ first_of (is_blit (command_in e)) (length shown) (cond (is_line (command_in e)) line_to 0) h

  pub count-line : is_blit (command_in e) ≡ false → is_line (command_in e) ≡ true → line_to ≡ count_of extent e
  unfolding count_by
  count-line h k =
      first_of (is_line (command_in e)) line_to 0 k
      ∙ second-of (is_blit (command_in e)) (length shown) (cond (is_line (command_in e)) line_to 0) h

  pub count_none : is_blit (command_in e) ≡ false → is_line (command_in e) ≡ false → 0 ≡ count_of extent e
  unfolding count_by
  count_none h k =
      second-of (is_line (command_in e)) line_to 0 k
      ∙ second-of (is_blit (command_in e)) (length shown) (cond (is_line (command_in e)) line_to 0) h

  -- a command with pixels to visit is a blit or a line
  pub pixels-draw : ltb 0 (count_of extent e) ≡ true → draws (command_in e) ≡ true
  pixels-draw h =
      by_cases (is_blit (command_in e)) (λ t. ap (λ t. t || is_line (command_in e)) t)
      (λ t.
      by_cases (is_line (command_in e)) (λ u. ap₂ ◌||◌ t u)
      (λ u. absurd (false≢true (ap (ltb 0) (count_none t u) ∙ h))))

  pub cell-blit : (k : ℕ) → is_blit (command_in e) ≡ true
      → visible_cell (point_of e.registers.xy1) e.registers.xy2 e.registers.xy3 (window_in extent e.registers) k
      ≡ cell_at extent e k
  unfolding cell_by
  cell-blit k h = shown-cell extent e.registers k ∙ first_of (is_blit (command_in e)) (get_or shown k None) None h

  pub cell-none : (k : ℕ) → is_blit (command_in e) ≡ false → None ≡ cell_at extent e k
  unfolding cell_by
  cell-none k h = second-of (is_blit (command_in e)) (get_or shown k None) None h

module _ (e : Engine) (k : ℕ) (cell : Option Cell) where
  abbrev on_blit : Option Point
  on_blit = cell_visit (point_of e.registers.xy1) e.registers.xy3 cell

  abbrev on_line : Option Point
  on_line = line_visit (point_of (line_start e)) (point_of e.registers.xy1) (command_in e).nlst k

  pub position-blit : is_blit (command_in e) ≡ true → on_blit ≡ position_of e k cell
  unfolding position_of
  position-blit h = first_of (is_blit (command_in e)) on_blit (cond (is_line (command_in e)) on_line None) h

  pub position-line : is_blit (command_in e) ≡ false → is_line (command_in e) ≡ true → on_line ≡ position_of e k cell
  unfolding position_of
  position-line h l =
      first_of (is_line (command_in e)) on_line None l
      ∙ second-of (is_blit (command_in e)) on_blit (cond (is_line (command_in e)) on_line None) h
