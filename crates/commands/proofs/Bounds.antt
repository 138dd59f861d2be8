-- A command's pixels are few enough for 32 bits, and registers and last point alone say how many there are.
-- Assumes nothing.
use mathlib.Core.Path.{◌≡◌, refl, ap₂}
use Prim.Native.Nat.{ℕ, ◌<◌}
use native.Mathlib.Omega.{arith}
use Rattle.lemmas.proofs.Booleans.{by_cases}
use Rattle.geometry.specs.Coordinates.{point_of}
use Rattle.geometry.specs.declared.Extent.{Extent}
use Rattle.geometry.proofs.Lines.{count-le, steps-lt}
use Rattle.geometry.proofs.Visibility.{count_fits, visible-fits}
use Rattle.entries.specs.Fields.{is_blit, is_line}
use Rattle.registers.specs.declared.file.Registers.{Registers}
use Rattle.commands.specs.Visits.{command_in, line_start, window_in, Rule, count_by, count_of}
use Rattle.commands.specs.Shown.{BlitsFit}
use Rattle.commands.specs.declared.Engine.{Engine}
use Rattle.commands.proofs.Tests.{count-blit, count-line, count_none}

pub pixels-lt : (extent : Extent) (e : Engine) → e.registers.xy2 < 4294967296 → count_of extent e < 4294967296
pixels-lt extent e h =
    let g = e.registers in
    by_cases (is_blit (command_in e))
    (λ t. rw (← count-blit extent e t) (count_fits (point_of g.xy1) g.xy2 g.xy3 (window_in extent g) _ h refl))
    (λ t.
    by_cases (is_line (command_in e))
    (λ s.
    rw (← count-line extent e t s)
    (omega (arith, count-le (point_of (line_start e)) (point_of g.xy1) (command_in e).nlst, steps-lt (line_start e) g.xy1)))
    (λ s. rw (← count_none extent e t s) (omega arith)))

pub blits-fit : BlitsFit
blits-fit extent e t =
    let g = e.registers in
    rw (← count-blit extent e t) (visible-fits extent (command_in e).clip g.clptl g.clpbr (point_of g.xy1) g.xy2 g.xy3)

-- of an engine the count reads registers and last point alone
with-these : Engine → Registers → ℕ → Engine
with-these e g last =
    record { under_way = e.under_way; visited = e.visited; registers = g; pattern = e.pattern; last = last }

pub count_same : (rule : Rule) (extent : Extent) (e f : Engine) → e.registers ≡ f.registers → e.last ≡ f.last
    → count_by rule extent e ≡ count_by rule extent f
unfolding count_by with-these
count_same rule extent e f p q = ap₂ (λ g last. count_by rule extent (with-these e g last)) p q
