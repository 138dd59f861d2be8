use mathlib.Core.Path.{◌≡◌}
use lib.ListN.{length}
use Rattle.lemmas.specs.Turns.{in_turn}
use Rattle.pramolyt.proofs.FillTrips.{put_tile}
use Rattle.pramolyt.proofs.fill_image.put_fill.Given as goal

abbrev pub invariant-loop-i : goal.invariant-loop-i
invariant-loop-i l = record { long : length l.w ≡ 61; put : l.w ≡ in_turn (put_tile l.f.tile) l.i l.initial.w }
