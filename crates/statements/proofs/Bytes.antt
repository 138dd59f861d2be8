-- Entries done on buffers of bytes leave buffers of bytes.
-- Assumes nothing.
use Rattle.std.specs.Prelude.{Option, Some, None}
use mathlib.Core.List.{List, [], ◌∷◌}
use Prim.Native.Nat.{ℕ, zero, suc, ◌<◌}
use native.Mathlib.Omega.{arith}
use lib.ListN.{get_or}
use Rattle.lemmas.proofs.Booleans.{of_either}
use Rattle.lemmas.proofs.Sweeps.{set_all}
use Rattle.raster.specs.Raster.{new_byte}
use Rattle.raster.proofs.Wide.{new_byte-any-lt}
use Rattle.geometry.specs.declared.Extent.{Extent}
use Rattle.entries.specs.declared.decoding.Entry.{Entry}
use Rattle.commands.specs.Visits.{command_in, shows, cell_by, target_from, source_from}
use Rattle.commands.specs.Steps.{Scene, inked, visit_by, visit_of, visits_by, visits_of, taken_of}
use Rattle.commands.specs.Wholes.{pixels_left, finished_by, done_by, done_of}
use Rattle.commands.specs.declared.Engine.{Engine}
use Rattle.statements.specs.Images.{AllBytes}
use Rattle.statements.specs.SolidLines.{Bytes}

inked-bytes : (e : Engine) (o : Option ℕ) (q : Option ℕ) (l : List ℕ) → AllBytes l → AllBytes (inked e o q l)
inked-bytes e (Some v) (Some i) l h =
    set_all (λ x. x < 256) l i (new_byte (command_in e).code v (get_or l i 0) e.registers.mask)
    (new_byte-any-lt (command_in e).code v (get_or l i 0) e.registers.mask (omega arith) (h i)) h
inked-bytes e (Some v) None l h = h
inked-bytes e None q l h = h

pub visit-bytes : (extent : Extent) (s : Scene) → Bytes s → Bytes (visit_of extent s)
unfolding visit_by
visit-bytes extent s h =
    let e = s.engine in
    let cell = cell_by shows extent e e.visited in
    let q = target_from extent e e.visited cell in
    let o = source_from extent e s.fill cell s.display s.virt in
    record {
      display-bytes = of_either AllBytes (command_in e).to_virtual h.display-bytes (inked-bytes e o q s.display h.display-bytes);
      virt-bytes = of_either AllBytes (command_in e).to_virtual (inked-bytes e o q s.virt h.virt-bytes) h.virt-bytes;
    }

visits-bytes : (n : ℕ) (extent : Extent) (s : Scene) → Bytes s → Bytes (visits_of n extent s)
unfolding visits_by
visits-bytes zero extent s h = h
visits-bytes (suc n) extent s h = visit-bytes extent (visits_of n extent s) (visits-bytes n extent s h)

pub done-bytes : (extent : Extent) (s : Scene) (es : List Entry) → Bytes s → Bytes (done_of extent s es)
unfolding done_by
done-bytes extent s [] h = visits-bytes (pixels_left shows extent s.engine) extent s h
done-bytes extent s (e ∷ es) h =
    let r = finished_by shows extent s in
    let b = visits-bytes (pixels_left shows extent s.engine) extent s h in
    done-bytes extent (taken_of extent r e) es (record { display-bytes = b.display-bytes; virt-bytes = b.virt-bytes })
