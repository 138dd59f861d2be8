-- What is held is what a record may hold, after every entry and every visit.
-- Assumes nothing.
use mathlib.Core.Path.{◌≡◌, refl, ◌∙◌}
use mathlib.Core.Bool.{Bool, true, false, cond, ◌&&◌}
use Rattle.lemmas.specs.Turns.{in_turn}
use Rattle.lemmas.proofs.Booleans.{second-of}
use Rattle.tiles.specs.Tiles.{whole_at, no_fill, filled_with, fill_of, is_none}
use Rattle.tiles.specs.declared.Fill.{Fill}
use Rattle.tiles.specs.declared.Tile.{Tile}
use Rattle.tiles.proofs.Pixels.{none-is-no-fill}
use Rattle.commands.specs.Visits.{command_in, shows}
use Rattle.commands.specs.Hatching.{tiles}
use Rattle.commands.specs.Steps.{advanced_of, visit_by, taken_of}
use Rattle.commands.specs.Record.{holds_tile, NoFillElsewhere, VisitsKeepFill, EntriesKeepFill}
use Rattle.commands.proofs.Visiting.{advanced-registers}

pub no-fill-elsewhere : NoFillElsewhere
no-fill-elsewhere extent e f sized ok h =
    none-is-no-fill.1 f sized (second-of (holds_tile extent e) f.whole (is_none f) h ∙ ok)

-- after an entry, by the three tests
taken-by : (under apat whole : Bool) (t : Tile) →
    let f = cond (under && apat) (cond whole (filled_with t) no_fill) no_fill in
    cond (under && apat && whole) f.whole (is_none f) ≡ true
unfolding in_turn
taken-by true true true t = refl
taken-by true true false t = refl
taken-by true false whole t = refl
taken-by false apat whole t = refl

pub entries-keep-fill : EntriesKeepFill
unfolding fill_of
entries-keep-fill extent s entry =
    let e = (taken_of extent s entry).engine in
    taken-by e.under_way (tiles (command_in e)) (whole_at extent e.registers.xy0) _

-- after a visit, which ends the fill or leaves all that the test reads
visited-by : (more apat whole : Bool) (f : Fill) → cond (true && apat && whole) f.whole (is_none f) ≡ true →
    let g = cond more f no_fill in
    cond (more && apat && whole) g.whole (is_none g) ≡ true
unfolding in_turn
visited-by true apat whole f h = h
visited-by false apat whole f h = refl

pub visits-keep-fill : VisitsKeepFill
unfolding visit_by
visits-keep-fill extent s under ok =
    let e = s.engine in
    rw (advanced-registers shows extent e)
    (visited-by (advanced_of extent e).under_way (tiles (command_in e)) (whole_at extent e.registers.xy0) s.fill (rw under at ok))
