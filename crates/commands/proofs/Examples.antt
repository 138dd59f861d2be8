-- P9 and P10 hold, and so do the examples of R-1, R-2, R-6 and R-7.
-- Assumes nothing.
use mathlib.Core.Path.{refl}
use Rattle.lemmas.specs.Numbers.{numbers, filtered}
use Rattle.raster.specs.Raster.{new_bit, new_byte}
use Rattle.geometry.specs.Coordinates.{point_of}
use Rattle.geometry.specs.Clip.{place_of}
use Rattle.geometry.specs.Line.{nearest_of, line_visit}
use Rattle.geometry.specs.Blit.{blit_cell}
use Rattle.entries.specs.Fields.{length_of}
use Rattle.registers.specs.Registers.{written_of}
use Rattle.registers.specs.Patterns.{pattern_bit, next_of}
use Rattle.tiles.specs.Tiles.{whole_at, fill_of}
use Rattle.commands.specs.Visits.{shows, count_by, cell_by, position_of}
use Rattle.sources.specs.Sources.{copied_of, stippled_of, tiled_of, dash_of, source_of}
use Rattle.commands.specs.Steps.{pattern_after, advanced_by, visit_by, visits_by, entered_by}
use Rattle.commands.specs.Examples.{P9, P10, R1, R2, R6, R7}

pub p9 : P9
unfolding new_bit new_byte point_of place_of blit_cell numbers filtered shows count_by cell_by position_of copied_of source_of pattern_after advanced_by visit_by visits_by
p9 = refl

pub p10 : P10
unfolding new_bit new_byte point_of place_of blit_cell numbers filtered shows count_by cell_by position_of copied_of source_of pattern_after advanced_by visit_by visits_by
p10 = refl

pub r1 : R1
unfolding new_bit new_byte point_of place_of nearest_of line_visit length_of pattern_bit next_of shows count_by cell_by position_of dash_of source_of pattern_after advanced_by visit_by visits_by
r1 = ((refl, refl), (refl, refl, refl), (refl, refl))

pub r2 : R2
unfolding new_bit new_byte point_of place_of blit_cell numbers filtered shows count_by cell_by position_of stippled_of source_of pattern_after advanced_by visit_by visits_by
r2 = (refl, refl, refl, (refl, refl, refl), refl, refl)

pub r6 : R6
unfolding new_bit new_byte point_of place_of blit_cell numbers filtered shows count_by cell_by position_of copied_of source_of pattern_after advanced_by visit_by visits_by written_of entered_by
r6 = ((refl, refl), (refl, refl))

pub r7 : R7
unfolding new_bit new_byte point_of place_of blit_cell numbers filtered shows count_by cell_by position_of tiled_of source_of pattern_after advanced_by visit_by visits_by written_of entered_by whole_at fill_of
r7 = (refl, refl, (refl, refl, refl, refl), (refl, refl, refl), refl)
