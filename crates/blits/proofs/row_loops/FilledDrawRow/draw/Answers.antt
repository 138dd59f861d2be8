-- Either call fills the row.
use mathlib.Core.Bool.{false}
use mathlib.Core.List.{[]}
use Rattle.blits.proofs.Painted.{solid-row}
use Rattle.blits.proofs.row_loops.FilledDrawRow.draw.Goals as goal

pub returns-then-n-le16 : goal.returns-then-n-le16
returns-then-n-le16 c = solid-row false _ [] _ _ _ 0 _ c.requires c.fill_narrow.ensures

pub returns : goal.returns
returns c = solid-row false _ [] _ _ _ 0 _ c.requires c.fill_row.ensures
