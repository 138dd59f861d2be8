-- A list whose end fits 32 bits is run on buffers of the extent, and what ended it is asked where it went to (`ran-list`).
use Rattle.leaps.proofs.Entries.{ran-list}
use Rattle.leaps.proofs.list_runs.run_list.Goals as goal

pub returns : goal.returns
returns c = ran-list _ _ _ _ _ _ _ _ c.run_unheld-r.ensures _ _ c.ended-ended.ensures c.hatches.ensures
