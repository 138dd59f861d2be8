-- What `run_list` ensures of the active list, with the record that `moved` settles, is a leap (`leap-is`).
use Rattle.board.proofs.Parts.{leap-is}
use Rattle.board.proofs.bare.Bare.leap.Goals as goal

pub returns : goal.returns
returns c =
    let s = c.args in
    leap-is s.budget s.list.now s.self s.display.now s.virt.now _ _ _ c.requires.0 c.requires.1 c.run_list-r.ensures _ c.requires.2
    c.moved.ensures
