-- A refused run (`bare-refused`); else the answer is that of `run_steps` with no step done before (`from_start`).
use native.Mathlib.Omega.{arith}
use Rattle.board.proofs.Parts.{bare-refused, from_start}
use Rattle.board.proofs.bare.Bare.run.Goals as goal

pub run_steps-requires : goal.run_steps-requires
run_steps-requires c = (c.in-Ok.ensures c.args.display.now c.args.virt.now, omega arith)

pub returns-in-Ok : goal.returns-in-Ok
returns-in-Ok c = from_start _ _ _ _ _ _ _ c.run_steps.ensures

pub returns-in-Err : goal.returns-in-Err
returns-in-Err c =
    let s = c.args in
    bare-refused s.budget s.list.now s.self c.in-Err.refusal s.display.now s.virt.now (c.in-Err.ensures s.display.now s.virt.now)
