-- The lists end the run (`lists-whole`), or the budget cuts a fill, whose pixels end it (`last-whole`).
use native.Mathlib.Omega.{arith}
use Rattle.pramolyt.proofs.RunParts.{lists-whole, last-whole}
use Rattle.pramolyt.proofs.run_lists.Goals as goal

pub returns-in-Break : goal.returns-in-Break
returns-in-Break c =
    let s = c.args in
    lists-whole s.budget s.list.now s.done s.board.now s.display.now s.virt.now c.requires.few c.requires.none _ c.decode_bare-b.ensures _ _ _
    c.run-ran.ensures _ c.in-Break.is _ c.steps.ensures _ c.encode_bare.ensures _ c.number.ensures

pub returns-in-Continue : goal.returns-in-Continue
returns-in-Continue c =
    let s = c.args in
    last-whole s.budget s.list.now s.done s.board.now s.display.now s.virt.now c.requires.few c.requires.none _ c.decode_bare-b.ensures _ _ _
    c.run-ran.ensures _ c.in-Continue.is (λ i. omega (arith, c.slice_known-3-1.given i)) (λ i. omega (arith, c.slice_known-4-1.given i)) _
    c.held.ensures _ c.encode.ensures _ _ _ _ c.hatch_image-last.ensures _ c.steps-in-Continue.ensures _ c.number-in-Continue.ensures
