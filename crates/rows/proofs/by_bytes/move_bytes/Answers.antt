-- Each turn is one visit more (`visit-more`), at the place that the direction gives; n visits are the row (`visits-end`).
use Rattle.lemmas.proofs.Sweeps.{sweep-start}
use Rattle.rows.proofs.Within.{is-back, visit-more, visits-end}
use Rattle.rows.proofs.by_bytes.move_bytes.Goals as goal

pub loop-k-init : goal.loop-k-init
loop-k-init g c = sweep-start _ _ _

pub loop-k-preserved : goal.loop-k-preserved
loop-k-preserved g c =
    let a = c.args in
    visit-more (is-back g.row.BACK) (g.I.Ink.byte a.ink) a.n a.at a.from a.buffer.now c.loop-k.k _ _ _ c.by_side-i.ensures
    c.loop-k.invariant c.byte.ensures

pub returns : goal.returns
returns g c =
    let a = c.args in
    visits-end (is-back g.row.BACK) (g.I.Ink.byte a.ink) a.n a.at a.from a.buffer.now _ _ c.loop-k.auto.k-end c.loop-k-test.false
    c.loop-k.invariant
