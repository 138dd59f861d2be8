-- The loop's invariant: the entries of the first g groups stand in front of the output. A turn adds the three of group g
-- (`three-put`), and after the loop come the one or two of the last group (`one-put`, `two-put`).
use mathlib.Core.Path.{◌≡◌, refl, ap}
use Prim.Native.Nat.{◌+◌, ◌*◌, ◌/◌}
use native.Mathlib.Omega.{arith}
use Rattle.packing.specs.Editions.{strung}
use Rattle.packing.proofs.Puts.{one-put, two-put, three-put, all-put}
use Rattle.packing.proofs.writing.write_entries.Goals as goal

pub loop-g-init : goal.loop-g-init
unfolding strung
loop-g-init c = refl

pub loop-g-preserved : goal.loop-g-preserved
loop-g-preserved c =
    three-put _ _ _ _ _ _ _ _ c.group_at-x.ensures c.loop-g.invariant c.put_entry.ensures c.put_entry-in-loop-g.ensures
    c.put_entry-in-loop-g-2.ensures

pub returns-then-left-eq1 : goal.returns-then-left-eq1
returns-then-left-eq1 c =
    let last : c.loop-g.g ≡ c.args.count / 3 = omega arith in
    all-put _ _ _ (3 * (c.args.count / 3) + 1) _ (omega arith)
    (one-put _ _ _ _ _ _ c.group_at-x-2.ensures (all-put _ _ _ _ _ (ap (λ g. 3 * g) last) c.loop-g.invariant) c.put_entry-2.ensures)

pub returns : goal.returns
returns c =
    let last : c.loop-g.g ≡ c.args.count / 3 = omega arith in
    all-put _ _ _ (3 * (c.args.count / 3) + 2) _ (omega (arith, c.if-left-eq0.false, c.if-left-eq1.false))
    (two-put _ _ _ _ _ _ _ c.group_at-x-2.ensures (all-put _ _ _ _ _ (ap (λ g. 3 * g) last) c.loop-g.invariant) c.put_entry-2.ensures
    c.put_entry-3.ensures)
