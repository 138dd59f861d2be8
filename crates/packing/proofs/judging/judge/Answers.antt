-- The full groups before `from` are sound, so that what is past them decides (`judged-past`): all is done where the rest is sound
-- (`rest-judged`), else it is judged group by group.
use mathlib.Core.Path.{ap, sym, ◌∙◌}
use Prim.Native.Nat.{ℕ, ◌+◌, ◌*◌, ◌/◌}
use native.Mathlib.Omega.{arith}
use lib.Dec.{ltb}
use Rattle.packing.specs.Conversions.{last_has_one}
use Rattle.packing.specs.Passes.{judged_past}
use Rattle.packing.proofs.Searches.{lead-most}
use Rattle.packing.proofs.Judges.{count_most}
use Rattle.packing.proofs.Fulls.{full_at, judged-past, rest-judged}
use Rattle.packing.proofs.judging.judge.Goals as goal

pub full_groups-from-requires : goal.full_groups-from-requires
full_groups-from-requires c =
    let s = c.before in omega (arith, s.requires.2, count_most s.args.list.now)

pub returns-then-rest_sound : goal.returns-then-rest_sound
returns-then-rest_sound c =
    let r = c.before in
    let f = r.before in
    let s = f.before.before in
    let l = s.args.list.now in
    let count = s.args.count in
    let from = f.full_groups-from.result in
    judged-past l count (last_has_one l count) from (omega (arith, s.requires.2, count_most l)) f.full_groups-from.ensures _
    (sym
    (rest-judged l count from s.requires.2 (omega (arith, s.requires.0, s.requires.1))
    (omega (arith, f.full_groups-from.ensures, lead-most (full_at l) 0 (count / 3))) (sym r.rest_sound.ensures ∙ c.if-rest_sound.true)))

pub returns : goal.returns
returns c =
    let f = c.before.before.before in
    let s = f.before.before in
    let l = s.args.list.now in
    let count = s.args.count in
    let from = f.full_groups-from.result in
    judged-past l count (last_has_one l count) from (omega (arith, s.requires.2, count_most l)) f.full_groups-from.ensures _
    (c.judge_groups.ensures ∙ ap (λ (g : ℕ). judged_past l count (ltb (3 * g) (count + 3)) from) s.requires.0)
