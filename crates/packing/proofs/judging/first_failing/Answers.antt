-- `position` ends at the first of the three that does not pass (`first-of-three`).
use Rattle.std.proofs.Common.{◌≡◌, refl, not, length, rules, tests, ◌∙◌}
use Rattle.std.proofs.lemmas.Iterator.{YieldsList-from_slice}
use Rattle.std.proofs.lemmas.Iterator.Search.{position_from_yields_List}
use Rattle.packing.specs.Conversions.{passes}
use Rattle.packing.proofs.Judges.{first-of-three}
use Rattle.packing.proofs.judging.first_failing.Goals as goal

pub returns : goal.returns
returns c =
    let len : length c.args.x.entries ≡ 3 = search rules in
    position_from_yields_List (λ e. not (passes e)) _ _ c.position.result c.position.ensures.ran (YieldsList-from_slice c.args.x.entries cc)
    (λ x b q k. search (rules, tests))
    ∙ first-of-three c.args.x c.args.x.entries refl len
