-- `find` ends at the first place whose entry is illegal (`legal-search`), and what it found is what the list is judged to be.
use Rattle.std.proofs.Common.{◌≡◌, true, false, rules, tests, ap, sym, ◌∙◌, length, ◌/◌}
use Rattle.std.proofs.lemmas.Iterator.{first_from_Range}
use Rattle.entries.specs.Legality.{legal_at}
use Rattle.packing.specs.Conversions.{judged_by}
use Rattle.packing.proofs.Judges.{legal-search}
use Rattle.packing.proofs.judging.judge_entries.Goals as goal

pub returns-in-Some : goal.returns-in-Some
returns-in-Some c =
    let l = c.args.list.now in
    ap (judged_by (length l / 5))
    (sym c.in-Some.is
    ∙ legal-search l _
    (first_from_Range _ _ _ _ (λ k. legal_at l k ≡ false) (λ k. legal_at l k ≡ true) c.find.ensures.ran (λ x q k. search (rules, tests))
    (λ x q k. search (rules, tests))))

pub returns-in-None : goal.returns-in-None
returns-in-None c =
    let l = c.args.list.now in
    ap (judged_by (length l / 5))
    (sym c.in-None.is
    ∙ legal-search l _
    (first_from_Range _ _ _ _ (λ k. legal_at l k ≡ false) (λ k. legal_at l k ≡ true) c.find.ensures.ran (λ x q k. search (rules, tests))
    (λ x q k. search (rules, tests))))
