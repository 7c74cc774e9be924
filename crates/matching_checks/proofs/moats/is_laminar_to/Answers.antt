use Rattle.std.proofs.Common.{◌≡◌, true, false, rules}
use Rattle.std.proofs.lemmas.Iterator.{cases_from_all, YieldsList-from_slice}
use borrow.Author.Tests.{tests}
use Rattle.blossom_match.specs.declared.matching.Moat.{Moat}
use Rattle.blossom_match.specs.Matchings.{AreLaminar}
use Rattle.matching_checks.proofs.ItemLemmas.{all_by_cases}
use Rattle.matching_checks.proofs.moats.is_laminar_to.Goals as goal

pub returns : goal.returns
returns c =
    let cases = cases_from_all _ _ _ (λ (k : Moat). AreLaminar k c.args.m.now) (λ (k : Moat). AreLaminar k c.args.m.now → false ≡ true)
    c.all.ensures.ran (YieldsList-from_slice c.args.before.now cc) (λ x q k. search (rules, tests)) (λ x q k. search (rules, tests)) in
    all_by_cases (λ (k : Moat). AreLaminar k c.args.m.now) _ _ cases
