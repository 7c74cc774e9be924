use Rattle.std.proofs.Common.{arith, [], List, ℕ, ap, subst}
use Rattle.blossom_match.proofs.Names.{nat_tests, IsBestCandidate, count, outer_vertices, branches_in, search_value, outer_members, Branch, base_in, members_each}
use Rattle.blossom_match.specs.declared.least.Kind.TheVariants as kind
use Rattle.blossom_match.proofs.CandidateLemmas.{aims_join}
use Rattle.blossom_match.proofs.least.best_outer.Goals as goal

pub best_target-rooted-requires-clause-within : goal.best_target-rooted-requires-clause-within
best_target-rooted-requires-clause-within c = λ x here.
    let s = search_value c.args.s.now in
    c.requires.within x (omega (arith, here, ap (λ (ks : List ℕ). count x ks) c.members.ensures, base_in x s.root.members s.tree))

pub best_branch-requires-clause-within : goal.best_branch-requires-clause-within
best_branch-requires-clause-within c = λ x here.
    let s = search_value c.args.s.now in
    c.requires.within x (grind (arith, nat_tests, here, members_each))

pub returns : goal.returns
returns c =
    let s = search_value c.args.s.now in
    let hs = c.args.heights.now in
    let r = c.args.reach.now in
    let rooted = c.best_target-rooted.result in
    let out = c.best_branch.result in
    aims_join hs r kind.Shrink s.root.members (outer_members [] s.tree) (outer_vertices s) c.args.best rooted out
    (λ x. omega (arith, members_each))
    (subst (λ (ks : List ℕ). IsBestCandidate hs r kind.Shrink ks c.args.best rooted) c.members.ensures c.best_target-rooted.ensures)
    (subst (λ (ks : List Branch). IsBestCandidate hs r kind.Shrink (outer_members [] (branches_in c.args.s.now.sets ks)) rooted out)
    c.deref.ensures.value c.best_branch.ensures)
