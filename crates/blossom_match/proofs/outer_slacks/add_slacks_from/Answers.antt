use Rattle.std.proofs.Common.{arith, ap, drop, length, List, ℕ, ◌+◌, ◌-◌, ◌∙◌, subst, sym, take}
use Rattle.blossom_match.proofs.Names.{Each, HasSlacks, AddsOuterSlacks, branch_in, branches_in, search_value, BranchValue, Branch, each-map, nat_tests, each-drop, each-take, mapped_cut}
use Rattle.blossom_match.proofs.outer_slacks.add_slacks_from.Goals as goal

pub add_branch_slacks-requires : goal.add_branch_slacks-requires
add_branch_slacks-requires c =
    let s = search_value c.args.s.now in
    let n = (c.args.at + c.args.more) - c.args.at in
    let row = λ (b : BranchValue). HasSlacks (length c.args.reach.now) b.outer in
    subst (λ (ks : List BranchValue). Each row ks)
    (sym (mapped_cut (branch_in c.args.s.now.sets) n c.args.at c.deref.result.now
    ∙ ap (λ (ks : List Branch). take n (drop c.args.at (branches_in c.args.s.now.sets ks))) c.deref.ensures.value))
    (each-take row n (drop c.args.at s.tree) (each-drop row c.args.at s.tree (grind (arith, nat_tests, each-map, c.requires.can))))

pub returns : goal.returns
returns c =
    let s = search_value c.args.s.now in
    let n = (c.args.at + c.args.more) - c.args.at in
    subst (λ (k : ℕ). AddsOuterSlacks (take k (drop c.args.at s.tree)) c.args.reach.now c.add_branch_slacks.new.reach) (omega arith)
    (subst (λ (ks : List BranchValue). AddsOuterSlacks ks c.args.reach.now c.add_branch_slacks.new.reach)
    (mapped_cut (branch_in c.args.s.now.sets) n c.args.at c.deref.result.now
    ∙ ap (λ (ks : List Branch). take n (drop c.args.at (branches_in c.args.s.now.sets ks))) c.deref.ensures.value)
    c.add_branch_slacks.ensures)
