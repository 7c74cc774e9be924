use Rattle.std.proofs.Common.{List, ℕ, ◌+◌, arith, ap, length, map, refl, subst, sym, ◌∙◌}
use Rattle.blossom_match.proofs.Names.{Each, branches_in, matches_in, set_in, changed_branch, CanChangeBranch, Branch, ChangesHeights, written}
use Rattle.blossom_match.proofs.DualLemmas.{all_resized, can_resize, changed_sets}
use Rattle.blossom_match.proofs.adjustment.change_duals.Goals as goal

pub change_branches-requires : goal.change_branches-requires
change_branches-requires c =
    subst (λ (ks : List Branch). Each (CanChangeBranch c.args.by) ks) (sym c.deref_mut-2.ensures.value)
    (can_resize c.args.by c.args.s.sets c.args.s.tree.items c.requires.tree)

pub returns : goal.returns
returns c =
    let s = c.args.s in
    let root = set_in s.sets s.root in
    let heights = written s.heights.len c.change_heights.new.heights s.heights.items
    (omega (arith, c.change_heights.auto.heights, c.deref_mut.ensures.len)) in
    let tree = written s.tree.len c.change_branches.new.tree s.tree.items
    (omega (arith, c.change_branches.auto.tree, c.deref_mut-2.ensures.len)) in
    record {
      heights = subst (λ (hs : List ℕ). ChangesHeights c.args.by root (branches_in s.sets s.tree.items) s.heights.items hs) (sym heights)
          (subst (λ (hs : List ℕ). ChangesHeights c.args.by root (branches_in s.sets s.tree.items) hs c.change_heights.new.heights)
          c.deref_mut.ensures.value
          (subst (λ (ks : List Branch). ChangesHeights c.args.by root (branches_in s.sets ks) c.deref_mut.result.now
          c.change_heights.new.heights)
          c.deref.ensures.value c.change_heights.ensures.moves));
      size = ap (λ (hs : List ℕ). length hs) heights ∙ c.change_heights.ensures.size
          ∙ ap (λ (hs : List ℕ). length hs) c.deref_mut.ensures.value;
      root = refl;
      tree = ap (λ (ks : List Branch). branches_in s.sets ks) (tree ∙ c.change_branches.ensures
          ∙ ap (λ (ks : List Branch). map (changed_branch c.args.by) ks) c.deref_mut-2.ensures.value)
          ∙ all_resized c.args.by s.sets s.tree.items;
      rest = refl;
      free = refl;
    }

pub invariant_of-result : goal.invariant_of-result
invariant_of-result c =
    let s = c.args.s in
    let tree = written s.tree.len c.change_branches.new.tree s.tree.items
    (omega (arith, c.change_branches.auto.tree, c.deref_mut-2.ensures.len)) in
    record {
      stand = changed_sets s.sets c.args.by (s.root.dual + c.args.by) (set_in s.sets s.root) (branches_in s.sets s.tree.items) _
          (matches_in s.sets s.rest.items)
          (ap (λ (ks : List Branch). branches_in s.sets ks) (tree ∙ c.change_branches.ensures
          ∙ ap (λ (ks : List Branch). map (changed_branch c.args.by) ks) c.deref_mut-2.ensures.value)
          ∙ all_resized c.args.by s.sets s.tree.items)
          s.stand;
    }
