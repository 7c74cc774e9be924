use Rattle.std.proofs.Common.{◌≡◌, ◌≤◌, ◌++◌, List, ℕ, get_or, length, take}
use Rattle.blossom_match.proofs.Names.{Each, OddSetValue, count, IsSoundBranch, outer_members, AreOuterSlacks, TableValue, BranchValue, branches_in}
use Rattle.blossom_match.proofs.outer_slacks.add_branch_slacks.Given as goal

-- the outer sets so far are taken in
abbrev pub invariant-loop-b : goal.invariant-loop-b
invariant-loop-b l = record {
  reaches : (t : TableValue) (hs : List ℕ) (root : OddSetValue) (before : List BranchValue)
      → ((x : ℕ) → count x (outer_members root.members (before ++ branches_in l.sets l.tree)) ≤ 1)
      → Each (IsSoundBranch t (λ (a : ℕ). get_or hs a 0)) (branches_in l.sets l.tree) → AreOuterSlacks t hs root before l.fn.reach
      → AreOuterSlacks t hs root (before ++ take l.b-index (branches_in l.sets l.tree)) l.reach;
  size : length l.reach ≡ length l.fn.reach;
}
