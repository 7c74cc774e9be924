use Rattle.std.proofs.Common.{◌≡◌, ℕ, ◌+◌, ◌-◌, ◌*◌, ◌^◌, length, get_or, slice_get, Some}
use Rattle.odd_cuts.proofs.Names.{HaveNumberedMembers, cut_faults, load_on, Edge, graph_of, AreAtMost}
use Rattle.odd_cuts.proofs.LoadLemmas.{load_with}
use Rattle.odd_cuts.proofs.cut_check.loads_of.Given as goal

-- the cuts so far have no fault, and what they load with those that are left is what all cuts load
abbrev pub invariant-loop-cut : goal.invariant-loop-cut
invariant-loop-cut l = record {
  count : l.number + length l.rest ≡ length l.cuts + 1;
  numbered : HaveNumberedMembers l.rest;
  faults : cut_faults (graph_of l.p) l.number l.rest ≡ cut_faults (graph_of l.p) 1 l.cuts;
  loads : (i : ℕ) (e : Edge) → slice_get l.p.edges i ≡ Some e → load_with (get_or l.loads i 0) l.rest e ≡ load_on l.cuts e;
  most : AreAtMost ((2 ^ 32 - 1) * l.number) l.loads;
}

abbrev pub decreases-loop-cut : goal.decreases-loop-cut
decreases-loop-cut l = length l.rest
