use Rattle.std.proofs.Common.{◌*◌, refl, arith, ap}
use Rattle.std.proofs.lemmas.List.{nil_from_length}
use Rattle.odd_cuts.proofs.Names.{load_on, graph_of, MAX_LINES, nat_tests}
use Rattle.odd_cuts.proofs.LoadLemmas.{loads_blank, loads_next, no_load, cuts_end, next_numbered, faults_next, load_end}
use Rattle.odd_cuts.proofs.TableLemmas.{ends_within}
use Rattle.odd_cuts.proofs.cut_check.loads_of.Goals as goal

pub loop-cut-init : goal.loop-cut-init
loop-cut-init c = record {
  count = omega arith;
  numbered = c.requires.members;
  faults = refl;
  loads = λ i. λ e. λ found. loads_blank c.args.cuts.now MAX_LINES i e;
  most = λ i. no_load i;
}

pub check_cut-requires-clause-members : goal.check_cut-requires-clause-members
check_cut-requires-clause-members c = (next_numbered _ _ _ c.in-Some.ensures.cases.0 c.loop-cut.invariant.numbered).0

pub add_shares-requires-clause-ends : goal.add_shares-requires-clause-ends
add_shares-requires-clause-ends c = rw c.as_slice-in-Some.ensures (grind (arith, nat_tests, ends_within))

pub loop-cut-preserved : goal.loop-cut-preserved
loop-cut-preserved c = record {
  count = grind (arith, nat_tests, ap, c.in-Some.ensures.cases.0, c.loop-cut.invariant.count);
  numbered = (next_numbered _ _ _ c.in-Some.ensures.cases.0 c.loop-cut.invariant.numbered).1;
  faults = faults_next (graph_of c.args.p.now) _ _ _ _ _ c.in-Some.ensures.cases.0 c.loop-cut.invariant.faults c.in_ok-held.ensures.0;
  loads = loads_next _ _ _ c.args.p.now.edges _ _ (λ e. load_on c.args.cuts.now e) c.in-Some.ensures.cases.0
      (rw (← c.as_slice-in-Some.ensures) c.add_shares.ensures.shares) c.loop-cut.invariant.loads;
  most = λ i. omega (arith, c.add_shares.ensures.most (4294967295 * c.loop-cut.number) c.loop-cut.invariant.most i);
}

pub returns : goal.returns
returns c = (
  cuts_end (graph_of c.args.p.now) _ _ _ (nil_from_length _ c.in_default.ensures.cases) c.loop-cut.invariant.faults,
  λ i. λ e. λ found. load_end _ _ _ e (nil_from_length _ c.in_default.ensures.cases) (c.loop-cut.invariant.loads i e found),
)
