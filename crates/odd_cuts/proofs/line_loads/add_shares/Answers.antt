use Rattle.std.proofs.Common.{◌<◌, length, arith}
use Rattle.odd_cuts.proofs.Names.{Edge, slice_get_within, ends_at}
use Rattle.odd_cuts.proofs.LoadLemmas.{before_next, behind_next, most_next}
use Rattle.odd_cuts.proofs.TableLemmas.{length_set}
use Rattle.odd_cuts.proofs.line_loads.add_shares.Goals as goal

abbrev no_edge : Edge
no_edge = record { a = 0; b = 0; cost = 0 }

pub share-requires-clause-first : goal.share-requires-clause-first
share-requires-clause-first c = (ends_at _ c.args.edges.now c.loop-at.at no_edge c.requires.ends c.loop-at-test.true).0

pub share-requires-clause-last : goal.share-requires-clause-last
share-requires-clause-last c = (ends_at _ c.args.edges.now c.loop-at.at no_edge c.requires.ends c.loop-at-test.true).1

pub loop-at-preserved : goal.loop-at-preserved
loop-at-preserved c =
    let there : c.loop-at.at < length c.loop-at.loads = omega (arith, c.loop-at.invariant.sized, c.requires.few, c.loop-at-test.true) in
    record {
      sized = length_set c.loop-at.loads c.loop-at.at _ _ c.loop-at.invariant.sized;
      before = before_next c.args.cut.now c.args.edges.now c.args.loads.now c.loop-at.loads c.loop-at.at c.share.result no_edge
          c.loop-at-test.true there c.share.ensures.value c.loop-at.invariant.before c.loop-at.invariant.behind;
      behind = behind_next c.args.loads.now c.loop-at.loads c.loop-at.at _ c.loop-at.invariant.behind;
      most = most_next c.args.loads.now c.loop-at.loads c.loop-at.at c.share.result _ there c.share.ensures.most
          c.loop-at.invariant.behind c.loop-at.invariant.most;
    }

pub returns-clause-shares : goal.returns-clause-shares
returns-clause-shares c = λ i. λ e. λ found.
    c.loop-at.invariant.before i e (omega (arith, slice_get_within c.args.edges.now i e found, c.loop-at-test.false)) found
