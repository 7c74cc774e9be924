use Rattle.std.proofs.Common.{arith}
use Rattle.odd_paths.proofs.PassKeeping.{relax_keeps}
use Rattle.odd_paths.proofs.PlaceLemmas.{below_at, cost_within, looked_up}
use Rattle.odd_paths.proofs.rounds.relax_at.Goals as goal

pub relax-requires-clause-a : goal.relax-requires-clause-a
relax-requires-clause-a c =
    let got = looked_up c.args.edges.now c.args.place c.in-Some.e.now c.in-Some.ensures.lookup.0 c.in-Some.ensures.lookup.1 in
    (below_at _ c.args.edges.now c.args.place c.in-Some.e.now c.requires.ends got).0

pub relax-requires-clause-b : goal.relax-requires-clause-b
relax-requires-clause-b c =
    let got = looked_up c.args.edges.now c.args.place c.in-Some.e.now c.in-Some.ensures.lookup.0 c.in-Some.ensures.lookup.1 in
    (below_at _ c.args.edges.now c.args.place c.in-Some.e.now c.requires.ends got).1

pub relax-requires-clause-cost : goal.relax-requires-clause-cost
relax-requires-clause-cost c =
    let got = looked_up c.args.edges.now c.args.place c.in-Some.e.now c.in-Some.ensures.lookup.0 c.in-Some.ensures.lookup.1 in
    omega (arith, cost_within c.args.edges.now c.args.place c.in-Some.e.now got, c.requires.cost)

pub returns : goal.returns
returns c =
    let got = looked_up c.args.edges.now c.args.place c.in-Some.e.now c.in-Some.ensures.lookup.0 c.in-Some.ensures.lookup.1 in
    relax_keeps c.args.edges.now c.args.place c.in-Some.e.now c.args.table.now c.relax.new.table c.relax.result c.requires.ends got
    c.relax.auto.table c.relax.ensures.capped c.relax.ensures.value c.relax.ensures.weight
