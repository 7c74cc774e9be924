use Rattle.std.proofs.Common.{◌≡◌, ◌++◌, ◌∷◌, [], ◌∙◌, sym, arith}
use Rattle.odd_paths.proofs.LastLemmas.{arrived, never, onward, place_fits}
use Rattle.odd_paths.proofs.walk_back.places.Goals as goal

pub overflow_cast-place : goal.overflow_cast-place
overflow_cast-place c =
    let fits = place_fits c.args.edges.now c.args.row.now c.loop-at.at c.in-Some.place c.in-Some.before c.requires.row.few
    (sym c.last_edge.ensures ∙ c.in-Some.is) in
    omega (arith, fits)

pub loop-at-smaller : goal.loop-at-smaller
loop-at-smaller c =
    (onward c.args.edges.now c.args.row.now c.args.j c.in-Some.place c.in-Some.before c.loop-at.at c.loop-at.places.items
    c.requires.row.ends c.requires.row.costs (sym c.last_edge.ensures ∙ c.in-Some.is) c.loop-at.invariant.walk
    c.loop-at.invariant.cost).less

pub loop-at-preserved : goal.loop-at-preserved
loop-at-preserved c =
    let next =
    onward c.args.edges.now c.args.row.now c.args.j c.in-Some.place c.in-Some.before c.loop-at.at c.loop-at.places.items
    c.requires.row.ends c.requires.row.costs (sym c.last_edge.ensures ∙ c.in-Some.is) c.loop-at.invariant.walk c.loop-at.invariant.cost in
    let pushed : c.push.new.self.items ≡ c.loop-at.places.items ++ c.in-Some.place ∷ [] = c.in_ok-push-in-Some.ensures.items in
    record { inside = next.inside; walk = rw pushed next.walk; cost = rw pushed next.cost }

pub unreachable-requires : goal.unreachable-requires
unreachable-requires c =
    never c.args.edges.now c.args.row.now c.args.from c.loop-at.at c.requires.row.least c.requires.row.ends c.loop-at.invariant.inside
    (λ same. c.loop-at-test.true (sym same)) (sym c.last_edge.ensures ∙ c.in-None.is)

pub returns : goal.returns
returns c =
    rw c.reverse.ensures.items (arrived c.args.edges.now c.args.row.now c.args.from c.args.j c.loop-at.at c.loop-at.places.items
    c.requires.row.least c.requires.row.there c.loop-at-test.false c.loop-at.invariant.walk c.loop-at.invariant.cost)
