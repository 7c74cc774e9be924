use Rattle.std.proofs.Common.{List, ℕ, subst, sym}
use Rattle.route_core.proofs.Names.{CanPass, IsTour, graph_of}
use Rattle.route_core.proofs.PassLemmas.{can_pass, walk_is}
use Rattle.route_core.proofs.piece_route.walk_by.Goals as goal

pub tour-requires : goal.tour-requires
tour-requires c =
    subst (λ (copies : List ℕ). CanPass (graph_of c.args.p.now) copies) (sym c.deref.ensures.value)
    (can_pass (graph_of c.args.p.now) c.args.p.now.kept c.args.rows.now c.requires.rows c.args.pairs.now c.requires.pairs c.requires.each
    c.requires.few
    c.in_ok-copies.copies.items c.in_ok-copies.ensures)

pub returns : goal.returns
returns c =
    walk_is (graph_of c.args.p.now) c.args.p.now.kept c.args.rows.now c.args.pairs.now c.in_ok-copies.copies.items c.in_ok-walk.walk
    c.in_ok-copies.ensures
    (subst (λ (copies : List ℕ). IsTour (graph_of c.args.p.now) copies c.in_ok-walk.walk) c.deref.ensures.value c.in_ok-walk.ensures)
