use Rattle.std.proofs.Common.{List, ℕ, ◌+◌, ◌<◌, ◌^◌, length, subst, sym}
use Rattle.route_core.proofs.Names.{graph_of, AddsCopies, total_copies}
use Rattle.route_core.proofs.PathLemmas.{adds_pair, path_room}
use Rattle.route_core.proofs.copies.add_pair.Goals as goal

pub add_places-requires-clause-few : goal.add_places-requires-clause-few
add_places-requires-clause-few c =
    subst (λ (places : List ℕ). total_copies c.args.copies.now.items + length places < 2 ^ 32) (sym c.as_slice.ensures)
    (path_room (graph_of c.args.p.now) c.args.p.now.kept _ _ _ c.in_ok-places.places c.args.copies.now.items c.requires.sized
    c.in_ok-places.ensures c.requires.few)

pub returns : goal.returns
returns c =
    adds_pair (graph_of c.args.p.now) c.args.p.now.kept c.args.rows.now c.args.pair c.args.copies.now.items c.add_places.new.copies.items
    c.in_ok-places.places c.requires.sized c.in_ok-places.ensures
    (subst (λ (places : List ℕ). AddsCopies c.args.copies.now.items places c.add_places.new.copies.items) c.as_slice.ensures
    c.add_places.ensures)
