use Rattle.cut_certificate.proofs.WayLemmas.{all_ways, reach_made}
use Rattle.cut_certificate.proofs.single_moat.distances_of.Goals as goal

pub lower_all-requires-clause-ways : goal.lower_all-requires-clause-ways
lower_all-requires-clause-ways c =
    all_ways c.args.rows.now c.args.size c.args.moats.now c.args.s.now c.args.stands.now c.args.reaches.now c.in_ok-reach.reach.items
    c.deref_mut.result.now
    c.as_slice.result.now c.requires.can c.requires.next (c.in_ok-reach.ensures.items_if_clones_equal (λ y h. h))
    c.deref_mut.ensures.value c.as_slice.ensures

pub returns : goal.returns
returns c =
    reach_made c.args.rows.now c.args.size c.args.moats.now c.args.s.now c.args.stands.now c.args.reaches.now c.in_ok-reach.reach.len
    c.in_ok-reach.reach.items
    c.deref_mut.result.now c.lower_all.new.reach c.as_slice.result.now c.requires.can c.requires.next
    (c.in_ok-reach.ensures.items_if_clones_equal (λ y h. h)) c.deref_mut.ensures.value c.in_ok-reach.ensures.len c.lower_all.ensures.size
    c.as_slice.ensures
    c.lower_all.ensures.value
