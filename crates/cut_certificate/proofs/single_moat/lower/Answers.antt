use Rattle.std.proofs.Common.{length}
use Rattle.cut_certificate.proofs.Names.{slice_index, lift_input}
use Rattle.cut_certificate.proofs.WayLemmas.{first_way, reach_wide, row_low}
use Rattle.cut_certificate.proofs.single_moat.lower.Goals as goal

pub lower_twice-requires-clause-low : goal.lower_twice-requires-clause-low
lower_twice-requires-clause-low c = λ j lt.
    row_low c.args.rows.now (length c.args.reach.now) c.args.moats.now c.args.t c.row.result.now j c.requires.can c.requires.way.place
    c.row.ensures lt

pub lower_past-requires : goal.lower_past-requires
lower_past-requires c = record {
  size = reach_wide c.args.rows.now (length c.args.reach.now) c.args.moats.now c.args.stands.now c.args.reaches.now c.args.t c.in-First.c
      c.state_at.result
      c.index-reaches-c.result c.as_slice.result.now c.requires.way c.state_at.ensures c.in-First.is
      (c.requires.way.beside c.in-First.c c.in-First.ensures) c.index-reaches-c.is c.as_slice.ensures.value;
}

pub returns-in-First-clause-value : goal.returns-in-First-clause-value
returns-in-First-clause-value c = λ j lt.
    first_way (lift_input c.args.rows.now (length c.args.reach.now) c.args.moats.now) c.args.stands.now c.args.reaches.now c.args.t j
    c.in-First.c c.state_at.result
    c.index-moats-c.result c.index-reaches-c.result c.as_slice.result.now (slice_index c.args.reach.now j)
    (slice_index c.lower_past.new.reach j)
    c.state_at.ensures c.in-First.is (c.requires.way.moat c.in-First.c c.in-First.ensures) c.index-moats-c.is
    (c.requires.way.beside c.in-First.c c.in-First.ensures) c.index-reaches-c.is c.as_slice.ensures.value (c.lower_past.ensures.value j lt)
