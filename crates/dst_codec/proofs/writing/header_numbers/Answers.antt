use Rattle.std.proofs.Common.{arith, subst, sym}
use Rattle.dst_codec.proofs.Names.{FitsFields, stops_along, nat_tests}
use Rattle.dst_codec.proofs.WritingLemmas.{accepted_fit, body_short, counted, place-encoder_state_after_acts}
use Rattle.dst_codec.proofs.writing.header_numbers.Goals as goal

pub overflow_cast-result : goal.overflow_cast-result
overflow_cast-result c = omega (
  arith,
  body_short c.accepted_designs_are_small.ensures c.args.design.now c.requires.limits c.args.state.now c.args.length
      c.requires.written,
)

pub returns-clause-value : goal.returns-clause-value
returns-clause-value c =
    grind (arith, nat_tests, stops_along, counted, place-encoder_state_after_acts, c.requires.written, c.needle_extents.ensures)

pub returns-clause-fits : goal.returns-clause-fits
returns-clause-fits c = subst FitsFields (sym (returns-clause-value c))
    (accepted_fit c.accepted_designs_are_small.ensures c.args.design.now c.requires.limits c.requires.written.passed)
