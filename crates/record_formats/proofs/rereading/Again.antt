-- The records of the acts of a design decode to these acts.
use Rattle.std.proofs.Common.{true, false, refl, arith}
use Rattle.record_formats.proofs.Names.{initial_encoder_state, acts_of, EncodedActsRoundTrip, acts_in_range, told}
use Rattle.record_formats.proofs.rereading.Acts.{goes_acts, broken}

-- the records of acts that are not refused decode to these acts
pub spelled_acts_read_again : EncodedActsRoundTrip
spelled_acts_read_again read encoding write_limits taken b d limits passed at rest ends =
    let goes = goes_acts read encoding write_limits taken b rest ends (acts_of d) initial_encoder_state at 0 0 false
    (broken taken.max_jumps) (told 1 true false d.commands) refl
    (acts_in_range 1 true false d.commands limits.in_range) passed (omega arith) in
    record { commands = goes.commands; course = goes.read; again = goes.told 1; within = goes.within }
