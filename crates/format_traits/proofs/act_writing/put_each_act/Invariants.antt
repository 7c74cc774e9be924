use Rattle.std.proofs.Common.{◌≡◌, ◌++◌, drop}
use Rattle.format_traits.proofs.Names.{encoder_state_after_acts, first_refusal_from, first_refusal, initial_encoder_state, acts_along, bytes_of_acts_from, IsEncoderStateInRange}
use Rattle.design_model.specs.ActScanners.{acts_after}
use Rattle.format_traits.proofs.act_writing.put_each_act.Given as goal

-- the bytes so far and those of the acts that are left are all bytes; so with the refusals
abbrev pub invariant-loop-command : goal.invariant-loop-command
invariant-loop-command g l =
    let limits = g.W.ActWriter.write_limits l.writer in
    let act_bytes = g.W.ActWriter.act_bytes l.writer in
    let all = acts_along l.commands in
    let left = acts_after l.walk (drop l.command-index l.commands) in record {
      number : l.walk.number ≡ l.command-index;
      sound : IsEncoderStateInRange l.state;
      refusal : first_refusal_from limits l.state left ≡ first_refusal limits all;
      written : l.out ++ bytes_of_acts_from act_bytes limits.limit l.state left
          ≡ l.fn.out ++ bytes_of_acts_from act_bytes limits.limit initial_encoder_state all;
      stands : encoder_state_after_acts limits.limit l.state left ≡ encoder_state_after_acts limits.limit initial_encoder_state all;
    }
