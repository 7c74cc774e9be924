use Rattle.std.proofs.Common.{drop, ◌+◌}
use Rattle.step_splitter.proofs.Names.{acts_along, acts_after}
use Rattle.step_splitter.proofs.RefitLemmas.{next_split}
use Rattle.step_splitter.proofs.refitting.refit_commands.Goals as goal

pub returns-in-Err : goal.returns-in-Err
returns-in-Err c =
    let acts = acts_along c.args.commands.now in
    c.in-Err.ensures.passes acts
    (acts_after c.next-next.new.self (drop (c.loop-command.command-index + 1) c.args.commands.now))
    (next_split c.args.mode c.args.limit acts _ _ _ c.args.commands.now _ c.loop-command.walk _ _
    c.loop-command-test.true c.next-next.ensures.value c.loop-command.invariant.acts)
