use Rattle.std.proofs.Common.{rules, ◌≡◌, sym, ◌∙◌}
use Rattle.meeting_rounds.specs.Rounds.{round_acts}
use Rattle.meeting_rounds.proofs.RoundLemmas.{idle_stays, one_round}
use Rattle.meeting_rounds.proofs.rounds.after.Goals as goal

pub returns-then-acts : goal.returns-then-acts
returns-then-acts c =
    let acts : c.in_ok-acts.acts ≡ round_acts c.args.lists_crossings c.args.gap c.loop-left.worked.lines = search rules in
    sym (idle_stays c.loop-left.left c.args.lists_crossings c.args.gap c.loop-left.worked c.in_ok-acts.acts acts c.if-acts.true)
    ∙ c.loop-left.invariant

pub loop-left-preserved : goal.loop-left-preserved
loop-left-preserved c =
    let acts : c.in_ok-acts.acts ≡ round_acts c.args.lists_crossings c.args.gap c.loop-left.worked.lines = search rules in
    one_round c.loop-left.left c.args.lists_crossings c.args.gap c.loop-left.worked c.in_ok-worked.worked c.in_ok-acts.acts
    (search rules) acts c.if-acts.false c.in_ok-worked.ensures
    ∙ c.loop-left.invariant
