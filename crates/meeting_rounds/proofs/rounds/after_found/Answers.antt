use Rattle.std.proofs.Common.{rules, ◌≡◌, sym, ◌∙◌}
use Rattle.meeting_rounds.specs.Rounds.{round_acts}
use Rattle.meeting_rounds.proofs.RoundLemmas.{idle_stays, one_round}
use Rattle.meeting_rounds.proofs.rounds.after_found.Goals as goal

pub returns-then-acts : goal.returns-then-acts
returns-then-acts c =
    let acts : c.in_ok-acts.acts ≡ round_acts c.args.lists_crossings c.args.gap c.args.worked.lines = search rules in
    sym (idle_stays c.args.rounds c.args.lists_crossings c.args.gap c.args.worked c.in_ok-acts.acts acts c.if-acts.true)

pub returns : goal.returns
returns c =
    let acts : c.in_ok-acts.acts ≡ round_acts c.args.lists_crossings c.args.gap c.args.worked.lines = search rules in
    c.in_ok-after.ensures
    ∙ one_round c.args.rounds c.args.lists_crossings c.args.gap c.args.worked c.in_ok-next.next c.in_ok-acts.acts
    c.requires.rounds acts c.if-acts.false c.in_ok-next.ensures
