use Rattle.std.proofs.Common.{sym, ◌∙◌}
use Rattle.std.specs.HashMap.{get}
use Rattle.line_meetings.proofs.JointLemmas.{joined_first, joined_second}
use Rattle.line_meetings.proofs.KnownLemmas.{known_joins}
use Rattle.line_meetings.specs.KnownPoints.{is_same_point_key}
use Rattle.line_meetings.proofs.finding.is_joined.Goals as goal

pub returns-then-has-clause-joined : goal.returns-then-has-clause-joined
returns-then-has-clause-joined c =
    joined_first c.args.gap c.args.tree.now c.args.p.now c.args.q.now
    (sym (c.requires.around c.args.q.now) ∙ sym c.has.ensures ∙ c.if-has.true)

pub returns-in-Some-clause-joined : goal.returns-in-Some-clause-joined
returns-in-Some-clause-joined c =
    joined_second c.args.gap c.args.tree.now c.args.p.now c.args.q.now _
    (sym (c.requires.around c.args.q.now) ∙ sym c.has.ensures ∙ c.if-has.false)
    (known_joins c.args.gap c.args.tree.now (get is_same_point_key c.args.known.now) c.args.q.now c.args.p.now _ c.requires.known
    (sym c.known_to_join.ensures ∙ c.in-Some.is))

pub returns-clause-joined : goal.returns-clause-joined
returns-clause-joined c =
    joined_second c.args.gap c.args.tree.now c.args.p.now c.args.q.now _
    (sym (c.requires.around c.args.q.now) ∙ sym c.has.ensures ∙ c.if-has.false)
    (c.has-joined.ensures ∙ c.in_ok-others.ensures c.args.p.now)
