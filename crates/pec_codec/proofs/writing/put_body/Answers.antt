use Rattle.pec_codec.proofs.WritingLemmas.{body_put, body_short, body_stops}
use Rattle.pec_codec.proofs.writing.put_body.Goals as goal

pub returns-clause-value : goal.returns-clause-value
returns-clause-value c = body_put c.args.design.now c.commands-commands.result.now c.args.out.now c.put_acts.new.out
    c.push.new.self c.in_ok-state.state c.commands-commands.ensures.value c.in_ok-state.ensures c.in_ok-push.ensures.ok

pub returns-clause-stops : goal.returns-clause-stops
returns-clause-stops c = body_stops c.args.design.now c.args.out.now c.push.new.self c.in_ok-state.state.stops
    c.accepted_designs_are_small.ensures c.commands-commands.ensures.limits (returns-clause-value c)

pub returns-clause-short : goal.returns-clause-short
returns-clause-short c = body_short c.args.design.now c.args.out.now c.push.new.self c.in_ok-state.state.stops
    c.accepted_designs_are_small.ensures c.commands-commands.ensures.limits (returns-clause-value c)
