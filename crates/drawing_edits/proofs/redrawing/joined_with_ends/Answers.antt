use Rattle.drawing_edits.proofs.CallerLemmas.{joined_with}
use Rattle.drawing_edits.proofs.redrawing.joined_with_ends.Goals as goal

pub returns-clause-whole : goal.returns-clause-whole
returns-clause-whole c = (joined_with c.args.drawn.now c.in_ok-new.new c.args.starts.now c.args.ends.now c.requires
    (rw c.in_ok-joined.ensures.answer c.in_ok-new.ensures.answer)).whole

pub returns-clause-starts : goal.returns-clause-starts
returns-clause-starts c = (joined_with c.args.drawn.now c.in_ok-new.new c.args.starts.now c.args.ends.now c.requires
    (rw c.in_ok-joined.ensures.answer c.in_ok-new.ensures.answer)).starts_are

pub returns-clause-ends : goal.returns-clause-ends
returns-clause-ends c = (joined_with c.args.drawn.now c.in_ok-new.new c.args.starts.now c.args.ends.now c.requires
    (rw c.in_ok-joined.ensures.answer c.in_ok-new.ensures.answer)).ends_are
