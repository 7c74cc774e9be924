use Rattle.std.proofs.Common.{ap, map, ◌∙◌}
use Rattle.line_sections.specs.declared.spot.Spot.{Spot}
use Rattle.meeting_rounds.specs.Rounds.{settled_lines}
use Rattle.meeting_rounds.specs.declared.rounds.TheConstants.{MAX_ROUNDS}
use Rattle.meeting_rounds.specs.declared.rounds.WorkedLines.{WorkedLines}
use Rattle.meeting_rounds.proofs.RoundLemmas.{ends_stay, starts_stay}
use Rattle.meeting_rounds.proofs.rounds.settled.Goals as goal

pub returns-clause-settled : goal.returns-clause-settled
unfolding settled_lines
returns-clause-settled c = c.in_ok-settled.ensures

pub returns-clause-starts : goal.returns-clause-starts
returns-clause-starts c = ap (λ (w : WorkedLines). map (λ (s : Spot). s.block) w.starts) c.in_ok-settled.ensures
    ∙ starts_stay MAX_ROUNDS c.args.lists_crossings c.args.gap c.args.worked

pub returns-clause-ends : goal.returns-clause-ends
returns-clause-ends c = ap (λ (w : WorkedLines). map (λ (s : Spot). s.block) w.ends) c.in_ok-settled.ensures
    ∙ ends_stay MAX_ROUNDS c.args.lists_crossings c.args.gap c.args.worked
