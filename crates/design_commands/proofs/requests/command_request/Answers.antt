use Rattle.std.proofs.Common.{sym, ◌∙◌}
use Rattle.design_commands.specs.Requests.{parsed_command_words}
use Rattle.design_commands.proofs.requests.command_request.Goals as goal

pub returns-then-eq-clause-said : goal.returns-then-eq-clause-said
unfolding parsed_command_words
returns-then-eq-clause-said c = rw (sym c.eq.ensures ∙ c.if-eq.true) c.look_request.ensures.said

pub returns-then-eq-2-clause-said : goal.returns-then-eq-2-clause-said
unfolding parsed_command_words
returns-then-eq-2-clause-said c = rw (sym c.eq.ensures ∙ c.if-eq.false, sym c.eq-2.ensures ∙ c.if-eq-2.true) c.pass_request.ensures.said

pub returns-then-eq-3-clause-said : goal.returns-then-eq-3-clause-said
unfolding parsed_command_words
returns-then-eq-3-clause-said c = rw (
  sym c.eq.ensures ∙ c.if-eq.false,
  sym c.eq-2.ensures ∙ c.if-eq-2.false,
  sym c.eq-3.ensures
      ∙ c.if-eq-3.true,
) c.edit_request.ensures.said

pub returns-then-eq-4-clause-said : goal.returns-then-eq-4-clause-said
unfolding parsed_command_words
returns-then-eq-4-clause-said c = rw (
  sym c.eq.ensures ∙ c.if-eq.false,
  sym c.eq-2.ensures ∙ c.if-eq-2.false,
  sym c.eq-3.ensures
      ∙ c.if-eq-3.false,
  sym c.eq-4.ensures ∙ c.if-eq-4.true,
) c.compare_request.ensures.said

pub returns-then-eq-5-clause-said : goal.returns-then-eq-5-clause-said
unfolding parsed_command_words
returns-then-eq-5-clause-said c = rw (
  sym c.eq.ensures ∙ c.if-eq.false,
  sym c.eq-2.ensures ∙ c.if-eq-2.false,
  sym c.eq-3.ensures
      ∙ c.if-eq-3.false,
  sym c.eq-4.ensures ∙ c.if-eq-4.false,
  sym c.eq-5.ensures ∙ c.if-eq-5.true,
) c.threads_request.ensures.said
