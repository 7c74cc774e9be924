use Rattle.std.proofs.Common.{sym, ◌∙◌}
use Rattle.drawing_commands.specs.Requests.{command_order}
use Rattle.drawing_commands.proofs.requests.command_request.Goals as goal

pub returns-then-eq-clause-said : goal.returns-then-eq-clause-said
unfolding command_order
returns-then-eq-clause-said c = rw (sym c.eq.ensures ∙ c.if-eq.true) c.look_request.ensures.said

pub returns-then-eq-2-clause-said : goal.returns-then-eq-2-clause-said
unfolding command_order
returns-then-eq-2-clause-said c = rw (sym c.eq.ensures ∙ c.if-eq.false, sym c.eq-2.ensures ∙ c.if-eq-2.true) c.snap_request.ensures.said

pub returns-then-eq-3-clause-said : goal.returns-then-eq-3-clause-said
unfolding command_order
returns-then-eq-3-clause-said c = rw (
  sym c.eq.ensures ∙ c.if-eq.false,
  sym c.eq-2.ensures ∙ c.if-eq-2.false,
  sym c.eq-3.ensures
      ∙ c.if-eq-3.true,
) c.cross_request.ensures.said

pub returns-then-eq-4-clause-said : goal.returns-then-eq-4-clause-said
unfolding command_order
returns-then-eq-4-clause-said c = rw (
  sym c.eq.ensures ∙ c.if-eq.false,
  sym c.eq-2.ensures ∙ c.if-eq-2.false,
  sym c.eq-3.ensures
      ∙ c.if-eq-3.false,
  sym c.eq-4.ensures ∙ c.if-eq-4.true,
) c.space_request.ensures.said

pub returns-then-eq-5-clause-said : goal.returns-then-eq-5-clause-said
unfolding command_order
returns-then-eq-5-clause-said c = rw (
  sym c.eq.ensures ∙ c.if-eq.false,
  sym c.eq-2.ensures ∙ c.if-eq-2.false,
  sym c.eq-3.ensures
      ∙ c.if-eq-3.false,
  sym c.eq-4.ensures ∙ c.if-eq-4.false,
  sym c.eq-5.ensures ∙ c.if-eq-5.true,
) c.free_request.ensures.said

pub returns-then-eq-6-clause-said : goal.returns-then-eq-6-clause-said
unfolding command_order
returns-then-eq-6-clause-said c = rw (
  sym c.eq.ensures ∙ c.if-eq.false,
  sym c.eq-2.ensures ∙ c.if-eq-2.false,
  sym c.eq-3.ensures
      ∙ c.if-eq-3.false,
  sym c.eq-4.ensures ∙ c.if-eq-4.false,
  sym c.eq-5.ensures ∙ c.if-eq-5.false,
  sym c.eq-6.ensures
      ∙ c.if-eq-6.true,
) c.near_request.ensures.said

pub returns-then-eq-7-clause-said : goal.returns-then-eq-7-clause-said
unfolding command_order
returns-then-eq-7-clause-said c = rw (
  sym c.eq.ensures ∙ c.if-eq.false,
  sym c.eq-2.ensures ∙ c.if-eq-2.false,
  sym c.eq-3.ensures
      ∙ c.if-eq-3.false,
  sym c.eq-4.ensures ∙ c.if-eq-4.false,
  sym c.eq-5.ensures ∙ c.if-eq-5.false,
  sym c.eq-6.ensures
      ∙ c.if-eq-6.false,
  sym c.eq-7.ensures ∙ c.if-eq-7.true,
) c.edit_request.ensures.said
