use Rattle.std.proofs.Common.{refl}
use Rattle.line_graph.proofs.ChosenSpotLemmas.{more_chosen, none_there, one_added, one_there}
use Rattle.line_graph.proofs.chosen_spots.ChosenSpots.add.Goals as goal

pub returns-then-line-lines-clause-answer : goal.returns-then-line-lines-clause-answer
returns-then-line-lines-clause-answer c = (
  none_there c.args.d.now c.args.labels.now c.args.self.now c.args.spot _ _ c.requires.labels c.requires.chosen
      c.line_at-line.ensures.value c.lines.ensures c.line_at-line.ensures.within _ c.lines-2.ensures c.if-line-lines.true,
  refl,
)

pub returns-then-index-clause-answer : goal.returns-then-index-clause-answer
returns-then-index-clause-answer c = (
  one_there c.args.d.now c.args.labels.now c.args.self.now c.args.spot _ _ c.requires.labels c.requires.chosen
      c.line_at-line.ensures.value c.lines.ensures c.line_at-line.ensures.within _ c.lines-2.ensures c.if-line-lines.false
      _ c.index.ensures c.if-index.true,
  refl,
)

pub returns-clause-answer : goal.returns-clause-answer
returns-clause-answer c =
    one_added c.args.d.now c.args.labels.now c.args.self.now c.args.spot _ _ c.requires.labels c.requires.chosen
    c.line_at-line.ensures.value c.lines.ensures c.line_at-line.ensures.within _ c.lines-2.ensures c.if-line-lines.false
    _ c.index.ensures c.if-index.false _ c.in_ok-push.ensures.items

pub returns-clause-chosen : goal.returns-clause-chosen
returns-clause-chosen c =
    more_chosen c.args.d.now c.args.labels.now c.args.self.now c.args.spot _ _ c.requires.labels c.requires.chosen
    c.line_at-line.ensures.value c.lines.ensures c.line_at-line.ensures.within _ c.lines-2.ensures c.if-line-lines.false
    _ c.index.ensures c.if-index.false _ c.in_ok-push.ensures.items refl
