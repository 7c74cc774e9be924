use Rattle.stitch_cli.proofs.HeadlineLemmas.{headline_holds}
use Rattle.stitch_cli.proofs.headline.outcomes_mean_headline.Goals as goal

pub returns : goal.returns
returns c = headline_holds (record {
  valid = c.texts_define_valid_drawings.ensures.own;
  accepted = c.correct_routes_are_accepted.ensures;
  redwork = c.yes_is_least_redwork.ensures;
  printed = c.read_pieces_can_be_printed.ensures;
  pieces = c.pieces_are_valid.ensures;
  limits = c.pieces_keep_limits.ensures;
  total = c.packings_keep_their_total.ensures;
})
