use Rattle.near_pieces.proofs.StopLemmas.{three_parts}
use Rattle.near_pieces.proofs.least_travel.least_travel.Goals as goal

pub returns : goal.returns
returns c = three_parts c.args.visits.now c.args.at.from c.along-after_one.result.from c.along-after_other.result.from c.args.at.travel
    c.along-after_one.result.travel c.along-after_other.result.travel c.along.result.travel _ _ _ c.along-after_one.ensures.from
    c.along-after_one.ensures.least c.along-after_other.ensures.from c.along-after_other.ensures.least c.along.ensures.least
