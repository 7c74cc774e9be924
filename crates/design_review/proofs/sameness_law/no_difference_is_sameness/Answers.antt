use Rattle.design_review.proofs.SamenessLemmas.{sameness}
use Rattle.design_review.proofs.sameness_law.no_difference_is_sameness.Goals as goal

pub returns : goal.returns
returns c = sameness
