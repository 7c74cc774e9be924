use Rattle.design_review.proofs.WindowLemmas.{window_size}
use Rattle.design_review.proofs.key_windows.Window.size.Goals as goal

pub returns-clause-value : goal.returns-clause-value
returns-clause-value c = window_size c.args.self _ c.saturating_sub.ensures
