use Rattle.step_splitter.proofs.ChainLemmas.{leads}
use Rattle.step_splitter.proofs.segment.split_into.Goals as goal

pub returns-clause-leads : goal.returns-clause-leads
returns-clause-leads c =
    leads c.args.p c.args.q c.args.step c.requires.differ c.requires.from c.requires.to c.requires.low
