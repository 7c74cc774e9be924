use Rattle.std.proofs.Common.{[], Some}
use Rattle.design_model.proofs.ActLemmas.{act_in_range}
use Rattle.design_model.proofs.act_scanner.ActScanner.next.Goals as goal

pub returns-in-Some-clause-in_range : goal.returns-in-Some-clause-in_range
returns-in-Some-clause-in_range c = act_in_range c.args.command (Some c.in-Some.act) c.args.self.now.thread.loose
    c.args.self.now.thread.jumped c.step.new.self.loose c.step.new.self.jumped c.requires.in_range
    (c.in-Some.ensures 0 [])
