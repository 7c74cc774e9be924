use Rattle.std.proofs.Common.{Err}
use Rattle.step_splitter.proofs.RefitLemmas.{refused}
use Rattle.step_splitter.proofs.refit_state.RefitState.put_next.Goals as goal

pub returns-in-Err-clause-passes : goal.returns-in-Err-clause-passes
returns-in-Err-clause-passes c =
    refused {T = Unit {0}} c.args.mode c.args.limit c.in-Some.act c.args.next c.args.out.now c.put_refitted.new.out
    c.args.self.now.loose c.args.self.now.place (Err c.in-Err.fault) c.in-Some.is c.requires.room c.in-Err.ensures
