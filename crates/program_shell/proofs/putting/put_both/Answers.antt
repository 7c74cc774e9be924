use Rattle.program_shell.proofs.PutLemmas.{gather_broke, gather_put}
use Rattle.program_shell.proofs.putting.put_both.Goals as goal

pub returns-in_err-put_one : goal.returns-in_err-put_one
returns-in_err-put_one g c = gather_broke _ _ _ _ _ _ _ _ c.from_residual.ensures.1 c.as_slice.ensures.value c.in_err-put_one.ensures.err

pub returns : goal.returns
returns g c = gather_put _ _ _ _ _ _ _ _ c.as_slice.ensures.value c.clear.ensures c.in_ok-put_one.ensures.ok c.put_one-2.ensures
