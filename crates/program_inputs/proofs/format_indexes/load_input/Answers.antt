use Rattle.program_shell.proofs.CallerLemmas.{unread_takes}
use Rattle.program_inputs.proofs.format_indexes.load_input.Goals as goal

pub returns-in-Err-Get-clause-loads : goal.returns-in-Err-Get-clause-loads
returns-in-Err-Get-clause-loads g c =
    unread_takes _ _ _ _ _ _ (c.read_failure.ensures _ _ (rw c.in-Err-Get.field-0-is at c.in-Err-Get.ensures.loads)
    c.in-Err-Get.ensures.files)
