use Rattle.std.proofs.Common.{string_bytes}
use Rattle.picture_commands.proofs.ParsedLemmas.{many_follow}
use Rattle.picture_commands.proofs.words.request_of_many.Goals as goal

pub returns-in-len1-up-clause-err : goal.returns-in-len1-up-clause-err
returns-in-len1-up-clause-err c = many_follow string_bytes c.args.input.now c.args.output.now c.args.width.now c.args.height.now
    c.args.fifth.now c.args.after.now c.in-len1-up.len_at_least
