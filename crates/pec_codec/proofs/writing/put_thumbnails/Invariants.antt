use Rattle.std.proofs.Common.{◌≡◌, ◌*◌, ◌++◌, replicate}
use Rattle.pec_codec.proofs.Names.{THUMBNAIL_LENGTH}
use Rattle.pec_codec.proofs.writing.put_thumbnails.Given as goal

-- the thumbnails so far
abbrev pub invariant-loop : goal.invariant-loop
invariant-loop l = l.out ≡ l.fn.out ++ replicate (THUMBNAIL_LENGTH * l.counter) 0
