use Rattle.std.proofs.Common.{◌≡◌, ◌++◌, drop}
use Rattle.certificate_text.proofs.Names.{flat_map, pass_text}
use Rattle.certificate_text.proofs.printing.put_passes.Given as goal

-- the text so far, and that of the walk that are left
abbrev pub invariant-loop-pass : goal.invariant-loop-pass
invariant-loop-pass l = l.text ++ flat_map pass_text (drop l.pass-index l.walk) ≡ l.fn.text ++ flat_map pass_text l.walk
