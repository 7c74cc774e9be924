use Rattle.std.proofs.Common.{◌≡◌, ◌++◌, drop}
use Rattle.certificate_text.proofs.Names.{flat_map, member_text}
use Rattle.certificate_text.proofs.printing.put_members.Given as goal

-- the text so far, and that of the members that are left
abbrev pub invariant-loop-member : goal.invariant-loop-member
invariant-loop-member l = l.text ++ flat_map member_text (drop l.member-index l.members) ≡ l.fn.text ++ flat_map member_text l.members
