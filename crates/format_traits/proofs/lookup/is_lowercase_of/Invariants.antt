use Rattle.std.proofs.Common.{◌≡◌, length, bytes_eq}
use Rattle.format_traits.proofs.Names.{str_to_ascii_lowercase}
use Rattle.format_traits.proofs.lookup.is_lowercase_of.Given as goal

-- what is left decides
abbrev pub invariant-loop-left : goal.invariant-loop-left
invariant-loop-left l = bytes_eq l.right (str_to_ascii_lowercase l.left)
    ≡ bytes_eq l.ending (str_to_ascii_lowercase l.text)

abbrev pub decreases-loop-left : goal.decreases-loop-left
decreases-loop-left l = length l.left
