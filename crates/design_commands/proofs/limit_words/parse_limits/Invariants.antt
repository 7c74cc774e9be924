use Rattle.std.proofs.Common.{◌≡◌, length, map, string_bytes}
use Rattle.design_commands.specs.LimitWords.{parsed_limits, usual_limits}
use Rattle.design_commands.proofs.limit_words.parse_limits.Given as goal

-- from the limits so far, the arguments that are left give the limits of all
abbrev pub invariant-loop-word : goal.invariant-loop-word
invariant-loop-word l = parsed_limits l.limits (map string_bytes l.rest) ≡ parsed_limits usual_limits (map string_bytes l.words)

abbrev pub decreases-loop-word : goal.decreases-loop-word
decreases-loop-word l = length l.rest
