use Rattle.std.proofs.Common.{◌≡◌, ◌++◌, drop, map}
use Rattle.picture_parts.specs.Parts.{filled, part_text}
use Rattle.picture_parts.proofs.parts.put.Given as goal

-- the text so far and the rest of the template with the parts that are left are all of it
abbrev pub invariant-loop-part : goal.invariant-loop-part
invariant-loop-part l = l.text ++ filled l.rest (map part_text (drop l.part-index l.parts))
    ≡ l.fn.text ++ filled l.fn.template (map part_text l.fn.parts)
