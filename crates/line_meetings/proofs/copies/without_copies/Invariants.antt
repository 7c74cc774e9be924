use Rattle.std.proofs.Common.{◌≡◌, ◌++◌, [], drop}
use Rattle.std.specs.HashMap.{get}
use Rattle.line_meetings.specs.Meetings.{repeats_after}
use Rattle.line_meetings.specs.Parts.{firsts_after, firsts_of, is_same_key}
use Rattle.line_meetings.specs.Sorting.{HasFirsts}
use Rattle.line_meetings.proofs.copies.without_copies.Given as goal

-- what is kept and told so far, with the parts that are left, gives all
abbrev pub invariant-loop-part : goal.invariant-loop-part
invariant-loop-part l = record {
  firsts : HasFirsts l.kept.items (get is_same_key l.firsts);
  kept : firsts_after l.kept.items (drop l.part-index l.parts) ≡ firsts_of l.parts;
  told : l.again ++ repeats_after l.kept.items (drop l.part-index l.parts) ≡ repeats_after [] l.parts;
}
