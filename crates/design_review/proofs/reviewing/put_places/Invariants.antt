use Rattle.std.proofs.Common.{◌≡◌, ◌≤◌, ◌==◌, ◌++◌, List, [], IsTrue, drop, length}
use Rattle.std.specs.HashSet.{contains}
use Rattle.std.specs.List.{list_all}
use Rattle.design_model.specs.declared.point.Point.{Point}
use Rattle.design_model.specs.Acts.{acts_along}
use Rattle.design_model.specs.ActScanners.{acts_after}
use Rattle.design_model.specs.Commands.{is_command_in_range}
use Rattle.design_review.specs.Crowds.{AreKeysOf}
use Rattle.design_review.specs.KnownReviews.{known_review}
use Rattle.design_review.specs.Places.{places_from}
use Rattle.design_review.specs.SewnActs.{HasSewn, nothing_sewn}
use Rattle.design_review.proofs.ReviewLemmas.{HasNeedles}
use Rattle.design_review.proofs.reviewing.put_places.Given as goal

-- the places so far, and those of the acts that are left
abbrev pub invariant-loop-command : goal.invariant-loop-command
invariant-loop-command l = record {
  number : l.scanner.number ≡ l.command-index;
  counted : HasSewn l.command-index l.sewn;
  in_range : IsTrue (list_all is_command_in_range (drop l.command-index l.commands));
  needles : HasNeedles l.known.needles.now l.sewn (acts_after l.scanner (drop l.command-index l.commands));
  within : l.sewn.needles ≤ length l.known.threads.now;
  reported : List Point;
  noted : AreKeysOf reported (contains (λ a b. a == b) l.reported);
  places : l.places ++ places_from (known_review l.known) reported l.sewn (acts_after l.scanner (drop l.command-index l.commands))
      ≡ l.fn.places ++ places_from (known_review l.known) [] nothing_sewn (acts_along l.commands);
}
