use Rattle.std.proofs.Common.{◌≡◌, List, ap, ◌∙◌}
use Rattle.std.proofs.Math.Path.{fun_ext}
use Rattle.std.specs.HashMap.{get}
use Rattle.line_meetings.specs.declared.meeting.Meeting.{Meeting}
use Rattle.line_sections.specs.Spots.{is_same_spot}
use Rattle.meeting_rounds.specs.Acts.{PlacedLists, acts_next, no_acts}
use Rattle.meeting_rounds.specs.MovedPoints.{tracked_at}
use Rattle.meeting_rounds.specs.PlacedPoints.{points_at_spot}
use Rattle.meeting_rounds.proofs.rounds.acts_on_meetings.Goals as goal

pub returns : goal.returns
returns c =
    let placed : ◌≡◌ {A = PlacedLists} (points_at_spot (get is_same_spot c.in_ok-placed.placed)) (tracked_at c.args.lines.now) =
    fun_ext c.in_ok-placed.ensures in
    c.in_ok-acts.ensures
    ∙ (ap (λ (p : PlacedLists). acts_next c.args.lists_crossings c.args.gap p c.args.lines.now no_acts c.args.found.now) placed
    ∙ ap (λ (ms : List Meeting). acts_next c.args.lists_crossings c.args.gap (tracked_at c.args.lines.now) c.args.lines.now no_acts ms)
    c.requires.found)
