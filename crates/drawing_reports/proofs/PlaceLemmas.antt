-- Meetings that a report names, and lines that are put together from parts.
use Rattle.std.proofs.Common.{◌≡◌, ℕ, ◌≤◌, ◌++◌, List, length, take, ap, sym, ◌∙◌, append_assoc}
use Rattle.std.proofs.lemmas.List.{take_all}
use Rattle.line_meetings.specs.declared.meeting.Meeting.{Meeting}
use Rattle.line_meetings.specs.declared.meeting.TheConstants.{MAX_MEETINGS}
use Rattle.drawing_reports.specs.PlaceTexts.{named_meetings}

pub all_named : (meetings : List Meeting) → length meetings ≤ MAX_MEETINGS → meetings ≡ named_meetings meetings
unfolding named_meetings
all_named meetings few = sym (take_all MAX_MEETINGS meetings few)

pub first_named : (front meetings : List Meeting) → front ≡ take MAX_MEETINGS meetings → front ≡ named_meetings meetings
unfolding named_meetings
first_named front meetings is = is

-- three parts of a line are put one after another
pub three_put : (before first second third a b c : List ℕ) → first ≡ before ++ a → second ≡ first ++ b → third ≡ second ++ c
    → third ≡ before ++ (a ++ (b ++ c))
three_put before first second third a b c one two three =
    three ∙ ap (λ (text : List ℕ). text ++ c) (two ∙ ap (λ (text : List ℕ). text ++ b) one ∙ append_assoc before a b)
    ∙ append_assoc before (a ++ b) c ∙ ap (λ (text : List ℕ). before ++ text) (append_assoc a b c)
