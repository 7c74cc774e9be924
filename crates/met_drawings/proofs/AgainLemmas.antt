-- Drawings whose lines meet: what is written, and what a second run does.
use Rattle.std.proofs.Common.{◌≡◌, ◌-◌, ℕ, Bool, true, false, not, ◌&&◌, ◌||◌, List, [], ◌∷◌, length, map, filter, Option, Some, None, Result, Ok, Err, refl, ap, ◌∙◌, sym, subst, arith}
use Rattle.std.proofs.Math.Path.{ap₂}
use Rattle.std.proofs.lemmas.Bool.Decides.{nat_tests}
use Rattle.std.proofs.lemmas.List.Folds.{list_all-append}
use Rattle.std.proofs.lemmas.List.Sums.{length-filter}
use Rattle.std.specs.List.{count_by, list_all}
use Rattle.std.specs.Prelude.{if◌then◌else◌}
use Rattle.design_model.proofs.ListLemmas.{eq_self, false_true, first_true, second_true}
use Rattle.design_model.specs.declared.point.Point.{Point}
use Rattle.drawing_edits.proofs.CallerLemmas.{joined_with}
use Rattle.drawing_edits.specs.RedrawnDrawings.{drawn_lines, with_starts_and_ends}
use Rattle.drawing_edits.specs.ValidRedraws.{LinesInOrderAreDrawn}
use Rattle.drawing_review.specs.declared.grid_point.GridPoint.{GridPoint}
use Rattle.drawing_review.specs.Frames.{grid_point}
use Rattle.drawing_review.specs.Meetings.{is_same_grid_point}
use Rattle.line_graph.specs.declared.draw_kind.DrawKind.{DrawKind}
use Rattle.line_graph.specs.Drawings.{DrawingValue, KeepsDrawingLimits}
use Rattle.line_graph.specs.GrowingDrawings.{and_then}
use Rattle.line_graph.specs.JoinedDrawings.{joined_drawing}
use Rattle.line_graph.specs.WalkEnds.{HasNoEnds}
use Rattle.line_meetings.specs.declared.meeting.Meeting.{Meeting}
use Rattle.line_meetings.specs.declared.meeting.MeetingKind.{MeetingKind}
use Rattle.line_meetings.specs.declared.meeting.MeetingKind.TheVariants as meeting
use Rattle.line_meetings.specs.Meetings.{meetings_of_lines}
use Rattle.line_sections.specs.declared.spot.Spot.{Spot}
use Rattle.line_sections.specs.Lines.{LineValue}
use Rattle.meeting_rounds.specs.declared.rounds.WorkedLines.{WorkedLines}
use Rattle.meeting_rounds.specs.declared.tracked_lines.TrackedPoint.{TrackedPoint}
use Rattle.meeting_rounds.specs.RoundLaws.{LinesAtRestStay, NearLinesHaveNearPoints, RoundsKeepLinesNear, UnworkedLinesAreDrawn, is_passed_over}
use Rattle.meeting_rounds.specs.TrackedLines.{lines_as_worked, tracked_from, tracked_lines, tracked_points}
use Rattle.met_drawings.proofs.OnceLemmas.{none_vanished, uncopied_long, uncopied_ones, uncopied_stay}
use Rattle.met_drawings.proofs.PartLemmas.{Rise, near_ones, near_rise, rise_all, rise_below, rise_ordered, uncopied_near, uncopied_rise}
use Rattle.met_drawings.specs.declared.listed_meetings.MeetingRule.{MeetingRule}
use Rattle.met_drawings.specs.declared.meet_fault.MeetFault.{MeetFault}
use Rattle.met_drawings.specs.declared.meet_fault.VanishedLine.{VanishedLine}
use Rattle.met_drawings.specs.declared.meeting.MetDrawing.{MetDrawing}
use Rattle.met_drawings.specs.declared.meeting_counts.MeetingCounts.{MeetingCounts}
use Rattle.met_drawings.specs.Copies.{part_counts_of, uncopied_lines}
use Rattle.met_drawings.specs.ListedMeetings.{settled_by, unless_kept, vanished_after}
use Rattle.met_drawings.specs.MeetLaws.{LeftAreFound, NothingLeftIsSilence, SecondRunsChangeNothing, WrittenLinesStayNear, is_near_one, no_counts}
use Rattle.met_drawings.specs.MeetingCounts.{has_moved, is_crossing, is_left, is_put, is_repeat, left_count, meeting_counts_of, points_worked}
use Rattle.met_drawings.specs.MetDrawings.{lines_met, met_after, met_of, met_value, unless_beyond, unless_one_vanished}

ok_same : {A F : Type 0} (a b : A) → ◌≡◌ {A = Result A F} (Ok a) (Ok b) → a ≡ b
ok_same a b is = cc

not_ok : {A F : Type 0} (a : A) (why : F) → ◌≡◌ {A = Result A F} (Err why) (Ok a) → ⊥
not_ok a why is = cc

-- two steps that end well
both_end : {A B F : Type 0} (r : Result A F) (next : A → Result B F) (b : B) → and_then r next ≡ Ok b
    → (a : A) × (r ≡ Ok a) × (next a ≡ Ok b)
both_end (Ok a) next b is = (a, refl, is)
both_end (Err why) next b is = absurd (not_ok b why is)

ends_within : {A : Type 0} (r : Result A DrawKind) (a : A) → unless_beyond r ≡ Ok a → r ≡ Ok a
ends_within (Ok x) a is = ap Ok (ok_same x a is)
ends_within (Err why) a is = absurd (not_ok a _ is)

-- lines that list their meetings, none of which has vanished
lines_end : (keeps : Bool) (listing lines : List LineValue) → lines_met keeps listing ≡ Ok lines
    → (vanished_after 0 listing ≡ None) × (unless_kept keeps listing ≡ lines)
lines_end keeps listing lines is = by_line (vanished_after 0 listing) refl is
  where
    by_line : (o : Option VanishedLine) → vanished_after 0 listing ≡ o
        → and_then (unless_one_vanished o listing) (λ ls. Ok (unless_kept keeps ls)) ≡ Ok lines
        → (vanished_after 0 listing ≡ None) × (unless_kept keeps listing ≡ lines)
    by_line None none made = (none, ok_same (unless_kept keeps listing) lines made)
    by_line (Some line) there made = absurd (not_ok lines _ made)

-- lines after rounds, as they are
abbrev listing_of : MeetingRule → DrawingValue → (starts ends : List Spot) → List LineValue
listing_of rule d starts ends = lines_as_worked (settled_by rule d.lines starts ends).lines

-- how a drawing whose lines meet was made
record IsMade (rule : MeetingRule) (d : DrawingValue) (starts ends : List Spot) (met : MetDrawing) (lines : List LineValue) : Type 0 where
  there : vanished_after 0 (listing_of rule d starts ends) ≡ None
  kept : unless_kept rule.keeps_copies (listing_of rule d starts ends) ≡ lines
  drawn : drawn_lines (record d { lines = lines }) ≡ Ok met.drawn
  joined : and_then (joined_drawing met.drawn) (λ joined. with_starts_and_ends joined (settled_by rule d.lines starts ends).starts
      (settled_by rule d.lines starts ends).ends) ≡ Ok met.joined
  counts : met.counts ≡ meeting_counts_of rule d.lines (settled_by rule d.lines starts ends).lines (listing_of rule d starts ends) lines

made : (rule : MeetingRule) (d : DrawingValue) (starts ends : List Spot) (met : MetDrawing) → met_of rule d starts ends ≡ Ok met
    → (lines : List LineValue) × IsMade rule d starts ends met lines
made rule d starts ends met is =
    let worked : WorkedLines = settled_by rule d.lines starts ends in
    let first = both_end (lines_met rule.keeps_copies (lines_as_worked worked.lines)) _ met is in
    let second = both_end (unless_beyond (drawn_lines (record d { lines = first.0 }))) _ met first.2 in
    let third = both_end (unless_beyond (and_then (joined_drawing second.0) (λ joined.
    with_starts_and_ends joined worked.starts worked.ends))) _ met second.2 in
    let value : MetDrawing = met_value rule d.lines worked first.0 second.0 third.0 in
    let ended = lines_end rule.keeps_copies (lines_as_worked worked.lines) first.0 first.1 in (
      first.0,
      subst (λ (m : MetDrawing). IsMade rule d starts ends m first.0) (ok_same value met third.2) (record {
        there = ended.0;
        kept = ended.1;
        drawn = ends_within (drawn_lines (record d { lines = first.0 })) second.0 second.1;
        joined = ends_within (and_then (joined_drawing second.0)
            (λ joined. with_starts_and_ends joined worked.starts worked.ends)) third.0 third.1;
        counts = refl;
      }),
    )

-- what is kept of lines, and again
kept_rise : (keeps : Bool) (bound : ℕ) (lines : List LineValue) → Rise bound 0 lines → Rise bound 0 (unless_kept keeps lines)
kept_rise true bound lines rise = rise
kept_rise false bound lines rise = uncopied_rise bound 0 [] lines rise

kept_near : (keeps : Bool) (gap : ℕ) (drawn lines : List LineValue) → list_all (is_near_one gap drawn) lines ≡ true
    → list_all (is_near_one gap drawn) (unless_kept keeps lines) ≡ true
kept_near true gap drawn lines near = near
kept_near false gap drawn lines near = uncopied_near gap drawn [] lines near

kept_there : (keeps : Bool) (lines : List LineValue) → vanished_after 0 lines ≡ None → vanished_after 0 (unless_kept keeps lines) ≡ None
kept_there true lines there = there
kept_there false lines there = none_vanished 0 (uncopied_lines lines) (uncopied_long [] lines)

kept_again : (keeps : Bool) (lines : List LineValue) → unless_kept keeps (unless_kept keeps lines) ≡ unless_kept keeps lines
kept_again true lines = refl
kept_again false lines = uncopied_stay lines

kept_ones : (keeps : Bool) (lines : List LineValue)
    → part_counts_of keeps (unless_kept keeps lines) ≡ map (λ line. 1) (unless_kept keeps lines)
kept_ones true lines = refl
kept_ones false lines = uncopied_ones lines

-- The lines that are kept are drawn as they are.
drawn_is : (rule : MeetingRule) (d : DrawingValue) (starts ends : List Spot) (met : MetDrawing) (lines : List LineValue)
    → LinesInOrderAreDrawn → RoundsKeepLinesNear → KeepsDrawingLimits d → IsMade rule d starts ends met lines
    → met.drawn ≡ record d { lines = lines; starts = []; ends = [] }
drawn_is rule d starts ends met lines in_order stays limits is =
    let bound : ℕ = length d.threads in
    let rise : Rise bound 0 lines =
    subst (Rise bound 0) is.kept (kept_rise rule.keeps_copies bound (listing_of rule d starts ends)
    (near_rise bound 0 rule.gap d.lines (listing_of rule d starts ends)
    (stays rule.lists_crossings rule.gap d.lines starts ends) (rise_all bound d.lines limits.ordered limits.there))) in
    in_order (record d { lines = lines }) met.drawn (rise_ordered bound 0 lines rise) (rise_below bound 0 lines rise) is.drawn

-- What the report says is left is what is found.
pub left_found : LinesInOrderAreDrawn → RoundsKeepLinesNear → LeftAreFound
left_found in_order stays = λ rule d starts ends met limits is.
    let how = made rule d starts ends met is in
    ap (λ (counts : MeetingCounts). counts.left) how.1.counts
    ∙ sym (ap (λ (e : DrawingValue). left_count rule e.lines) (drawn_is rule d starts ends met how.0 in_order stays limits how.1))

-- what isn't counted
none_counted : (f : Meeting → Bool) (ms : List Meeting) → count_by f ms ≡ 0 → list_all (λ m. not (f m)) ms ≡ true
none_counted f ms none = left ms (length-filter f ms ∙ none)
  where
    left : (ms : List Meeting) → length (filter f ms) ≡ 0 → list_all (λ m. not (f m)) ms ≡ true
    left [] is = refl
    left (m ∷ ms) is = by_test (f m) refl (λ less. left ms less) is
      where
        by_test : (b : Bool) → f m ≡ b → (length (filter f ms) ≡ 0 → list_all (λ m. not (f m)) ms ≡ true)
            → length (if b then m ∷ filter f ms else filter f ms) ≡ 0 → list_all (λ m. not (f m)) (m ∷ ms) ≡ true
        by_test true holds later none = absurd (omega (arith, none))
        by_test false fails later none = ap₂ (λ (a b : Bool). not a && b) fails (later none)

count_none : (f : TrackedPoint → Bool) (xs : List TrackedPoint) → list_all (λ x. not (f x)) xs ≡ true → count_by f xs ≡ 0
count_none f xs none = sym (length-filter f xs) ∙ ap length (empty xs none)
  where
    empty : (xs : List TrackedPoint) → list_all (λ x. not (f x)) xs ≡ true → filter f xs ≡ []
    empty [] all = refl
    empty (x ∷ xs) all = by_test (f x) refl (empty xs (second_true _ _ all))
      where
        by_test : (b : Bool) → f x ≡ b → filter f xs ≡ [] → (if b then x ∷ filter f xs else filter f xs) ≡ []
        by_test true holds later = absurd (false_true (ap not (sym holds) ∙ first_true _ _ all))
        by_test false fails later = later

-- Where nothing is left, nothing is found that counts.
pub silence : LinesInOrderAreDrawn → RoundsKeepLinesNear → NothingLeftIsSilence
silence in_order stays = λ rule d starts ends met limits is none.
    none_counted (is_left rule) (meetings_of_lines rule.gap met.drawn.lines)
    (sym (left_found in_order stays rule d starts ends met limits is) ∙ none)

-- what isn't left is passed over
passed_over : (rule : MeetingRule) (ms : List Meeting) → list_all (λ m. not (is_left rule m)) ms ≡ true
    → list_all (λ m. is_passed_over rule.lists_crossings m.kind) ms ≡ true
passed_over rule [] all = refl
passed_over rule (m ∷ ms) all =
    ap₂ (λ (a b : Bool). a && b) (by_kind rule.lists_crossings rule.keeps_copies m.kind (first_true _ _ all))
    (passed_over rule ms (second_true _ _ all))
  where
    by_kind : (lists keeps : Bool) (kind : MeetingKind)
        → not ((lists || not (is_crossing kind)) && not (keeps && is_repeat kind)) ≡ true → is_passed_over lists kind ≡ true
    by_kind lists keeps meeting.ClosePoints is = grind (arith, nat_tests)
    by_kind lists keeps meeting.BesideSegment is = grind (arith, nat_tests)
    by_kind lists keeps meeting.OnSegment is = grind (arith, nat_tests)
    by_kind lists keeps meeting.Crossing is = grind (arith, nat_tests)
    by_kind lists keeps meeting.Overlap is = refl
    by_kind lists keeps meeting.Repeat is = refl

-- points as they are drawn stand for themselves, and none was put
same_itself : (g : GridPoint) → is_same_grid_point g g ≡ true
same_itself g = ap₂ (λ (a b : Bool). a && b) (eq_self g.x) (eq_self g.y)

none_moved_from : (p : Point) (rest : List Point) → list_all (λ t. not (has_moved t t.drawn)) (tracked_from p rest) ≡ true
none_moved_from p [] = ap (λ (b : Bool). not (not (b && b)) && true) (same_itself (grid_point p))
none_moved_from p (q ∷ rest) =
    ap₂ (λ (a b : Bool). not (not (a && a)) && b) (same_itself (grid_point p)) (none_moved_from q rest)

none_put_from : (p : Point) (rest : List Point) → list_all (λ t. not (is_put t t.drawn)) (tracked_from p rest) ≡ true
none_put_from p [] = refl
none_put_from p (q ∷ rest) = none_put_from q rest

none_moved : (points : List Point) → list_all (λ t. not (has_moved t t.drawn)) (tracked_points points) ≡ true
none_moved [] = refl
none_moved (p ∷ rest) = none_moved_from p rest

none_put : (points : List Point) → list_all (λ t. not (is_put t t.drawn)) (tracked_points points) ≡ true
none_put [] = refl
none_put (p ∷ rest) = none_put_from p rest

on_all_lines : (f : TrackedPoint → Bool) → ((points : List Point) → list_all f (tracked_points points) ≡ true) → (lines : List LineValue)
    → list_all f (points_worked (tracked_lines lines)) ≡ true
on_all_lines f each [] = refl
on_all_lines f each (line ∷ rest) =
    list_all-append f (tracked_points line.points) (points_worked (tracked_lines rest))
    ∙ ap₂ (λ (a b : Bool). a && b) (each line.points) (on_all_lines f each rest)

-- Nothing was done to lines as they are drawn.
counts_none : (rule : MeetingRule) (lines : List LineValue) → left_count rule lines ≡ 0
    → meeting_counts_of rule lines (tracked_lines lines) lines lines ≡ no_counts rule lines
counts_none rule lines none = no_more (no_counts rule lines).crossings
    (count_none (λ t. has_moved t t.drawn) (points_worked (tracked_lines lines)) (on_all_lines _ none_moved lines))
    (count_none (λ t. is_put t t.drawn) (points_worked (tracked_lines lines)) (on_all_lines _ none_put lines))
    (nothing _) none
  where
    nothing : (n : ℕ) → n - n ≡ 0
    nothing n = omega arith

    no_more : (crossings : ℕ) {moved listed dropped left : ℕ} → moved ≡ 0 → listed ≡ 0 → dropped ≡ 0 → left ≡ 0
        → ◌≡◌ {A = MeetingCounts} (record { crossings = crossings; moved = moved; listed = listed; dropped = dropped; left = left })
        (record { crossings = crossings; moved = 0; listed = 0; dropped = 0; left = 0 })
    no_more crossings m l d e = cc

-- A drawing in which nothing is left meets as it is.
meets_again : (rule : MeetingRule) (d joined : DrawingValue) (starts ends : List Spot) → UnworkedLinesAreDrawn → LinesAtRestStay
    → left_count rule d.lines ≡ 0 → vanished_after 0 d.lines ≡ None → unless_kept rule.keeps_copies d.lines ≡ d.lines
    → part_counts_of rule.keeps_copies d.lines ≡ map (λ line. 1) d.lines → drawn_lines d ≡ Ok d
    → and_then (joined_drawing d) (λ whole. with_starts_and_ends whole starts ends) ≡ Ok joined
    → met_of rule d starts ends
    ≡ Ok (record { drawn = d; joined = joined; parts = map (λ line. 1) d.lines; counts = no_counts rule d.lines })
meets_again rule d joined starts ends drawn rest none there kept ones again whole =
    ap (met_after rule d) (rest rule.lists_crossings rule.gap d.lines starts ends
    (passed_over rule (meetings_of_lines rule.gap d.lines) (none_counted (is_left rule) (meetings_of_lines rule.gap d.lines) none)))
    ∙ (ap after (drawn d.lines)
    ∙ (ap (λ (o : Option VanishedLine). and_then (and_then (unless_one_vanished o d.lines) (λ ls.
    Ok (unless_kept rule.keeps_copies ls))) (after_lines d.lines)) there
    ∙ (ap (after_lines d.lines) kept
    ∙ (ap (λ (r : Result DrawingValue DrawKind). and_then (unless_beyond r) (after_drawn d.lines d.lines)) again
    ∙ (ap (λ (r : Result DrawingValue DrawKind). and_then (unless_beyond r) (after_joined d.lines d.lines d)) whole
    ∙ ap₂ (λ (parts : List ℕ) (counts : MeetingCounts).
    Ok (record { drawn = d; joined = joined; parts = parts; counts = counts })) ones (counts_none rule d.lines none))))))
  where
    after_joined : (listing met : List LineValue) → (drawn joined : DrawingValue) → Result MetDrawing MeetFault
    after_joined listing met drawn joined = Ok (record {
      drawn = drawn;
      joined = joined;
      parts = part_counts_of rule.keeps_copies listing;
      counts = meeting_counts_of rule d.lines (tracked_lines d.lines) listing met;
    })

    after_drawn : (listing met : List LineValue) → DrawingValue → Result MetDrawing MeetFault
    after_drawn listing met drawn =
        and_then (unless_beyond (and_then (joined_drawing drawn) (λ whole. with_starts_and_ends whole starts ends)))
        (after_joined listing met drawn)

    after_lines : (listing met : List LineValue) → Result MetDrawing MeetFault
    after_lines listing met = and_then (unless_beyond (drawn_lines (record d { lines = met }))) (after_drawn listing met)

    after : List LineValue → Result MetDrawing MeetFault
    after listing = and_then (lines_met rule.keeps_copies listing) (after_lines listing)

-- Where nothing is left, a second run changes nothing.
pub second_same : LinesInOrderAreDrawn → RoundsKeepLinesNear → UnworkedLinesAreDrawn → LinesAtRestStay → SecondRunsChangeNothing
second_same in_order stays drawn rest = λ rule d starts ends met limits is none.
    let how = made rule d starts ends met is in
    let lines : List LineValue = how.0 in
    let same : met.drawn ≡ record d { lines = lines; starts = []; ends = [] } =
    drawn_is rule d starts ends met lines in_order stays limits how.1 in
    let lines_same : met.drawn.lines ≡ lines = ap (λ (e : DrawingValue). e.lines) same in
    let no_ends : HasNoEnds met.drawn =
    record { starts = ap (λ (e : DrawingValue). e.starts) same; ends = ap (λ (e : DrawingValue). e.ends) same } in
    let with_ends = joined_with met.drawn met.joined (settled_by rule d.lines starts ends).starts
    (settled_by rule d.lines starts ends).ends no_ends how.1.joined in
    meets_again rule met.drawn met.joined met.joined.starts met.joined.ends drawn rest
    (sym (left_found in_order stays rule d starts ends met limits is) ∙ none)
    (ap (vanished_after 0) (lines_same ∙ sym how.1.kept) ∙ kept_there rule.keeps_copies (listing_of rule d starts ends) how.1.there)
    (subst (λ (ls : List LineValue). unless_kept rule.keeps_copies ls ≡ ls) (how.1.kept ∙ sym lines_same)
    (kept_again rule.keeps_copies (listing_of rule d starts ends)))
    (subst (λ (ls : List LineValue). part_counts_of rule.keeps_copies ls ≡ map (λ line. 1) ls) (how.1.kept ∙ sym lines_same)
    (kept_ones rule.keeps_copies (listing_of rule d starts ends)))
    (ap drawn_lines same ∙ how.1.drawn)
    (ap₂ (λ (ss es : List Spot). and_then (joined_drawing met.drawn) (λ whole. with_starts_and_ends whole ss es))
    with_ends.starts_are with_ends.ends_are ∙ how.1.joined)

-- The lines that are written are near those as drawn.
pub written_near : LinesInOrderAreDrawn → RoundsKeepLinesNear → NearLinesHaveNearPoints → WrittenLinesStayNear
written_near in_order stays points = λ rule d starts ends met limits is.
    let how = made rule d starts ends met is in
    let lines_same : how.0 ≡ met.drawn.lines =
    sym (ap (λ (e : DrawingValue). e.lines) (drawn_is rule d starts ends met how.0 in_order stays limits how.1)) in
    subst (λ (ls : List LineValue). list_all (is_near_one rule.gap d.lines) ls ≡ true) (how.1.kept ∙ lines_same)
    (kept_near rule.keeps_copies rule.gap d.lines (listing_of rule d starts ends)
    (near_ones rule.gap d.lines (listing_of rule d starts ends) points (stays rule.lists_crossings rule.gap d.lines starts ends)))
