-- Needle points that come along a line, segment by segment.
use Rattle.std.proofs.Common.{◌≡◌, ◌≢◌, ℕ, ◌+◌, ◌<◌, ◌≤◌, List, [], ◌∷◌, ◌++◌, Option, Some, length, get_or, take, All, ap, sym, subst, ◌∙◌, refl, arith}
use Rattle.line_graph.proofs.DrawingNames.{nat_tests, All-append, All-cons, All-head, All-nil, All-tail, Point, IsNeedlePoint, AreCloseAfter, HasNoRepeatAfter, last_point_or, split_points, slice_get-get_or, LineValue, DrawingValue, HasNoRepeat, IsLine, KeepsDrawingLimits, last_point, optional_line_points, points_of, LeadAlong, cost_of_line, needles_of_line, step_count, steps_of_line, needle_points, segment_points, append_assoc, append-nil, get_or-le-sum_by, sum_by-take-le, sum_by_more, LeadsBySteps, SplitPointsLead, first_point, AreClose, AreNeedlesOf}
use Rattle.line_graph.proofs.DrawingLemmas.{close_on, cost_is, line_there, no_line, points_are}

-- the points lead from the first one to that point, by steps within the longest step
pub record ComesTo (step : ℕ) (first : Option Point) (before : Point) (points : List Point) : Type 0 where
  pub first_is : first_point points ≡ first
  pub last : last_point points ≡ Some before
  pub in_range : All IsNeedlePoint points
  pub close : AreClose step points
  pub moving : HasNoRepeat points

-- a chain continues where another one begins at its last point
pub last_point_or-append : (p : Point) (xs ys : List Point) → last_point_or p (xs ++ ys) ≡ last_point_or (last_point_or p xs) ys
last_point_or-append p [] ys = refl
last_point_or-append p (x ∷ xs) ys = last_point_or-append x xs ys

moving_on : (p : Point) (xs ys : List Point) → HasNoRepeatAfter p xs → HasNoRepeatAfter (last_point_or p xs) ys
    → HasNoRepeatAfter p (xs ++ ys)
moving_on p [] ys apart more = more
moving_on p (x ∷ xs) ys apart more = (apart.0, moving_on x xs ys apart.1 more)

some_same : {p q : Point} → Some p ≡ Some q → p ≡ q
some_same is = cc

-- the ends of a segment's steps bring the points to the segment's end
pub segment_comes : (step : ℕ) (first : Option Point) (before next : Point) (points ends : List Point) → ComesTo step first before points
    → LeadsBySteps before next step ends → ComesTo step first next (points ++ ends)
segment_comes step first before next [] ends comes leads = absurd (grind (arith, nat_tests, comes.last))
segment_comes step first before next (p ∷ points) ends comes leads =
    let at : last_point_or p points ≡ before = some_same comes.last in
    let Close : Point → Type 0 = λ q. AreCloseAfter step q ends in
    let Moving : Point → Type 0 = λ q. HasNoRepeatAfter q ends in
    record {
      first_is = comes.first_is;
      last = ap (λ q. Some q) (last_point_or-append p points ends ∙ (ap (λ q. last_point_or q ends) at ∙ leads.last));
      in_range = All-append IsNeedlePoint (p ∷ points) ends comes.in_range leads.in_range;
      close = close_on step p points ends comes.close (subst Close (sym at) leads.close);
      moving = moving_on p points ends comes.moving (subst Moving (sym at) leads.moving);
    }

-- the needle points so far come along the line to a point of it; the points that are left can be sewn
pub record IsSewn (step : ℕ) (line : List Point) (before : Point) (rest needles : List Point) : Type 0 where
  pub in_range : IsNeedlePoint before
  pub rest_in_range : All IsNeedlePoint rest
  pub moving : HasNoRepeatAfter before rest
  pub ends : last_point line ≡ Some (last_point_or before rest)
  pub comes : ComesTo step (first_point line) before needles
  pub sewn : needles ++ segment_points step before rest ≡ needle_points step line

-- at the first point
pub first_sewn : (step : ℕ) (line : List Point) (first : Point) (rest : List Point) → line ≡ first ∷ rest
    → IsLine line → IsSewn step line first rest (first ∷ [])
first_sewn step line first rest is able =
    let Sewn : List Point → Type 0 = λ l. IsSewn step l first rest (first ∷ []) in
    let Able : List Point → Type 0 = λ l. IsLine l in
    let whole : IsLine (first ∷ rest) = subst Able is able in
    subst Sewn (sym is) (record {
      in_range = All-head IsNeedlePoint first rest whole.in_range;
      rest_in_range = All-tail IsNeedlePoint first rest whole.in_range;
      moving = whole.moving;
      ends = refl;
      comes = record {
        first_is = refl;
        last = refl;
        in_range = All-cons IsNeedlePoint first [] (All-head IsNeedlePoint first rest whole.in_range) (All-nil IsNeedlePoint);
        close = tt;
        moving = tt;
      };
      sewn = refl;
    })

-- one segment on
pub segment_sewn : (step : ℕ) (line : List Point) (before next : Point) (rest after needles ends : List Point)
    → IsSewn step line before rest needles → rest ≡ next ∷ after → ends ≡ split_points before next step
    → LeadsBySteps before next step ends → IsSewn step line next after (needles ++ ends)
segment_sewn step line before next rest after needles ends sewn is split leads =
    let Sewn : List Point → Type 0 = λ r. IsSewn step line before r needles in
    let whole : IsSewn step line before (next ∷ after) needles = subst Sewn is sewn in
    record {
      in_range = All-head IsNeedlePoint next after whole.rest_in_range;
      rest_in_range = All-tail IsNeedlePoint next after whole.rest_in_range;
      moving = whole.moving.1;
      ends = whole.ends;
      comes = segment_comes step (first_point line) before next needles ends sewn.comes leads;
      sewn = append_assoc needles ends (segment_points step next after)
          ∙ (ap (λ e. needles ++ (e ++ segment_points step next after)) split ∙ whole.sewn);
    }

-- what the next segment needs
pub next_segment : (step : ℕ) (line : List Point) (before next : Point) (rest after needles : List Point)
    → IsSewn step line before rest needles → rest ≡ next ∷ after → (before ≢ next) × IsNeedlePoint next
next_segment step line before next rest after needles sewn is =
    let Moving : List Point → Type 0 = λ r. HasNoRepeatAfter before r in
    let Able : List Point → Type 0 = λ r. All IsNeedlePoint r in
    ((subst Moving is sewn.moving).0, All-head IsNeedlePoint next after (subst Able is sewn.rest_in_range))

-- with no segment left the needle points are those of the line
pub all_sewn : (step : ℕ) (line : List Point) (before : Point) (rest needles : List Point) → IsSewn step line before rest needles
    → rest ≡ [] → (needles ≡ needle_points step line) × LeadAlong step line needles
all_sewn step line before rest needles sewn is = grind (arith, nat_tests, append-nil needles)

-- a line of a drawing costs no more than the entire drawing may
module _ (d : DrawingValue) (line : ℕ) (there : line < length d.lines) (keeps : KeepsDrawingLimits d) where
  pub cost_few : steps_of_line d.step (points_of d line) ≤ 200000
  cost_few =
      let part = get_or-le-sum_by (λ l. steps_of_line d.step l.points) d.lines line no_line there in
      let same : steps_of_line d.step (points_of d line) ≡ steps_of_line d.step ((get_or d.lines line no_line).points) =
      ap (steps_of_line d.step) (points_are d line there keeps) in
      omega (arith, keeps.cost)

  pub few_points : length (points_of d line) ≤ 65536
  few_points = grind (arith, nat_tests, get_or-le-sum_by (λ l. length l.points) d.lines line no_line there, points_are d line there keeps)

-- what holds of a line's needle points
pub needles_sound : (d : DrawingValue) (line : ℕ) (points : List Point) → line < length d.lines → KeepsDrawingLimits d
    → points ≡ needles_of_line d line → LeadAlong d.step (points_of d line) points → AreNeedlesOf d line points
needles_sound d line points there keeps is along = record {
  count = omega (arith, cost_is d line there keeps, ap length is);
  few = omega (arith, cost_is d line there keeps, cost_few d line there keeps);
  along = along;
}

-- the needle points of a line lead along it, segment by segment
segments_lead : SplitPointsLead → (step : ℕ) → 1 ≤ step → (line : List Point) (before : Point) (rest needles : List Point)
    → IsSewn step line before rest needles → LeadAlong step line (needle_points step line)
segments_lead lead step low line before [] needles sewn = grind (arith, nat_tests, all_sewn step line before [] needles sewn refl)
segments_lead lead step low line before (next ∷ rest) needles sewn =
    let ends : List Point = split_points before next step in
    let leads = lead before next step sewn.moving.0 sewn.in_range (All-head IsNeedlePoint next rest sewn.rest_in_range) low in
    segments_lead lead step low line next rest (needles ++ ends)
    (segment_sewn step line before next (next ∷ rest) rest needles ends sewn refl refl leads)

line_leads : SplitPointsLead → (step : ℕ) → 1 ≤ step → (line : List Point) → IsLine line → LeadAlong step line (needle_points step line)
line_leads lead step low [] able = absurd (omega (arith, able.long))
line_leads lead step low (p ∷ rest) able =
    segments_lead lead step low (p ∷ rest) p rest (p ∷ []) (first_sewn step (p ∷ rest) p rest refl able)

-- and so do those of a line of a drawing
pub needles_lead : SplitPointsLead → (d : DrawingValue) (line : ℕ) → KeepsDrawingLimits d → line < length d.lines
    → AreNeedlesOf d line (needles_of_line d line)
needles_lead lead d line keeps there =
    needles_sound d line (needles_of_line d line) there keeps refl
    (line_leads lead d.step keeps.step_from (points_of d line) (line_there d line there keeps))

-- the cost of lines, one after another
pub next_cost : (d : DrawingValue) (line cost next : ℕ) → KeepsDrawingLimits d → line < length d.lines
    → cost ≡ step_count d.step (take line d.lines) → next ≡ cost_of_line d line
    → (cost + next ≡ step_count d.step (take (line + 1) d.lines)) × (cost + next ≤ 200000)
next_cost d line cost next keeps there so_far is =
    let count : LineValue → ℕ = λ l. steps_of_line d.step l.points in
    let no_line : LineValue = record { block = 0; points = [] } in
    let more = sum_by_more count d.lines line no_line there in
    let within = sum_by-take-le count d.lines (line + 1) in
    let steps : cost_of_line d line ≡ steps_of_line d.step (points_of d line) = omega (arith, cost_is d line there keeps) in
    let here : next ≡ count (get_or d.lines line no_line) =
    is ∙ (steps ∙ ap points_cost (slice_get-get_or d.lines line no_line there)) in
    (omega (arith, so_far, more, here), omega (arith, so_far, more, here, within, keeps.cost))
  where
    points_cost : Option LineValue → ℕ
    points_cost l = steps_of_line d.step (optional_line_points l)
