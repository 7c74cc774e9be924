-- What sections have because they have the segments of their lines: they cost the same, and can be sewn.
use Rattle.std.proofs.Common.{◌≡◌, ◌≢◌, ℕ, ◌≤◌, Bool, List, [], ◌∷◌, ◌++◌, length, All, sum_by, ap, sym, subst, ◌∙◌, refl, arith}
use Rattle.line_graph.proofs.DrawingNames.{nat_tests, flat_map-cons, All-cons, All-head, All-nil, All-tail, sum_by-append, flat_map, Point, IsNeedlePoint, HasNoRepeatAfter, steps_of, LineValue, SectionsHaveSegments, SectionsKeepSegments, all_sections, is_shared_point, line_sections, sections_of, IsLine, step_count, steps_of_line, segment_steps, flat_map-append, flat_map-map, sum_by-cons, segments_from, segments_of}

-- the steps of a segment
abbrev steps_along : ℕ → Point × Point → ℕ
steps_along step segment = steps_of segment.0 segment.1 step

-- the steps of lines are those of their segments
steps_from : (step : ℕ) (p : Point) (rest : List Point) → segment_steps step p rest ≡ sum_by (steps_along step) (segments_from p rest)
steps_from step p [] = refl
steps_from step p (q ∷ rest) = omega (arith, steps_from step q rest, sum_by-cons (steps_along step) (p, q) (segments_from q rest))

steps_of_points : (step : ℕ) (points : List Point) → steps_of_line step points ≡ sum_by (steps_along step) (segments_of points)
steps_of_points step [] = refl
steps_of_points step (p ∷ rest) = steps_from step p rest

abbrev segments_along : LineValue → List (Point × Point)
segments_along line = segments_of line.points

steps_of_lines : (step : ℕ) (lines : List LineValue) → step_count step lines ≡ sum_by (steps_along step) (flat_map segments_along lines)
steps_of_lines step [] = refl
steps_of_lines step (line ∷ rest) =
    omega (
      arith,
      sum_by-cons (λ (l : LineValue). steps_of_line step l.points) line rest,
      steps_of_points step line.points,
      steps_of_lines step rest,
      ap (sum_by (steps_along step)) (flat_map-cons segments_along line rest),
      sum_by-append (steps_along step) (segments_of line.points) (flat_map segments_along rest),
    )

-- sections have the segments of all lines
sections_along : SectionsKeepSegments → (all lines : List LineValue)
    → flat_map segments_along (flat_map (line_sections all) lines) ≡ flat_map segments_along lines
sections_along keep all [] = refl
sections_along keep all (line ∷ rest) =
    let parts : List (List Point) = sections_of (is_shared_point all line.block) line.points in
    let more : List LineValue = flat_map (line_sections all) rest in
    let here : flat_map segments_along (line_sections all line) ≡ segments_of line.points =
    flat_map-map segments_along (λ points. record { block = line.block; points = points }) parts
    ∙ keep (is_shared_point all line.block) line.points in
    ap (flat_map segments_along) (flat_map-cons (line_sections all) line rest)
    ∙ (flat_map-append segments_along (line_sections all line) more
    ∙ (ap (λ (first : List (Point × Point)). first ++ flat_map segments_along more) here
    ∙ (ap (λ (others : List (Point × Point)). segments_of line.points ++ others) (sections_along keep all rest)
    ∙ sym (flat_map-cons segments_along line rest))))

-- and so they cost what the lines cost
pub cost_kept : SectionsKeepSegments → (step : ℕ) (lines : List LineValue) → step_count step (all_sections lines) ≡ step_count step lines
cost_kept keep step lines =
    grind (arith, nat_tests, steps_of_lines step (all_sections lines), sections_along keep lines lines, steps_of_lines step lines)

-- a segment can be sewn
abbrev CanSew : Point × Point → Type 0
CanSew segment = (segment.0 ≢ segment.1) × IsNeedlePoint segment.0 × IsNeedlePoint segment.1

segments_sew : (p : Point) (rest : List Point) → HasNoRepeatAfter p rest → All IsNeedlePoint (p ∷ rest) → All CanSew (segments_from p rest)
segments_sew p [] moving able = All-nil CanSew
segments_sew p (q ∷ rest) moving able =
    let later = All-tail IsNeedlePoint p (q ∷ rest) able in
    All-cons CanSew (p, q) (segments_from q rest)
    (moving.0, All-head IsNeedlePoint p (q ∷ rest) able, All-head IsNeedlePoint q rest later)
    (segments_sew q rest moving.1 later)

line_sews : (points : List Point) → IsLine points → All CanSew (segments_of points)
line_sews [] line = All-nil CanSew
line_sews (p ∷ rest) line = segments_sew p rest line.moving line.in_range

-- a line can be sewn where its segments can
points_sew : (p q : Point) (rest : List Point) → All CanSew (segments_from p (q ∷ rest))
    → HasNoRepeatAfter p (q ∷ rest) × All IsNeedlePoint (p ∷ q ∷ rest)
points_sew p q [] sew =
    let here = All-head CanSew (p, q) [] sew in (
      (here.0, tt),
      All-cons IsNeedlePoint p (q ∷ []) here.1 (All-cons IsNeedlePoint q [] here.2 (All-nil IsNeedlePoint)),
    )
points_sew p q (r ∷ rest) sew =
    let here = All-head CanSew (p, q) (segments_from q (r ∷ rest)) sew in
    let later = points_sew q r rest (All-tail CanSew (p, q) (segments_from q (r ∷ rest)) sew) in
    ((here.0, later.0), All-cons IsNeedlePoint p (q ∷ r ∷ rest) here.1 later.1)

is_line : (points : List Point) → 2 ≤ length points → All CanSew (segments_of points) → IsLine points
is_line [] long sew = absurd (omega (arith, long))
is_line (p ∷ []) long sew = absurd (omega (arith, long))
is_line (p ∷ q ∷ rest) long sew = grind (arith, nat_tests, points_sew p q rest sew)

-- what holds of two lists, one after the other, holds of both
both_lists : {A : Type 0} (P : A → Type 0) (xs ys : List A) → All P (xs ++ ys) → All P xs × All P ys
both_lists P [] ys all = (All-nil P, all)
both_lists P (x ∷ xs) ys all =
    let later = both_lists P xs ys (All-tail P x (xs ++ ys) all) in
    (All-cons P x xs (All-head P x (xs ++ ys) all) later.0, later.1)

are_lines : (sections : List (List Point)) → All (λ section. 2 ≤ length section) sections → All CanSew (flat_map segments_of sections)
    → All IsLine sections
are_lines [] long sew = All-nil IsLine
are_lines (section ∷ rest) long sew =
    let parts = both_lists CanSew (segments_of section) (flat_map segments_of rest)
    (subst (λ (all : List (Point × Point)). All CanSew all) (flat_map-cons segments_of section rest) sew) in
    All-cons IsLine section rest
    (is_line section (All-head (λ (s : List Point). 2 ≤ length s) section rest long) parts.0)
    (are_lines rest (All-tail (λ (s : List Point). 2 ≤ length s) section rest long) parts.1)

-- and so the sections of a line can be sewn
pub sections_sew : SectionsKeepSegments → SectionsHaveSegments → (is_cut : Point → Bool) (points : List Point) → IsLine points
    → All IsLine (sections_of is_cut points)
sections_sew keep have is_cut points line =
    are_lines (sections_of is_cut points) (have is_cut points line.long)
    (subst (λ (all : List (Point × Point)). All CanSew all) (sym (keep is_cut points)) (line_sews points line))

-- a line has a section
pub record AreSome (sections : List (List Point)) : Type 0 where
  pub first : List Point
  pub others : List (List Point)
  pub is : sections ≡ first ∷ others

pub some_sections : SectionsKeepSegments → (is_cut : Point → Bool) (points : List Point) → IsLine points
    → AreSome (sections_of is_cut points)
some_sections keep is_cut points line = from_some (sections_of is_cut points) points (keep is_cut points) line.long
  where
    from_some : (sections : List (List Point)) (points : List Point) → flat_map segments_of sections ≡ segments_of points
        → 2 ≤ length points → AreSome sections
    from_some [] [] is long = absurd (omega (arith, long))
    from_some [] (p ∷ []) is long = absurd (omega (arith, long))
    from_some [] (p ∷ q ∷ rest) is long = absurd cc
    from_some (section ∷ rest) points is long = record { first = section; others = rest; is = refl }
