-- What the theorems on spaced lines exclude, in tenths of a millimetre.
use Rattle.std.proofs.Common.{◌≡◌, ◌≢◌, ◌∙◌, ℕ, suc, ℤ, ◌+◌, ◌≤◌, ◌<◌, Bool, true, false, pos, reverse, List, [], ◌∷◌, ◌++◌, length, map, filter, get_or, Result, Ok, ap, subst, sym, arith, true≢false}
use Rattle.spaced_lines.proofs.Names.{Point, IsLine, LineValue, Spot, DrawingValue, steps_of_line, endpoints, end_spots, all_sections, inner_points, is_junction, is_shared_point, is_spot_of, may_leave_out, rule_of, spaced_lines, spaced_points, square_sum, stitch_count, IsChoice, IsStretch, KeptPointsAreBest, ReversedLinesAreAsGood, SpacingLimits, SpacingRule, SpacedLinesAreLines, SpacedLinesKeepLimits, SpacingRefusesNone, and_then, space_of, with_lines_spaced, EachPointSavesAStep, PiecesStay, SectionsKeepEnds, SharedPointsAreJunctions}
use Rattle.drawing_edits.specs.RedrawnDrawings.{with_starts_and_ends}
use Rattle.line_graph.specs.Drawings.{KeepsDrawingLimits}
use Rattle.line_graph.specs.JoinedDrawings.{joined_drawing}
use Rattle.line_graph.specs.Pieces.{ArePieces}
use Rattle.line_graph.specs.declared.draw_kind.DrawKind.{DrawKind}
use Rattle.spaced_lines.specs.declared.spaced_drawing.SpacedDrawing.{SpacedDrawing}
use Rattle.spaced_lines.specs.SpacingLaws.{EndsOfLinesStay, TestedPointsStay}

-- the point with those numbers
abbrev at : ℕ → ℕ → Point
at x y = record { x = pos x; y = pos y }

-- the first number of the first point
abbrev first_x : List Point → ℤ
first_x [] = pos 0
first_x (p ∷ rest) = p.x

-- a stretch begins with its kept point, and the points after it are the last ones of the line
pub applied_parts : (stays : Point → Bool) (rule : SpacingRule) (a b : Point) (points after : List Point)
    → IsStretch stays rule a b points after
    → (out : List Point) × (points ≡ a ∷ (out ++ after)) × (may_leave_out stays rule a out b ≡ true)
applied_parts stays rule a b points after is = (is.out, is.parts, is.allowed)

-- points that begin with another one are no stretch from a point
pub refuted_begin : (stays : Point → Bool) (rule : SpacingRule) (b : Point) (more after : List Point)
    → IsStretch stays rule (at 1 0) b (at 2 0 ∷ more) after → ⊥
refuted_begin stays rule b more after is = other (ap first_x is.parts)
  where
    other : pos 2 ≡ pos 1 → ⊥
    other never = cc

-- a line with points has a choice with a point
pub refuted_none : (stays : Point → Bool) (rule : SpacingRule) (p : Point) (more : List Point) → IsChoice stays rule [] (p ∷ more) → ⊥
refuted_none stays rule p more is = cc

-- one kept point is a choice of itself alone
pub refuted_alone : (stays : Point → Bool) (rule : SpacingRule) (p q : Point) (more : List Point)
    → IsChoice stays rule (p ∷ []) (p ∷ q ∷ more) → ⊥
refuted_alone stays rule p q more is = fewer (ap (λ (points : List Point). length points) is)
  where
    fewer : suc (suc (length more)) ≡ 1 → ⊥
    fewer is = omega (arith, is)

-- three kept points have two stretches one after another, and the third ends the line
pub applied_stretches : (stays : Point → Bool) (rule : SpacingRule) (a b c : Point) (points : List Point)
    → IsChoice stays rule (a ∷ b ∷ c ∷ []) points
    → (after last : List Point) × IsStretch stays rule a b points after × IsStretch stays rule b c after last × (last ≡ c ∷ [])
applied_stretches stays rule a b c points is = (is.0, is.2.0, is.1, is.2.1, is.2.2)

-- points in another order are no choice
refuted_order : (stays : Point → Bool) (rule : SpacingRule) → IsChoice stays rule (at 20 0 ∷ at 0 0 ∷ []) (at 0 0 ∷ at 20 0 ∷ []) → ⊥
refuted_order stays rule (after, stretch, rest) = apart (ap first_x stretch.parts)
  where
    apart : pos 0 ≡ pos 20 → ⊥
    apart never = cc

-- no test and no rule make a line keep its points in another order
pub refuted_kept_order : KeptPointsAreBest → (stays : Point → Bool) (rule : SpacingRule)
    → spaced_points stays rule (at 0 0 ∷ at 20 0 ∷ []) ≡ at 20 0 ∷ at 0 0 ∷ [] → ⊥
refuted_kept_order law stays rule is = refuted_order stays rule
    (subst (λ (kept : List Point). IsChoice stays rule kept (at 0 0 ∷ at 20 0 ∷ [])) is (law stays rule (at 0 0 ∷ at 20 0 ∷ [])).chosen)

-- the points that a line keeps by any test and any rule are none that aren't a choice
pub refuted_kept : KeptPointsAreBest → (stays : Point → Bool) (rule : SpacingRule) (points kept : List Point)
    → (IsChoice stays rule kept points → ⊥) → spaced_points stays rule points ≡ kept → ⊥
refuted_kept law stays rule points kept never is =
    never (subst (λ (some : List Point). IsChoice stays rule some points) is (law stays rule points).chosen)

-- no choice has a stitch fewer
pub refuted_fewer : KeptPointsAreBest → (stays : Point → Bool) (rule : SpacingRule) (points other : List Point)
    → IsChoice stays rule other points → stitch_count (spaced_points stays rule points) ≡ stitch_count other + 1 → ⊥
refuted_fewer law stays rule points other chosen is = absurd (omega (arith, is, (law stays rule points).fewest other chosen))

-- no choice with as many stitches has a sum that is smaller by one
pub refuted_sum : KeptPointsAreBest → (stays : Point → Bool) (rule : SpacingRule) (points other : List Point)
    → IsChoice stays rule other points → stitch_count other ≡ stitch_count (spaced_points stays rule points)
    → square_sum (spaced_points stays rule points) ≡ square_sum other + 1 → ⊥
refuted_sum law stays rule points other chosen same is =
    absurd (omega (arith, is, (law stays rule points).most_even other chosen same))

-- from the other end, a line keeps no other number of points and has no other sum
pub refuted_count : ReversedLinesAreAsGood → (stays : Point → Bool) (rule : SpacingRule) (points : List Point) (count : ℕ)
    → stitch_count (spaced_points stays rule points) ≢ count → stitch_count (spaced_points stays rule (reverse points)) ≡ count → ⊥
refuted_count law stays rule points count differ is = differ (sym (law stays rule points).0 ∙ is)

pub refuted_reversed_sum : ReversedLinesAreAsGood → (stays : Point → Bool) (rule : SpacingRule) (points : List Point) (sum : ℕ)
    → square_sum (spaced_points stays rule points) ≢ sum → square_sum (spaced_points stays rule (reverse points)) ≡ sum → ⊥
refuted_reversed_sum law stays rule points sum differ is = differ (sym (law stays rule points).1 ∙ is)

-- two points that pass the test aren't exchanged
pub refuted_tested_order : TestedPointsStay → (stays : Point → Bool) (rule : SpacingRule) (points : List Point)
    → filter stays points ≡ at 1 0 ∷ at 2 0 ∷ [] → filter stays (spaced_points stays rule points) ≡ at 2 0 ∷ at 1 0 ∷ [] → ⊥
refuted_tested_order law stays rule points before after =
    other (ap first_x (sym after ∙ (law stays rule points ∙ before)))
  where
    other : pos 2 ≡ pos 1 → ⊥
    other never = cc

-- the points that pass the test are no other list of points after the line is spaced
pub refuted_tested : TestedPointsStay → (stays : Point → Bool) (rule : SpacingRule) (points other : List Point)
    → other ≢ filter stays points → filter stays (spaced_points stays rule points) ≡ other → ⊥
refuted_tested law stays rule points other differ is = differ (sym is ∙ law stays rule points)

-- a spaced line has no other ends than the line, and not as many others
pub refuted_ends : EndsOfLinesStay → (stays : Point → Bool) (rule : SpacingRule) (points other : List Point)
    → other ≢ endpoints points → endpoints (spaced_points stays rule points) ≡ other → ⊥
refuted_ends law stays rule points other differ is = differ (sym is ∙ law stays rule points)

-- a line that can be sewn becomes none that can't
pub refuted_line : SpacedLinesAreLines → (stays : Point → Bool) (rule : SpacingRule) (points other : List Point) → IsLine points
    → (IsLine other → ⊥) → spaced_points stays rule points ≡ other → ⊥
refuted_line law stays rule points other line never is =
    never (subst (λ (some : List Point). IsLine some) is (law stays rule points line))

-- the points that are left out save no step fewer than they are
pub refuted_saving : EachPointSavesAStep → (stays : Point → Bool) (rule : SpacingRule) (points : List Point) → 1 ≤ rule.step → IsLine points
    → steps_of_line rule.step (spaced_points stays rule points) + length points
    ≡ (steps_of_line rule.step points + length (spaced_points stays rule points)) + 1 → ⊥
refuted_saving law stays rule points one line is = absurd (omega (arith, is, law stays rule points one line))

-- a line, and a second one through three points
abbrev two_lines : LineValue → ℕ → (a p b : Point) → List LineValue
two_lines first block a p b = first ∷ record { block = block; points = a ∷ p ∷ b ∷ [] } ∷ []

-- a point inside the second of two lines that its block lists again is a junction
pub refuted_shared : SharedPointsAreJunctions → (first : LineValue) (block : ℕ) (a p b : Point)
    → is_shared_point (two_lines first block a p b) block p ≡ true
    → is_spot_of (is_junction (all_sections (two_lines first block a p b))) block p ≡ false → ⊥
refuted_shared law first block a p b shared is =
    true≢false (sym (law (two_lines first block a p b) 1 first (omega arith) 0 p (omega arith) shared) ∙ is)

-- each point inside any line that its block lists again is a junction
pub applied_shared : SharedPointsAreJunctions → (lines : List LineValue) (i j : ℕ) (line : LineValue) (p : Point)
    → i < length lines → j < length (inner_points (get_or lines i line).points)
    → is_shared_point lines (get_or lines i line).block (get_or (inner_points (get_or lines i line).points) j p) ≡ true
    → is_spot_of (is_junction (all_sections lines)) (get_or lines i line).block
    (get_or (inner_points (get_or lines i line).points) j p) ≡ true
applied_shared law lines i j line p line_there there shared = law lines i line line_there j p there shared

-- sections of spaced lines have no other ends, and not as many others
pub refuted_section_ends : SectionsKeepEnds → (rule : SpacingRule) (lines : List LineValue) (other : List (List Spot))
    → other ≢ map end_spots (all_sections lines) → map end_spots (all_sections (spaced_lines rule lines)) ≡ other → ⊥
refuted_section_ends law rule lines other differ is = differ (sym is ∙ law rule lines)

-- the pieces of a drawing are always those of its spaced lines
pub refuted_pieces : PiecesStay → (rule : SpacingRule) (d : DrawingValue) (pieces : List (List ℕ))
    → ArePieces (record d { lines = all_sections d.lines }) pieces
    → (ArePieces (record d { lines = all_sections (spaced_lines rule d.lines) }) pieces → ⊥) → ⊥
refuted_pieces law rule d pieces are never = never (law rule d pieces are)

-- spaced lines of a drawing within its limits are always within them
pub refuted_limits : SpacedLinesKeepLimits → (bounds : SpacingLimits) (d : DrawingValue) → KeepsDrawingLimits d
    → (KeepsDrawingLimits (with_lines_spaced bounds d) → ⊥) → ⊥
refuted_limits law bounds d limits never = never (law bounds d limits)

-- lines that are joined with starts and ends have no other result when they are spaced: neither a fault nor another drawing
pub refuted_refusal : SpacingRefusesNone
    → (bounds : SpacingLimits) (d joined : DrawingValue) (starts ends : List Spot) (other : Result SpacedDrawing DrawKind)
    → KeepsDrawingLimits d → d.starts ≡ [] → d.ends ≡ []
    → and_then (joined_drawing d) (λ whole. with_starts_and_ends whole starts ends) ≡ Ok joined
    → other ≢ Ok (record {
      drawn = with_lines_spaced bounds d;
      joined = record joined { lines = all_sections (spaced_lines (rule_of bounds d.step) d.lines) };
    })
    → space_of bounds d starts ends ≡ other → ⊥
refuted_refusal law bounds d joined starts ends other limits none no_end taken differ is =
    differ (sym is ∙ law bounds d joined starts ends limits none no_end taken)
