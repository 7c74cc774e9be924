-- A drawing can have the best ends that are found of its pieces.
use Rattle.std.proofs.Common.{◌≡◌, ◌∙◌, inr, Bool, true, false, List, [], Ok, Err, length, nat_lt, if◌then◌else◌, refl, ap, ap₂, sym}
use Rattle.drawing_edits.specs.RedrawnDrawings.{drawn_lines, with_starts_and_ends}
use Rattle.drawing_edits.specs.ValidRedraws.{LinesWithinLimitsAreDrawn, ValidDrawingsAreRedrawn}
use Rattle.line_graph.specs.ConnectedSpots.{SpotsAreConnected}
use Rattle.line_graph.specs.Drawings.{DrawingValue, KeepsDrawingLimits}
use Rattle.line_graph.specs.DrawnWalks.{GivenPointsAreJunctions, PiecesAreValid}
use Rattle.line_graph.specs.GrowingDrawings.{and_then, point_count}
use Rattle.line_graph.specs.GrowingLimits.{IsValidJoinedDrawing}
use Rattle.line_graph.specs.JoinedDrawings.{JoinedDrawingsStay, is_joined, joined_drawing}
use Rattle.line_graph.specs.WalkEnds.{HasNoEnds}
use Rattle.line_graph.specs.declared.draw_kind.DrawKind.TheVariants as kind
use Rattle.line_graph.specs.declared.limits.TheConstants.{MAX_LINES, MAX_POINTS}
use Rattle.line_sections.specs.Lines.{LineValue}
use Rattle.line_sections.specs.Sections.{SectionsAreWhole, all_sections, are_whole_lines}
use Rattle.line_sections.specs.declared.spot.Spot.{Spot}
use Rattle.free_ends.proofs.FreedLemmas.{freed_well}
use Rattle.free_ends.specs.FreedDrawings.{IsWholeOf}
use Rattle.free_ends.specs.FreedLaws.{FoundEndsAreTaken, drawing_with_found}

-- The limits of a drawing don't speak of starts and ends.
limits_with : (d : DrawingValue) (starts ends : List Spot) → KeepsDrawingLimits d
    → KeepsDrawingLimits (record d { starts = starts; ends = ends })
limits_with d starts ends limits = record {
  label = limits.label;
  one_word = limits.one_word;
  step_from = limits.step_from;
  step_to = limits.step_to;
  blocks_from = limits.blocks_from;
  blocks_to = limits.blocks_to;
  threads = limits.threads;
  used = limits.used;
  there = limits.there;
  ordered = limits.ordered;
  lines = limits.lines;
  line_count = limits.line_count;
  point_count = limits.point_count;
  cost = limits.cost;
}

-- A drawing without its starts and ends.
abbrev bare : DrawingValue → DrawingValue
bare d = record d { starts = []; ends = [] }

-- Lines that are joined with starts and ends are joined without them, and are whole.
record IsBare (drawn d : DrawingValue) : Type 0 where
  joined : joined_drawing drawn ≡ Ok (bare d)
  lines : d.lines ≡ all_sections drawn.lines

is_bare : (drawn d : DrawingValue) → HasNoEnds drawn → IsWholeOf drawn d → IsBare drawn d
is_bare drawn d none whole =
    by_tests (nat_lt MAX_LINES (length sections)) (nat_lt MAX_POINTS (point_count sections)) refl refl whole
  where
    sections : List LineValue
    sections = all_sections drawn.lines

    by_tests : (many long : Bool) → nat_lt MAX_LINES (length sections) ≡ many → nat_lt MAX_POINTS (point_count sections) ≡ long
        → (if many then Err kind.TooManyLines else (if long then Err kind.TooManyPoints
        else Ok (record drawn { lines = sections; starts = d.starts; ends = d.ends }))) ≡ Ok d
        → IsBare drawn d
    by_tests true long one two is = absurd (let no : ⊥ = cc in no)
    by_tests false true one two is = absurd (let no : ⊥ = cc in no)
    by_tests false false one two is =
        let same : record drawn { lines = sections; starts = d.starts; ends = d.ends } ≡ d = cc in
        record {
          joined = rw (one, two) (ap₂ (λ (s e : List Spot). Ok (record drawn { lines = sections; starts = s; ends = e }))
              none.starts none.ends ∙ ap (λ (b : DrawingValue). Ok (bare b)) same);
          lines = sym (ap (λ (b : DrawingValue). b.lines) same);
        }

pub found_ends_taken : SpotsAreConnected → GivenPointsAreJunctions → PiecesAreValid → SectionsAreWhole → LinesWithinLimitsAreDrawn
    → JoinedDrawingsStay → ValidDrawingsAreRedrawn → FoundEndsAreTaken
found_ends_taken connected numbers valid wholes drawn_again stay again drawn before pieces founds none kept whole are found =
    let plain = is_bare drawn before none whole in
    let well = freed_well before kept.limits connected numbers pieces are valid founds found kept.ends.starts kept.ends.ends in
    let new : DrawingValue = drawing_with_found before pieces founds in
    let joined : is_joined before ≡ true = ap are_whole_lines plain.lines ∙ wholes drawn.lines in
    let whole_new : IsValidJoinedDrawing new = record {
      valid = record {
        limits = limits_with before new.starts new.ends kept.limits;
        ends = record { starts = well.starts; ends = well.ends; joined = inr joined };
      };
      joined = joined;
    } in
    let lines_are : and_then (drawn_lines new) joined_drawing ≡ Ok (bare before) =
    ap (λ r. and_then r joined_drawing) (drawn_again new whole_new.valid.limits)
    ∙ stay (bare before) (limits_with before [] [] kept.limits) joined in
    let put : with_starts_and_ends (bare before) new.starts new.ends ≡ Ok new =
    sym (ap (λ r. and_then r (λ (b : DrawingValue). with_starts_and_ends b new.starts new.ends)) lines_are) ∙ again new whole_new in
    (ap (λ r. and_then r (λ (b : DrawingValue). with_starts_and_ends b new.starts new.ends)) plain.joined ∙ put, well.has)
