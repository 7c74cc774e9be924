-- Growing drawings keep their limits. The finished ones are valid, and stay so when they are joined and get starts and ends.
use Rattle.std.proofs.Common.{◌≡◌, ℕ, ◌<◌, ◌==◌, Bool, true, false, not, List, [], ◌∷◌, Ok, IfOk, length, All, refl, arith}
use Rattle.std.proofs.lemmas.List.Quantifiers.{all_pairs_push}
use Rattle.line_graph.proofs.DrawingNames.{or_parts, nat_tests, All-cons, All-nil, All-push, list_any, Point, IsNeedlePoint, Spot, LineValue, SectionsHaveSegments, SectionsKeepSegments, WholeLinesStay, DrawingValue, IsLine, KeepsDrawingLimits, IsMakerState, all_in_needle_range, is_last_empty, point_count, step_count, steps_with_line, with_new_block, with_new_line, IsGrowingDrawing, AreInDifferentPieces, IsValidDrawing, are_connected_spots, is_junction, spot_added, eqb-false, SectionsAreWhole, BlocksKeepGrowing, EmptyDrawingsGrow, FinishedDrawingsAreValid, IsValidJoinedDrawing, JoinedDrawingsAreValid, LabelsKeepGrowing, LinesKeepGrowing, StepsKeepGrowing, WalkEndsKeepValid}
use Rattle.line_graph.specs.declared.draw_kind.DrawKind.TheVariants as kind
use Rattle.line_graph.proofs.KeptSections.{all_kept}
use Rattle.line_graph.proofs.MakerLemmas.{MayCome, all_in_range, block_put, drawn_all, label_set, line_put, may_come, step_set}
use Rattle.line_graph.proofs.DrawingLemmas.{after_both, unless}
use Rattle.design_model.proofs.ListLemmas.{some_of}

not_false : (t : Bool) → not t ≡ false → t ≡ true
not_false true is = refl
not_false false is = absurd cc

-- a growing drawing is a state of its maker
made_of : (d : DrawingValue) (empty : Bool) → is_last_empty d ≡ empty → IsGrowingDrawing d
    → IsMakerState d empty (point_count d.lines) (step_count d.step d.lines)
made_of d empty is grows = grind (arith, nat_tests)

grown_of : (d : DrawingValue) (empty : Bool) (points steps : ℕ) → IsMakerState d empty points steps → IsGrowingDrawing d
grown_of d empty points steps made = record { head = made.head; blocks = made.blocks; lines = made.lines; no_ends = made.no_ends }

pub empty_grows : EmptyDrawingsGrow
empty_grows label step head = record {
  head = head;
  blocks = record {
    blocks_to = omega arith;
    in_range = All-nil (λ thread. thread < 256);
    used = λ block below. absurd (omega (arith, below));
    there = All-nil (λ (l : LineValue). l.block < 0);
    ordered = λ i j e less there. absurd (omega (arith, there));
  };
  lines = record {
    each = All-nil (λ (l : LineValue). IsLine l.points);
    line_count = omega arith;
    points_to = omega arith;
    cost = omega arith;
  };
  no_ends = record { starts = refl; ends = refl };
}

pub label_grows : LabelsKeepGrowing
label_grows d word grows test = grind (arith, nat_tests, grown_of, label_set d word (is_last_empty d))

pub step_grows : StepsKeepGrowing
step_grows d step grows none low high = grind (arith, nat_tests, grown_of, step_set d step (is_last_empty d))

pub block_grows : BlocksKeepGrowing
block_grows d thread grows fits =
    unless IsGrowingDrawing (is_last_empty d) _ kind.EmptyBlock (λ filled.
    unless IsGrowingDrawing (length d.threads == 255) _ kind.TooManyBlocks (λ few.
    grown_of (with_new_block d thread) true _ _
    (block_put d thread _ _ (made_of d false filled grows) fits (eqb-false (length d.threads) 255 few))))

-- a line that passes the tests may be added
comes : (d : DrawingValue) (points : List Point) → All IsNeedlePoint points → IfOk (steps_with_line d points) (MayCome d points)
comes d points in_range = grind (arith, nat_tests, may_come d points)

pub line_grows : LinesKeepGrowing
line_grows d points grows =
    unless IsGrowingDrawing (length d.threads == 0) _ kind.NoBlock (λ some.
    unless IsGrowingDrawing (not (all_in_needle_range points)) _ kind.OutOfRange (λ near.
    after_both (MayCome d points) IsGrowingDrawing (steps_with_line d points) (λ steps. Ok (with_new_line d points))
    (comes d points (all_in_range points (not_false (all_in_needle_range points) near)))
    (λ steps may. grown_of (with_new_line d points) false _ _
    (line_put d points (is_last_empty d) _ _ steps (made_of d (is_last_empty d) refl grows) (some_of (length d.threads) some) may))))

pub finished_valid : FinishedDrawingsAreValid
finished_valid d grows =
    unless IsValidDrawing (length d.threads == 0) _ kind.NoBlock (λ some.
    unless IsValidDrawing (is_last_empty d) (Ok d) kind.EmptyBlock (λ filled.
    drawn_all d _ _ (made_of d false filled grows) (eqb-false (length d.threads) 0 some)))

-- sections of a valid drawing are its lines in a valid one
pub joined_valid : SectionsKeepSegments → SectionsHaveSegments → WholeLinesStay → SectionsAreWhole → JoinedDrawingsAreValid
joined_valid keep have stay whole d valid =
    grind (arith, nat_tests, unless IsValidJoinedDrawing, all_kept keep have stay d d.lines)

-- a spot that may be added is a junction in a piece of its own
spots_apart : (lines : List LineValue) (spots : List Spot) (spot : Spot) → AreInDifferentPieces lines spots
    → IfOk (spot_added lines spots spot) (AreInDifferentPieces lines)
spots_apart lines spots spot apart =
    unless (AreInDifferentPieces lines) (not (is_junction lines spot)) _ kind.NoJunction (λ there.
    unless (AreInDifferentPieces lines) (list_any (λ (one : Spot). are_connected_spots lines one spot) spots) _ kind.EndRepeated
    (λ none. record {
      there = All-push (λ (s : Spot). is_junction lines s ≡ true) spots spot apart.there (not_false (is_junction lines spot) there);
      apart = all_pairs_push (λ (a b : Spot). are_connected_spots lines a b ≡ false) spots spot apart.apart (none_of spots none);
    }))
  where
    none_of : (some : List Spot) → list_any (λ (one : Spot). are_connected_spots lines one spot) some ≡ false
        → All (λ (one : Spot). are_connected_spots lines one spot ≡ false) some
    none_of [] none = All-nil (λ (one : Spot). are_connected_spots lines one spot ≡ false)
    none_of (s ∷ rest) none =
        let parts = or_parts (are_connected_spots lines s spot) (list_any (λ (one : Spot). are_connected_spots lines one spot) rest) none in
        All-cons (λ (one : Spot). are_connected_spots lines one spot ≡ false) s rest parts.0 (none_of rest parts.1)

-- the limits say nothing of starts and ends
limits_with : (d : DrawingValue) (starts ends : List Spot) → KeepsDrawingLimits d
    → KeepsDrawingLimits (record d { starts = starts; ends = ends })
limits_with d starts ends keeps = grind (arith, nat_tests)

-- a valid joined drawing has other starts and ends where these are in different pieces
with_ends : (d : DrawingValue) (starts ends : List Spot) → IsValidJoinedDrawing d → AreInDifferentPieces d.lines starts
    → AreInDifferentPieces d.lines ends → IsValidJoinedDrawing (record d { starts = starts; ends = ends })
with_ends d starts ends is one two = grind (arith, nat_tests, limits_with d starts ends is.valid.limits)

pub walk_end_valid : WalkEndsKeepValid
walk_end_valid true d spot is =
    after_both (AreInDifferentPieces d.lines) IsValidJoinedDrawing (spot_added d.lines d.starts spot)
    (λ starts. Ok (record d { starts = starts })) (spots_apart d.lines d.starts spot is.valid.ends.starts)
    (λ starts apart. with_ends d starts d.ends is apart is.valid.ends.ends)
walk_end_valid false d spot is =
    after_both (AreInDifferentPieces d.lines) IsValidJoinedDrawing (spot_added d.lines d.ends spot)
    (λ ends. Ok (record d { ends = ends })) (spots_apart d.lines d.ends spot is.valid.ends.ends)
    (λ ends apart. with_ends d d.starts ends is is.valid.ends.starts apart)
