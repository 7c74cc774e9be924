-- Spots in maps and sets.
use Rattle.std.proofs.Common.{◌≡◌, Bool, true, false, ◌||◌, cond, List, [], ◌∷◌, ◌++◌, Option, Some, None, unwrap_or, refl, ap, ◌∙◌, sym, arith}
use Rattle.std.proofs.lemmas.Bool.Decides.{nat_tests}
use Rattle.std.proofs.lemmas.List.{append-nil}
use Rattle.std.proofs.lemmas.List.Folds.{list_any-append}
use Rattle.std.specs.Prelude.{if◌then◌else◌}
use Rattle.design_model.proofs.CallerLemmas.{same_back}
use Rattle.design_model.specs.declared.point.Point.{Point}
use Rattle.line_sections.proofs.CallerLemmas.{same_spot}
use Rattle.line_sections.specs.Spots.{is_same_spot}
use Rattle.line_sections.specs.declared.spot.Spot.{Spot}
use Rattle.meeting_rounds.specs.MovedPoints.{target_after, target_in}
use Rattle.meeting_rounds.specs.PinnedSpots.{is_among_spots}
use Rattle.meeting_rounds.specs.PlacedPoints.{AddsPoint, KeptPoints, points_at_spot}
use Rattle.meeting_rounds.specs.declared.spot_moves.SpotMove.{SpotMove}
use Rattle.meeting_rounds.specs.declared.tracked_lines.TrackedPoint.{TrackedPoint}

same_either_way : (s t : Spot) → is_same_spot s t ≡ is_same_spot t s
same_either_way s t = grind (arith, nat_tests, (same_back s.at t.at))

either : (a b : Bool) → cond a true b ≡ (b || (a || false))
either a b = grind (arith, nat_tests)

-- A spot is among those with one more exactly where it is that one or was among them.
pub pinned_with : (k : Spot) (all : List Spot) (old new : Spot → Bool)
    → ((q : Spot) → new q ≡ cond (is_same_spot k q) true (old q))
    → ((q : Spot) → old q ≡ is_among_spots all q) → (q : Spot) → new q ≡ is_among_spots (all ++ k ∷ []) q
pinned_with k all old new put was q =
    put q ∙ (ap (λ (b : Bool). cond (is_same_spot k q) true b) (was q)
    ∙ (ap (λ (b : Bool). cond b true (is_among_spots all q)) (same_either_way k q)
    ∙ (either (is_same_spot q k) (is_among_spots all q) ∙ sym (list_any-append (is_same_spot q) all (k ∷ [])))))

-- the last move decides
target_more : (found : Option Point) (moves : List SpotMove) (one : SpotMove) (s : Spot)
    → target_after found (moves ++ one ∷ []) s ≡ (if is_same_spot one.from s then Some one.to else target_after found moves s)
target_more found [] one s = refl
target_more found (move ∷ rest) one s = target_more (if is_same_spot move.from s then Some move.to else found) rest one s

-- The target of a spot after one more move.
pub target_with : (one : SpotMove) (all : List SpotMove) (old new : Spot → Option Point)
    → ((q : Spot) → new q ≡ cond (is_same_spot one.from q) (Some one.to) (old q))
    → ((q : Spot) → old q ≡ target_in all q) → (q : Spot) → new q ≡ target_in (all ++ one ∷ []) q
target_with one all old new put was q =
    put q ∙ (ap (λ (o : Option Point). cond (is_same_spot one.from q) (Some one.to) o) (was q) ∙ sym (target_more None all one q))

-- A point is added to its spot.
pub point_added : (at : Spot) (p : TrackedPoint) (taken : List TrackedPoint) (old mid new : KeptPoints)
    → taken ≡ points_at_spot old at → ((s : Spot) → is_same_spot at s ≡ false → mid s ≡ old s)
    → ((s : Spot) → new s ≡ cond (is_same_spot at s) (Some (taken ++ p ∷ [])) (mid s)) → AddsPoint at p old new
point_added at p taken old mid new was others put s = by_test (is_same_spot at s) refl
  where
    by_test : (b : Bool) → is_same_spot at s ≡ b
        → points_at_spot new s ≡ points_at_spot old s ++ (if b then p ∷ [] else [])
    by_test true is =
        ap (λ (o : Option (List TrackedPoint)). unwrap_or o []) (put s ∙ ap (λ (b : Bool). cond b (Some (taken ++ p ∷ [])) (mid s)) is)
        ∙ ap (λ (ps : List TrackedPoint). ps ++ p ∷ []) (was ∙ ap (λ (q : Spot). points_at_spot old q) (same_spot at s is))
    by_test false is =
        ap (λ (o : Option (List TrackedPoint)). unwrap_or o [])
        (put s ∙ (ap (λ (b : Bool). cond b (Some (taken ++ p ∷ [])) (mid s)) is ∙ others s is))
        ∙ sym (append-nil (points_at_spot old s))
