-- What spacing keeps of a line, by its stitches.
use Rattle.std.proofs.Common.{◌≡◌, ◌∙◌, Bool, true, false, not, cond, List, [], ◌∷◌, ◌++◌, filter, refl, ap, sym, subst, arith}
use Rattle.spaced_lines.proofs.Names.{nat_tests, Point, bests_of, does_none_stay, endpoints, first_true, is_stitch_for, kept_by, last_point_or, may_leave_out, second_true, spaced_points, IsChoice, SpacingRule}
use Rattle.spaced_lines.proofs.BestLemmas.{best_of, first_best}

-- the points of a line after its first one
abbrev tail : List Point → List Point
tail [] = []
tail (p ∷ rest) = rest

-- the points that a line keeps after its first one, p
abbrev pub kept_after : (Point → Bool) → SpacingRule → (p : Point) → List Point → List Point
kept_after stays rule p rest = kept_by (first_best (bests_of stays rule (p ∷ rest))).left_out rest (bests_of stays rule rest)

-- What holds of one point, and passes from the points after a stitch to those with it, holds of the points that a line keeps.
module _ (stays : Point → Bool) (rule : SpacingRule) (P : (a : Point) (points kept : List Point) → Type 0) where
  of_choice : ((a : Point) → P a [] [])
      → ((a b : Point) (out after kept : List Point) → may_leave_out stays rule a out b ≡ true → P b after kept
      → P a (out ++ b ∷ after) (b ∷ kept))
      → (a : Point) (kept points : List Point) → IsChoice stays rule (a ∷ kept) points
      → (more : List Point) × (points ≡ a ∷ more) × P a more kept
  of_choice last next a [] points is = ([], is, last a)
  of_choice last next a (b ∷ kept) points (after, stretch, later) =
      let begun = of_choice last next b kept after later in (
        stretch.out ++ b ∷ begun.0,
        stretch.parts ∙ ap (λ (ps : List Point). a ∷ (stretch.out ++ ps)) begun.1,
        next a b stretch.out begun.0 kept stretch.allowed begun.2,
      )

  pub of_kept : ((a : Point) → P a [] [])
      → ((a b : Point) (out after kept : List Point) → may_leave_out stays rule a out b ≡ true → P b after kept
      → P a (out ++ b ∷ after) (b ∷ kept))
      → (a : Point) (points : List Point) → P a points (kept_after stays rule a points)
  of_kept last next a points =
      let is = of_choice last next a (kept_after stays rule a points) (a ∷ points) (best_of stays rule a points).chosen in
      subst (λ (ps : List Point). P a ps (kept_after stays rule a points)) (sym (ap tail is.1)) is.2

-- none of the points that are left out stays
pub untested : (stays : Point → Bool) (rule : SpacingRule) (a : Point) (out : List Point) (b : Point)
    → may_leave_out stays rule a out b ≡ true → does_none_stay stays out ≡ true
untested stays rule a [] b may = refl
untested stays rule a (p ∷ out) b may = first_true (does_none_stay stays (p ∷ out)) _ may

-- one stitch stands for the points that are left out
pub left_out_stitch : (stays : Point → Bool) (rule : SpacingRule) (a p : Point) (out : List Point) (b : Point)
    → may_leave_out stays rule a (p ∷ out) b ≡ true → is_stitch_for rule a b (p ∷ out) ≡ true
left_out_stitch stays rule a p out b may = second_true _ (is_stitch_for rule a b (p ∷ out)) (second_true (does_none_stay stays
    (p ∷ out)) _ may)

pub untested_first : (stays : Point → Bool) (p : Point) (out : List Point) → does_none_stay stays (p ∷ out) ≡ true → stays p ≡ false
untested_first stays p out h1 = grind (arith, nat_tests)

pub untested_rest : (stays : Point → Bool) (p : Point) (out : List Point) → does_none_stay stays (p ∷ out) ≡ true
    → does_none_stay stays out ≡ true
untested_rest stays p out is = second_true (not (stays p)) (does_none_stay stays out) is

tested_later : (stays : Point → Bool) (out points : List Point) → does_none_stay stays out ≡ true
    → filter stays (out ++ points) ≡ filter stays points
tested_later stays [] points none = refl
tested_later stays (p ∷ out) points none =
    ap (λ (t : Bool). cond t (p ∷ filter stays (out ++ points)) (filter stays (out ++ points))) (untested_first stays p out none)
    ∙ tested_later stays out points (untested_rest stays p out none)

tested_after : (stays : Point → Bool) (rule : SpacingRule) (a : Point) (points : List Point)
    → filter stays (kept_after stays rule a points) ≡ filter stays points
tested_after stays rule = of_kept stays rule (λ a points kept. filter stays kept ≡ filter stays points) (λ a. refl)
    (λ a b out after kept may is. ap (λ (ps : List Point). cond (stays b) (b ∷ ps) ps) is
    ∙ sym (tested_later stays out (b ∷ after) (untested stays rule a out b may)))

-- The points that pass the test stay.
pub tested_stay : (stays : Point → Bool) (rule : SpacingRule) (points : List Point)
    → filter stays (spaced_points stays rule points) ≡ filter stays points
tested_stay stays rule [] = refl
tested_stay stays rule (a ∷ points) = ap (λ (ps : List Point). cond (stays a) (a ∷ ps) ps) (tested_after stays rule a points)

last_later : (a : Point) (out : List Point) (b : Point) (after : List Point)
    → last_point_or a (out ++ b ∷ after) ≡ last_point_or b after
last_later a [] b after = refl
last_later a (p ∷ out) b after = last_later p out b after

last_after : (stays : Point → Bool) (rule : SpacingRule) (a : Point) (points : List Point)
    → last_point_or a (kept_after stays rule a points) ≡ last_point_or a points
last_after stays rule = of_kept stays rule (λ a points kept. last_point_or a kept ≡ last_point_or a points) (λ a. refl)
    (λ a b out after kept may is. is ∙ sym (last_later a out b after))

-- The ends of a line stay.
pub ends_stay : (stays : Point → Bool) (rule : SpacingRule) (points : List Point)
    → endpoints (spaced_points stays rule points) ≡ endpoints points
ends_stay stays rule [] = refl
ends_stay stays rule (a ∷ points) = ap (λ (l : Point). a ∷ l ∷ []) (last_after stays rule a points)
