-- The sections of a spaced line have the ends of the sections of the line, where both are cut alike.
use Rattle.std.proofs.Common.{◌≡◌, ◌∙◌, Bool, true, false, ◌&&◌, List, [], ◌∷◌, ◌++◌, ap, map, All, if◌then◌else◌, refl, sym, arith}
use Rattle.spaced_lines.proofs.Names.{nat_tests, ap₂, All-head, All-tail, Point, endpoints, but_last, has_points, inner_points, sections_from, sections_of, does_none_stay, spaced_points, SpacingRule}
use Rattle.spaced_lines.proofs.SpacingLemmas.{kept_after, of_kept, untested, untested_first, untested_rest}

-- the ends of the sections from the point a on
abbrev ends_from : (Point → Bool) → Point → List Point → List (List Point)
ends_from cut a rest = map (λ (s : List Point). endpoints s) (sections_from cut a rest)

-- the ends of a section with one more point at its start
abbrev begun_at : Point → List Point → List Point
begun_at a [] = a ∷ a ∷ []
begun_at a (x ∷ rest) = a ∷ rest

-- the ends of sections with one more point at the start of the first one
abbrev ends_with : Point → List (List Point) → List (List Point)
ends_with a [] = (a ∷ a ∷ []) ∷ []
ends_with a (ends ∷ rest) = begun_at a ends ∷ rest

-- the ends of the sections from a on, where those from the next point q on are given
abbrev ends_joined : Bool → (a q : Point) → List (List Point) → List (List Point)
ends_joined cut a q ends = if cut then (a ∷ q ∷ []) ∷ ends else ends_with a ends

ends_step : (cut : Point → Bool) (a q : Point) (rest : List Point)
    → ends_from cut a (q ∷ rest) ≡ ends_joined (has_points rest && cut q) a q (ends_from cut q rest)
ends_step cut a q rest = grind (arith, nat_tests)

-- the first section begins at the point a
record BeginsAt (a : Point) (ends : List (List Point)) : Type 0 where
  more : List Point
  others : List (List Point)
  is : ends ≡ (a ∷ more) ∷ others

-- a point where the line isn't cut may be passed
passed : (cut : Point → Bool) (a p b : Point) (rest : List Point) → cut p ≡ false
    → ends_from cut a (p ∷ b ∷ rest) ≡ ends_from cut a (b ∷ rest)
passed cut a p b rest h1 = grind (arith, nat_tests)

-- a spaced line is cut as the line at a point, which isn't cut where it may be left out
abbrev pub IsCutAlike : (cut again stays : Point → Bool) → Point → Type 0
IsCutAlike cut again stays x = (again x ≡ cut x) × (stays x ≡ false → cut x ≡ false)

-- points where the line isn't cut may be passed
passed_all : (cut again stays : Point → Bool) (a : Point) (out : List Point) (b : Point) (after : List Point)
    → does_none_stay stays out ≡ true → All (IsCutAlike cut again stays) (but_last (out ++ b ∷ after))
    → (ends_from cut a (out ++ b ∷ after) ≡ ends_from cut a (b ∷ after)) × All (IsCutAlike cut again stays) (but_last (b ∷ after))
passed_all cut again stays a [] b after none alike = (refl, alike)
passed_all cut again stays a (p ∷ []) b after none alike =
    let Alike : Point → Type 0 = IsCutAlike cut again stays in (
      passed cut a p b after ((All-head Alike p (but_last (b ∷ after)) alike).1 (untested_first stays p [] none)),
      All-tail Alike p (but_last (b ∷ after)) alike,
    )
passed_all cut again stays a (p ∷ q ∷ out) b after none alike =
    let Alike : Point → Type 0 = IsCutAlike cut again stays in
    let later = passed_all cut again stays a (q ∷ out) b after (untested_rest stays p (q ∷ out) none)
    (All-tail Alike p (but_last (q ∷ (out ++ b ∷ after))) alike) in (
      passed cut a p q (out ++ b ∷ after)
          ((All-head Alike p (but_last (q ∷ (out ++ b ∷ after))) alike).1 (untested_first stays p (q ∷ out) none)) ∙ later.0,
      later.1,
    )

-- the sections of kept points have the ends of those of all points, and as few points
record EndAlike (cut again : Point → Bool) (a : Point) (points kept : List Point) : Type 0 where
  some : has_points kept ≡ has_points points
  ends : ends_from again a kept ≡ ends_from cut a points

some_points : (out : List Point) (b : Point) (after : List Point) → has_points (out ++ b ∷ after) ≡ true
some_points [] b after = refl
some_points (p ∷ out) b after = refl

-- a next point is cut alike, where one comes after it
cut_next : (cut again stays : Point → Bool) (b : Point) (after kept : List Point) → has_points kept ≡ has_points after
    → All (IsCutAlike cut again stays) (but_last (b ∷ after)) → (has_points kept && again b) ≡ (has_points after && cut b)
cut_next cut again stays b [] kept some alike = ap (λ (t : Bool). t && again b) some
cut_next cut again stays b (c ∷ after) kept some alike =
    ap₂ (λ (t u : Bool). t && u) some (All-head (IsCutAlike cut again stays) b (but_last (c ∷ after)) alike).0

later_alike : (cut again stays : Point → Bool) (b : Point) (after : List Point) → All (IsCutAlike cut again stays) (but_last (b ∷ after))
    → All (IsCutAlike cut again stays) (but_last after)
later_alike cut again stays b [] alike = alike
later_alike cut again stays b (c ∷ after) alike = All-tail (IsCutAlike cut again stays) b (but_last (c ∷ after)) alike

same_ends_after : (cut again stays : Point → Bool) (rule : SpacingRule) (a : Point) (points : List Point)
    → All (IsCutAlike cut again stays) (but_last points) → EndAlike cut again a points (kept_after stays rule a points)
same_ends_after cut again stays rule =
    of_kept stays rule (λ a points kept. All (IsCutAlike cut again stays) (but_last points) → EndAlike cut again a points kept)
    (λ a alike. record { some = refl; ends = refl })
    (λ a b out after kept may is alike.
    let all = passed_all cut again stays a out b after (untested stays rule a out b may) alike in
    let later = is (later_alike cut again stays b after all.1) in
    record {
      some = sym (some_points out b after);
      ends = ends_step again a b kept
          ∙ (ap₂ (λ (c : Bool) (es : List (List Point)). ends_joined c a b es)
          (cut_next cut again stays b after kept later.some all.1) later.ends
          ∙ (sym (ends_step cut a b after) ∙ sym all.0));
    })

-- The sections of a spaced line have the ends of those of the line.
pub same_ends : (cut again stays : Point → Bool) (rule : SpacingRule) (points : List Point)
    → All (IsCutAlike cut again stays) (inner_points points)
    → map (λ (s : List Point). endpoints s) (sections_of again (spaced_points stays rule points))
    ≡ map (λ (s : List Point). endpoints s) (sections_of cut points)
same_ends cut again stays rule [] alike = refl
same_ends cut again stays rule (a ∷ points) alike = (same_ends_after cut again stays rule a points alike).ends
