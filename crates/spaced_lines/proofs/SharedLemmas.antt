-- A shared point inside a line is the last point of a section.
use Rattle.std.proofs.Common.{◌≡◌, ◌∙◌, ℕ, Bool, true, false, List, [], ◌∷◌, map, All, if◌then◌else◌, refl, arith}
use Rattle.spaced_lines.proofs.Names.{nat_tests, All-cons, All-nil, flat_map, list_any, Point, is_same_point, has_end_at_spot, LineValue, but_last, inner_points, is_shared_point, line_sections, lines_through, sections_from, sections_of, sections_with_first, last_point_or, or_left, or_right, list_any-append, SharedPointsAreJunctions, either_way}

-- a section ends at a point
abbrev ends_last : Point → List Point → Bool
ends_last p [] = false
ends_last p (x ∷ rest) = is_same_point p (last_point_or x rest)

cut_or_not : (p a q : Point) (behind : List (List Point)) (cut : Bool) → list_any (ends_last p) behind ≡ true
    → list_any (ends_last p) (if cut then (a ∷ q ∷ []) ∷ behind else sections_with_first a behind) ≡ true
cut_or_not p a q behind cut h1 = grind (arith, nat_tests)

cut_here : (p a q : Point) (behind : List (List Point)) (cut : Bool) → cut ≡ true → p ≡ q
    → list_any (ends_last p) (if cut then (a ∷ q ∷ []) ∷ behind else sections_with_first a behind) ≡ true
cut_here p a q behind cut h1 h2 = grind (arith, nat_tests)

-- a section ends at each point inside a line where the line is cut
cut_points : (cut : Point → Bool) (a : Point) (rest : List Point)
    → All (λ p. cut p ≡ true → list_any (ends_last p) (sections_from cut a rest) ≡ true) (but_last rest)
cut_points cut a [] = All-nil (λ (p : Point). cut p ≡ true → list_any (ends_last p) (sections_from cut a []) ≡ true)
cut_points cut a (q ∷ []) = All-nil (λ (p : Point). cut p ≡ true → list_any (ends_last p) (sections_from cut a (q ∷ [])) ≡ true)
cut_points cut a (q ∷ r ∷ rest) =
    All-cons (λ (p : Point). cut p ≡ true → list_any (ends_last p) (sections_from cut a (q ∷ r ∷ rest)) ≡ true) q (but_last (r ∷ rest))
    (λ is. cut_here q a q (sections_from cut q (r ∷ rest)) (cut q) is refl)
    (λ k d less is. cut_or_not _ a q (sections_from cut q (r ∷ rest)) (cut q) (cut_points cut q (r ∷ rest) k d less is))

cut_inside : (cut : Point → Bool) (points : List Point)
    → All (λ p. cut p ≡ true → list_any (ends_last p) (sections_of cut points) ≡ true) (inner_points points)
cut_inside cut [] = All-nil (λ (p : Point). cut p ≡ true → list_any (ends_last p) (sections_of cut []) ≡ true)
cut_inside cut (a ∷ rest) = cut_points cut a rest

any_mapped : {A B : Type 0} (f : A → Bool) (g : B → Bool) (h : A → B) (xs : List A) → ((x : A) → f x ≡ true → g (h x) ≡ true)
    → list_any f xs ≡ true → list_any g (map h xs) ≡ true
any_mapped f g h [] each any = any
any_mapped f g h (x ∷ xs) each any =
    either_way (f x) (list_any f xs) (g (h x)) (list_any g (map h xs)) (each x) (any_mapped f g h xs each) any

-- a section that ends at a point has an end there
last_is_end : (block : ℕ) (p : Point) (section : List Point) → ends_last p section ≡ true
    → has_end_at_spot (record { block = block; at = p }) (record { block = block; points = section }) ≡ true
last_is_end block p section h1 = grind (arith, nat_tests)

-- the points inside a line where it is cut are ends of its sections
cut_are_ends : (cut : Point → Bool) (line : LineValue)
    → All (λ p. cut p ≡ true
    → list_any (has_end_at_spot (record { block = line.block; at = p })) (lines_through line.block (sections_of cut line.points)) ≡ true)
    (inner_points line.points)
cut_are_ends cut line k d less is =
    any_mapped (ends_last _) (has_end_at_spot (record { block = line.block; at = _ }))
    (λ (points : List Point). record { block = line.block; points = points }) (sections_of cut line.points)
    (last_is_end line.block _) (cut_inside cut line.points k d less is)

-- the shared points inside some lines are ends of their sections
shared_among : (all some : List LineValue)
    → All (λ line. All (λ p. is_shared_point all line.block p ≡ true
    → list_any (has_end_at_spot (record { block = line.block; at = p })) (flat_map (line_sections all) some) ≡ true)
    (inner_points line.points)) some
shared_among all [] = All-nil (λ (line : LineValue). All (λ p. is_shared_point all line.block p ≡ true
    → list_any (has_end_at_spot (record { block = line.block; at = p })) (flat_map (line_sections all) []) ≡ true)
    (inner_points line.points))
shared_among all (line ∷ rest) =
    All-cons (λ (one : LineValue). All (λ p. is_shared_point all one.block p ≡ true
    → list_any (has_end_at_spot (record { block = one.block; at = p })) (flat_map (line_sections all) (line ∷ rest)) ≡ true)
    (inner_points one.points)) line rest
    (λ k d less is. list_any-append _ (line_sections all line) (flat_map (line_sections all) rest)
    ∙ or_left _ _ (cut_are_ends (is_shared_point all line.block) line k d less is))
    (λ i e before k d less is. list_any-append _ (line_sections all line) (flat_map (line_sections all) rest)
    ∙ or_right _ _ (shared_among all rest i e before k d less is))

-- A shared point inside a line is a junction.
pub shared_are_junctions : SharedPointsAreJunctions
shared_are_junctions lines = shared_among lines lines
