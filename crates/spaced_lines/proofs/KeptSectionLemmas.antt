-- The sections of spaced lines have the ends of the sections of the lines.
use Rattle.std.proofs.Common.{◌≡◌, ◌∙◌, ℕ, Bool, true, false, List, [], ◌∷◌, ◌++◌, map, All, refl, ap, sym, arith}
use Rattle.spaced_lines.proofs.Names.{nat_tests, ap₂, All-head, All-tail, flat_map, Point, endpoints, end_spots, is_junction, Spot, LineValue, all_sections, inner_points, is_shared_point, line_sections, lines_through, sections_of, is_spot_of, spaced_line, spaced_lines, spaced_points, SectionsKeepEnds, SpacingRule, map-append}
use Rattle.spaced_lines.proofs.KeptCountLemmas.{shared_same, unshared_still}
use Rattle.spaced_lines.proofs.KeptEndLemmas.{IsCutAlike, same_ends}
use Rattle.spaced_lines.proofs.SharedLemmas.{shared_are_junctions}

-- the spots of a block at points
abbrev spots_at : ℕ → List Point → List Spot
spots_at block points = map (λ (p : Point). record { block = block; at = p }) points

through_ends : (block : ℕ) (sections : List (List Point))
    → map end_spots (lines_through block sections) ≡ map (spots_at block) (map (λ (s : List Point). endpoints s) sections)
through_ends block [] = refl
through_ends block (section ∷ rest) =
    ap (λ (more : List (List Spot)). spots_at block (endpoints section) ∷ more) (through_ends block rest)

-- shared points stay, staying points are shared as before, and others aren't shared afterwards: then a spaced line is cut alike
alike_by : (cut again stays : Point → Bool) (x : Point) (s c : Bool) → stays x ≡ s → cut x ≡ c → (c ≡ true → s ≡ true)
    → (stays x ≡ true → again x ≡ cut x) → (cut x ≡ false → again x ≡ false) → IsCutAlike cut again stays x
alike_by cut again stays x s c h1 h2 h3 h4 h5 = grind (arith, nat_tests)

-- the points inside a line that are shared stay
abbrev KeepsShared : List LineValue → LineValue → Type 0
KeepsShared lines line = All (λ p. is_shared_point lines line.block p ≡ true
    → is_spot_of (is_junction (all_sections lines)) line.block p ≡ true) (inner_points line.points)

line_alike : (rule : SpacingRule) (lines : List LineValue) (line : LineValue) → KeepsShared lines line
    → All (IsCutAlike (is_shared_point lines line.block) (is_shared_point (spaced_lines rule lines) line.block)
    (is_spot_of (is_junction (all_sections lines)) line.block)) (inner_points line.points)
line_alike rule lines line keeps k d less =
    alike_by (is_shared_point lines line.block) (is_shared_point (spaced_lines rule lines) line.block)
    (is_spot_of (is_junction (all_sections lines)) line.block) _ _ _ refl refl (keeps k d less)
    (shared_same (is_junction (all_sections lines)) rule line.block lines _)
    (unshared_still (is_junction (all_sections lines)) rule line.block lines _)

line_ends : (rule : SpacingRule) (lines : List LineValue) (line : LineValue) → KeepsShared lines line
    → map end_spots (line_sections (spaced_lines rule lines) (spaced_line (is_junction (all_sections lines)) rule line))
    ≡ map end_spots (line_sections lines line)
line_ends rule lines line keeps =
    through_ends line.block
    (sections_of (is_shared_point (spaced_lines rule lines) line.block)
    (spaced_points (is_spot_of (is_junction (all_sections lines)) line.block) rule line.points))
    ∙ (ap (λ (ends : List (List Point)). map (spots_at line.block) ends)
    (same_ends (is_shared_point lines line.block) (is_shared_point (spaced_lines rule lines) line.block)
    (is_spot_of (is_junction (all_sections lines)) line.block) rule line.points (line_alike rule lines line keeps))
    ∙ sym (through_ends line.block (sections_of (is_shared_point lines line.block) line.points)))

some_ends : (rule : SpacingRule) (lines some : List LineValue) → All (KeepsShared lines) some
    → map end_spots (flat_map (line_sections (spaced_lines rule lines)) (map (spaced_line (is_junction (all_sections lines)) rule) some))
    ≡ map end_spots (flat_map (line_sections lines) some)
some_ends rule lines [] keep = refl
some_ends rule lines (line ∷ rest) keep =
    map-append end_spots (line_sections (spaced_lines rule lines) (spaced_line (is_junction (all_sections lines)) rule line))
    (flat_map (line_sections (spaced_lines rule lines)) (map (spaced_line (is_junction (all_sections lines)) rule) rest))
    ∙ (ap₂ (λ (xs ys : List (List Spot)). xs ++ ys) (line_ends rule lines line (All-head (KeepsShared lines) line rest keep))
    (some_ends rule lines rest (All-tail (KeepsShared lines) line rest keep))
    ∙ sym (map-append end_spots (line_sections lines line) (flat_map (line_sections lines) rest)))

-- The sections of spaced lines have the ends of those of the lines.
pub sections_keep_ends : SectionsKeepEnds
sections_keep_ends rule lines = some_ends rule lines lines (shared_are_junctions lines)
