-- A drawing is joined exactly where it has as many sections as lines.
use Rattle.std.proofs.Common.{◌≡◌, ◌≢◌, ◌≤◌, ◌==◌, ◌+◌, ℕ, Bool, true, false, List, [], ◌∷◌, ◌++◌, All, ◌&&◌, cond, length, refl, sym, ap, ◌∙◌, arith}
use Rattle.std.proofs.lemmas.Bool.{both_ways}
use Rattle.std.proofs.lemmas.Bool.Decides.{nat_tests}
use Rattle.std.proofs.lemmas.List.Concat.{flat_map-cons}
use Rattle.std.proofs.lemmas.List.{length-append, length-map}
use Rattle.std.proofs.lemmas.List.Elements.{All-head, All-tail, All-weaker}
use Rattle.std.specs.List.{flat_map}
use Rattle.drawing_commands.proofs.Names.{DrawingValue}
use Rattle.design_model.specs.declared.point.Point.{Point}
use Rattle.line_graph.specs.Drawings.{IsLine, KeepsDrawingLimits}
use Rattle.line_graph.specs.JoinedDrawings.{is_joined}
use Rattle.line_sections.specs.Lines.{LineValue}
use Rattle.line_sections.specs.Sections.{SectionsAreWhole, WholeLinesStay, all_sections, are_whole_lines, has_points, is_shared_point, line_sections, lines_through, sections_from, sections_of, sections_with_first}

-- a line of a block
abbrev line_of : ℕ → List Point → LineValue
line_of block points = record { block = block; points = points }

-- The sections of a line that is cut nowhere.
module _ (is_cut : Point → Bool) where
  -- one more point before the first section adds no section
  with_first_length : (p : Point) (sections : List (List Point)) → 1 ≤ length sections
      → length (sections_with_first p sections) ≡ length sections
  with_first_length p [] some = absurd (omega (arith, some))
  with_first_length p (section ∷ rest) some = refl

  -- a line has a section
  some_sections : (p : Point) (rest : List Point) → 1 ≤ length (sections_from is_cut p rest)
  some_sections p [] = omega arith
  some_sections p (q ∷ rest) = by_test (some_sections q rest) (has_points rest && is_cut q)
    where
      behind : List (List Point)
      behind = sections_from is_cut q rest

      by_test : 1 ≤ length behind → (t : Bool) → 1 ≤ length (cond t ((p ∷ q ∷ []) ∷ behind) (sections_with_first p behind))
      by_test some true = omega arith
      by_test some false = omega (arith, some, with_first_length p behind some)

  -- a line with one section is that section
  one_section : (p : Point) (rest : List Point) → length (sections_from is_cut p rest) ≤ 1
      → sections_from is_cut p rest ≡ (p ∷ rest) ∷ []
  one_section p [] few = refl
  one_section p (q ∷ rest) few = by_test (one_section q rest) (has_points rest && is_cut q) few
    where
      behind : List (List Point)
      behind = sections_from is_cut q rest

      by_test : (length behind ≤ 1 → behind ≡ (q ∷ rest) ∷ []) → (t : Bool)
          → length (cond t ((p ∷ q ∷ []) ∷ behind) (sections_with_first p behind)) ≤ 1
          → cond t ((p ∷ q ∷ []) ∷ behind) (sections_with_first p behind) ≡ (p ∷ q ∷ rest) ∷ []
      by_test one true few = absurd (omega (arith, few, some_sections q rest))
      by_test one false few = ap (sections_with_first p)
          (one (omega (arith, few, with_first_length p behind (some_sections q rest))))

-- Lines that are cut at the shared points of all lines.
module _ (all : List LineValue) where
  -- the sections of a line of a block
  abbrev parts : ℕ → List Point → List LineValue
  parts block points = lines_through block (sections_of (is_shared_point all block) points)

  parts_some : (block : ℕ) (points : List Point) → 1 ≤ length points → 1 ≤ length (parts block points)
  parts_some block [] some = absurd (omega (arith, some))
  parts_some block (p ∷ rest) some = omega (
    arith,
    length-map (sections_from (is_shared_point all block) p rest) (λ points. line_of block points),
    some_sections (is_shared_point all block) p rest,
  )

  parts_stay : (block : ℕ) (points : List Point) → 1 ≤ length points → length (parts block points) ≤ 1
      → parts block points ≡ line_of block points ∷ []
  parts_stay block [] some few = absurd (omega (arith, some))
  parts_stay block (p ∷ rest) some few = ap (lines_through block) (one_section (is_shared_point all block) p rest (omega (
    arith,
    few,
    length-map (sections_from (is_shared_point all block) p rest) (λ points. line_of block points),
  )))

  -- the sections of one more line
  length-flat_cons : (line : LineValue) (rest : List LineValue) → length (flat_map (line_sections all) (line ∷ rest))
      ≡ length (parts line.block line.points) + length (flat_map (line_sections all) rest)
  length-flat_cons line rest = ap (λ (ls : List LineValue). length ls) (flat_map-cons (line_sections all) line rest)
      ∙ length-append (line_sections all line) (flat_map (line_sections all) rest)

  -- the sections of lines are as many as the lines, or more
  sections_many : (lines : List LineValue) → All (λ line. 1 ≤ length line.points) lines
      → length lines ≤ length (flat_map (line_sections all) lines)
  sections_many [] have = omega arith
  sections_many (line ∷ rest) have = omega (
    arith,
    length-flat_cons line rest,
    parts_some line.block line.points (All-head (λ (line : LineValue). 1 ≤ length line.points) line rest have),
    sections_many rest (All-tail (λ (line : LineValue). 1 ≤ length line.points) line rest have),
  )

  -- lines with no more sections than lines are their own sections
  lines_stay : (lines : List LineValue) → All (λ line. 1 ≤ length line.points) lines
      → length (flat_map (line_sections all) lines) ≤ length lines → flat_map (line_sections all) lines ≡ lines
  lines_stay [] have few = refl
  lines_stay (line ∷ rest) have few =
      let some : 1 ≤ length line.points = All-head (λ (line : LineValue). 1 ≤ length line.points) line rest have in
      let more : All (λ (line : LineValue). 1 ≤ length line.points) rest =
      All-tail (λ (line : LineValue). 1 ≤ length line.points) line rest have in
      let here : parts line.block line.points ≡ line ∷ [] = parts_stay line.block line.points some
      (omega (arith, few, length-flat_cons line rest, sections_many rest more)) in
      let later : flat_map (line_sections all) rest ≡ rest = lines_stay rest more
      (omega (arith, few, length-flat_cons line rest, parts_some line.block line.points some)) in
      flat_map-cons (line_sections all) line rest ∙ (ap (λ (ls : List LineValue). ls ++ flat_map (line_sections all) rest) here
      ∙ ap (λ (ls : List LineValue). line ∷ ls) later)

-- A drawing is joined exactly where it has as many sections as lines.
pub joined_by_count : (d : DrawingValue) → KeepsDrawingLimits d → WholeLinesStay → SectionsAreWhole
    → (length (all_sections d.lines) == length d.lines) ≡ is_joined d
joined_by_count d keeps stay whole = by_test (are_whole_lines d.lines) refl
  where
    have : All (λ (line : LineValue). 1 ≤ length line.points) d.lines
    have = All-weaker (λ (line : LineValue). IsLine line.points) (λ (line : LineValue). 1 ≤ length line.points)
        (λ line is. omega (arith, is.long)) d.lines keeps.lines

    joined : length (all_sections d.lines) ≤ length d.lines → are_whole_lines d.lines ≡ true
    joined few = ap are_whole_lines (sym (lines_stay d.lines d.lines have few)) ∙ whole d.lines

    by_test : (t : Bool) → are_whole_lines d.lines ≡ t → (length (all_sections d.lines) == length d.lines) ≡ t
    by_test true is =
        let same : length (all_sections d.lines) ≡ length d.lines = ap (λ (ls : List LineValue). length ls) (stay d.lines have is) in
        grind (arith, nat_tests)
    by_test false is =
        let other : length (all_sections d.lines) ≢ length d.lines =
        λ same. both_ways (are_whole_lines d.lines) is (joined (omega (arith, same))) in
        grind (arith, nat_tests)
