-- Lines that are drawn in the order of their blocks, and of which none is cut, are the lines of the drawing.
use Rattle.std.proofs.Common.{◌≡◌, ◌∙◌, ◌==◌, ◌<◌, ◌≤◌, ℕ, Bool, true, false, ◌&&◌, List, [], ◌∷◌, ◌++◌, length, map, slice_get, Option, Some, None, Result, Ok, Err, if◌then◌else◌, nat_lt, All, refl, ap, sym, subst, arith}
use Rattle.std.proofs.lemmas.List.Elements.{All-append, All-cons, All-head, All-nil, All-tail}
use Rattle.std.proofs.lemmas.List.{length-append}
use Rattle.std.proofs.lemmas.List.Concat.{flat_map-cons}
use Rattle.std.proofs.lemmas.List.Sorted.{IsPermutation-refl}
use Rattle.std.specs.List.{flat_map}
use Rattle.design_model.proofs.ListLemmas.{same_number}
use Rattle.drawing_edits.proofs.CallerLemmas.{joined_with}
use Rattle.drawing_edits.specs.RedrawnDrawings.{drawn_lines, with_starts_and_ends}
use Rattle.drawing_edits.specs.ValidRedraws.{LinesInOrderAreDrawn}
use Rattle.line_graph.specs.ConnectedSpots.{SpotsAreConnected}
use Rattle.line_graph.specs.declared.draw_kind.DrawKind.{DrawKind}
use Rattle.line_graph.specs.declared.draw_kind.DrawKind.TheVariants as kind
use Rattle.line_graph.specs.declared.limits.TheConstants.{MAX_LINES, MAX_POINTS}
use Rattle.line_graph.specs.GrowingDrawings.{and_then, point_count}
use Rattle.line_graph.specs.JoinedDrawings.{joined_drawing}
use Rattle.line_graph.specs.PiecesOfDrawings.{ArePiecesOf, lines_of_pieces}
use Rattle.line_sections.specs.Sections.{all_sections, has_points, is_shared_point, line_sections, lines_through, sections_from, sections_of, sections_with_first}
use Rattle.near_pieces.proofs.Names.{nat_tests, and_parts, get_or_from_slice_get, length-map, slice_get_within, Point, DrawingValue, Spot, LineValue, Piece, IsFoundFrom, IsLesser, are_in_order, if_there, lines_numbered, rises_from}
use Rattle.near_pieces.proofs.PieceOrderLemmas.{near_lines_are_numbered, near_pieces_stay}
use Rattle.near_pieces.proofs.RunLemmas.{rising_in_order}
use Rattle.near_pieces.specs.NearDrawings.{are_drawn_whole, drawn_with}
use Rattle.near_pieces.specs.NearPieceLaws.{KeepsPieces, NearDrawingsKeepPieces}

-- Points of which one section is made are that section.
module _ (is_cut : Point → Bool) where
  some_from : (p : Point) (rest : List Point) → 1 ≤ length (sections_from is_cut p rest)
  some_from p [] = omega arith
  some_from p (q ∷ rest) = by_test (has_points rest && is_cut q) (sections_from is_cut q rest) where
    by_test : (t : Bool) (behind : List (List Point))
        → 1 ≤ length (if t then (p ∷ q ∷ []) ∷ behind else sections_with_first p behind)
    by_test true behind = omega arith
    by_test false [] = omega arith
    by_test false (section ∷ more) = omega arith

  one_from : (p : Point) (rest : List Point) → length (sections_from is_cut p rest) ≡ 1 → sections_from is_cut p rest ≡ (p ∷ rest) ∷ []
  one_from p [] one = refl
  one_from p (q ∷ rest) one = by_test (has_points rest && is_cut q) (sections_from is_cut q rest) (some_from q rest)
      (one_from q rest) one where
        by_test : (t : Bool) (behind : List (List Point)) → 1 ≤ length behind → (length behind ≡ 1 → behind ≡ (q ∷ rest) ∷ [])
            → length (if t then (p ∷ q ∷ []) ∷ behind else sections_with_first p behind) ≡ 1
            → (if t then (p ∷ q ∷ []) ∷ behind else sections_with_first p behind) ≡ (p ∷ q ∷ rest) ∷ []
        by_test true behind some is one = absurd (omega (arith, some, one))
        by_test false [] some is one = absurd (omega (arith, some))
        by_test false (section ∷ more) some is one = ap (sections_with_first p) (is one)

  some_of : (points : List Point) → 1 ≤ length points → 1 ≤ length (sections_of is_cut points)
  some_of [] there = absurd (omega (arith, there))
  some_of (p ∷ rest) there = some_from p rest

  one_of : (points : List Point) → length (sections_of is_cut points) ≡ 1 → sections_of is_cut points ≡ points ∷ []
  one_of [] one = absurd (omega (arith, one))
  one_of (p ∷ rest) one = one_from p rest one

-- Lines with as many sections as there are lines are their own sections.
module _ (lines : List LineValue) where
  abbrev of_line : LineValue → List LineValue
  of_line = line_sections lines

  section_count : (line : LineValue) → length (of_line line) ≡ length (sections_of (is_shared_point lines line.block) line.points)
  section_count line = length-map (sections_of (is_shared_point lines line.block) line.points) _

  own_section : (line : LineValue) → length (of_line line) ≡ 1 → of_line line ≡ line ∷ []
  own_section line one = ap (lines_through line.block) (one_of (is_shared_point lines line.block) line.points
      (sym (section_count line) ∙ one))

  at_least : (some : List LineValue) → All (λ line. 1 ≤ length line.points) some → length some ≤ length (flat_map of_line some)
  at_least [] there = omega arith
  at_least (line ∷ rest) there =
      let first = some_of (is_shared_point lines line.block) line.points (All-head (λ line. 1 ≤ length line.points) line rest there) in
      omega (
        arith,
        section_count line,
        first,
        ap length (flat_map-cons of_line line rest),
        length-append (of_line line) (flat_map of_line rest),
        at_least rest (All-tail (λ line. 1 ≤ length line.points) line rest there),
      )

  own_sections : (some : List LineValue) → All (λ line. 1 ≤ length line.points) some → length (flat_map of_line some) ≡ length some
      → flat_map of_line some ≡ some
  own_sections [] there same = refl
  own_sections (line ∷ rest) there same =
      let later = All-tail (λ line. 1 ≤ length line.points) line rest there in
      let first = some_of (is_shared_point lines line.block) line.points (All-head (λ line. 1 ≤ length line.points) line rest there) in
      let split = ap length (flat_map-cons of_line line rest) ∙ length-append (of_line line) (flat_map of_line rest) in
      flat_map-cons of_line line rest
      ∙ (ap (λ ls. ls ++ flat_map of_line rest) (own_section line
      (omega (arith, section_count line, first, split, same, at_least rest later)))
      ∙ ap (λ ls. line ∷ ls) (own_sections rest later
      (omega (arith, section_count line, first, split, same, at_least rest later))))

-- What holds of all lines holds of those with some indexes.
all_numbered : (P : LineValue → Type 0) (lines : List LineValue) (some : List ℕ) → All P lines → All P (lines_numbered lines some)
all_numbered P lines [] all = All-nil P
all_numbered P lines (i ∷ some) all =
    All-append P (if_there (slice_get lines i)) (lines_numbered lines some) (one (slice_get lines i) refl) (all_numbered P lines some all)
  where
    one : (o : Option LineValue) → slice_get lines i ≡ o → All P (if_there o)
    one None is = All-nil P
    one (Some line) is =
        let below = slice_get_within lines i line is in
        All-cons P line [] (subst P (get_or_from_slice_get lines i line line is) (all i line below)) (All-nil P)

-- A joined drawing has the sections of the lines.
joined_lines : (e new : DrawingValue) → joined_drawing e ≡ Ok new → new.lines ≡ all_sections e.lines
joined_lines e new is = by_tests (nat_lt MAX_LINES (length (all_sections e.lines)))
    (nat_lt MAX_POINTS (point_count (all_sections e.lines))) is where
      by_tests : (s t : Bool) → (if s then Err kind.TooManyLines else (if t then Err kind.TooManyPoints
          else Ok (record e { lines = all_sections e.lines }))) ≡ Ok new → new.lines ≡ all_sections e.lines
      by_tests s t h1 = grind (arith, nat_tests)

-- Lines that are drawn whole are those of the new drawing.
drawn_whole : LinesInOrderAreDrawn → (d new : DrawingValue) (lines : List LineValue) (starts : List Spot)
    → All (λ line. line.block < length d.threads) lines → All (λ line. 1 ≤ length line.points) lines
    → drawn_with d lines starts ≡ Ok new → are_drawn_whole lines new ≡ true → new.lines ≡ lines
drawn_whole theorem d new lines starts below there is whole = by (drawn_lines given) refl is where
  given : DrawingValue
  given = record d { lines = lines }

  by : (r : Result DrawingValue DrawKind) → drawn_lines given ≡ r
      → and_then r (λ drawn. and_then (joined_drawing drawn) (λ joined. with_starts_and_ends joined starts d.ends)) ≡ Ok new
      → new.lines ≡ lines
  by (Err why) at is = absurd (no is) where
    no : Err why ≡ Ok new → ⊥
    no same = cc
  by (Ok drawn) at is =
      let parts = and_parts (rises_from 0 (map (λ (line : LineValue). line.block) lines)) (length new.lines == length lines) whole in
      let drawn_is : drawn ≡ record given { starts = []; ends = [] } =
      theorem given drawn (rising_in_order 0 (map (λ (line : LineValue). line.block) lines) parts.0) below at in
      let joined = joined_with drawn new starts d.ends (record {
        starts = ap (λ (e : DrawingValue). e.starts) drawn_is;
        ends = ap (λ (e : DrawingValue). e.ends) drawn_is;
      }) is in
      let sections : new.lines ≡ all_sections lines =
      joined_lines (record drawn { starts = new.starts; ends = new.ends }) new joined.whole
      ∙ ap (λ (e : DrawingValue). all_sections e.lines) drawn_is in
      sections ∙ own_sections lines lines there (ap length (sym sections) ∙ same_number (length new.lines) (length lines) parts.1)

-- The lines of a drawing are those of its pieces.
own_pieces : (d : DrawingValue) (pieces : List Piece) → ArePiecesOf d pieces → KeepsPieces d (lines_of_pieces pieces) d.lines
own_pieces d pieces are = record {
  order = lines_of_pieces pieces;
  each = IsPermutation-refl (lines_of_pieces pieces);
  new_pieces = lines_of_pieces pieces;
  pieces_are = are.are;
  same = refl;
}

-- A near drawing has the lines of the drawing, or near lines.
pub near_drawings_keep_pieces : LinesInOrderAreDrawn → SpotsAreConnected → NearDrawingsKeepPieces
near_drawings_keep_pieces theorem connected d found limits near = by (drawn_with d near.lines near.starts) refl near.drawn where
  stay : KeepsPieces d (lines_of_pieces near.pieces) near.lines
  stay = near_pieces_stay connected d near.pieces near.lines near.starts limits near.pieces_are near.near

  own : found.drawing ≡ d → KeepsPieces d (lines_of_pieces near.pieces) found.drawing.lines
  own is = subst (λ (e : DrawingValue). KeepsPieces d (lines_of_pieces near.pieces) e.lines) (sym is)
      (own_pieces d near.pieces near.pieces_are)

  each : (P : LineValue → Type 0) → All P d.lines → All P near.lines
  each P all =
      let some = near_lines_are_numbered d.lines near.pieces near.lines near.starts near.near in
      subst (All P) (sym some.1) (all_numbered P d.lines some.0 all)

  new_lines : (new : DrawingValue) → drawn_with d near.lines near.starts ≡ Ok new → are_drawn_whole near.lines new ≡ true
      → new.lines ≡ near.lines
  new_lines new is whole = drawn_whole theorem d new near.lines near.starts
      (each (λ line. line.block < length d.threads) limits.there)
      (each (λ line. 1 ≤ length line.points) (λ k e less. let long = (limits.lines k e less).long in omega (arith, long))) is whole

  by_tests : (new : DrawingValue) (after : ℕ) (s t : Bool) → drawn_with d near.lines near.starts ≡ Ok new
      → are_drawn_whole near.lines new ≡ s → IsLesser d new found.before after (s && t) found
      → KeepsPieces d (lines_of_pieces near.pieces) found.drawing.lines
  by_tests new after false t is whole lesser = own lesser.0
  by_tests new after true false is whole lesser = own lesser.0
  by_tests new after true true is whole lesser = subst (KeepsPieces d (lines_of_pieces near.pieces))
      (sym (ap (λ (e : DrawingValue). e.lines) lesser.0 ∙ new_lines new is whole)) stay

  by : (r : Result DrawingValue DrawKind) → drawn_with d near.lines near.starts ≡ r → IsFoundFrom d near.lines r found
      → KeepsPieces d (lines_of_pieces near.pieces) found.drawing.lines
  by (Err why) is from = own from.0
  by (Ok new) is (after, has, lesser) = by_tests new after (are_drawn_whole near.lines new)
      (are_in_order new.starts && nat_lt after found.before) is refl lesser
