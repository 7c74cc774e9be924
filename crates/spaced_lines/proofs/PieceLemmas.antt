-- The pieces of a drawing depend on the blocks and the ends of its lines alone.
use Rattle.std.proofs.Common.{◌≡◌, ◌∙◌, ℕ, ◌==◌, ◌<◌, Bool, false, ◌&&◌, List, [], ◌∷◌, Option, Some, length, map, slice_get, All, ap, sym, arith}
use Rattle.std.proofs.lemmas.Option.{slice_get-map}
use Rattle.std.specs.Prelude.{option_map}
use Rattle.spaced_lines.proofs.Names.{nat_tests, ap₂, length-map, All-weaker, Point, DrawingValue, end_spots, Spot, LineValue, all_sections, spaced_lines, concat, PiecesStay}
use Rattle.line_graph.specs.Pieces.{AreConnected, ArePieces, IsPathOfLines, LinesTouch, first_line, shares_point, touches}
use Rattle.spaced_lines.proofs.KeptSectionLemmas.{sections_keep_ends}

-- a line of which the ends are known
ends_back : (o : Option LineValue) (ends : List Spot) → option_map end_spots o ≡ Some ends
    → (line : LineValue) × (o ≡ Some line) × (end_spots line ≡ ends)
ends_back o ends h1 = grind (arith, nat_tests)

line_with : (xs ys : List LineValue) → map end_spots xs ≡ map end_spots ys → (i : ℕ) (line : LineValue)
    → slice_get xs i ≡ Some line → (other : LineValue) × (slice_get ys i ≡ Some other) × (end_spots other ≡ end_spots line)
line_with xs ys same i line is = ends_back (slice_get ys i) (end_spots line)
    (sym (slice_get-map end_spots ys i) ∙ (ap (λ (ends : List (List Spot)). slice_get ends i) (sym same)
    ∙ (slice_get-map end_spots xs i ∙ ap (λ (o : Option LineValue). option_map end_spots o) is)))

abbrev points_at : List Spot → List Point
points_at spots = map (λ (s : Spot). s.at) spots

-- lines touch, by their ends
abbrev spots_touch : List Spot → List Spot → Bool
spots_touch [] qs = false
spots_touch (p ∷ ps) [] = false
spots_touch (p ∷ ps) (q ∷ qs) = (p.block == q.block) && shares_point (points_at (p ∷ ps)) (points_at (q ∷ qs))

touch_by_spots : (a b : LineValue) → touches a b ≡ spots_touch (end_spots a) (end_spots b)
touch_by_spots a b = grind (arith, nat_tests)

touch_alike : (d e : DrawingValue) → map end_spots d.lines ≡ map end_spots e.lines → (i j : ℕ) → LinesTouch d i j → LinesTouch e i j
touch_alike d e same i j is =
    let one = line_with d.lines e.lines same i is.one is.one_is in
    let other = line_with d.lines e.lines same j is.other is.other_is in
    record {
      one = one.0;
      other = other.0;
      one_is = one.1;
      other_is = other.1;
      touch = touch_by_spots one.0 other.0
          ∙ (ap₂ (λ (ps qs : List Spot). spots_touch ps qs) one.2 other.2 ∙ (sym (touch_by_spots is.one is.other) ∙ is.touch));
    }

path_alike : (d e : DrawingValue) → map end_spots d.lines ≡ map end_spots e.lines → (i : ℕ) (chain : List ℕ) (j : ℕ)
    → IsPathOfLines d i chain j → IsPathOfLines e i chain j
path_alike d e same i [] j is = is
path_alike d e same i (k ∷ rest) j (touch, later) = (touch_alike d e same i k touch, path_alike d e same k rest j later)

connected_alike : (d e : DrawingValue) → map end_spots d.lines ≡ map end_spots e.lines → (i j : ℕ) → AreConnected d i j → AreConnected e i j
connected_alike d e same i j (chain, path) = (chain, path_alike d e same i chain j path)

as_many : (xs ys : List LineValue) → map end_spots xs ≡ map end_spots ys → length xs ≡ length ys
as_many xs ys same = sym (length-map xs end_spots) ∙ (ap (λ (ends : List (List Spot)). length ends) same ∙ length-map ys end_spots)

pieces_alike : (d e : DrawingValue) → map end_spots d.lines ≡ map end_spots e.lines → (pieces : List (List ℕ)) → ArePieces d pieces
    → ArePieces e pieces
pieces_alike d e same pieces are = record {
  filled = are.filled;
  there = All-weaker (λ (line : ℕ). line < length d.lines) (λ (line : ℕ). line < length e.lines)
      (λ line less. omega (arith, less, as_many d.lines e.lines same)) (concat pieces) are.there;
  covered = λ line less. are.covered line (omega (arith, less, as_many d.lines e.lines same));
  joined = All-weaker (λ (piece : List ℕ). All (AreConnected d (first_line piece)) piece)
      (λ (piece : List ℕ). All (AreConnected e (first_line piece)) piece)
      (λ piece all. All-weaker (AreConnected d (first_line piece)) (AreConnected e (first_line piece))
      (λ line connected. connected_alike d e same (first_line piece) line connected) piece all) pieces are.joined;
  apart = λ i j x less below connected. are.apart i j x less below (connected_alike e d (sym same) _ _ connected);
  rising = are.rising;
  ordered = are.ordered;
}

-- The pieces of a spaced drawing are those of the drawing.
pub pieces_stay : PiecesStay
pieces_stay rule d pieces are = pieces_alike (record d { lines = all_sections d.lines })
    (record d { lines = all_sections (spaced_lines rule d.lines) }) (sym (sections_keep_ends rule d.lines)) pieces are
