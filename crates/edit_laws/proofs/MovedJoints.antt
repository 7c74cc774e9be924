-- Whole lines, junctions and connected spots of a moved drawing. The map of points keeps whether two points are equal.
use Rattle.std.proofs.Common.{◌≡◌, ◌∙◌, ℕ, ◌<◌, ◌+◌, ◌==◌, ◌&&◌, ◌||◌, not, nat_le, cond, Bool, true, false, AllPairs, List, [], ◌∷◌, ◌++◌, length, get_or, map, filter, inr, if◌then◌else◌, refl, ap, sym, subst, arith}
use Rattle.std.proofs.lemmas.List.Elements.{All-map, All-weaker}
use Rattle.std.specs.List.{count_by}
use Rattle.edit_laws.proofs.Names.{length-map, map-append, list_any, Point, is_same_point, moved_drawing, with_moved_line, with_moved_spot, DrawingValue, endpoints, Spot, LineValue, get_or-map, fold, list_all, KeepsDrawingLimits, points_of_lines}
use Rattle.line_graph.specs.GrowingLimits.{IsValidJoinedDrawing}
use Rattle.line_graph.specs.JoinedDrawings.{is_joined}
use Rattle.line_graph.specs.WalkEnds.{AreInDifferentPieces, are_connected_spots, end_spots, has_end_at_spot, is_junction, merged_representative, representative}
use Rattle.line_sections.specs.Sections.{but_last, inner_points, is_shared_point, is_whole_line, listed_in}
use Rattle.line_sections.specs.Spots.{is_same_spot}
use Rattle.edit_laws.proofs.MovedLines.{endpoints_moved, listed_moved}

-- the points inside a mapped line
last_left : (f : Point → Point) (ps : List Point) → but_last (map f ps) ≡ map f (but_last ps)
last_left f [] = refl
last_left f (p ∷ []) = refl
last_left f (p ∷ q ∷ rest) = ap (λ (some : List Point). f p ∷ some) (last_left f (q ∷ rest))

inner_moved : (f : Point → Point) (ps : List Point) → inner_points (map f ps) ≡ map f (inner_points ps)
inner_moved f [] = refl
inner_moved f (p ∷ rest) = last_left f rest

-- the lines of a block
abbrev in_block : ℕ → List LineValue → List LineValue
in_block block lines = filter (λ line. line.block == block) lines

-- the points that a block of mapped lines lists
listing_moved : (f : Point → Point) (lines : List LineValue) (block : ℕ)
    → listed_in (map (with_moved_line f) lines) block ≡ map f (listed_in lines block)
listing_moved f [] block = refl
listing_moved f (line ∷ rest) block = by_test (line.block == block) (listing_moved f rest block)
  where
    by_test : (b : Bool) → listed_in (map (with_moved_line f) rest) block ≡ map f (listed_in rest block)
        → points_of_lines (if b then with_moved_line f line ∷ in_block block (map (with_moved_line f) rest)
        else in_block block (map (with_moved_line f) rest))
        ≡ map f (points_of_lines (if b then line ∷ in_block block rest else in_block block rest))
    by_test true later = ap (λ (ps : List Point). map f line.points ++ ps) later ∙ sym (map-append f line.points (listed_in rest block))
    by_test false later = later

ends_moved : (f : Point → Point) (block : ℕ) (ps : List Point)
    → map (λ p. record { block = block; at = p }) (map f ps) ≡ map (with_moved_spot f) (map (λ p. record { block = block; at = p }) ps)
ends_moved f block [] = refl
ends_moved f block (p ∷ ps) = ap (λ (spots : List Spot). record { block = block; at = f p } ∷ spots) (ends_moved f block ps)

-- the spots at the ends of a mapped line
end_spots_moved : (f : Point → Point) (line : LineValue) → end_spots (with_moved_line f line) ≡ map (with_moved_spot f) (end_spots line)
end_spots_moved f line =
    ap (λ (ps : List Point). map (λ p. record { block = line.block; at = p }) ps) (endpoints_moved f line.points)
    ∙ ends_moved f line.block (endpoints line.points)

chosen_moved : (f : Point → Point) (t : Bool) (a b : Spot)
    → (if t then with_moved_spot f a else with_moved_spot f b) ≡ with_moved_spot f (if t then a else b)
chosen_moved f true a b = refl
chosen_moved f false a b = refl

module _ (f : Point → Point) (same : (p q : Point) → is_same_point (f p) (f q) ≡ is_same_point p q) where
  abbrev lines_of : List LineValue → List LineValue
  lines_of lines = map (with_moved_line f) lines

  abbrev spot_of : Spot → Spot
  spot_of spot = with_moved_spot f spot

  count_moved : (p : Point) (a : ℕ) (ps : List Point)
      → fold (λ n q. n + cond (is_same_point (f p) q) 1 0) a (map f ps) ≡ fold (λ n q. n + cond (is_same_point p q) 1 0) a ps
  count_moved p a [] = refl
  count_moved p a (q ∷ ps) =
      ap (λ (t : Bool). fold (λ (n : ℕ) (r : Point). n + cond (is_same_point (f p) r) 1 0) (a + cond t 1 0) (map f ps)) (same p q)
      ∙ count_moved p (a + cond (is_same_point p q) 1 0) ps

  shared_moved : (lines : List LineValue) (block : ℕ) (p : Point)
      → is_shared_point (lines_of lines) block (f p) ≡ is_shared_point lines block p
  shared_moved lines block p =
      ap (λ (ps : List Point). nat_le 2 (count_by (is_same_point (f p)) ps)) (listing_moved f lines block)
      ∙ ap (λ (n : ℕ). nat_le 2 n) (count_moved p 0 (listed_in lines block))

  any_moved : (lines : List LineValue) (block : ℕ) (ps : List Point)
      → list_any (is_shared_point (lines_of lines) block) (map f ps) ≡ list_any (is_shared_point lines block) ps
  any_moved lines block [] = refl
  any_moved lines block (p ∷ ps) =
      ap (λ (t : Bool). t || list_any (is_shared_point (lines_of lines) block) (map f ps)) (shared_moved lines block p)
      ∙ ap (λ (t : Bool). is_shared_point lines block p || t) (any_moved lines block ps)

  whole_moved : (lines : List LineValue) (line : LineValue)
      → is_whole_line (lines_of lines) (with_moved_line f line) ≡ is_whole_line lines line
  whole_moved lines line =
      ap (λ (ps : List Point). not (list_any (is_shared_point (lines_of lines) line.block) ps)) (inner_moved f line.points)
      ∙ ap not (any_moved lines line.block (inner_points line.points))

  all_whole : (lines some : List LineValue)
      → list_all (is_whole_line (lines_of lines)) (lines_of some) ≡ list_all (is_whole_line lines) some
  all_whole lines [] = refl
  all_whole lines (line ∷ some) =
      ap (λ (t : Bool). t && list_all (is_whole_line (lines_of lines)) (lines_of some)) (whole_moved lines line)
      ∙ ap (λ (t : Bool). is_whole_line lines line && t) (all_whole lines some)

  has_end_moved : (spot : Spot) (line : LineValue) → has_end_at_spot (spot_of spot) (with_moved_line f line) ≡ has_end_at_spot spot line
  has_end_moved spot line =
      ap (λ (ps : List Point). (line.block == spot.block) && list_any (is_same_point (f spot.at)) ps) (endpoints_moved f line.points)
      ∙ ap (λ (t : Bool). (line.block == spot.block) && t) (listed_moved f same spot.at (endpoints line.points))

  junction_moved : (lines : List LineValue) (spot : Spot) → is_junction (lines_of lines) (spot_of spot) ≡ is_junction lines spot
  junction_moved [] spot = refl
  junction_moved (line ∷ rest) spot =
      ap (λ (t : Bool). t || is_junction (lines_of rest) (spot_of spot)) (has_end_moved spot line)
      ∙ ap (λ (t : Bool). has_end_at_spot spot line || t) (junction_moved rest spot)

  same_spot_moved : (a b : Spot) → is_same_spot (spot_of a) (spot_of b) ≡ is_same_spot a b
  same_spot_moved a b = ap (λ (t : Bool). (a.block == b.block) && t) (same a.at b.at)

  merged_moved : (spots : List Spot) (moved stands : Spot → Spot) → ((s : Spot) → moved (spot_of s) ≡ spot_of (stands s))
      → (spot : Spot) → merged_representative (map (with_moved_spot f) spots) moved (spot_of spot)
      ≡ spot_of (merged_representative spots stands spot)
  merged_moved [] moved stands agree spot = agree spot
  merged_moved (p ∷ []) moved stands agree spot = agree spot
  merged_moved (p ∷ q ∷ rest) moved stands agree spot =
      ap (λ (s : Spot). if is_same_spot s (moved (spot_of p)) then moved (spot_of q) else s) (agree spot)
      ∙ ap (λ (s : Spot). if is_same_spot (spot_of (stands spot)) s then moved (spot_of q) else spot_of (stands spot)) (agree p)
      ∙ ap (λ (s : Spot). if is_same_spot (spot_of (stands spot)) (spot_of (stands p)) then s else spot_of (stands spot)) (agree q)
      ∙ ap (λ (t : Bool). if t then spot_of (stands q) else spot_of (stands spot)) (same_spot_moved (stands spot) (stands p))
      ∙ chosen_moved f (is_same_spot (stands spot) (stands p)) (stands q) (stands spot)

  representative_moved : (lines : List LineValue) (spot : Spot)
      → representative (lines_of lines) (spot_of spot) ≡ spot_of (representative lines spot)
  representative_moved [] spot = refl
  representative_moved (line ∷ rest) spot =
      ap (λ (spots : List Spot). merged_representative spots (representative (lines_of rest)) (spot_of spot)) (end_spots_moved f line)
      ∙ merged_moved (end_spots line) (representative (lines_of rest)) (representative rest) (representative_moved rest) spot

  connected_moved : (lines : List LineValue) (a b : Spot)
      → are_connected_spots (lines_of lines) (spot_of a) (spot_of b) ≡ are_connected_spots lines a b
  connected_moved lines a b =
      ap (λ (s : Spot). is_same_spot s (representative (lines_of lines) (spot_of b))) (representative_moved lines a)
      ∙ ap (λ (s : Spot). is_same_spot (spot_of (representative lines a)) s) (representative_moved lines b)
      ∙ same_spot_moved (representative lines a) (representative lines b)

  abbrev Apart : List LineValue → Spot → Spot → Type 0
  Apart lines a b = are_connected_spots lines a b ≡ false

  apart_moved : (lines : List LineValue) (spots : List Spot) → AreInDifferentPieces lines spots
      → AreInDifferentPieces (lines_of lines) (map (with_moved_spot f) spots)
  apart_moved lines spots apart = record {
    there = All-map (λ (s : Spot). is_junction (lines_of lines) s ≡ true) (with_moved_spot f) spots
        (All-weaker (λ (s : Spot). is_junction lines s ≡ true) (λ (s : Spot). is_junction (lines_of lines) (spot_of s) ≡ true)
        (λ s is. junction_moved lines s ∙ is) spots apart.there);
    apart = pairs_moved spots apart.apart;
  }
    where
      pairs_moved : (some : List Spot) → AllPairs (Apart lines) some → AllPairs (Apart (lines_of lines)) (map (with_moved_spot f) some)
      pairs_moved some pairs i j e less there =
          let below : j < length some = subst (λ (n : ℕ). j < n) (length-map some (with_moved_spot f)) there in
          subst (λ (s : Spot). Apart (lines_of lines) s (get_or (map (with_moved_spot f) some) j e))
          (sym (get_or-map (with_moved_spot f) some i e e (omega (arith, less, below))))
          (subst (λ (s : Spot). Apart (lines_of lines) (spot_of (get_or some i e)) s)
          (sym (get_or-map (with_moved_spot f) some j e e below))
          (connected_moved lines (get_or some i e) (get_or some j e) ∙ pairs i j e less below))

  -- a moved drawing that keeps its limits is valid and joined, as the drawing is
  pub valid_moved : (d : DrawingValue) → IsValidJoinedDrawing d → KeepsDrawingLimits (moved_drawing f d)
      → IsValidJoinedDrawing (moved_drawing f d)
  valid_moved d is keeps =
      let whole : is_joined (moved_drawing f d) ≡ true = all_whole d.lines d.lines ∙ is.joined in
      record {
        valid = record {
          limits = keeps;
          ends = record {
            starts = apart_moved d.lines d.starts is.valid.ends.starts;
            ends = apart_moved d.lines d.ends is.valid.ends.ends;
            joined = inr whole;
          };
        };
        joined = whole;
      }
