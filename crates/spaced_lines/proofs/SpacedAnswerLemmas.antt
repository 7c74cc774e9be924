-- A drawing that can be joined and get starts and ends can be spaced with them.
use Rattle.std.proofs.Common.{◌≡◌, ◌∙◌, ℕ, suc, ◌+◌, ◌≤◌, ◌==◌, ◌&&◌, ◌||◌, not, nat_lt, Bool, true, false, List, [], ◌∷◌, ◌++◌, length, map, All, Result, Ok, Err, if◌then◌else◌, refl, ap, sym, arith}
use Rattle.std.proofs.lemmas.Result.{IfOk-at_ok}
use Rattle.spaced_lines.proofs.Names.{nat_tests, length-map, All-head, All-tail, sum_by-cons, flat_map, list_any, Point, is_same_point, DrawingValue, endpoints, point_count, end_spots, is_junction, Spot, LineValue, all_sections, has_points, is_shared_point, line_sections, lines_through, sections_from, sections_of, sections_with_first, is_same_spot, SpacedLinesKeepLimits, spaced_line, spaced_lines, SectionsKeepEnds, fun_ext, length-append, sum_by-append, and_then, are_connected_spots, merged_representative, representative, spot_added, SpacingRefusesNone, with_lines_spaced, spaced_and_joined, and_false, rule_of, SpacingRule}
use Rattle.drawing_edits.specs.RedrawnDrawings.{with_starts_and_ends, with_walk_ends}
use Rattle.drawing_edits.specs.ValidRedraws.{LinesWithinLimitsAreDrawn}
use Rattle.line_graph.specs.declared.draw_kind.DrawKind.{DrawKind}
use Rattle.line_graph.specs.declared.draw_kind.DrawKind.TheVariants as kind
use Rattle.line_graph.specs.JoinedDrawings.{joined_drawing}
use Rattle.drawing_edits.proofs.CallerLemmas.{HasSpots, spots_put}
use Rattle.spaced_lines.proofs.SpacedLimitLemmas.{points_less}

-- the number of points of sections is that of the segments and of the sections
record HasSize (block segments : ℕ) (sections : List (List Point)) : Type 0 where
  points : point_count (lines_through block sections) ≡ segments + length sections
  some : 1 ≤ length sections

first_size : (block segments : ℕ) (p : Point) (sections : List (List Point)) → HasSize block segments sections
    → HasSize block (suc segments) (sections_with_first p sections)
first_size block segments p [] size = absurd (let some = size.some in omega (arith, some))
first_size block segments p (section ∷ rest) size =
    let others : List LineValue = lines_through block rest in
    let before = sum_by-cons (λ (l : LineValue). length l.points) (record { block = block; points = section }) others in
    let after = sum_by-cons (λ (l : LineValue). length l.points) (record { block = block; points = p ∷ section }) others in
    record { points = omega (arith, before, after, size.points); some = omega arith }

size_by : (block segments : ℕ) (p q : Point) (behind : List (List Point)) (cut : Bool) → HasSize block segments behind
    → HasSize block (suc segments) (if cut then (p ∷ q ∷ []) ∷ behind else sections_with_first p behind)
size_by block segments p q behind true size =
    let others : List LineValue = lines_through block behind in
    let after = sum_by-cons (λ (l : LineValue). length l.points) (record { block = block; points = p ∷ q ∷ [] }) others in
    record { points = omega (arith, after, size.points); some = omega arith }
size_by block segments p q behind false size = first_size block segments p behind size

size_from : (block : ℕ) (is_cut : Point → Bool) (p : Point) (rest : List Point) → HasSize block (length rest) (sections_from is_cut p rest)
size_from block is_cut p [] = record { points = omega arith; some = omega arith }
size_from block is_cut p (q ∷ rest) =
    size_by block (length rest) p q (sections_from is_cut q rest) (has_points rest && is_cut q) (size_from block is_cut q rest)

line_size : (block : ℕ) (is_cut : Point → Bool) (points : List Point) → 1 ≤ length points
    → point_count (lines_through block (sections_of is_cut points)) + 1
    ≡ length points + length (lines_through block (sections_of is_cut points))
line_size block is_cut [] some = absurd (omega (arith, some))
line_size block is_cut (p ∷ rest) some =
    let size = size_from block is_cut p rest in
    let as_many = length-map {B = LineValue} (sections_from is_cut p rest) (λ points. record { block = block; points = points }) in
    omega (arith, size.points, as_many)

all_size : (all lines : List LineValue) → All (λ line. 1 ≤ length line.points) lines
    → point_count (flat_map (line_sections all) lines) + length lines ≡ point_count lines + length (flat_map (line_sections all) lines)
all_size all [] some = refl
all_size all (line ∷ rest) some =
    let own : List LineValue = line_sections all line in
    let others : List LineValue = flat_map (line_sections all) rest in
    let one = line_size line.block (is_shared_point all line.block) line.points
    (All-head (λ (l : LineValue). 1 ≤ length l.points) line rest some) in
    let more = all_size all rest (All-tail (λ (l : LineValue). 1 ≤ length l.points) line rest some) in
    let points_are = sum_by-append (λ (l : LineValue). length l.points) own others in
    omega (arith, one, more, points_are, length-append own others, sum_by-cons (λ (l : LineValue). length l.points) line rest)

-- a spot is among the ends of a line
abbrev is_end_in : Spot → List Spot → Bool
is_end_in spot ends = list_any (λ one. (one.block == spot.block) && is_same_point spot.at one.at) ends

spread : (x t r : Bool) → (x && (t || r)) ≡ ((x && t) || (x && r))
spread x t r = grind (arith, nat_tests)

end_by : (block : ℕ) (spot : Spot) (ps : List Point) → ((block == spot.block) && list_any (is_same_point spot.at) ps)
    ≡ is_end_in spot (map (λ p. record { block = block; at = p }) ps)
end_by block spot [] = and_false (block == spot.block)
end_by block spot (p ∷ ps) = spread (block == spot.block) (is_same_point spot.at p) (list_any (is_same_point spot.at) ps)
    ∙ ap (λ (t : Bool). ((block == spot.block) && is_same_point spot.at p) || t) (end_by block spot ps)

junction_by : (lines : List LineValue) (spot : Spot) → is_junction lines spot ≡ list_any (is_end_in spot) (map end_spots lines)
junction_by [] spot = refl
junction_by (line ∷ rest) spot =
    ap (λ (t : Bool). t || is_junction rest spot) (end_by line.block spot (endpoints line.points))
    ∙ ap (λ (t : Bool). is_end_in spot (end_spots line) || t) (junction_by rest spot)

-- the representative of a spot by the ends of lines
abbrev stands_by : List (List Spot) → Spot → Spot
stands_by [] spot = spot
stands_by (ends ∷ rest) spot = merged_representative ends (stands_by rest) spot

representative_by : (lines : List LineValue) (spot : Spot) → representative lines spot ≡ stands_by (map end_spots lines) spot
representative_by [] spot = refl
representative_by (line ∷ rest) spot = ap (λ (f : Spot → Spot). merged_representative (end_spots line) f spot)
    (fun_ext (representative_by rest))

-- lines with the same ends take the same starts and ends
module _ (lines other : List LineValue) (same : map end_spots other ≡ map end_spots lines) where
  junctions_same : (spot : Spot) → is_junction other spot ≡ is_junction lines spot
  junctions_same spot = junction_by other spot
      ∙ ap (λ (ends : List (List Spot)). list_any (is_end_in spot) ends) same ∙ sym (junction_by lines spot)

  stands_same : (spot : Spot) → representative other spot ≡ representative lines spot
  stands_same spot = representative_by other spot ∙ ap (λ (ends : List (List Spot)). stands_by ends spot) same
      ∙ sym (representative_by lines spot)

  connected_same : (a b : Spot) → are_connected_spots other a b ≡ are_connected_spots lines a b
  connected_same a b = ap (λ (s : Spot). is_same_spot s (representative other b)) (stands_same a)
      ∙ ap (λ (s : Spot). is_same_spot (representative lines a) s) (stands_same b)

  any_same : (spots : List Spot) (spot : Spot) → list_any (λ one. are_connected_spots other one spot) spots
      ≡ list_any (λ one. are_connected_spots lines one spot) spots
  any_same [] spot = refl
  any_same (one ∷ rest) spot =
      ap (λ (t : Bool). t || list_any (λ (s : Spot). are_connected_spots other s spot) rest) (connected_same one spot)
      ∙ ap (λ (t : Bool). are_connected_spots lines one spot || t) (any_same rest spot)

  added_same : (spots : List Spot) (spot : Spot) → spot_added other spots spot ≡ spot_added lines spots spot
  added_same spots spot =
      ap (λ (t : Bool). if not t then Err kind.NoJunction else (if list_any (λ (s : Spot). are_connected_spots other s spot) spots
      then Err kind.EndRepeated else Ok (spots ++ spot ∷ []))) (junctions_same spot)
      ∙ ap (λ (t : Bool). if not (is_junction lines spot) then Err kind.NoJunction
      else (if t then Err kind.EndRepeated else Ok (spots ++ spot ∷ []))) (any_same spots spot)

  -- the drawing with the other lines
  abbrev relined : Result DrawingValue DrawKind → Result DrawingValue DrawKind
  relined (Ok d) = Ok (record d { lines = other })
  relined (Err why) = Err why

  added_by : (r : Result (List Spot) DrawKind) (mine given : List Spot → DrawingValue)
      → (more : DrawingValue → Result DrawingValue DrawKind) → ((s : List Spot) → more (mine s) ≡ relined (more (given s)))
      → and_then (and_then r (λ (s : List Spot). Ok (mine s))) more
      ≡ relined (and_then (and_then r (λ (s : List Spot). Ok (given s))) more)
  added_by (Ok s) mine given more later = later s
  added_by (Err why) mine given more later = refl

  walks_same : (is_start : Bool) (spots : List Spot) (d : DrawingValue)
      → with_walk_ends is_start (record d { lines = other }) spots
      ≡ relined (with_walk_ends is_start (record d { lines = lines }) spots)
  walks_same is_start [] d = refl
  walks_same true (spot ∷ rest) d =
      let mine : List Spot → DrawingValue = λ s. record d { lines = other; starts = s } in
      let more : DrawingValue → Result DrawingValue DrawKind = λ next. with_walk_ends true next rest in
      ap (λ (r : Result (List Spot) DrawKind). and_then (and_then r (λ (s : List Spot). Ok (mine s))) more) (added_same d.starts spot)
      ∙ added_by (spot_added lines d.starts spot) mine (λ s. record d { lines = lines; starts = s }) more
      (λ s. walks_same true rest (record d { starts = s }))
  walks_same false (spot ∷ rest) d =
      let mine : List Spot → DrawingValue = λ s. record d { lines = other; ends = s } in
      let more : DrawingValue → Result DrawingValue DrawKind = λ next. with_walk_ends false next rest in
      ap (λ (r : Result (List Spot) DrawKind). and_then (and_then r (λ (s : List Spot). Ok (mine s))) more) (added_same d.ends spot)
      ∙ added_by (spot_added lines d.ends spot) mine (λ s. record d { lines = lines; ends = s }) more
      (λ s. walks_same false rest (record d { ends = s }))

  -- so a drawing with the other lines takes starts and ends where the drawing takes them
  both_same : (d joined : DrawingValue) (starts ends : List Spot)
      → with_starts_and_ends (record d { lines = lines }) starts ends ≡ Ok joined
      → with_starts_and_ends (record d { lines = other }) starts ends ≡ Ok (record joined { lines = other })
  both_same d joined starts ends is =
      ap (λ (r : Result DrawingValue DrawKind). and_then r (λ (s : DrawingValue). with_walk_ends false s ends)) (walks_same true starts d)
      ∙ by_started (with_walk_ends true (record d { lines = lines }) starts) refl is
    where
      by_started : (r : Result DrawingValue DrawKind) → with_walk_ends true (record d { lines = lines }) starts ≡ r
          → and_then r (λ (s : DrawingValue). with_walk_ends false s ends) ≡ Ok joined
          → and_then (relined r) (λ (s : DrawingValue). with_walk_ends false s ends) ≡ Ok (record joined { lines = other })
      by_started (Ok e) first later =
          let whole : DrawingValue = record d { lines = lines } in
          let put = (IfOk-at_ok (HasSpots true whole starts) first (spots_put true starts whole)).is in
          ap (λ (s : DrawingValue). with_walk_ends false (record s { lines = other }) ends) put
          ∙ walks_same false ends (record d { starts = d.starts ++ starts })
          ∙ ap (λ (s : DrawingValue). relined (with_walk_ends false s ends)) (sym put)
          ∙ ap relined later
      by_started (Err why) first later = absurd (let no : ⊥ = cc in no)

-- a drawing that can be joined has few sections
limited_by : (many long : Bool) (x y : DrawKind) (whole joined : DrawingValue) (more : DrawingValue → Result DrawingValue DrawKind)
    → and_then (if many then Err x else (if long then Err y else Ok whole)) more ≡ Ok joined
    → (many ≡ false) × (long ≡ false) × (more whole ≡ Ok joined)
limited_by many long x y whole joined more h1 = grind (arith, nat_tests)

fits : (m n limit : ℕ) → m ≤ n → nat_lt limit n ≡ false → nat_lt limit m ≡ false
fits m n limit less is = grind (arith, nat_tests, less, is)

pub none_refused : LinesWithinLimitsAreDrawn → SpacedLinesKeepLimits → SectionsKeepEnds → SpacingRefusesNone
none_refused drawn_as keep alike limits d joined starts ends keeps no_starts no_ends is =
    let rule : SpacingRule = rule_of limits d.step in
    let lines : List LineValue = spaced_lines rule d.lines in
    let spaced : DrawingValue = with_lines_spaced limits d in
    let old : List LineValue = all_sections d.lines in
    let new : List LineValue = all_sections lines in
    let same : map end_spots new ≡ map end_spots old = alike rule d.lines in
    let more : DrawingValue → Result DrawingValue DrawKind = λ whole. with_starts_and_ends whole starts ends in
    let parts = limited_by (nat_lt 1024 (length old)) (nat_lt 65536 (point_count old)) kind.TooManyLines kind.TooManyPoints
    (record d { lines = old }) joined more is in
    let as_many : length new ≡ length old =
    sym (length-map new end_spots) ∙ ap (λ (e : List (List Spot)). length e) same ∙ length-map old end_spots in
    let lines_same : length lines ≡ length d.lines =
    length-map d.lines (spaced_line (is_junction (all_sections d.lines)) rule) in
    let size_new = all_size lines lines (grind (arith, nat_tests)) in
    let size_old = all_size d.lines d.lines (grind (arith, nat_tests)) in
    let fewer = points_less rule d.lines (grind (arith, nat_tests)) in
    let short : point_count new ≤ point_count old = omega (arith, as_many, lines_same, size_new, size_old, fewer) in
    let few : nat_lt 1024 (length new) ≡ false = ap (λ (n : ℕ). nat_lt 1024 n) as_many ∙ parts.0 in
    let small : nat_lt 65536 (point_count new) ≡ false = fits (point_count new) (point_count old) 65536 short parts.1 in
    let joins : joined_drawing spaced ≡ Ok (record d { lines = new }) =
    ap (λ (t : Bool). if t then Err kind.TooManyLines else (if nat_lt 65536 (point_count new) then Err kind.TooManyPoints
    else Ok (record d { lines = new }))) few
    ∙ ap (λ (t : Bool). if t then Err kind.TooManyPoints else Ok (record d { lines = new })) small in
    let bare : record spaced { starts = []; ends = [] } ≡ spaced =
    ap (λ (s : List Spot). record spaced { starts = s; ends = [] }) (sym no_starts)
    ∙ ap (λ (e : List Spot). record spaced { ends = e }) (sym no_ends) in
    ap (λ (r : Result DrawingValue DrawKind). and_then r (λ (s : DrawingValue). spaced_and_joined s (and_then (joined_drawing s) more)))
    (drawn_as spaced (keep limits d keeps) ∙ ap (λ (s : DrawingValue). Ok s) bare)
    ∙ ap (λ (r : Result DrawingValue DrawKind). spaced_and_joined spaced (and_then r more)) joins
    ∙ ap (λ (r : Result DrawingValue DrawKind). spaced_and_joined spaced r) (both_same old new same d joined starts ends parts.2)
