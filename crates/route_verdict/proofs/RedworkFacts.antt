-- What the headline takes and refuses. Three lines lead from one point to another in one, two and two steps. A closed thread sews one of
-- them again, and the first is the shortest: by hand 5 + 1 steps, so 7 needle points. With the second again it is one more.
use Rattle.std.proofs.Common.{◌≡◌, ◌≤◌, ℕ, ◌+◌, ◌*◌, pos, negsuc, true, false, List, [], ◌∷◌, Some, length, map, sum_by, Contains, IsTrue, arith, refl}
use Rattle.route_verdict.proofs.Names.{All-cons, All-nil, AllZip, PieceCert, Cut, walks_of, Point, acts_of, acts_without_numbers, DesignValue, Pass, DrawingValue, piece_graph, is_fitting_walk, ArePieces, runs_of, sewn_acts, needles_of_walk, cost_of_line, IsLeastThread, list_all, IsPackingOver, is_point_within, IsThreadOver, IsLeastRoute}

abbrev start_point : Point
start_point = record { x = pos 0; y = pos 0 }

abbrev end_point : Point
end_point = record { x = pos 10; y = pos 0 }

-- three lines between the two points
abbrev three_lines : DrawingValue
three_lines = record {
  label = [];
  step = 10;
  threads = 1 ∷ [];
  lines = record { block = 0; points = start_point ∷ end_point ∷ [] }
      ∷ record { block = 0; points = start_point ∷ record { x = pos 0; y = pos 10 } ∷ end_point ∷ [] }
      ∷ record { block = 0; points = start_point ∷ record { x = pos 0; y = negsuc 9 } ∷ end_point ∷ [] } ∷ [];
  starts = [];
  ends = [];
}

abbrev lines : List ℕ
lines = 0 ∷ 1 ∷ 2 ∷ []

abbrev there : ℕ → Pass
there line = record { line = line; back = false }

abbrev home : ℕ → Pass
home line = record { line = line; back = true }

-- the first line again, and the second line again
abbrev shortest : List Pass
shortest = there 0 ∷ home 1 ∷ there 2 ∷ home 0 ∷ []

abbrev longer : List Pass
longer = there 0 ∷ home 1 ∷ there 2 ∷ home 1 ∷ []

pub known_needles : (length (needles_of_walk three_lines shortest) ≡ 7)
    × (length (needles_of_walk three_lines longer) ≡ 8)
known_needles = (refl, refl)

pub shortest_fits : is_fitting_walk (piece_graph three_lines lines) shortest ≡ true
shortest_fits = refl

-- a pass along one of the lines, and a line that the shortest thread passes
abbrev Along : Pass → Type 0
Along pass = Contains lines pass.line

abbrev Passed : ℕ → Type 0
Passed line = Contains (map (λ (pass : Pass). pass.line) shortest) line

pub shortest_is_thread : IsThreadOver three_lines lines shortest
shortest_is_thread = record {
  from = Some start_point;
  to = Some start_point;
  drawn = All-cons Along (there 0) (home 1 ∷ there 2 ∷ home 0 ∷ []) (0, omega arith, refl)
      (All-cons Along (home 1) (there 2 ∷ home 0 ∷ []) (1, omega arith, refl)
      (All-cons Along (there 2) (home 0 ∷ []) (2, omega arith, refl)
      (All-cons Along (home 0) [] (0, omega arith, refl) (All-nil Along))));
  covered = All-cons Passed 0 (1 ∷ 2 ∷ []) (0, omega arith, refl)
      (All-cons Passed 1 (2 ∷ []) (1, omega arith, refl)
      (All-cons Passed 2 [] (2, omega arith, refl) (All-nil Passed)));
  leads = (refl, (refl, (refl, (refl, refl))));
  ends = refl;
}

-- a thread of one needle point more isn't least, whatever its cuts
pub longer_isnt_least : (cuts : List Cut) → IsLeastThread three_lines lines (record { retraced = 2; walk = longer; cuts = cuts }) → ⊥
longer_isnt_least cuts is = one_more (is.least shortest shortest_is_thread)
  where
    one_more : 8 ≤ 7 → ⊥
    one_more less = omega (arith, less)

-- a record that moves one farther than the limit isn't within it
pub too_far : (d : DrawingValue) (design : DesignValue) (certs : List PieceCert)
    → IsLeastRoute d design certs 121 (record { x = pos 122; y = pos 0 } ∷ []) → ⊥
too_far d design certs is = let far : false ≡ true = is.within in cc

-- a thread over lines, of which no other has fewer needle points, with a packing of twice the steps that it sews again
abbrev IsProvedLeast : DrawingValue → List ℕ → PieceCert → Type 0
IsProvedLeast d lines c = IsThreadOver d lines c.walk
    × ((other : List Pass) → IsThreadOver d lines other → length (needles_of_walk d c.walk) ≤ length (needles_of_walk d other))
    × (length (needles_of_walk d c.walk) ≡ 1 + c.retraced + sum_by (cost_of_line d) lines)
    × IsPackingOver d lines c.cuts × (sum_by (λ (cut : Cut). cut.weight) c.cuts ≡ c.retraced * 2)

proved : (d : DrawingValue) (lines : List ℕ) (c : PieceCert) → IsLeastThread d lines c → IsProvedLeast d lines c
proved d lines c is = (is.thread, is.least, omega (arith, is.penetrations), is.packing, omega (arith, is.total))

all_proved : (d : DrawingValue) (pieces : List (List ℕ)) (certs : List PieceCert) → AllZip (IsLeastThread d) pieces certs
    → AllZip (IsProvedLeast d) pieces certs
all_proved d [] [] are = are
all_proved d [] (c ∷ certs) are = are
all_proved d (some ∷ pieces) [] are = are
all_proved d (some ∷ pieces) (c ∷ certs) are = (proved d some c are.0, all_proved d pieces certs are.1)

-- the headline in other words: what is read of it, and that the acts are those of the threads
pub known_meaning : (d : DrawingValue) (design : DesignValue) (certs : List PieceCert) (limit : ℕ) (moves : List Point)
    → IsLeastRoute d design certs limit moves
    → (pieces : List (List ℕ)) × ArePieces d pieces × AllZip (IsProvedLeast d) pieces certs
    × (acts_without_numbers (acts_of design) ≡ sewn_acts (runs_of d (walks_of certs)))
    × IsTrue (list_all (is_point_within limit) moves)
known_meaning d design certs limit moves is =
    let r = is.redwork in
    (r.pieces, r.pieces_are, all_proved d r.pieces certs r.threads, r.sewn, is.within)
