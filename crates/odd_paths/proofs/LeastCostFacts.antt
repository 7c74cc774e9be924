-- Costs that aren't least, rows and paths that aren't those of a piece, each for one reason.
use Rattle.std.proofs.Common.{◌≡◌, ◌≢◌, ℕ, ◌+◌, ◌<◌, ◌≤◌, false, List, [], ◌∷◌, length, None, map, refl, arith, ap}
use Rattle.odd_paths.proofs.Names.{Pass, PieceValue, piece_cost, walk_cost, IsValidPiece, AreRows, AreTerminals, IsLeastCost, IsPath, RowsValue, cost_at, terminal_of, LeastCostsAreDistances, WalkLeads}
use Rattle.odd_paths.proofs.RowFacts.{path}

-- a walk there and back and there again isn't least
pub known_longer : IsLeastCost (path None None) 0 1 9 → ⊥
known_longer is = more (is.least (record { line = 4; back = false } ∷ []) refl)
  where
    more : 9 ≤ 3 → ⊥
    more less = omega (arith, less)

-- a cost is that of a walk, and no walk costs a step less
pub known_of_walk : (p : PieceValue) (i j cost : ℕ) → IsLeastCost p i j cost
    → (walk : List Pass) × WalkLeads p i j walk × (walk_cost p walk ≡ cost)
known_of_walk p i j cost is = (is.walk, is.leads, is.costs)

pub known_none_less : (p : PieceValue) (i j cost : ℕ) (other : List Pass) → IsLeastCost p i j cost → WalkLeads p i j other
    → cost ≡ walk_cost p other + 1
    → ⊥
known_none_less p i j cost other is leads more = omega (arith, is.least other leads, more)

-- terminals are different junctions of the piece
pub known_twice : AreTerminals (path None None) (0 ∷ 2 ∷ 0 ∷ []) → ⊥
known_twice are = are.different 0 2 0 (omega arith) (omega arith) refl

pub known_stranger : AreTerminals (path None None) (0 ∷ 3 ∷ []) → ⊥
known_stranger are = far (are.there 1 0 (omega arith))
  where
    far : 3 < 3 → ⊥
    far less = omega (arith, less)

-- a row for each terminal, with a least cost for each junction
abbrev rows : List (List ℕ) → RowsValue
rows table = record { terminals = 0 ∷ 2 ∷ []; table = table }

pub known_row_missing : AreRows (path None None) (rows ((0 ∷ 3 ∷ 8 ∷ []) ∷ [])) → ⊥
known_row_missing are = fewer are.sized
  where
    fewer : ◌≡◌ {A = ℕ} 1 2 → ⊥
    fewer is = omega (arith, is)

pub known_short_row : AreRows (path None None) (rows ((0 ∷ 3 ∷ 8 ∷ []) ∷ (8 ∷ 5 ∷ []) ∷ [])) → ⊥
known_short_row are = fewer (are.wide 1 [] (omega arith))
  where
    fewer : ◌≡◌ {A = ℕ} 2 3 → ⊥
    fewer is = omega (arith, is)

pub known_wrong_row : AreRows (path None None) (rows ((0 ∷ 3 ∷ 9 ∷ []) ∷ (8 ∷ 5 ∷ 0 ∷ []) ∷ [])) → ⊥
known_wrong_row are = more ((are.least 0 2 (omega arith) (omega arith)).least
    (record { line = 4; back = false } ∷ record { line = 7; back = false } ∷ []) refl)
  where
    more : 9 ≤ 8 → ⊥
    more less = omega (arith, less)

pub known_most : (p : PieceValue) (r : RowsValue) (t j : ℕ) → AreRows p r → t < length r.terminals → j < length p.junctions
    → (cost_at r t j ≡ piece_cost p + 1 → ⊥) × IsLeastCost p (terminal_of r t) j (cost_at r t j) × AreTerminals p r.terminals
known_most p r t j are there below = (λ more. omega (arith, more, are.most t j there below), are.least t j there below, are.terminals)

-- the lines of a walk that leads elsewhere, or of another cost, are no path
pub known_path : (p : PieceValue) (i j cost : ℕ) (places : List ℕ) → IsPath p i j cost places
    → (walk : List Pass) × WalkLeads p i j walk × (walk_cost p walk ≡ cost)
known_path p i j cost places is = (is.walk, is.leads, is.costs)

pub known_beyond : IsPath (path None None) 0 1 3 (2 ∷ []) → ⊥
known_beyond is = far (is.there 0 0 (omega arith))
  where
    far : 2 < 2 → ⊥
    far less = omega (arith, less)

pub known_length : IsPath (path None None) 0 0 0 (0 ∷ []) → (walk : List Pass) × (length (map (λ (pass : Pass). pass.line) walk) ≡ 1)
known_length is = (is.walk, ap (λ (lines : List ℕ). length lines) is.along)

-- the triangle inequality, symmetry, and a cost between different junctions, and none from one to itself
pub known_metric : LeastCostsAreDistances → (p : PieceValue) (i m j d f g : ℕ) → IsValidPiece p → IsLeastCost p i j d
    → IsLeastCost p i m f → IsLeastCost p m j g
    → (d ≡ f + g + 1 → ⊥) × (i ≢ j → d ≡ 0 → ⊥)
known_metric law p i m j d f g valid one two three = let are = law p valid in
    (λ more. omega (arith, more, are.through i m j d f g one two three), λ differ none. omega (arith, none, are.apart i j d differ one))

pub known_back : LeastCostsAreDistances → (p : PieceValue) (i j d f : ℕ) → IsValidPiece p → IsLeastCost p i j d → IsLeastCost p j i f
    → d ≢ f → ⊥
known_back law p i j d f valid there back differ = differ ((law p valid).back i j d f there back)

pub known_home : LeastCostsAreDistances → (p : PieceValue) (i d : ℕ) → IsValidPiece p → IsLeastCost p i i d → d ≡ 0
known_home law p i d valid home = (law p valid).home i d home

pub known_meeting : LeastCostsAreDistances → (p : PieceValue) (i m j d f g : ℕ) → IsValidPiece p → IsLeastCost p i j d
    → IsLeastCost p i m f → IsLeastCost p j m g
    → d ≡ f + g + 1 → ⊥
known_meeting law p i m j d f g valid one two three more = omega (arith, more, (law p valid).meeting i m j d f g one two three)

-- along the second line, of cost 5, from junction 1 to 2
pub known_along : LeastCostsAreDistances → (i d f : ℕ) → IsValidPiece (path None None) → IsLeastCost (path None None) i 1 d
    → IsLeastCost (path None None) i 2 f
    → (f ≤ d + 5) × (d ≤ f + 5)
known_along law i d f valid near far = (law (path None None) valid).along i 1 d f (record { a = 1; b = 2; cost = 5 }) refl near far
