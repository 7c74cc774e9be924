-- Worked values of the graphs of pieces, and of walks that fit them. Costs count steps of at most 10.
use Rattle.std.proofs.Common.{◌≡◌, ℕ, ◌≤◌, true, false, List, [], ◌∷◌, None, Some, refl, arith}
use Rattle.line_graph.proofs.Names.{Point, LineValue, Edge, Pass, DrawingValue, degree, odd_junctions, piece_graph, IsFirstLabelled, lines_labelled_from, lines_labelled, pieces_by_label, all_below, all_costs_positive, ends_below, is_below, is_fitting_walk, piece_cost, is_strictly_increasing, walk_cost, block_of_passes, passes}
use Rattle.line_graph.proofs.WalkFacts.{at}

-- a line through these points in a block
abbrev line : ℕ → List Point → LineValue
line block points = record { block = block; points = points }

-- a line between two junctions
abbrev edge : ℕ → ℕ → ℕ → Edge
edge a b cost = record { a = a; b = b; cost = cost }

-- a line forwards
abbrev forth : ℕ → Pass
forth line = record { line = line; back = false }

-- and back
abbrev back : ℕ → Pass
back line = record { line = line; back = true }

-- a drawing of these lines
abbrev of_lines : List LineValue → DrawingValue
of_lines lines =
    record { label = []; step = 10; threads = 4 ∷ 7 ∷ []; lines = lines; starts = []; ends = [] }

-- two triangles that share a corner, one line for each side
abbrev triangles : DrawingValue
triangles = of_lines (line 0 (at 0 0 ∷ at 50 0 ∷ []) ∷ line 0 (at 50 0 ∷ at 0 30 ∷ []) ∷ line 0 (at 0 30 ∷ at 0 0 ∷ [])
    ∷ line 0 (at 90 0 ∷ at 50 0 ∷ []) ∷ line 0 (at 50 0 ∷ at 90 20 ∷ []) ∷ line 0 (at 90 20 ∷ at 90 0 ∷ []) ∷ [])

-- the corner that they share has four line ends
pub known_triangles : piece_graph triangles (0 ∷ 1 ∷ 2 ∷ 3 ∷ 4 ∷ 5 ∷ []) ≡ record {
  block = 0;
  lines = 0 ∷ 1 ∷ 2 ∷ 3 ∷ 4 ∷ 5 ∷ [];
  junctions = at 0 0 ∷ at 50 0 ∷ at 0 30 ∷ at 90 0 ∷ at 90 20 ∷ [];
  edges = edge 0 1 5 ∷ edge 1 2 5 ∷ edge 2 0 3 ∷ edge 3 1 4 ∷ edge 1 4 4 ∷ edge 4 3 2 ∷ [];
  degrees = 2 ∷ 4 ∷ 2 ∷ 2 ∷ 2 ∷ [];
  start = None;
  end = None;
}
known_triangles = refl

-- no junction is odd
pub known_none_odd : odd_junctions (piece_graph triangles (0 ∷ 1 ∷ 2 ∷ 3 ∷ 4 ∷ 5 ∷ [])) ≡ []
known_none_odd = refl

-- each triangle once is a closed walk, and passes each line
pub known_round : is_fitting_walk (piece_graph triangles (0 ∷ 1 ∷ 2 ∷ 3 ∷ 4 ∷ 5 ∷ []))
    (forth 0 ∷ forth 4 ∷ forth 5 ∷ forth 3 ∷ forth 1 ∷ forth 2 ∷ []) ≡ true
known_round = refl

-- a stick in block 1, a line of block 0 with the same points, and a closed line at the stick's end
abbrev lollipop : DrawingValue
lollipop = of_lines (line 0 (at 0 0 ∷ at 20 0 ∷ []) ∷ line 1 (at 20 0 ∷ at 40 0 ∷ at 40 20 ∷ at 20 0 ∷ []) ∷ line 1
    (at 0 0 ∷ at 20 0 ∷ []) ∷ [])

-- the closed line and the stick are a piece of block 1
pub known_lollipop : piece_graph lollipop (1 ∷ 2 ∷ []) ≡ record {
  block = 1;
  lines = 1 ∷ 2 ∷ [];
  junctions = at 20 0 ∷ at 0 0 ∷ [];
  edges = edge 0 0 6 ∷ edge 1 0 2 ∷ [];
  degrees = 3 ∷ 1 ∷ [];
  start = None;
  end = None;
}
known_lollipop = refl

-- its junctions are both odd
pub known_lollipop_odd : odd_junctions (piece_graph lollipop (1 ∷ 2 ∷ [])) ≡ 0 ∷ 1 ∷ []
known_lollipop_odd = refl

-- a line that ends where it begins has both ends there
pub known_loop_degree : degree (edge 3 3 4 ∷ edge 5 3 1 ∷ []) 3 ≡ 3
known_loop_degree = refl

-- the stick is passed forth and back
pub known_lick : is_fitting_walk (piece_graph lollipop (1 ∷ 2 ∷ [])) (forth 1 ∷ back 2 ∷ forth 2 ∷ []) ≡ true
known_lick = refl

-- and costs twice its two steps
pub known_lick_cost : walk_cost (piece_graph lollipop (1 ∷ 2 ∷ [])) (forth 1 ∷ back 2 ∷ forth 2 ∷ []) ≡ 10
known_lick_cost = refl

-- each line of the piece once
pub known_lollipop_cost : piece_cost (piece_graph lollipop (1 ∷ 2 ∷ [])) ≡ 8
known_lollipop_cost = refl

-- the stick is passed twice, in whichever direction
pub known_passes : (passes 2 (forth 1 ∷ back 2 ∷ forth 2 ∷ []) ≡ 2) × (passes 1 (forth 1 ∷ back 2 ∷ forth 2 ∷ []) ≡ 1)
known_passes = (refl, refl)

-- a walk is sewn in the block of its first line
pub known_block_of_walk : block_of_passes lollipop (back 2 ∷ forth 0 ∷ []) ≡ 1
known_block_of_walk = refl

-- a line of another piece is no part of it
pub known_stray : is_fitting_walk (piece_graph lollipop (1 ∷ 2 ∷ [])) (forth 1 ∷ back 0 ∷ forth 2 ∷ []) ≡ false
known_stray = refl

-- three lines between two junctions, the second drawn back
abbrev theta : DrawingValue
theta = of_lines (line 0 (at 0 0 ∷ at 10 0 ∷ []) ∷ line 0 (at 10 0 ∷ at 5 10 ∷ at 0 0 ∷ [])
    ∷ line 0 (at 0 0 ∷ at 0 25 ∷ at 10 25 ∷ at 10 0 ∷ []) ∷ [])

-- each junction has three line ends
pub known_theta : piece_graph theta (0 ∷ 1 ∷ 2 ∷ []) ≡ record {
  block = 0;
  lines = 0 ∷ 1 ∷ 2 ∷ [];
  junctions = at 0 0 ∷ at 10 0 ∷ [];
  edges = edge 0 1 1 ∷ edge 1 0 2 ∷ edge 0 1 7 ∷ [];
  degrees = 3 ∷ 3 ∷ [];
  start = None;
  end = None;
}
known_theta = refl

-- one line is passed twice, so that the walk comes home
pub known_is_fitting_walk : (is_fitting_walk (piece_graph theta (0 ∷ 1 ∷ 2 ∷ [])) (forth 0 ∷ forth 1 ∷ forth 2 ∷ back 0 ∷ []) ≡ true)
    -- a walk that ends elsewhere doesn't fit
    × (is_fitting_walk (piece_graph theta (0 ∷ 1 ∷ 2 ∷ [])) (forth 0 ∷ forth 1 ∷ forth 2 ∷ []) ≡ false)
    -- nor one whose line does not start where the one before ended
    × (is_fitting_walk (piece_graph theta (0 ∷ 1 ∷ 2 ∷ [])) (forth 0 ∷ back 1 ∷ forth 2 ∷ back 0 ∷ []) ≡ false)
    -- nor one that omits a line
    × (is_fitting_walk (piece_graph theta (0 ∷ 1 ∷ 2 ∷ [])) (forth 0 ∷ forth 1 ∷ []) ≡ false)
known_is_fitting_walk = (refl, refl, refl, refl)

-- numbers that rise repeat none
pub known_rising : (is_strictly_increasing (1 ∷ 3 ∷ 4 ∷ []) ≡ true) × (is_strictly_increasing (1 ∷ 3 ∷ 3 ∷ []) ≡ false)
    × (is_strictly_increasing (2 ∷ 3 ∷ 1 ∷ []) ≡ false)
known_rising = (refl, refl, refl)

-- what is below a number is less, and both ends of an edge are tested
pub known_below : (all_below 3 (2 ∷ 0 ∷ []) ≡ true) × (all_below 3 (0 ∷ 3 ∷ []) ≡ false)
    × (ends_below 2 (edge 0 1 1 ∷ []) ≡ true) × (ends_below 2 (edge 0 2 1 ∷ []) ≡ false)
    × (ends_below 2 (edge 1 0 1 ∷ edge 2 0 1 ∷ []) ≡ false)
    × (is_below 2 None ≡ true) × (is_below 2 (Some 1) ≡ true) × (is_below 2 (Some 2) ≡ false)
known_below = (refl, refl, refl, refl, refl, refl, refl, refl)

-- one step is a cost, and none isn't
pub known_costs : (all_costs_positive (edge 0 1 1 ∷ edge 1 2 3 ∷ []) ≡ true) × (all_costs_positive (edge 0 1 1 ∷ edge 1 2 0 ∷ []) ≡ false)
known_costs = (refl, refl)

-- the lines with a label
pub known_labelled : lines_labelled (0 ∷ 1 ∷ 0 ∷ 1 ∷ 4 ∷ 1 ∷ []) 1 ≡ 1 ∷ 3 ∷ 5 ∷ []
known_labelled = refl

-- those from the line 2 on, of which the line 3 is the first
pub known_labelled_from : lines_labelled_from (0 ∷ 1 ∷ 0 ∷ 1 ∷ 4 ∷ 1 ∷ []) 1 2 ≡ 3 ∷ 5 ∷ []
known_labelled_from = refl

pub known_first_labelled : IsFirstLabelled (0 ∷ 1 ∷ 0 ∷ 1 ∷ 4 ∷ 1 ∷ []) 1 2 3
known_first_labelled = record { from = omega arith; most = omega arith; has = λ below. refl; rest = refl }

pub known_first_within : (first : ℕ) → IsFirstLabelled (0 ∷ 1 ∷ 0 ∷ 1 ∷ 4 ∷ 1 ∷ []) 1 2 first → (2 ≤ first) × (first ≤ 6)
known_first_within first is = (is.from, is.most)

-- the lines with each label
pub known_parts : pieces_by_label (0 ∷ 1 ∷ 0 ∷ 1 ∷ 4 ∷ 1 ∷ []) ≡ (0 ∷ 2 ∷ []) ∷ (1 ∷ 3 ∷ 5 ∷ []) ∷ (4 ∷ []) ∷ []
known_parts = refl
