-- Lists that aren't the pieces of a drawing, each for one reason.
use Rattle.std.proofs.Common.{◌≡◌, ℕ, zero, suc, ◌<◌, Bool, true, false, List, [], ◌∷◌, Contains, Option, Some, None, slice_get, refl, arith, sym, true≢false}
use Rattle.line_graph.proofs.Names.{LineValue, DrawingValue, AreConnected, ArePieces, ArePiecesOf, IsPathOfLines, LinesTouch, Piece, graph_of, piece_graph, touches}
use Rattle.line_graph.proofs.WalkFacts.{at}

abbrev line : ℕ → ℕ → ℕ → LineValue
line block from to = record { block = block; points = at from 0 ∷ at to 0 ∷ [] }

abbrev of_lines : List LineValue → DrawingValue
of_lines lines =
    record { label = []; step = 10; threads = 1 ∷ 2 ∷ []; lines = lines; starts = []; ends = [] }

-- two lines that meet at one point, and a stroke elsewhere
abbrev angle : DrawingValue
angle = of_lines (line 0 0 10 ∷ line 0 10 20 ∷ line 0 50 60 ∷ [])

-- no piece is empty
pub known_filled : ArePieces (of_lines []) ([] ∷ []) → ⊥
known_filled are = are.filled 0 [] (omega arith) refl

-- no piece has a line that isn't drawn
pub known_there : ArePieces (of_lines (line 0 0 10 ∷ [])) ((0 ∷ []) ∷ (1 ∷ []) ∷ []) → ⊥
known_there are = far (are.there 1 0 (omega arith))
  where
    far : 1 < 1 → ⊥
    far is = omega (arith, is)

-- no line is left out
pub known_covered : ArePieces (of_lines (line 0 0 10 ∷ [])) [] → ⊥
known_covered are = nowhere (are.covered 0 (omega arith))
  where
    nowhere : Contains {X = ℕ} [] 0 → ⊥
    nowhere there = omega (arith, there.1)

-- the test whether two lines exist and touch
abbrev do_touch : Option LineValue → Option LineValue → Bool
do_touch (Some a) (Some b) = touches a b
do_touch (Some a) None = false
do_touch None other = false

do_touch_is : (d : DrawingValue) (i j : ℕ) → LinesTouch d i j → do_touch (slice_get d.lines i) (slice_get d.lines j) ≡ true
do_touch_is d i j touch = rw (touch.one_is, touch.other_is) touch.touch

-- the lines of a piece are connected: no path leads from the angle to the stroke
touches_below : (i j : ℕ) → LinesTouch angle i j → i < 2 → j < 2
touches_below i zero touch below = omega arith
touches_below i (suc zero) touch below = omega arith
touches_below zero (suc (suc zero)) touch below = absurd (true≢false (sym (do_touch_is angle 0 2 touch)))
touches_below zero (suc (suc (suc j))) touch below = absurd (true≢false (sym (do_touch_is angle 0 (suc (suc (suc j))) touch)))
touches_below (suc zero) (suc (suc zero)) touch below = absurd (true≢false (sym (do_touch_is angle 1 2 touch)))
touches_below (suc zero) (suc (suc (suc j))) touch below = absurd (true≢false (sym (do_touch_is angle 1 (suc (suc (suc j))) touch)))
touches_below (suc (suc i)) (suc (suc j)) touch below = absurd (omega (arith, below))

leads_below : (chain : List ℕ) (i j : ℕ) → IsPathOfLines angle i chain j → i < 2 → j < 2
leads_below [] i j is below = omega (arith, is, below)
leads_below (k ∷ rest) i j path below = leads_below rest k j path.1 (touches_below i k path.0 below)

pub known_joined : ArePieces angle ((0 ∷ 1 ∷ 2 ∷ []) ∷ []) → ⊥
known_joined are = apart (are.joined 0 [] (omega arith) 2 0 (omega arith))
  where
    apart : AreConnected angle 0 2 → ⊥
    apart path = omega (arith, leads_below path.0 0 2 path.1 (omega arith))

-- connected lines are in one piece
pub known_apart : ArePieces angle ((0 ∷ []) ∷ (1 ∷ []) ∷ (2 ∷ []) ∷ []) → ⊥
known_apart are = are.apart 0 1 [] (omega arith) (omega arith) (1 ∷ [], (touch, refl))
  where
    touch : LinesTouch angle 0 1
    touch = record { one = line 0 0 10; other = line 0 10 20; one_is = refl; other_is = refl; touch = refl }

-- lines of another block don't touch, though they have an end in common
pub known_blocks : LinesTouch (of_lines (line 0 0 10 ∷ line 1 10 20 ∷ [])) 0 1 → ⊥
known_blocks touch = true≢false (sym (do_touch_is (of_lines (line 0 0 10 ∷ line 1 10 20 ∷ [])) 0 1 touch))

-- the lines of a piece rise, and none is there twice
pub known_rising : ArePieces angle ((1 ∷ 0 ∷ []) ∷ (2 ∷ []) ∷ []) → ⊥
known_rising are = falls (are.rising 0 [] (omega arith) 0 (omega arith))
  where
    falls : 1 < 0 → ⊥
    falls is = omega (arith, is)

pub known_once : ArePieces (of_lines (line 0 0 10 ∷ [])) ((0 ∷ 0 ∷ []) ∷ []) → ⊥
known_once are = same (are.rising 0 [] (omega arith) 0 (omega arith))
  where
    same : 0 < 0 → ⊥
    same is = omega (arith, is)

-- pieces follow one another by their first lines
pub known_ordered : ArePieces angle ((2 ∷ []) ∷ (0 ∷ 1 ∷ []) ∷ []) → ⊥
known_ordered are = falls (are.ordered 0 (omega arith))
  where
    falls : 2 < 0 → ⊥
    falls is = omega (arith, is)

-- computed pieces: their lines are the pieces of the drawing, and each graph is that of its lines
pub known_computed : (d : DrawingValue) (p q : Piece) → ArePiecesOf d (p ∷ q ∷ [])
    → ArePieces d (p.lines ∷ q.lines ∷ []) × (graph_of p ≡ piece_graph d p.lines) × (graph_of q ≡ piece_graph d q.lines)
known_computed d p q are = (are.are, are.each 0 p (omega arith), are.each 1 p (omega arith))
