-- Worked values of starts put at points, and of pieces put in another order.
use Rattle.std.proofs.Common.{◌≡◌, ℕ, pos, List, [], ◌∷◌, ◌++◌, Ok, Err, true, false, refl}
use Rattle.drawing_edits.proofs.Names.{Point, DrawingValue, Spot, LineValue, end_placed, order_with_piece, piece_put_before, pieces_in_order}
use Rattle.line_graph.specs.declared.draw_kind.DrawKind.TheVariants as kind
use Rattle.drawing_edits.specs.declared.edit_fault.EditFault.TheVariants as fault

-- the point with those numbers
abbrev spot_point : ℕ → ℕ → Point
spot_point x y = record { x = pos x; y = pos y }

-- a line of a block
abbrev line_in : ℕ → List Point → LineValue
line_in block points = record { block = block; points = points }

-- a spot of a block
abbrev spot_in : ℕ → Point → Spot
spot_in block p = record { block = block; at = p }

-- a drawing of lines in two blocks, without ends
abbrev of_lines : List LineValue → List Spot → List Spot → DrawingValue
of_lines lines starts ends = record {
  label = 65 ∷ [];
  step = 25;
  threads = 7 ∷ 8 ∷ [];
  lines = lines;
  starts = starts;
  ends = ends;
}

-- the bar of a T through three points, and a line of another block
abbrev bar : LineValue
bar = line_in 0 (spot_point 0 0 ∷ spot_point 10 0 ∷ spot_point 20 0 ∷ [])

abbrev side : LineValue
side = line_in 1 (spot_point 50 0 ∷ spot_point 50 9 ∷ [])

-- an end of a line becomes a start, and nothing is cut
pub known_end_placed : (end_placed true (spot_point 50 9) (of_lines (bar ∷ side ∷ []) [] [])
    ≡ Ok (of_lines (bar ∷ side ∷ []) (spot_in 1 (spot_point 50 9) ∷ []) []))
    -- a start inside a line cuts it in two, and comes before the start of a later block
    × (end_placed true (spot_point 10 0)
    (of_lines (bar ∷ side ∷ []) (spot_in 1 (spot_point 50 9) ∷ []) [])
    ≡ Ok (of_lines (line_in 0 (spot_point 0 0 ∷ spot_point 10 0 ∷ [])
    ∷ line_in 0 (spot_point 10 0 ∷ spot_point 20 0 ∷ []) ∷ side ∷ [])
    (spot_in 0 (spot_point 10 0) ∷ spot_in 1 (spot_point 50 9) ∷ []) []))
known_end_placed = (refl, refl)

-- an end that a line lists twice inside cuts it twice
abbrev loop_line : LineValue
loop_line = line_in 0 (spot_point 0 0 ∷ spot_point 10 0 ∷ spot_point 10 9 ∷ spot_point 10 0 ∷ spot_point 20 0 ∷ [])

pub known_end_twice : end_placed false (spot_point 10 0) (of_lines (loop_line ∷ side ∷ []) [] [])
    ≡ Ok (of_lines (line_in 0 (spot_point 0 0 ∷ spot_point 10 0 ∷ [])
    ∷ line_in 0 (spot_point 10 0 ∷ spot_point 10 9 ∷ spot_point 10 0 ∷ [])
    ∷ line_in 0 (spot_point 10 0 ∷ spot_point 20 0 ∷ []) ∷ side ∷ [])
    [] (spot_in 0 (spot_point 10 0) ∷ []))
known_end_twice = refl

-- the foot of a T becomes its start, and the bar is cut where the stem meets it
abbrev stem : LineValue
stem = line_in 0 (spot_point 10 0 ∷ spot_point 10 30 ∷ [])

pub known_start_of_t : (end_placed true (spot_point 10 30) (of_lines (bar ∷ stem ∷ side ∷ []) [] [])
    ≡ Ok (of_lines (line_in 0 (spot_point 0 0 ∷ spot_point 10 0 ∷ [])
    ∷ line_in 0 (spot_point 10 0 ∷ spot_point 20 0 ∷ []) ∷ stem ∷ side ∷ [])
    (spot_in 0 (spot_point 10 30) ∷ []) []))
    -- no line lists the point, though one passes through it
    × (end_placed false (spot_point 5 0) (of_lines (bar ∷ side ∷ []) [] []) ≡ Err (fault.Draw kind.NoJunction))
    -- two blocks list the point
    × (end_placed true (spot_point 0 0) (of_lines (bar
    ∷ line_in 1 (spot_point 0 0 ∷ spot_point 0 9 ∷ []) ∷ []) [] []) ≡ Err fault.TwoBlocks)
    -- the piece has an end already
    × (end_placed false (spot_point 10 0)
    (of_lines (bar ∷ side ∷ []) [] (spot_in 0 (spot_point 0 0) ∷ [])) ≡ Err (fault.Draw kind.EndRepeated))
known_start_of_t = (refl, refl, refl, refl)

-- two squares of one block, and a line of another block
abbrev square_at : ℕ → ℕ → LineValue
square_at left right =
    line_in 0 (spot_point left 0 ∷ spot_point right 0 ∷ spot_point right 5 ∷ spot_point left 5 ∷ spot_point left 0 ∷ [])

abbrev squares : DrawingValue
squares = of_lines (square_at 0 5 ∷ square_at 20 25 ∷ side ∷ []) [] []

-- the pieces of two lines that share an end, and of two squares
pub known_pieces_in_order : pieces_in_order (of_lines (square_at 0 5 ∷ line_in 0 (spot_point 9 9 ∷ spot_point 8 8 ∷ [])
    ∷ line_in 0 (spot_point 0 0 ∷ spot_point 0 9 ∷ []) ∷ side ∷ []) [] []) ≡ (0 ∷ 2 ∷ []) ∷ (1 ∷ []) ∷ (3 ∷ []) ∷ []
known_pieces_in_order = refl

-- a piece of two lines moves to just before the first line of the piece between them
pub known_order_with_piece : (order_with_piece (1 ∷ 4 ∷ []) 0 5 ≡ 1 ∷ 4 ∷ 0 ∷ 2 ∷ 3 ∷ [])
    × (order_with_piece (3 ∷ []) 2 5 ≡ 0 ∷ 1 ∷ 3 ∷ 2 ∷ 4 ∷ [])
known_order_with_piece = (refl, refl)

-- the second square before the first
pub known_piece_put_before : (piece_put_before 2 1 squares ≡ Ok (of_lines (square_at 20 25 ∷ square_at 0 5 ∷ side ∷ []) [] []))
    -- the first square is sewn before the second already
    × (piece_put_before 1 2 squares ≡ Ok squares)
    × (piece_put_before 4 1 squares ≡ Err (fault.NoPiece 4))
    × (piece_put_before 2 2 squares ≡ Err fault.SamePiece)
    × (piece_put_before 3 1 squares ≡ Err fault.OtherBlock)
known_piece_put_before = (refl, refl, refl, refl, refl)

-- squares of one block, and a line of another block
abbrev row_of_squares : List LineValue → DrawingValue
row_of_squares lines = of_lines (lines ++ side ∷ []) [] []

-- the third of three squares comes to just before the second, or before the first, and the first stays first
pub known_order_of_three : (piece_put_before 3 2 (row_of_squares (square_at 0 5 ∷ square_at 20 25 ∷ square_at 40 45 ∷ []))
    ≡ Ok (row_of_squares (square_at 0 5 ∷ square_at 40 45 ∷ square_at 20 25 ∷ [])))
    × (piece_put_before 3 1 (row_of_squares (square_at 0 5 ∷ square_at 20 25 ∷ square_at 40 45 ∷ []))
    ≡ Ok (row_of_squares (square_at 40 45 ∷ square_at 0 5 ∷ square_at 20 25 ∷ [])))
    × (piece_put_before 1 3 (row_of_squares (square_at 0 5 ∷ square_at 20 25 ∷ square_at 40 45 ∷ []))
    ≡ Ok (row_of_squares (square_at 0 5 ∷ square_at 20 25 ∷ square_at 40 45 ∷ [])))
known_order_of_three = (refl, refl, refl)

-- the second of two numbers has no piece; of two without a piece, or of one given twice, the first is reported
pub known_no_piece : (piece_put_before 1 4 squares ≡ Err (fault.NoPiece 4)) × (piece_put_before 5 4 squares ≡ Err (fault.NoPiece 5))
    × (piece_put_before 4 5 squares ≡ Err (fault.NoPiece 4)) × (piece_put_before 4 4 squares ≡ Err (fault.NoPiece 4))
    -- pieces of two blocks are refused in either order
    × (piece_put_before 1 3 squares ≡ Err fault.OtherBlock)
known_no_piece = (refl, refl, refl, refl, refl)
