-- Worked values of lines that are drawn again.
use Rattle.std.proofs.Common.{◌≡◌, ℕ, pos, List, [], ◌∷◌, Ok, Err, refl}
use Rattle.drawing_edits.proofs.Names.{Point, DrawingValue, Spot, LineValue, drawn_lines, redrawn}
use Rattle.line_graph.specs.declared.draw_kind.DrawKind.TheVariants as kind

-- a point on the x axis
abbrev at : ℕ → Point
at x = record { x = pos x; y = pos 0 }

-- a line along the x axis
abbrev line_to : ℕ → ℕ → ℕ → LineValue
line_to block from to = record { block = block; points = at from ∷ at to ∷ [] }

-- a spot on the x axis
abbrev spot_at : ℕ → ℕ → Spot
spot_at block x = record { block = block; at = at x }

-- two blocks with the given lines and starts
abbrev of_lines : List LineValue → List Spot → DrawingValue
of_lines lines starts = record { label = []; step = 25; threads = 7 ∷ 9 ∷ []; lines = lines; starts = starts; ends = [] }

abbrev in_order : List LineValue
in_order = line_to 0 0 40 ∷ line_to 1 5 60 ∷ []

-- lines in the order of their blocks are drawn as they are, without starts
pub known_drawn_lines : (drawn_lines (of_lines in_order (spot_at 0 40 ∷ [])) ≡ Ok (of_lines in_order []))
    -- lines in another order are drawn block by block
    × (drawn_lines (of_lines (line_to 1 5 60 ∷ line_to 0 0 40 ∷ []) []) ≡ Ok (of_lines in_order []))
known_drawn_lines = (refl, refl)

-- starts stay in their order, also where it isn't that of the blocks
pub known_redrawn : (redrawn (of_lines in_order (spot_at 1 5 ∷ spot_at 0 40 ∷ []))
    ≡ Ok (of_lines in_order (spot_at 1 5 ∷ spot_at 0 40 ∷ [])))
    -- a second start of a piece is refused
    × (redrawn (of_lines in_order (spot_at 0 0 ∷ spot_at 0 40 ∷ [])) ≡ Err kind.EndRepeated)
known_redrawn = (refl, refl)

-- a block without a line is refused
pub known_empty : drawn_lines (of_lines (line_to 0 0 40 ∷ []) []) ≡ Err kind.EmptyBlock
known_empty = refl
