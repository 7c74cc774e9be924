-- Worked values of joined drawings, whose lines are the sections of the lines before.
use Rattle.std.proofs.Common.{◌≡◌, true, false, List, [], ◌∷◌, Ok, refl}
use Rattle.line_graph.proofs.DrawingNames.{LineValue, DrawingValue, joined_drawing, lines_through, is_joined}
use Rattle.line_graph.proofs.NeedleFacts.{at}

-- a drawing of these lines, in blocks of threads 5 and 6
abbrev drawn : List LineValue → DrawingValue
drawn lines =
    record { label = []; step = 10; threads = 5 ∷ 6 ∷ []; lines = lines; starts = []; ends = [] }

-- two lines through one point meet there
abbrev crossing : List LineValue
crossing = lines_through 0 ((at 0 10 ∷ at 10 10 ∷ at 20 10 ∷ []) ∷ (at 10 0 ∷ at 10 10 ∷ at 10 20 ∷ []) ∷ [])

abbrev crossed : List LineValue
crossed = lines_through 0 ((at 0 10 ∷ at 10 10 ∷ []) ∷ (at 10 10 ∷ at 20 10 ∷ [])
    ∷ (at 10 0 ∷ at 10 10 ∷ []) ∷ (at 10 10 ∷ at 10 20 ∷ []) ∷ [])

pub known_crossing : joined_drawing (drawn crossing) ≡ Ok (drawn crossed)
known_crossing = refl

pub known_crossing_joined : (is_joined (drawn crossing) ≡ false) × (is_joined (drawn crossed) ≡ true)
known_crossing_joined = (refl, refl)
