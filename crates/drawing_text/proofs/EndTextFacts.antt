-- Worked values of texts that name starts and ends, and of their faults.
use Rattle.std.proofs.Common.{◌≡◌, ℕ, zero, suc, pos, List, [], ◌∷◌, ◌++◌, Result, Ok, Err, ap, codes, length, refl, arith}
use Rattle.std.specs.Fmt.{digits}
use Rattle.drawing_text.proofs.Names.{flat_map, Spot, lines_through, DrawKind, DrawingValue, drawing_as2, drawing_of, canonical_text2, drawing_as_drawn, canonical_text3, end_lines_text, with_ends_of, AreInBlockOrder, IsJoinedFrom, drawn_text}
use Rattle.line_graph.specs.declared.draw_kind.DrawKind.TheVariants as kind
use Rattle.drawing_text.proofs.CanonicalTextFacts.{place}

-- a text of that version: lines of a block with a cross at 10 0, and further lines
abbrev pub text : List ℕ → List (List ℕ) → List ℕ
text header more = flat_map (λ line. line ++ 10 ∷ []) (header ∷ codes "step 10" ∷ codes "color 1"
    ∷ codes "line 0 0 10 0 20 0" ∷ codes "line 10 5 10 0" ∷ more)

abbrev pub spot : ℕ → ℕ → Spot
spot x y = record { block = 0; at = place (pos x) (pos y) }

abbrev pub crossed : List Spot → List Spot → DrawingValue
crossed starts ends = record {
  label = [];
  step = 10;
  threads = 1 ∷ [];
  lines = lines_through 0 ((place (pos 0) (pos 0) ∷ place (pos 10) (pos 0) ∷ [])
      ∷ (place (pos 10) (pos 0) ∷ place (pos 20) (pos 0) ∷ []) ∷ (place (pos 10) (pos 5) ∷ place (pos 10) (pos 0) ∷ []) ∷ []);
  starts = starts;
  ends = ends;
}

-- version 3 without starts and ends is version 2
pub known_drawing_of : (drawing_of (text (codes "redwork 3") []) ≡ Ok (crossed [] []))
    -- a start and an end, in any order, at a junction that a section made too
    × (drawing_of (text (codes "redwork 3") (codes "end 10 0" ∷ codes "start 20 0" ∷ []))
    ≡ Ok (crossed (spot 20 0 ∷ []) (spot 10 0 ∷ [])))
known_drawing_of = (refl, refl)

-- such a text has that fault
abbrev Faults : List (List ℕ) → ℕ → DrawKind → Type 0
Faults more number why = drawing_of (text (codes "redwork 3") more) ≡ Err (record { number = number; kind = why })

-- the words of such a line, from left to right
pub known_words : Faults (codes "start 0" ∷ []) 6 kind.BadWord × Faults (codes "end 0 0 0" ∷ []) 6 kind.BadWord
    × Faults (codes "start x 40000" ∷ []) 6 kind.BadNumber × Faults (codes "start 40000 x" ∷ []) 6 kind.OutOfRange
known_words = (refl, refl, refl, refl)

-- a line comes first, and so does each other fault of the text
pub known_order : Faults (codes "start 5 5" ∷ codes "line 1 1" ∷ []) 7 kind.FewPoints
    × Faults (codes "start 5 5" ∷ codes "color 2" ∷ []) 7 kind.EmptyBlock
known_order = (refl, refl)

pub known_no_block : drawing_of (codes "redwork 3" ++ 10 ∷ codes "start 0") ≡ Err (record { number = 2; kind = kind.NoBlock })
known_no_block = refl

-- no junction, and a piece that has one: the first of them in the text
pub known_junctions : Faults (codes "start 15 0" ∷ []) 6 kind.NoJunction
    × Faults (codes "start 0 0" ∷ codes "end 0 0" ∷ codes "start 20 0" ∷ []) 8 kind.EndRepeated
    × Faults (codes "end 0 0" ∷ codes "end 10 0" ∷ codes "start 15 0" ∷ []) 7 kind.EndRepeated
    × Faults (codes "color 2" ∷ codes "line 0 0 20 0" ∷ codes "start 10 5" ∷ []) 8 kind.NoJunction
known_junctions = (refl, refl, refl, refl)

-- versions 1 and 2 name none
pub known_earlier : (drawing_of (text (codes "redwork 2") (codes "start 0 0" ∷ []))
    ≡ Err (record { number = 6; kind = kind.BadWord }))
    × (drawing_of (text (codes "redwork 1") (codes "end 0 0" ∷ [])) ≡ Err (record { number = 6; kind = kind.BadWord }))
known_earlier = (refl, refl)

-- not even before any block, where version 3 reports that there is none
pub known_earlier_first : (drawing_of (codes "redwork 2" ++ 10 ∷ codes "start 0 0") ≡ Err (record { number = 2; kind = kind.BadWord }))
    × (drawing_of (codes "redwork 1" ++ 10 ∷ codes "end 0 0") ≡ Err (record { number = 2; kind = kind.BadWord }))
    × (drawing_of (codes "redwork 3" ++ 10 ∷ codes "end x") ≡ Err (record { number = 2; kind = kind.NoBlock }))
known_earlier_first = (refl, refl, refl)

-- the number of words is judged before the words
pub known_count_first : Faults (codes "start x" ∷ []) 6 kind.BadWord × Faults (codes "end 0 0 x" ∷ []) 6 kind.BadWord
    × Faults (codes "start 40000" ∷ []) 6 kind.BadWord
known_count_first = (refl, refl, refl)

-- and version 3 isn't read as version 2
pub known_as2 : drawing_as2 (text (codes "redwork 3") []) ≡ Err (record { number = 1; kind = kind.BadHeader })
known_as2 = refl

-- the canonical text with a start and an end, which is read as the drawing
abbrev pub both_ends : DrawingValue
both_ends = crossed (spot 20 0 ∷ []) (spot 10 0 ∷ [])

pub known_spelling3 : canonical_text3 both_ends ≡ flat_map (λ line. line ++ 10 ∷ []) (codes "redwork 3" ∷ codes "step 10"
    ∷ codes "color 1" ∷ codes "line 0 0 10 0" ∷ codes "line 10 0 20 0" ∷ codes "line 10 5 10 0" ∷ codes "start 20 0"
    ∷ codes "end 10 0" ∷ [])
unfolding digits
known_spelling3 = refl

pub known_read_again : drawing_of (canonical_text3 both_ends) ≡ Ok both_ends
unfolding digits
known_read_again = refl

-- a start is in the text of its block
pub known_end_block : end_lines_text (codes "start") 1 (spot 20 0 ∷ record { block = 1; at = place (pos 3) (pos 4) } ∷ [])
    ≡ codes "start 3 4" ++ 10 ∷ []
unfolding digits
known_end_block = refl

-- the same lines before they are cut
abbrev pub drawn_cross : DrawingValue
drawn_cross = record (crossed [] []) {
  lines = lines_through 0 ((place (pos 0) (pos 0) ∷ place (pos 10) (pos 0) ∷ place (pos 20) (pos 0) ∷ [])
      ∷ (place (pos 10) (pos 5) ∷ place (pos 10) (pos 0) ∷ []) ∷ []);
}

-- drawn lines are joined with starts and ends, and printed as they are drawn
pub known_joined_from : IsJoinedFrom drawn_cross both_ends
known_joined_from = refl

-- and they aren't their own joined drawing, which has a line more
abbrev line_number : Result DrawingValue DrawKind → ℕ
line_number (Ok d) = length d.lines
line_number (Err why) = 0

pub known_not_joined_from : IsJoinedFrom drawn_cross drawn_cross → ⊥
known_not_joined_from is = let count : 3 ≡ 2 = ap line_number is in omega (arith, count)

pub known_drawn_text : drawn_text (with_ends_of drawn_cross both_ends) ≡ flat_map (λ line. line ++ 10 ∷ []) (codes "redwork 3"
    ∷ codes "step 10" ∷ codes "color 1" ∷ codes "line 0 0 10 0 20 0" ∷ codes "line 10 5 10 0" ∷ codes "start 20 0" ∷ codes "end 10 0" ∷ [])
unfolding digits
known_drawn_text = refl

pub known_drawn_again : drawing_of (drawn_text (with_ends_of drawn_cross both_ends)) ≡ Ok both_ends
unfolding digits
known_drawn_again = refl

-- and its lines are those that were drawn
pub known_as_drawn : drawing_as_drawn (drawn_text (with_ends_of drawn_cross both_ends)) ≡ Ok drawn_cross
unfolding digits
known_as_drawn = refl

-- a start or an end alone takes version 3, and neither of them version 2
pub known_drawn_versions : (drawn_text (crossed (spot 20 0 ∷ []) []) ≡ canonical_text3 (crossed (spot 20 0 ∷ []) []))
    × (drawn_text (crossed [] (spot 0 0 ∷ [])) ≡ canonical_text3 (crossed [] (spot 0 0 ∷ [])))
    × (drawn_text drawn_cross ≡ canonical_text2 drawn_cross)
known_drawn_versions = (refl, refl, refl)

-- spots of one block, and of two blocks in order and not in order
abbrev pub later_spot : Spot
later_spot = record { block = 1; at = place (pos 3) (pos 4) }

pub known_block_order : AreInBlockOrder (spot 20 0 ∷ spot 0 0 ∷ later_spot ∷ [])
known_block_order zero zero d reach there = omega arith
known_block_order zero (suc j) d reach there = omega arith
known_block_order (suc zero) (suc zero) d reach there = omega arith
known_block_order (suc zero) (suc (suc zero)) d reach there = omega arith
known_block_order (suc (suc zero)) (suc (suc zero)) d reach there = omega arith
known_block_order i j d reach there = absurd (omega (arith, reach, there))

pub known_block_disorder : AreInBlockOrder (later_spot ∷ spot 0 0 ∷ []) → ⊥
known_block_disorder is = omega (arith, is 0 1 0 (omega arith) (omega arith))
