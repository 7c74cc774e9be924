-- The starts and ends that a canonical text names: those of the drawing, in order, and the drawing with them.
use Rattle.std.proofs.Common.{◌≡◌, ℕ, ◌+◌, ◌<◌, ◌==◌, Bool, true, false, not, List, [], ◌∷◌, ◌++◌, Result, Ok, length, map, All, ap, sym, subst, ◌∙◌, refl, append_assoc, append-nil, arith}
use Rattle.drawing_text.proofs.Names.{ap₂, and_parts, nat_tests, All-cons, All-head, All-nil, All-tail, list_any, Point, Spot, LineValue, DrawKind, DrawingValue, IsLine, and_then, AreInDifferentPieces, is_junction, IsNeedlePoint, WalkEnd, drawing_with_ends, AreInBlockOrder, Any-from_list_any, is_same_point, endpoints, has_end_at_spot, last_point_or, same_is, spot_comes}
use Rattle.drawing_text.proofs.PrintedBlocks.{Rises, all_below, items_below, items_in, more_below, none_first, rises_of}
use Rattle.drawing_text.proofs.PrintedDrawings.{ended, found_from, found_in}
use Rattle.drawing_text.proofs.PrintedEnds.{end_at, unnumbered}
use Rattle.step_splitter.proofs.CallerLemmas.{last_in_range}

abbrev put_if : Bool → Spot → List Spot → List Spot
put_if true spot rest = spot ∷ rest
put_if false spot rest = rest

-- an end is of the kind: a start where it is true
abbrev is_kind : (kind is_start : Bool) → Bool
is_kind true is_start = is_start
is_kind false is_start = not is_start

-- the spots of that kind
abbrev pub named_in : Bool → List WalkEnd → List Spot
named_in kind [] = []
named_in kind (end ∷ rest) = put_if (is_kind kind end.is_start) end.spot (named_in kind rest)

-- the starts or the ends
abbrev pub chosen : Bool → (starts ends : List Spot) → List Spot
chosen true starts ends = starts
chosen false starts ends = ends

put_before : (own : Bool) (spot : Spot) (xs ys : List Spot) → put_if own spot (xs ++ ys) ≡ put_if own spot xs ++ ys
put_before true spot xs ys = refl
put_before false spot xs ys = refl

pub named_append : (kind : Bool) (xs ys : List WalkEnd) → named_in kind (xs ++ ys) ≡ named_in kind xs ++ named_in kind ys
named_append kind [] ys = refl
named_append kind (end ∷ rest) ys = grind (arith, nat_tests, named_append kind rest ys)

named_own : (kind : Bool) (spots : List Spot) → named_in kind (map (end_at kind) spots) ≡ spots
named_own true [] = refl
named_own true (spot ∷ rest) = ap (λ (list : List Spot). spot ∷ list) (named_own true rest)
named_own false [] = refl
named_own false (spot ∷ rest) = ap (λ (list : List Spot). spot ∷ list) (named_own false rest)

named_other : (kind : Bool) (spots : List Spot) → named_in kind (map (end_at (not kind)) spots) ≡ []
named_other true [] = refl
named_other true (spot ∷ rest) = named_other true rest
named_other false [] = refl
named_other false (spot ∷ rest) = named_other false rest

pub named_numbers : (kind : Bool) (ends : List WalkEnd) → named_in kind (map unnumbered ends) ≡ named_in kind ends
named_numbers kind [] = refl
named_numbers kind (end ∷ rest) = ap (put_if (is_kind kind end.is_start) end.spot) (named_numbers kind rest)

-- the block of a spot
abbrev of_spot : Spot → ℕ
of_spot spot = spot.block

named_found : (kind : Bool) (block : ℕ) (starts ends : List Spot)
    → named_in kind (found_in block starts ends) ≡ items_in of_spot block (chosen kind starts ends)
named_found true block starts ends =
    grind (arith, nat_tests, named_append true, ap₂ (λ (xs ys : List Spot). xs ++ ys), named_own true, named_other true, append-nil)
named_found false block starts ends =
    grind (arith, nat_tests, named_append false, ap₂ (λ (xs ys : List Spot). xs ++ ys), named_other false, named_own false)

-- the spots of the blocks before and those that the text of the other blocks names
named_from : (kind : Bool) (block : ℕ) (threads : List ℕ) (starts ends : List Spot) → Rises of_spot (chosen kind starts ends)
    → items_below of_spot block (chosen kind starts ends) ++ named_in kind (found_from block threads starts ends)
    ≡ items_below of_spot (block + length threads) (chosen kind starts ends)
named_from kind block [] starts ends rises = grind (arith, nat_tests, append-nil (items_below of_spot block (chosen kind starts ends)))
named_from kind block (thread ∷ rest) starts ends rises =
    let spots : List Spot = chosen kind starts ends in
    let more : List Spot = named_in kind (found_from (block + 1) rest starts ends) in
    ap (λ (list : List Spot). items_below of_spot block spots ++ list)
    (named_append kind (found_in block starts ends) (found_from (block + 1) rest starts ends)
    ∙ ap (λ (list : List Spot). list ++ more) (named_found kind block starts ends))
    ∙ (sym (append_assoc (items_below of_spot block spots) (items_in of_spot block spots) more)
    ∙ (ap (λ (list : List Spot). list ++ more) (sym (more_below of_spot block spots rises))
    ∙ (named_from kind (block + 1) rest starts ends rises
    ∙ ap (λ (n : ℕ). items_below of_spot n spots) (omega arith))))

-- a text names each spot of a drawing once, in order
pub all_named : (kind : Bool) (threads : List ℕ) (starts ends : List Spot) → AreInBlockOrder (chosen kind starts ends)
    → All (λ spot. spot.block < length threads) (chosen kind starts ends)
    → named_in kind (found_from 0 threads starts ends) ≡ chosen kind starts ends
all_named kind threads starts ends ordered there =
    let spots : List Spot = chosen kind starts ends in
    let named : List Spot = named_in kind (found_from 0 threads starts ends) in
    ap (λ (list : List Spot). list ++ named) (sym (none_first of_spot spots))
    ∙ (named_from kind 0 threads starts ends (rises_of of_spot spots ordered)
    ∙ (ap (λ (n : ℕ). items_below of_spot n spots) (omega arith) ∙ all_below of_spot (length threads) spots there))

-- the starts and ends so far and further ones are in different pieces
record MayAdd (d : DrawingValue) (starts ends : List Spot) (named : List WalkEnd) : Type 0 where
  starts_may : AreInDifferentPieces d.lines (starts ++ named_in true named)
  ends_may : AreInDifferentPieces d.lines (ends ++ named_in false named)

-- the drawing with the starts and ends so far, and further ones
abbrev AddsAll : DrawingValue → (starts ends : List Spot) → List WalkEnd → Type 0
AddsAll d starts ends named = drawing_with_ends (ended d starts ends) named
    ≡ Ok (ended d (starts ++ named_in true named) (ends ++ named_in false named))

next_added : (d : DrawingValue) (starts ends : List Spot) (number : ℕ) (is_start : Bool) (spot : Spot) (rest : List WalkEnd)
    → MayAdd d starts ends (record { number = number; is_start = is_start; spot = spot } ∷ rest)
    → (MayAdd d (starts ++ spot ∷ []) ends rest → AddsAll d (starts ++ spot ∷ []) ends rest)
    → (MayAdd d starts (ends ++ spot ∷ []) rest → AddsAll d starts (ends ++ spot ∷ []) rest)
    → AddsAll d starts ends (record { number = number; is_start = is_start; spot = spot } ∷ rest)
next_added d starts ends number true spot rest may on_start on_end =
    let more = append_assoc starts (spot ∷ []) (named_in true rest) in
    let Apart : List Spot → Type 0 = λ spots. AreInDifferentPieces d.lines spots in
    let added = ap (λ (r : Result (List Spot) DrawKind). and_then r (λ (s : List Spot). Ok (ended d s ends)))
    (spot_comes d.lines starts spot (named_in true rest) may.starts_may) in
    grind (arith, nat_tests, (ended d starts ends), (ended d (starts ++ spot ∷ []) ends))
next_added d starts ends number false spot rest may on_start on_end =
    let more = append_assoc ends (spot ∷ []) (named_in false rest) in
    let Apart : List Spot → Type 0 = λ spots. AreInDifferentPieces d.lines spots in
    let added = ap (λ (r : Result (List Spot) DrawKind). and_then r (λ (s : List Spot). Ok (ended d starts s)))
    (spot_comes d.lines ends spot (named_in false rest) may.ends_may) in
    grind (arith, nat_tests, (ended d starts ends), (ended d starts (ends ++ spot ∷ [])))

all_added : (d : DrawingValue) (starts ends : List Spot) (named : List WalkEnd) → MayAdd d starts ends named → AddsAll d starts ends named
all_added d starts ends [] may =
    ap₂ (λ (s e : List Spot). Ok (ended d s e)) (sym (append-nil starts)) (sym (append-nil ends))
all_added d starts ends (end ∷ rest) may =
    next_added d starts ends end.number end.is_start end.spot rest may
    (λ one. all_added d (starts ++ end.spot ∷ []) ends rest one) (λ one. all_added d starts (ends ++ end.spot ∷ []) rest one)

-- the starts and ends that a text names, added to a drawing without any
pub named_added : (d : DrawingValue) (starts ends : List Spot) (named : List WalkEnd) → AreInDifferentPieces d.lines starts
    → AreInDifferentPieces d.lines ends → named_in true named ≡ starts → named_in false named ≡ ends
    → drawing_with_ends (ended d [] []) named ≡ Ok (ended d starts ends)
named_added d starts ends named one two starts_are ends_are =
    let Apart : List Spot → Type 0 = λ spots. AreInDifferentPieces d.lines spots in
    all_added d [] [] named (record { starts_may = subst Apart (sym starts_are) one; ends_may = subst Apart (sym ends_are) two })
    ∙ ap₂ (λ (s e : List Spot). Ok (ended d s e)) starts_are ends_are

tips_in_range : (points : List Point) → All IsNeedlePoint points → All IsNeedlePoint (endpoints points)
tips_in_range [] all = All-nil IsNeedlePoint
tips_in_range (p ∷ rest) all =
    let one = All-head IsNeedlePoint p rest all in
    All-cons IsNeedlePoint p (last_point_or p rest ∷ []) one (All-cons IsNeedlePoint (last_point_or p rest) []
    (last_in_range p rest one (All-tail IsNeedlePoint p rest all)) (All-nil IsNeedlePoint))

-- a junction of lines is a needle point in one of their blocks
pub record IsSpotBelow (count : ℕ) (spot : Spot) : Type 0 where
  pub in_range : IsNeedlePoint spot.at
  pub below : spot.block < count

pub junction_below : (lines : List LineValue) (count : ℕ) (spot : Spot) → All (λ line. IsLine line.points) lines
    → All (λ line. line.block < count) lines → is_junction lines spot ≡ true → IsSpotBelow count spot
junction_below lines count spot able there found =
    let (k, line, within, is, here) = Any-from_list_any (has_end_at_spot spot) lines found in
    let Able : LineValue → Type 0 = λ l. IsLine l.points in
    let Below : LineValue → Type 0 = λ l. l.block < count in
    let one : IsLine line.points = subst Able is (able k line within) in
    let low : line.block < count = subst Below is (there k line within) in
    let parts = and_parts (line.block == spot.block) (list_any (is_same_point spot.at) (endpoints line.points)) here in
    let (i, p, inside, at, same) = Any-from_list_any (is_same_point spot.at) (endpoints line.points) parts.1 in
    let near : IsNeedlePoint p = subst IsNeedlePoint at (tips_in_range line.points one.in_range i p inside) in
    record {
      in_range = subst IsNeedlePoint (sym (same_is spot.at p same)) near;
      below = grind (arith, nat_tests, parts.0, low);
    }
