-- Starts and ends stay in the order of their blocks where the best ones are added.
use Rattle.std.proofs.Common.{◌≡◌, ◌<◌, ◌≤◌, ℕ, Bool, true, false, not, nat_lt, List, [], ◌∷◌, ◌++◌, Option, Some, None, length, map, take, drop, get_or, slice_get, arith, sym, ◌∙◌, ap, subst}
use Rattle.std.proofs.lemmas.Bool.{ltb-false, ltb-true}
use Rattle.drawing_edits.proofs.Names.{position_or_len, IsNonDecreasing, origin, AreInBlockOrder, HasOrderedEnds, Spot, with_spot, drop-map, get_or-map, length-map, map-append, take-map, IsNonDecreasingBy-insert, fails_before_first, passes_at_first, prefix_len-le-length, insert}
use Rattle.design_model.specs.declared.point.Point.{Point}
use Rattle.free_ends.specs.PieceEnds.{ends_found, one_end, with_best_end, with_best_ends, with_point_spot}
use Rattle.free_ends.specs.declared.end_choice.WalkEnds.{WalkEnds}
use Rattle.free_ends.specs.declared.piece_ends.PieceEnds.{PieceEnds}
use Rattle.line_graph.specs.declared.piece.Piece.{Piece}
use Rattle.line_graph.specs.PieceGraphs.{PieceValue}
use Rattle.line_graph.specs.Drawings.{DrawingValue}
use Rattle.line_graph.specs.PiecesOfDrawings.{graph_of}

-- the block of a spot
abbrev block_of_spot : Spot → ℕ
block_of_spot spot = spot.block

-- a spot that comes after those of its block and of earlier blocks keeps their order
spot_kept : (spot : Spot) (spots : List Spot) → AreInBlockOrder spots → AreInBlockOrder (with_spot spot spots)
spot_kept spot spots rise = subst IsNonDecreasing (sym shape)
    (IsNonDecreasingBy-insert (λ (n : ℕ). n) blocks index spot.block rise (omega (arith, most, wide)) low high)
  where
    later : Spot → Bool
    later one = nat_lt spot.block one.block

    index : ℕ
    index = position_or_len later spots

    most : index ≤ length spots
    most = prefix_len-le-length (λ spot. not (later spot)) spots

    blocks : List ℕ
    blocks = map block_of_spot spots

    wide : length blocks ≡ length spots
    wide = length-map spots block_of_spot

    none : Spot
    none = record { block = 0; at = origin }

    low : (k : ℕ) (d : ℕ) → k < index → get_or blocks k d ≤ spot.block
    low k d before =
        let at : get_or blocks k d ≡ (get_or spots k none).block =
        get_or-map block_of_spot spots k none d (omega (arith, before, most)) in
        omega (arith, at, ltb-false spot.block (get_or spots k none).block (fails_before_first later spots k none before))

    high : (k : ℕ) (d : ℕ) → index ≤ k → k < length blocks → spot.block ≤ get_or blocks k d
    high k d from below =
        let within : index < length spots = omega (arith, from, below, wide) in
        let at : get_or blocks index d ≡ (get_or spots index none).block = get_or-map block_of_spot spots index none d within in
        let on = rise index k d from below in
        omega (arith, at, ltb-true spot.block (get_or spots index none).block (passes_at_first later spots none within), on)

    shape : map block_of_spot (with_spot spot spots) ≡ insert blocks index spot.block
    shape = map-append block_of_spot (take index spots) (spot ∷ drop index spots)
        ∙ (ap (λ (ns : List ℕ). ns ++ spot.block ∷ map block_of_spot (drop index spots)) (sym (take-map block_of_spot index spots))
        ∙ ap (λ (ns : List ℕ). take index blocks ++ spot.block ∷ ns) (sym (drop-map block_of_spot index spots)))

point_kept : (block : ℕ) (spots : List Spot) (at : Option Point) → AreInBlockOrder spots
    → AreInBlockOrder (with_point_spot block spots at)
point_kept block spots None rise = rise
point_kept block spots (Some at) rise = spot_kept (record { block = block; at = at }) spots rise

end_kept : (is_start : Bool) (spots : List Spot) (p : PieceValue) (ends : Option WalkEnds) → AreInBlockOrder spots
    → AreInBlockOrder (with_best_end is_start spots p ends)
end_kept is_start spots p None rise = rise
end_kept is_start spots p (Some ends) rise = point_kept p.block spots (slice_get p.junctions (one_end is_start ends)) rise

pub ends_kept : (is_start : Bool) (spots : List Spot) (pieces : List Piece) (founds : List PieceEnds) → AreInBlockOrder spots
    → AreInBlockOrder (with_best_ends is_start spots pieces founds)
ends_kept is_start spots [] founds rise = rise
ends_kept is_start spots (p ∷ ps) [] rise = rise
ends_kept is_start spots (p ∷ ps) (f ∷ fs) rise =
    ends_kept is_start (with_best_end is_start spots (graph_of p) (ends_found f)) ps fs
    (end_kept is_start spots (graph_of p) (ends_found f) rise)

-- the drawing that is made has them in order
pub ordered_with : (d : DrawingValue) (is_starts is_ends starts ends : List Spot) (pieces others : List Piece)
    (founds more : List PieceEnds)
    → AreInBlockOrder starts → AreInBlockOrder ends → is_starts ≡ with_best_ends true starts pieces founds
    → is_ends ≡ with_best_ends false ends others more → d.starts ≡ is_starts → d.ends ≡ is_ends → HasOrderedEnds d
ordered_with d is_starts is_ends starts ends pieces others founds more one two three four five six = record {
  starts = subst AreInBlockOrder (sym (five ∙ three)) (ends_kept true starts pieces founds one);
  ends = subst AreInBlockOrder (sym (six ∙ four)) (ends_kept false ends others more two);
}
