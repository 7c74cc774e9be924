-- Edits keep starts and ends in the order of their blocks.
use Rattle.std.proofs.Common.{◌≡◌, ◌<◌, ◌≤◌, ℕ, Bool, true, false, not, nat_lt, List, [], ◌∷◌, ◌++◌, length, map, take, drop, get_or, Result, Ok, Err, arith, refl, sym, ◌∙◌, ap, subst}
use Rattle.drawing_edits.proofs.Names.{nat_tests, position_or_len, IsNonDecreasing, motion_map, Point, origin, DrawingValue, and_then, Spot, LineValue, EditFault, HasEndsOf, AreInBlockOrder, HasOrderedEnds, centred_drawing, with_moved_spot, drawn_from, end_placed, with_end_at, with_spot, ltb-false, ltb-true, drop-map, get_or-map, length-map, map-append, take-map, IsNonDecreasingBy-insert, fails_before_first, passes_at_first, prefix_len-le-length, insert, EditsKeepEndsByBlock, moved_drawing, lines_in_order}
use Rattle.drawing_edits.specs.declared.drawing_edit.DrawingEdit.TheVariants as edit
use Rattle.drawing_edits.proofs.KeptEndLemmas.{answer_kept, placed_kept}

-- The block of a spot.
abbrev block_of_spot : Spot → ℕ
block_of_spot spot = spot.block

-- Moved spots have the blocks of the spots.
moved_blocks : (f : Point → Point) (spots : List Spot) → map block_of_spot (map (with_moved_spot f) spots) ≡ map block_of_spot spots
moved_blocks f [] = refl
moved_blocks f (spot ∷ rest) = ap (λ (ns : List ℕ). spot.block ∷ ns) (moved_blocks f rest)

-- The first index that passes is no greater than the length.
position_most : (p : Spot → Bool) (spots : List Spot) → position_or_len p spots ≤ length spots
position_most p spots = prefix_len-le-length (λ spot. not (p spot)) spots

-- A spot that comes after those of its block and of earlier blocks keeps their order.
spot_kept : (spot : Spot) (spots : List Spot) → AreInBlockOrder spots → AreInBlockOrder (with_spot spot spots)
spot_kept spot spots rise = subst IsNonDecreasing (sym shape)
    (IsNonDecreasingBy-insert (λ (n : ℕ). n) blocks index spot.block rise (omega (arith, position_most later spots, wide)) low high)
  where
    later : Spot → Bool
    later one = nat_lt spot.block one.block

    index : ℕ
    index = position_or_len later spots

    blocks : List ℕ
    blocks = map block_of_spot spots

    wide : length blocks ≡ length spots
    wide = length-map spots block_of_spot

    none : Spot
    none = record { block = 0; at = origin }

    low : (k : ℕ) (d : ℕ) → k < index → get_or blocks k d ≤ spot.block
    low k d before =
        let at : get_or blocks k d ≡ (get_or spots k none).block =
        get_or-map block_of_spot spots k none d (omega (arith, before, position_most later spots)) in
        omega (arith, at, ltb-false spot.block (get_or spots k none).block (fails_before_first later spots k none before))

    high : (k : ℕ) (d : ℕ) → index ≤ k → k < length blocks → spot.block ≤ get_or blocks k d
    high k d from below =
        let within : index < length spots = omega (arith, from, below, wide) in
        let at : get_or blocks index d ≡ (get_or spots index none).block = get_or-map block_of_spot spots index none d within in
        let on = rise index k d from below in
        omega (arith, at, ltb-true spot.block (get_or spots index none).block (passes_at_first later spots none within), on)

    shape : map block_of_spot (with_spot spot spots) ≡ insert blocks index spot.block
    shape = map-append block_of_spot (take index spots) (spot ∷ drop index spots)
        ∙ (ap (λ (ns : List ℕ). ns ++ spot.block ∷ map block_of_spot (drop index spots)) (sym (take-map block_of_spot index spots))
        ∙ ap (λ (ns : List ℕ). take index blocks ++ spot.block ∷ ns) (sym (drop-map block_of_spot index spots)))

-- A drawing with the starts and ends of another one has their order.
order_of_same : (d new : DrawingValue) → HasEndsOf d new → HasOrderedEnds d → HasOrderedEnds new
order_of_same d new h1 h2 = grind (arith, nat_tests)

moved_order : (f : Point → Point) (d : DrawingValue) → HasOrderedEnds d → HasOrderedEnds (moved_drawing f d)
moved_order f d ordered = record {
  starts = subst IsNonDecreasing (sym (moved_blocks f d.starts)) ordered.starts;
  ends = subst IsNonDecreasing (sym (moved_blocks f d.ends)) ordered.ends;
}

placed_order : (is_start : Bool) (spot : Spot) (d : DrawingValue) → HasOrderedEnds d → HasOrderedEnds (with_end_at is_start spot d)
placed_order true spot d ordered = record { starts = spot_kept spot d.starts ordered.starts; ends = ordered.ends }
placed_order false spot d ordered = record { starts = ordered.starts; ends = spot_kept spot d.ends ordered.ends }

end_order : (is_start : Bool) (p : Point) (d new : DrawingValue) → end_placed is_start p d ≡ Ok new → HasOrderedEnds d → HasOrderedEnds new
end_order is_start p d new is ordered =
    let placed = placed_kept is_start p d new is in
    order_of_same (with_end_at is_start (record { block = placed.block; at = p }) d) new placed.kept
    (placed_order is_start (record { block = placed.block; at = p }) d ordered)

-- An edit keeps starts and ends in the order of their blocks.
pub edits_keep_order : EditsKeepEndsByBlock
edits_keep_order (edit.Move motion) d new is ordered =
    order_of_same (moved_drawing (motion_map motion) d) new (answer_kept (moved_drawing (motion_map motion) d) new is)
    (moved_order (motion_map motion) d ordered)
edits_keep_order edit.Centre d new is ordered =
    order_of_same (centred_drawing d) new (answer_kept (centred_drawing d) new is) (moved_order _ d ordered)
edits_keep_order (edit.Step step) d new is ordered =
    order_of_same (record d { step = step }) new (answer_kept (record d { step = step }) new is)
    (record { starts = ordered.starts; ends = ordered.ends })
edits_keep_order (edit.Order first second) d new is ordered = by_lines (lines_in_order first second d) is
  where
    by_lines : (r : Result (List LineValue) EditFault) → and_then r (drawn_from d) ≡ Ok new → HasOrderedEnds new
    by_lines (Ok lines) same = order_of_same (record d { lines = lines }) new (answer_kept (record d { lines = lines }) new same)
        (record { starts = ordered.starts; ends = ordered.ends })
    by_lines (Err why) same = absurd (let no : ⊥ = cc in no)
edits_keep_order (edit.Start at) d new is ordered = end_order true at d new is ordered
edits_keep_order (edit.End at) d new is ordered = end_order false at d new is ordered
