-- A text names starts and ends in the order of their blocks: each belongs to the last block so far.
use Rattle.std.proofs.Common.{ℕ, ◌+◌, ◌-◌, ◌<◌, ◌≤◌, ◌==◌, ◌&&◌, ◌||◌, Bool, true, false, not, List, [], ◌∷◌, ◌++◌, Option, Some, None, Ok, IfOk, length, map, codes, bytes_eq, All, sym, subst, arith}
use Rattle.std.proofs.lemmas.List.{length-append}
use Rattle.std.proofs.lemmas.List.Sorted.{IsNonDecreasingBy-push}
use Rattle.drawing_text.proofs.Names.{nat_tests, map-append, All-head, All-nil, All-push, All-weaker, list_any, IsNonDecreasing, parsed_whole, Spot, LineValue, DrawingValue, all_in_needle_range, and_then, block_added, finished_drawing, is_drawing_label, is_last_empty, line_added, with_new_line, joined_drawing, HasNoEnds, are_connected_spots, is_junction, walk_end_added, after_both, unless, DrawingDraft, Version, WalkEnd, at_line, body_of_text, drawing_after_lines, drawing_in_version, drawing_of, drawing_of_draft, drawing_with_ends, joined_at, AreInBlockOrder, allows_ends, draft_after_words, empty_draft, is_before_blocks, parsed_count, parsed_point, parsed_points, with_color_line, with_name_line, with_points_line, with_step_line, with_walk_end_line, begins_comment, single_word, All-get_or, All-map, steps_with_line, spot_added, finished_none, joined_none, HasOrderedEnds, TextsOrderEnds, some_of}
use Rattle.line_graph.specs.declared.draw_kind.DrawKind.TheVariants as kind
use Rattle.drawing_text.proofs.PrintedBlocks.{Rises, rises_of}
use Rattle.drawing_text.proofs.ValidTextLemmas.{any_ok, either, located, value_of, weaker, where_true}
use Rattle.drawing_text.specs.declared.version.Version.TheVariants as version

-- an item of no lesser number at the end of items in order
pushed_order : {A : Type 0} (of : A → ℕ) (items : List A) (item : A) → IsNonDecreasing (map of items) → All (λ a. of a ≤ of item) items
    → IsNonDecreasing (map of (items ++ item ∷ []))
pushed_order of items item ordered below =
    let Ordered : List ℕ → Type 0 = λ numbers. IsNonDecreasing numbers in
    let numbers : List ℕ = map of items in
    subst Ordered (sym (map-append of items (item ∷ []))) (IsNonDecreasingBy-push (λ (n : ℕ). n) numbers (of item) ordered
    (λ d some. All-get_or (λ (n : ℕ). n ≤ of item) numbers (length numbers - 1) d (omega (arith, some))
    (All-map (λ (n : ℕ). n ≤ of item) of items below)))

-- the block of a start or an end
abbrev of_end : WalkEnd → ℕ
of_end end = end.spot.block

-- a draft whose starts and ends are in order, in blocks that it has
record IsOrdered (draft : DrawingDraft) : Type 0 where
  ordered : IsNonDecreasing (map of_end draft.ends)
  below : All (λ end. of_end end < length draft.drawing.threads) draft.ends
  none : HasNoEnds draft.drawing

name_ordered : (draft : DrawingDraft) (word : Option (List ℕ)) → IsOrdered draft → IfOk (with_name_line draft word) IsOrdered
name_ordered draft None is = tt
name_ordered draft (Some word) is =
    grind (arith, nat_tests, where_true IsOrdered (is_drawing_label word && (not draft.named && is_before_blocks draft)))

step_ordered : (draft : DrawingDraft) (word : Option (List ℕ)) → IsOrdered draft → IfOk (with_step_line draft word) IsOrdered
step_ordered draft None is = tt
step_ordered draft (Some word) is =
    unless IsOrdered (draft.stepped || not (is_before_blocks draft)) _ kind.BadWord (λ test.
    after_both (λ step. Unit {0}) IsOrdered (parsed_count 1 2047 (parsed_whole word)) _ (any_ok (parsed_count 1 2047 (parsed_whole word)))
    (λ step any. record { ordered = is.ordered; below = is.below; none = record { starts = is.none.starts; ends = is.none.ends } }))

-- a drawing with at least as many blocks, and without starts and ends
record IsLonger (d next : DrawingValue) : Type 0 where
  longer : length d.threads ≤ length next.threads
  none_yet : HasNoEnds next

grown_ordered : (draft : DrawingDraft) (opened : ℕ) (next : DrawingValue) → IsOrdered draft → IsLonger draft.drawing next
    → IsOrdered (record draft { opened = opened; drawing = next })
grown_ordered draft opened next is grown = record {
  ordered = is.ordered;
  below = All-weaker (λ (e : WalkEnd). of_end e < length draft.drawing.threads) (λ (e : WalkEnd). of_end e < length next.threads)
      (λ e low. omega (arith, low, grown.longer)) draft.ends is.below;
  none = grown.none_yet;
}

color_ordered : (number : ℕ) (draft : DrawingDraft) (word : Option (List ℕ)) → IsOrdered draft
    → IfOk (with_color_line number draft word) IsOrdered
color_ordered number draft None is = tt
color_ordered number draft (Some word) is =
    after_both (λ thread. Unit {0}) IsOrdered (parsed_count 0 255 (parsed_whole word)) _ (any_ok (parsed_count 0 255 (parsed_whole word)))
    (λ thread any. after_both (IsLonger draft.drawing) IsOrdered (block_added draft.drawing thread) _
    (unless (IsLonger draft.drawing) (is_last_empty draft.drawing) _ kind.EmptyBlock (λ filled.
    unless (IsLonger draft.drawing) (length draft.drawing.threads == 255) _ kind.TooManyBlocks (λ few. record {
      longer = omega (arith, length-append draft.drawing.threads (thread ∷ []));
      none_yet = record { starts = is.none.starts; ends = is.none.ends };
    })))
    (λ next grown. grown_ordered draft number next is grown))

points_ordered : (draft : DrawingDraft) (words : List (List ℕ)) → IsOrdered draft → IfOk (with_points_line draft words) IsOrdered
points_ordered draft words is =
    unless IsOrdered (is_before_blocks draft) _ kind.NoBlock (λ some.
    after_both (λ points. Unit {0}) IsOrdered (parsed_points words) _ (any_ok (parsed_points words)) (λ points any.
    after_both (IsLonger draft.drawing) IsOrdered (line_added draft.drawing points) _
    (unless (IsLonger draft.drawing) (length draft.drawing.threads == 0) _ kind.NoBlock (λ block.
    unless (IsLonger draft.drawing) (not (all_in_needle_range points)) _ kind.OutOfRange (λ near.
    after_both (λ steps. Unit {0}) (IsLonger draft.drawing) (steps_with_line draft.drawing points)
    (λ steps. Ok (with_new_line draft.drawing points)) (any_ok (steps_with_line draft.drawing points))
    (λ steps able. record { longer = omega arith; none_yet = record { starts = is.none.starts; ends = is.none.ends } }))))
    (λ next grown. grown_ordered draft draft.opened next is grown)))

end_ordered : (number : ℕ) (is_start : Bool) (draft : DrawingDraft) (words : List (List ℕ)) → IsOrdered draft
    → IfOk (with_walk_end_line number is_start draft words) IsOrdered
end_ordered number is_start draft words is =
    let blocks : ℕ = length draft.drawing.threads in
    unless IsOrdered (is_before_blocks draft) _ kind.NoBlock (λ some.
    after_both (λ at. Unit {0}) IsOrdered (parsed_point words) _ (any_ok (parsed_point words)) (λ at any.
    let end : WalkEnd = record { number = number; is_start = is_start; spot = record { block = blocks - 1; at = at } } in record {
      ordered = pushed_order of_end draft.ends end is.ordered
          (All-weaker (λ (e : WalkEnd). of_end e < blocks) (λ (e : WalkEnd). of_end e ≤ blocks - 1)
          (λ e low. omega (arith, low)) draft.ends is.below);
      below = All-push (λ (e : WalkEnd). of_end e < blocks) draft.ends end is.below (omega (arith, some_of blocks some));
      none = is.none;
    }))

line_ordered : (version : Version) (number : ℕ) (draft : DrawingDraft) (words : List (List ℕ)) → IsOrdered draft
    → IfOk (draft_after_words version number draft words) IsOrdered
line_ordered version number draft [] is = is
line_ordered version number draft (word ∷ rest) is =
    either IsOrdered (begins_comment word) (Ok draft) _ is
    (either IsOrdered (bytes_eq word (codes "name")) _ _ (name_ordered draft (single_word rest) is)
    (either IsOrdered (bytes_eq word (codes "step")) _ _ (step_ordered draft (single_word rest) is)
    (either IsOrdered (bytes_eq word (codes "color")) _ _ (color_ordered number draft (single_word rest) is)
    (either IsOrdered (bytes_eq word (codes "line")) _ _ (points_ordered draft rest is)
    (unless IsOrdered (not (allows_ends version)) _ kind.BadWord (λ allowed.
    either IsOrdered (bytes_eq word (codes "start")) _ _ (end_ordered number true draft rest is)
    (where_true IsOrdered (bytes_eq word (codes "end")) _ kind.BadWord (λ same. end_ordered number false draft rest is))))))))

-- the block of a spot
abbrev of_spot : Spot → ℕ
of_spot spot = spot.block

-- spots in order up to a block
record IsOrderedTo (low : ℕ) (spots : List Spot) : Type 0 where
  rising : AreInBlockOrder spots
  to : All (λ spot. spot.block ≤ low) spots

raised : (low high : ℕ) (spots : List Spot) → low ≤ high → IsOrderedTo low spots → IsOrderedTo high spots
raised low high spots reach is = record {
  rising = is.rising;
  to = All-weaker (λ (s : Spot). s.block ≤ low) (λ (s : Spot). s.block ≤ high) (λ s below. omega (arith, below, reach)) spots is.to;
}

spot_ordered : (lines : List LineValue) (low : ℕ) (spots : List Spot) (spot : Spot) → low ≤ spot.block → IsOrderedTo low spots
    → IfOk (spot_added lines spots spot) (IsOrderedTo spot.block)
spot_ordered lines low spots spot reach is =
    let high = raised low spot.block spots reach is in
    unless (IsOrderedTo spot.block) (not (is_junction lines spot)) _ kind.NoJunction (λ there.
    unless (IsOrderedTo spot.block) (list_any (λ (one : Spot). are_connected_spots lines one spot) spots) _ kind.EndRepeated
    (λ apart. record {
      rising = pushed_order of_spot spots spot high.rising high.to;
      to = All-push (λ (s : Spot). s.block ≤ spot.block) spots spot high.to (omega arith);
    }))

-- the starts and the ends of a drawing are in order up to a block
record HasEndsTo (low : ℕ) (d : DrawingValue) : Type 0 where
  starts_to : IsOrderedTo low d.starts
  ends_to : IsOrderedTo low d.ends

end_added_to : (is_start : Bool) (d : DrawingValue) (spot : Spot) (low : ℕ) → low ≤ spot.block → HasEndsTo low d
    → IfOk (walk_end_added is_start d spot) (HasEndsTo spot.block)
end_added_to true d spot low reach is =
    after_both (IsOrderedTo spot.block) (HasEndsTo spot.block) (spot_added d.lines d.starts spot) _
    (spot_ordered d.lines low d.starts spot reach is.starts_to)
    (λ starts one. record { starts_to = one; ends_to = raised low spot.block d.ends reach is.ends_to })
end_added_to false d spot low reach is =
    after_both (IsOrderedTo spot.block) (HasEndsTo spot.block) (spot_added d.lines d.ends spot) _
    (spot_ordered d.lines low d.ends spot reach is.ends_to)
    (λ ends one. record { starts_to = raised low spot.block d.starts reach is.starts_to; ends_to = one })

all_ordered : (d : DrawingValue) (low : ℕ) (ends : List WalkEnd) → HasEndsTo low d → All (λ end. low ≤ of_end end) ends
    → Rises of_end ends → IfOk (drawing_with_ends d ends) HasOrderedEnds
all_ordered d low [] is reach rises = record { starts = is.starts_to.rising; ends = is.ends_to.rising }
all_ordered d low (end ∷ rest) is reach rises =
    after_both (HasEndsTo end.spot.block) HasOrderedEnds (at_line end.number 0 (walk_end_added end.is_start d end.spot)) _
    (located (HasEndsTo end.spot.block) end.number 0 (walk_end_added end.is_start d end.spot)
    (end_added_to end.is_start d end.spot low (All-head (λ (e : WalkEnd). low ≤ of_end e) end rest reach) is))
    (λ next has. all_ordered next end.spot.block rest has rises.0 rises.1)

none_ends : (d : DrawingValue) → HasNoEnds d → HasEndsTo 0 d
none_ends d none = record { starts_to = grind (arith, nat_tests, All-nil); ends_to = grind (arith, nat_tests, All-nil) }

no_ends_ordered : (d : DrawingValue) → HasNoEnds d → HasOrderedEnds d
no_ends_ordered d none = let is = none_ends d none in record { starts = is.starts_to.rising; ends = is.ends_to.rising }

draft_joined : (number : ℕ) (draft : DrawingDraft) → IsOrdered draft → IfOk (joined_at number draft) HasNoEnds
draft_joined number draft is =
    located HasNoEnds number draft.opened (and_then (finished_drawing draft.drawing) joined_drawing)
    (after_both HasNoEnds HasNoEnds (finished_drawing draft.drawing) joined_drawing (finished_none draft.drawing is.none) joined_none)

draft_ordered : (version : Version) (number : ℕ) (draft : DrawingDraft) → IsOrdered draft
    → IfOk (drawing_of_draft version number draft) HasOrderedEnds
draft_ordered version.One number draft is =
    weaker HasNoEnds HasOrderedEnds (at_line number draft.opened (finished_drawing draft.drawing)) no_ends_ordered
    (located HasNoEnds number draft.opened (finished_drawing draft.drawing) (finished_none draft.drawing is.none))
draft_ordered version.Two number draft is =
    weaker HasNoEnds HasOrderedEnds (joined_at number draft) no_ends_ordered (draft_joined number draft is)
draft_ordered version.Three number draft is =
    after_both HasNoEnds HasOrderedEnds (joined_at number draft) _ (draft_joined number draft is)
    (λ d none. all_ordered d 0 draft.ends (none_ends d none) (λ k e there. omega arith) (rises_of of_end draft.ends is.ordered))

lines_ordered : (version : Version) (number : ℕ) (draft : DrawingDraft) (lines : List (List (List ℕ))) → IsOrdered draft
    → IfOk (drawing_after_lines version number draft lines) HasOrderedEnds
lines_ordered version number draft [] is = draft_ordered version number draft is
lines_ordered version number draft (words ∷ rest) is =
    after_both IsOrdered HasOrderedEnds (at_line number draft.opened (draft_after_words version number draft words)) _
    (located IsOrdered number draft.opened (draft_after_words version number draft words) (line_ordered version number draft words is))
    (λ next has. lines_ordered version (number + 1) next rest has)

empty_ordered : IsOrdered empty_draft
empty_ordered = grind (arith, nat_tests, All-nil (λ (e : WalkEnd). of_end e < 0))

pub ends_ordered : TextsOrderEnds
ends_ordered text d is =
    value_of HasOrderedEnds (drawing_of text) d
    (after_both (λ body. Unit {0}) HasOrderedEnds (body_of_text text) (λ body. drawing_in_version body.version body)
    (any_ok (body_of_text text))
    (λ body any. lines_ordered body.version (body.header + 1) empty_draft body.lines empty_ordered)) is
