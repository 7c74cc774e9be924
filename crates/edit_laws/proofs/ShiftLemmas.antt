-- A shift keeps which points are equal, moves the needle points of a line, and is undone by the opposite shift.
use Rattle.std.proofs.Common.{◌≡◌, ◌∙◌, ℕ, ℤ, pos, ◌+ℤ◌, ◌-ℤ◌, ◌*ℤ◌, neg_ℤ, Bool, true, false, ◌&&◌, List, [], ◌∷◌, map, refl, ap, sym, subst, arith}
use Rattle.edit_laws.proofs.Names.{Decides-int_eq, nat_tests, ints, map-append, div_ceil, range_with_len, int_eq, shift_point, Point, is_same_point, move_between, move_size, with_moved_line, with_moved_spot, Pass, DrawingValue, IsThreadOver, segment_points, run_of, sewn_acts_after, Spot, LineValue, point_on_segment, split_points, steps_of, same_test, shifted, shifted_drawing, coordinate_on_segment, floor_quotient, back-there}
use Rattle.odd_cuts.specs.Certificates.{walks_of}
use Rattle.route_verdict.specs.VerdictTheorems.{YesIsLeastRedwork}
use Rattle.edit_laws.specs.ShiftLaws.{ShiftKeepsLeastRedwork, ShiftKeepsYes, ShiftMovesNeedles}
use Rattle.edit_laws.proofs.MovedActs.{acts_moved, runs_moved, sewn_moved, with_mapped_act}
use Rattle.edit_laws.proofs.MovedLines.{joined_same}
use Rattle.edit_laws.proofs.MovedPieces.{pieces_moved}
use Rattle.edit_laws.proofs.MovedWalks.{thread_moved, threads_moved}

-- the point with those numbers
abbrev at : ℤ → ℤ → Point
at x y = record { x = x; y = y }

same_at : (x y x' y' : ℤ) → x ≡ x' → y ≡ y' → at x y ≡ at x' y'
same_at x y x' y' p q = ap (λ (z : ℤ). at z y) p ∙ ap (λ (z : ℤ). at x' z) q

sum_turned : (a d q : ℤ) → (a +ℤ d) +ℤ q ≡ (a +ℤ q) +ℤ d
sum_turned a d q = omega (arith, ints)

equal_kept : (a b d : ℤ) → int_eq (a +ℤ d) (b +ℤ d) ≡ int_eq a b
equal_kept a b d = same_test (int_eq (a +ℤ d) (b +ℤ d)) (int_eq a b)
    (λ is. (Decides-int_eq a b).1 (grind (arith, nat_tests)))
    (λ is. (Decides-int_eq (a +ℤ d) (b +ℤ d)).1 (ap (λ (z : ℤ). z +ℤ d) ((Decides-int_eq a b).0 is)))

pub same_kept : (dx dy : ℤ) (p q : Point) → is_same_point (shift_point dx dy p) (shift_point dx dy q) ≡ is_same_point p q
same_kept dx dy p q = ap (λ (t : Bool). t && int_eq (p.y +ℤ dy) (q.y +ℤ dy)) (equal_kept p.x q.x dx)
    ∙ ap (λ (t : Bool). int_eq p.x q.x && t) (equal_kept p.y q.y dy)

-- steps and their ends
move_kept : (dx dy : ℤ) (p q : Point) → move_between (shift_point dx dy p) (shift_point dx dy q) ≡ move_between p q
move_kept dx dy p q = same_at _ _ _ _ (grind (arith, nat_tests)) (grind (arith, nat_tests))

coordinate_moved : (a b d : ℤ) (n i : ℕ) → coordinate_on_segment (a +ℤ d) (b +ℤ d) n i ≡ coordinate_on_segment a b n i +ℤ d
coordinate_moved a b d n i = ap (λ (z : ℤ). (a +ℤ d) +ℤ floor_quotient (pos i *ℤ z) n) (grind (arith, nat_tests))
    ∙ sum_turned a d (floor_quotient (pos i *ℤ (b -ℤ a)) n)

ends_moved : (dx dy : ℤ) (p q : Point) (n : ℕ) (is : List ℕ)
    → map (λ i. point_on_segment (shift_point dx dy p) (shift_point dx dy q) n i) is
    ≡ map (shift_point dx dy) (map (λ i. point_on_segment p q n i) is)
ends_moved dx dy p q n [] = refl
ends_moved dx dy p q n (i ∷ is) =
    ap (λ (r : Point). r ∷ map (λ i. point_on_segment (shift_point dx dy p) (shift_point dx dy q) n i) is)
    (same_at _ _ _ _ (coordinate_moved p.x q.x dx n i) (coordinate_moved p.y q.y dy n i))
    ∙ ap (λ (rs : List Point). shift_point dx dy (point_on_segment p q n i) ∷ rs) (ends_moved dx dy p q n is)

steps_kept : (dx dy : ℤ) (p q : Point) (step : ℕ) → steps_of (shift_point dx dy p) (shift_point dx dy q) step ≡ steps_of p q step
steps_kept dx dy p q step = ap (λ (m : Point). div_ceil (move_size m) step) (move_kept dx dy p q)

split_moved : (dx dy : ℤ) (p q : Point) (step : ℕ)
    → split_points (shift_point dx dy p) (shift_point dx dy q) step ≡ map (shift_point dx dy) (split_points p q step)
split_moved dx dy p q step =
    ap (λ (n : ℕ). map (λ i. point_on_segment (shift_point dx dy p) (shift_point dx dy q) n i) (range_with_len 1 n))
    (steps_kept dx dy p q step)
    ∙ ends_moved dx dy p q (steps_of p q step) (range_with_len 1 (steps_of p q step))

segment_moved : (dx dy : ℤ) (step : ℕ) (p : Point) (ps : List Point)
    → segment_points step (shift_point dx dy p) (map (shift_point dx dy) ps) ≡ map (shift_point dx dy) (segment_points step p ps)
segment_moved dx dy step p [] = refl
segment_moved dx dy step p (q ∷ ps) =
    joined_same _ _ _ _ (split_moved dx dy p q step) (segment_moved dx dy step q ps)
    ∙ sym (map-append (shift_point dx dy) (split_points p q step) (segment_points step q ps))

pub needles_moved : ShiftMovesNeedles
needles_moved dx dy step [] = refl
needles_moved dx dy step (p ∷ ps) = ap (λ (rs : List Point). shift_point dx dy p ∷ rs) (segment_moved dx dy step p ps)

-- the opposite shift
map_undone : {A : Type 0} (f g : A → A) → ((a : A) → g (f a) ≡ a) → (xs : List A) → map g (map f xs) ≡ xs
map_undone f g is [] = refl
map_undone f g is (x ∷ xs) = ap (λ y. y ∷ map g (map f xs)) (is x) ∙ ap (λ ys. x ∷ ys) (map_undone f g is xs)

point_undone : (dx dy : ℤ) (p : Point) → shift_point (neg_ℤ dx) (neg_ℤ dy) (shift_point dx dy p) ≡ p
point_undone dx dy p = same_at _ _ _ _ (back-there p.x dx) (back-there p.y dy)

line_undone : (dx dy : ℤ) (line : LineValue)
    → with_moved_line (shift_point (neg_ℤ dx) (neg_ℤ dy)) (with_moved_line (shift_point dx dy) line) ≡ line
line_undone dx dy line = ap (λ (ps : List Point). record { block = line.block; points = ps })
    (map_undone (shift_point dx dy) (shift_point (neg_ℤ dx) (neg_ℤ dy)) (point_undone dx dy) line.points)

spot_undone : (dx dy : ℤ) (spot : Spot)
    → with_moved_spot (shift_point (neg_ℤ dx) (neg_ℤ dy)) (with_moved_spot (shift_point dx dy) spot) ≡ spot
spot_undone dx dy spot = ap (λ (p : Point). record { block = spot.block; at = p }) (point_undone dx dy spot.at)

drawing_undone : (dx dy : ℤ) (d : DrawingValue) → shifted_drawing (neg_ℤ dx) (neg_ℤ dy) (shifted_drawing dx dy d) ≡ d
drawing_undone dx dy d =
    ap (λ (ls : List LineValue). record (shifted_drawing (neg_ℤ dx) (neg_ℤ dy) (shifted_drawing dx dy d)) { lines = ls })
    (map_undone _ _ (line_undone dx dy) d.lines)
    ∙ (ap (λ (ss : List Spot). record d {
      starts = ss;
      ends = map (with_moved_spot (shift_point (neg_ℤ dx) (neg_ℤ dy)))
          (map (with_moved_spot (shift_point dx dy)) d.ends);
    }) (map_undone _ _ (spot_undone dx dy) d.starts)
    ∙ ap (λ (es : List Spot). record d { ends = es }) (map_undone _ _ (spot_undone dx dy) d.ends))

thread_back : (dx dy : ℤ) (d : DrawingValue) (lines : List ℕ) (walk : List Pass) → IsThreadOver (shifted_drawing dx dy d) lines walk
    → IsThreadOver d lines walk
thread_back dx dy d lines walk over = subst (λ (e : DrawingValue). IsThreadOver e lines walk) (drawing_undone dx dy d)
    (thread_moved (shift_point (neg_ℤ dx) (neg_ℤ dy)) (same_kept (neg_ℤ dx) (neg_ℤ dy)) (needles_moved (neg_ℤ dx) (neg_ℤ dy))
    (shifted_drawing dx dy d) lines walk over)

pub redwork_moved : ShiftKeepsLeastRedwork
redwork_moved dx dy d design certs is =
    let f : Point → Point = shift_point dx dy in
    record {
      pieces = is.pieces;
      pieces_are = pieces_moved f (same_kept dx dy) d is.pieces is.pieces_are;
      threads = threads_moved f (same_kept dx dy) (needles_moved dx dy) d is.pieces certs (thread_back dx dy d) is.threads;
      sewn = acts_moved f 1 true false design.commands
          ∙ (ap (map (with_mapped_act f)) is.sewn
          ∙ (sym (sewn_moved f 0 (map (run_of d) (walks_of certs)))
          ∙ ap (sewn_acts_after 0) (sym (runs_moved f (needles_moved dx dy) d (walks_of certs)))));
    }

-- the verdict stays yes
pub yes_moved : YesIsLeastRedwork → ShiftKeepsYes
yes_moved law dx dy d design certs limits limits' is =
    (law (shifted_drawing dx dy d) (shifted dx dy design) certs limits').1
    (redwork_moved dx dy d design certs ((law d design certs limits).0 is))
