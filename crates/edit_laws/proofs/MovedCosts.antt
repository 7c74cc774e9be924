-- The costs of a moved drawing. The map of points keeps whether two points are equal, and the number of steps of a segment.
use Rattle.std.proofs.Common.{◌≡◌, ◌∙◌, ℕ, suc, ◌+◌, ◌-◌, Bool, true, false, cond, List, [], ◌∷◌, ◌++◌, length, map, drop, reverse, refl, ap, sym}
use Rattle.std.proofs.lemmas.List.FromFn.{length-range_with_len}
use Rattle.edit_laws.proofs.Names.{length-map, flat_map, range_with_len, Point, is_same_point, moved_drawing, Pass, DrawingValue, points_of, needle_points, segment_points, needles_of_pass, needles_of_walk, cost_of_line, needles_of_line, point_on_segment, split_points, steps_of, length-append, length-drop, length-reverse, KeepsCosts}
use Rattle.edit_laws.proofs.MovedLines.{points_moved}
use Rattle.edit_laws.proofs.MovedPieces.{pieces_moved}
use Rattle.edit_laws.proofs.MovedWalks.{packing_moved}

-- a segment is split at as many points as it has steps
split_count : (p q : Point) (step : ℕ) → length (split_points p q step) ≡ steps_of p q step
split_count p q step = length-map (range_with_len 1 (steps_of p q step)) (λ (i : ℕ). point_on_segment p q (steps_of p q step) i)
    ∙ length-range_with_len 1 (steps_of p q step)

-- lists of equal lengths, one after the other
both_counts : {A : Type 0} (a a' b b' : List A) → length a ≡ length a' → length b ≡ length b' → length (a ++ b) ≡ length (a' ++ b')
both_counts a a' b b' one two = length-append a b ∙ (ap (λ (n : ℕ). n + length b) one ∙ (ap (λ (n : ℕ). length a' + n) two
    ∙ sym (length-append a' b')))

back_count : (b : Bool) (ps qs : List Point) → length ps ≡ length qs → length (cond b (reverse ps) ps) ≡ length (cond b (reverse qs) qs)
back_count true ps qs is = length-reverse ps ∙ (is ∙ sym (length-reverse qs))
back_count false ps qs is = is

module _ (f : Point → Point) (same : (p q : Point) → is_same_point (f p) (f q) ≡ is_same_point p q)
    (steps : (step : ℕ) (p q : Point) → steps_of (f p) (f q) step ≡ steps_of p q step) where
  segment_count : (step : ℕ) (p : Point) (ps : List Point)
      → length (segment_points step (f p) (map f ps)) ≡ length (segment_points step p ps)
  segment_count step p [] = refl
  segment_count step p (q ∷ ps) = both_counts _ _ _ _
      (split_count (f p) (f q) step ∙ (steps step p q ∙ sym (split_count p q step))) (segment_count step q ps)

  needle_count : (step : ℕ) (ps : List Point) → length (needle_points step (map f ps)) ≡ length (needle_points step ps)
  needle_count step [] = refl
  needle_count step (p ∷ ps) = ap (λ (n : ℕ). suc n) (segment_count step p ps)

  line_count : (d : DrawingValue) (i : ℕ) → length (needles_of_line (moved_drawing f d) i) ≡ length (needles_of_line d i)
  line_count d i = ap (λ (ps : List Point). length (needle_points d.step ps)) (points_moved f d i)
      ∙ needle_count d.step (points_of d i)

  line_cost_kept : (d : DrawingValue) (i : ℕ) → cost_of_line (moved_drawing f d) i ≡ cost_of_line d i
  line_cost_kept d i = ap (λ (n : ℕ). n - 1) (line_count d i)

  pass_count : (d : DrawingValue) (pass : Pass)
      → length (needles_of_pass (moved_drawing f d) pass) ≡ length (needles_of_pass d pass)
  pass_count d pass = back_count pass.back (needles_of_line (moved_drawing f d) pass.line) (needles_of_line d pass.line)
      (line_count d pass.line)

  later_count : (d : DrawingValue) (walk : List Pass)
      → length (flat_map (λ (next : Pass). drop 1 (needles_of_pass (moved_drawing f d) next)) walk)
      ≡ length (flat_map (λ (next : Pass). drop 1 (needles_of_pass d next)) walk)
  later_count d [] = refl
  later_count d (next ∷ rest) = both_counts (drop 1 (needles_of_pass (moved_drawing f d) next)) (drop 1 (needles_of_pass d next))
      (flat_map (λ (next : Pass). drop 1 (needles_of_pass (moved_drawing f d) next)) rest)
      (flat_map (λ (next : Pass). drop 1 (needles_of_pass d next)) rest)
      (length-drop 1 (needles_of_pass (moved_drawing f d) next)
      ∙ (ap (λ (n : ℕ). n - 1) (pass_count d next) ∙ sym (length-drop 1 (needles_of_pass d next)))) (later_count d rest)

  walk_count : (d : DrawingValue) (walk : List Pass)
      → length (needles_of_walk (moved_drawing f d) walk) ≡ length (needles_of_walk d walk)
  walk_count d [] = refl
  walk_count d (pass ∷ rest) = both_counts _ _ _ _ (pass_count d pass) (later_count d rest)

  pub costs_kept : (d : DrawingValue) → KeepsCosts d (moved_drawing f d)
  costs_kept d = record {
    lines = line_cost_kept d;
    walks = walk_count d;
    pieces = pieces_moved f same d;
    packings = λ lines cuts is. packing_moved f same d lines cuts (line_cost_kept d) is;
  }
