-- The pieces of a moved drawing.
use Rattle.std.proofs.Common.{◌≡◌, ◌∙◌, ℕ, ◌<◌, ◌==◌, ◌&&◌, ◌||◌, Bool, All, List, [], ◌∷◌, Option, Some, None, map, refl, ap, sym, subst}
use Rattle.edit_laws.proofs.Names.{length-map, slice_get-map, option_map, slice_get, list_any, Point, is_same_point, moved_drawing, with_moved_line, DrawingValue, endpoints, LineValue, concat, AreConnected, ArePieces, IsPathOfLines, LinesTouch, shares_point, touches}
use Rattle.edit_laws.proofs.MovedLines.{endpoints_moved, listed_moved}

module _ (f : Point → Point) (same : (p q : Point) → is_same_point (f p) (f q) ≡ is_same_point p q) where
  shares_moved : (ps qs : List Point) → shares_point (map f ps) (map f qs) ≡ shares_point ps qs
  shares_moved [] qs = refl
  shares_moved (p ∷ ps) qs = ap (λ (t : Bool). t || shares_point (map f ps) (map f qs)) (listed_moved f same p qs)
      ∙ ap (λ (t : Bool). list_any (is_same_point p) qs || t) (shares_moved ps qs)

  touch_moved : (a b : LineValue) → touches (with_moved_line f a) (with_moved_line f b) ≡ touches a b
  touch_moved a b =
      ap (λ (ps : List Point). (a.block == b.block) && shares_point ps (endpoints (map f b.points))) (endpoints_moved f a.points)
      ∙ (ap (λ (qs : List Point). (a.block == b.block) && shares_point (map f (endpoints a.points)) qs) (endpoints_moved f b.points)
      ∙ ap (λ (t : Bool). (a.block == b.block) && t) (shares_moved (endpoints a.points) (endpoints b.points)))

  lines_touch_moved : (d : DrawingValue) (i j : ℕ) → LinesTouch d i j → LinesTouch (moved_drawing f d) i j
  lines_touch_moved d i j is = record {
    one = with_moved_line f is.one;
    other = with_moved_line f is.other;
    one_is = slice_get-map (with_moved_line f) d.lines i ∙ ap (option_map (with_moved_line f)) is.one_is;
    other_is = slice_get-map (with_moved_line f) d.lines j ∙ ap (option_map (with_moved_line f)) is.other_is;
    touch = touch_moved is.one is.other ∙ is.touch;
  }

  -- the lines of the drawing, where those of the moved drawing are there
  line_back : (o : Option LineValue) (line : LineValue) → option_map (with_moved_line f) o ≡ Some line
      → (before : LineValue) × (o ≡ Some before) × (with_moved_line f before ≡ line)
  line_back None line is = absurd (let no : ⊥ = cc in no)
  line_back (Some before) line is = (before, refl, let same_line : with_moved_line f before ≡ line = cc in same_line)

  lines_touch_back : (d : DrawingValue) (i j : ℕ) → LinesTouch (moved_drawing f d) i j → LinesTouch d i j
  lines_touch_back d i j is =
      let one = line_back (slice_get d.lines i) is.one (sym (slice_get-map (with_moved_line f) d.lines i) ∙ is.one_is) in
      let other = line_back (slice_get d.lines j) is.other (sym (slice_get-map (with_moved_line f) d.lines j) ∙ is.other_is) in
      record {
        one = one.0;
        other = other.0;
        one_is = one.1;
        other_is = other.1;
        touch = sym (touch_moved one.0 other.0)
            ∙ (ap (λ (l : LineValue). touches l (with_moved_line f other.0)) one.2
            ∙ (ap (λ (l : LineValue). touches is.one l) other.2 ∙ is.touch));
      }

  path_moved : (d : DrawingValue) (i : ℕ) (chain : List ℕ) (j : ℕ) → IsPathOfLines d i chain j
      → IsPathOfLines (moved_drawing f d) i chain j
  path_moved d i [] j is = is
  path_moved d i (k ∷ rest) j (touch, later) = (lines_touch_moved d i k touch, path_moved d k rest j later)

  path_back : (d : DrawingValue) (i : ℕ) (chain : List ℕ) (j : ℕ) → IsPathOfLines (moved_drawing f d) i chain j
      → IsPathOfLines d i chain j
  path_back d i [] j is = is
  path_back d i (k ∷ rest) j (touch, later) = (lines_touch_back d i k touch, path_back d k rest j later)

  -- the pieces stay
  pub pieces_moved : (d : DrawingValue) (pieces : List (List ℕ)) → ArePieces d pieces → ArePieces (moved_drawing f d) pieces
  pieces_moved d pieces are = record {
    filled = are.filled;
    there = subst (λ (n : ℕ). All (λ line. line < n) (concat pieces)) (sym (length-map d.lines (with_moved_line f))) are.there;
    covered = λ line below. are.covered line (subst (λ (n : ℕ). line < n) (length-map d.lines (with_moved_line f)) below);
    joined = λ i e below. λ k n within. connected_moved d _ _ (are.joined i e below k n within);
    apart = λ i j e before below led. are.apart i j e before below (connected_back d _ _ led);
    rising = are.rising;
    ordered = are.ordered;
  }
    where
      connected_moved : (d : DrawingValue) (i j : ℕ) → AreConnected d i j → AreConnected (moved_drawing f d) i j
      connected_moved d i j (chain, is) = (chain, path_moved d i chain j is)

      connected_back : (d : DrawingValue) (i j : ℕ) → AreConnected (moved_drawing f d) i j → AreConnected d i j
      connected_back d i j (chain, is) = (chain, path_back d i chain j is)
