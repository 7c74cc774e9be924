-- The segments that are left of lines.
use Rattle.std.proofs.Common.{◌≡◌, ℕ, Bool, true, false, List, [], ◌∷◌, ◌++◌, refl, ap, ◌∙◌, sym, length, nat_le, arith}
use Rattle.std.proofs.lemmas.Bool.Decides.{nat_tests}
use Rattle.std.proofs.lemmas.List.{append_assoc, append-nil}
use Rattle.std.specs.Prelude.{if◌then◌else◌, ◌&&◌}
use Rattle.design_model.specs.declared.point.Point.{Point}
use Rattle.line_sections.specs.Lines.{LineValue}
use Rattle.meeting_rounds.specs.NearLines.{last_of}
use Rattle.met_drawings.specs.Copies.{part_after, part_if, parts_from, parts_of, passed_by, passed_from, passed_segment, uncopied_after}
use Rattle.met_drawings.specs.PassedSegments.{is_passed_in}
use Rattle.met_drawings.specs.SegmentLaws.{SegmentsAreLeftOnce, first_segments, segments_passed}
use Rattle.met_drawings.specs.declared.passed_segments.PassedSegment.{PassedSegment}

last_more : (p q : Point) (points : List Point) → last_of p (points ++ q ∷ []) ≡ q
last_more p q [] = refl
last_more p q (x ∷ points) = last_more x q points

passed_more : (block : ℕ) (p q : Point) (points : List Point)
    → passed_from block p (points ++ q ∷ []) ≡ passed_from block p points ++ passed_segment block (last_of p points) q ∷ []
passed_more block p q [] = refl
passed_more block p q (x ∷ points) = ap (λ (ss : List PassedSegment). passed_segment block p x ∷ ss) (passed_more block x q points)

firsts_append : (passed xs ys : List PassedSegment)
    → first_segments passed (xs ++ ys) ≡ first_segments passed xs ++ first_segments (passed ++ xs) ys
firsts_append passed [] ys = ap (λ (p : List PassedSegment). first_segments p ys) (sym (append-nil passed))
firsts_append passed (s ∷ xs) ys =
    let one : List PassedSegment = if is_passed_in passed s then [] else s ∷ [] in
    ap (λ (rest : List PassedSegment). one ++ rest) (firsts_append (passed ++ s ∷ []) xs ys)
    ∙ (sym (append_assoc one (first_segments (passed ++ s ∷ []) xs) (first_segments ((passed ++ s ∷ []) ++ xs) ys))
    ∙ ap (λ (p : List PassedSegment). (one ++ first_segments (passed ++ s ∷ []) xs) ++ first_segments p ys)
    (append_assoc passed (s ∷ []) xs))

segments_append : (xs ys : List LineValue) → segments_passed (xs ++ ys) ≡ segments_passed xs ++ segments_passed ys
segments_append [] ys = refl
segments_append (x ∷ xs) ys =
    ap (λ (rest : List PassedSegment). passed_by x.block x.points ++ rest) (segments_append xs ys)
    ∙ sym (append_assoc (passed_by x.block x.points) (segments_passed xs) (segments_passed ys))

-- an ended part has its segments
part_ended : (block : ℕ) (h : Point) (t : List Point) → segments_passed (part_if true block (h ∷ t)) ≡ passed_from block h t
part_ended block h [] = refl
part_ended block h (x ∷ t) =
    ap (λ (b : Bool). segments_passed (if true && b then record { block = block; points = h ∷ x ∷ t } ∷ [] else []))
    (two_points h x t)
    ∙ append-nil (passed_from block h (x ∷ t))
  where
    two_points : (h x : Point) (t : List Point) → nat_le 2 (length (h ∷ x ∷ t)) ≡ true
    two_points h x t = grind (arith, nat_tests)

-- The segments of the parts of a line from p on, where the part so far begins in h and ends in p.
parts_left : (passed : List PassedSegment) (block : ℕ) (h : Point) (t : List Point) (p : Point) (rest : List Point) → last_of h t ≡ p
    → segments_passed (parts_from passed block (h ∷ t) p rest)
    ≡ passed_from block h t ++ first_segments passed (passed_from block p rest)
parts_left passed block h t p [] ends = part_ended block h t ∙ sym (append-nil (passed_from block h t))
parts_left passed block h t p (q ∷ rest) ends = by_test (is_passed_in passed (passed_segment block p q))
    (parts_left (passed ++ passed_segment block p q ∷ []) block q [] q rest refl)
    (parts_left (passed ++ passed_segment block p q ∷ []) block h (t ++ q ∷ []) q rest (last_more h q t))
  where
    s : PassedSegment
    s = passed_segment block p q

    later : List PassedSegment
    later = first_segments (passed ++ passed_segment block p q ∷ []) (passed_from block q rest)

    longer : passed_from block h (t ++ q ∷ []) ≡ passed_from block h t ++ s ∷ []
    longer = passed_more block h q t
        ∙ ap (λ (z : Point). passed_from block h t ++ passed_segment block z q ∷ []) ends

    by_test : (b : Bool)
        → segments_passed (parts_from (passed ++ s ∷ []) block (q ∷ []) q rest) ≡ later
        → segments_passed (parts_from (passed ++ s ∷ []) block (h ∷ (t ++ q ∷ [])) q rest)
        ≡ passed_from block h (t ++ q ∷ []) ++ later
        → segments_passed (part_if b block (h ∷ t) ++ parts_from (passed ++ s ∷ []) block (part_after b (h ∷ t) q) q rest)
        ≡ passed_from block h t ++ ((if b then [] else s ∷ []) ++ later)
    by_test true cut going =
        segments_append (part_if true block (h ∷ t)) (parts_from (passed ++ s ∷ []) block (q ∷ []) q rest)
        ∙ (ap (λ (ss : List PassedSegment). ss ++ segments_passed (parts_from (passed ++ s ∷ []) block (q ∷ []) q rest))
        (part_ended block h t)
        ∙ ap (λ (ss : List PassedSegment). passed_from block h t ++ ss) cut)
    by_test false cut going =
        going ∙ (ap (λ (ss : List PassedSegment). ss ++ later) longer ∙ append_assoc (passed_from block h t) (s ∷ []) later)

-- The segments that are left of a line.
line_left : (passed : List PassedSegment) (block : ℕ) (points : List Point)
    → segments_passed (parts_of passed block points) ≡ first_segments passed (passed_by block points)
line_left passed block [] = refl
line_left passed block (p ∷ rest) = parts_left passed block p [] p rest refl

-- The segments that are left of lines, where some were passed before.
lines_left : (passed : List PassedSegment) (lines : List LineValue)
    → segments_passed (uncopied_after passed lines) ≡ first_segments passed (segments_passed lines)
lines_left passed [] = refl
lines_left passed (line ∷ rest) =
    let mine : List PassedSegment = passed_by line.block line.points in
    segments_append (parts_of passed line.block line.points) (uncopied_after (passed ++ mine) rest)
    ∙ (ap (λ (ss : List PassedSegment). ss ++ segments_passed (uncopied_after (passed ++ mine) rest))
    (line_left passed line.block line.points)
    ∙ (ap (λ (ss : List PassedSegment). first_segments passed mine ++ ss) (lines_left (passed ++ mine) rest)
    ∙ sym (firsts_append passed mine (segments_passed rest))))

-- The segments that are left of lines are those that no earlier one has, each once and in order.
pub segments_left_once : SegmentsAreLeftOnce
segments_left_once = λ lines. lines_left [] lines
