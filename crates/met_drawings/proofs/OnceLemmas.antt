-- Lines without copies stay as they are.
use Rattle.std.proofs.Common.{◌≡◌, ℕ, Bool, true, false, ◌&&◌, ◌||◌, List, [], ◌∷◌, ◌++◌, length, map, nat_le, nat_lt, ◌+◌, Some, None, refl, ap, ◌∙◌, sym, subst, arith}
use Rattle.std.proofs.Math.Path.{ap₂}
use Rattle.std.proofs.lemmas.Bool.Decides.{nat_tests}
use Rattle.std.proofs.lemmas.List.{append_assoc, append-nil}
use Rattle.std.proofs.lemmas.List.Folds.{list_all-append, list_any-append}
use Rattle.std.specs.List.{list_all, list_any}
use Rattle.std.specs.Prelude.{if◌then◌else◌}
use Rattle.design_model.proofs.ListLemmas.{false_true, first_true, second_true}
use Rattle.design_model.specs.declared.point.Point.{Point}
use Rattle.line_sections.specs.Lines.{LineValue}
use Rattle.met_drawings.proofs.LeftLemmas.{segments_left_once}
use Rattle.met_drawings.specs.Copies.{counts_after, part_after, part_if, parts_from, parts_of, passed_by, passed_from, passed_segment, uncopied_after, uncopied_lines}
use Rattle.met_drawings.specs.ListedMeetings.{vanished_after}
use Rattle.met_drawings.specs.PassedSegments.{is_passed_in, is_same_passed, turned_segment}
use Rattle.met_drawings.specs.SegmentLaws.{LinesWithoutCopiesStay, first_segments, segments_passed}
use Rattle.met_drawings.specs.declared.passed_segments.PassedSegment.{PassedSegment}

-- no segment is among those before it
abbrev AreFirst : List PassedSegment → List PassedSegment → Type 0
AreFirst passed [] = Unit
AreFirst passed (s ∷ rest) = (is_passed_in passed s ≡ false) × AreFirst (passed ++ s ∷ []) rest

-- segments are among others
abbrev AreAmong : (fewer more : List PassedSegment) → Type 0
AreAmong fewer more = (t : PassedSegment) → is_passed_in fewer t ≡ true → is_passed_in more t ≡ true

-- a segment is that one in either direction
abbrev is_that : PassedSegment → PassedSegment → Bool
is_that s t = is_same_passed t s || is_same_passed (turned_segment t) s

passed_in_more : (xs : List PassedSegment) (s t : PassedSegment) → is_passed_in (xs ++ s ∷ []) t ≡ (is_passed_in xs t || is_that s t)
passed_in_more xs s t =
    ap₂ (λ (a b : Bool). a || b) (list_any-append (is_same_passed t) xs (s ∷ []))
    (list_any-append (is_same_passed (turned_segment t)) xs (s ∷ []))
    ∙ shuffled (list_any (is_same_passed t) xs) (is_same_passed t s) (list_any (is_same_passed (turned_segment t)) xs)
    (is_same_passed (turned_segment t) s)
  where
    shuffled : (a b c d : Bool) → ((a || (b || false)) || (c || (d || false))) ≡ ((a || c) || (b || d))
    shuffled a b c d = grind (arith, nat_tests)

among_more : (fewer more : List PassedSegment) (s : PassedSegment) → AreAmong fewer more → AreAmong fewer (more ++ s ∷ [])
among_more fewer more s among t is = passed_in_more more s t ∙ weaker (is_passed_in more t) (is_that s t) (among t is)
  where
    weaker : (a b : Bool) → a ≡ true → (a || b) ≡ true
    weaker a b h = grind (arith, nat_tests)

among_both : (fewer more : List PassedSegment) (s : PassedSegment) → AreAmong fewer more → AreAmong (fewer ++ s ∷ []) (more ++ s ∷ [])
among_both fewer more s among t is =
    passed_in_more more s t ∙ either (is_passed_in fewer t) (is_passed_in more t) (is_that s t) (among t)
    (sym (passed_in_more fewer s t) ∙ is)
  where
    either : (a b c : Bool) → (a ≡ true → b ≡ true) → (a || c) ≡ true → (b || c) ≡ true
    either true b c leads h = ap (λ (x : Bool). x || c) (leads refl)
    either false b c leads h = grind (arith, nat_tests)

-- segments without copies have none
firsts_are_first : (kept passed segments : List PassedSegment) → AreAmong kept passed → AreFirst kept (first_segments passed segments)
firsts_are_first kept passed [] among = tt
firsts_are_first kept passed (s ∷ rest) among = by_test (is_passed_in passed s) refl
    (firsts_are_first kept (passed ++ s ∷ []) rest (among_more kept passed s among))
    (firsts_are_first (kept ++ s ∷ []) (passed ++ s ∷ []) rest (among_both kept passed s among))
  where
    later : List PassedSegment
    later = first_segments (passed ++ s ∷ []) rest

    not_kept : (a b : Bool) → (a ≡ true → b ≡ true) → b ≡ false → a ≡ false
    not_kept true b leads is = absurd (false_true (sym is ∙ leads refl))
    not_kept false b leads is = refl

    by_test : (b : Bool) → is_passed_in passed s ≡ b → AreFirst kept later → AreFirst (kept ++ s ∷ []) later
        → AreFirst kept ((if b then [] else s ∷ []) ++ later)
    by_test true is copied new = copied
    by_test false is copied new = (not_kept (is_passed_in kept s) (is_passed_in passed s) (among s) is, new)

-- the first of segments that have no copies, and the others
first_part : (passed xs ys : List PassedSegment) → AreFirst passed (xs ++ ys) → AreFirst passed xs
first_part passed [] ys all = tt
first_part passed (s ∷ xs) ys all = (all.0, first_part (passed ++ s ∷ []) xs ys all.1)

other_part : (passed xs ys : List PassedSegment) → AreFirst passed (xs ++ ys) → AreFirst (passed ++ xs) ys
other_part passed [] ys all = subst (λ (ss : List PassedSegment). AreFirst ss ys) (sym (append-nil passed)) all
other_part passed (s ∷ xs) ys all =
    subst (λ (ss : List PassedSegment). AreFirst ss ys) (append_assoc passed (s ∷ []) xs) (other_part (passed ++ s ∷ []) xs ys all.1)

-- a line has a segment
abbrev pub is_long : LineValue → Bool
is_long line = nat_le 2 (length line.points)

-- a line without a copy is one part
one_part : (passed : List PassedSegment) (block : ℕ) (part : List Point) (p : Point) (rest : List Point)
    → AreFirst passed (passed_from block p rest) → nat_le 2 (length (part ++ rest)) ≡ true
    → parts_from passed block part p rest ≡ record { block = block; points = part ++ rest } ∷ []
one_part passed block part p [] first long =
    whole (part ++ []) part (append-nil part) long
  where
    whole : (all some : List Point) → all ≡ some → nat_le 2 (length all) ≡ true
        → part_if true block some ≡ record { block = block; points = all } ∷ []
    whole all some same is =
        subst (λ (ps : List Point). part_if true block ps ≡ record { block = block; points = all } ∷ []) same
        (ap (λ (b : Bool). if true && b then record { block = block; points = all } ∷ [] else []) is)
one_part passed block part p (q ∷ rest) first long =
    ap (λ (b : Bool). part_if b block part ++ parts_from (passed ++ s ∷ []) block (part_after b part q) q rest) first.0
    ∙ (one_part (passed ++ s ∷ []) block (part ++ q ∷ []) q rest first.1
    (subst (λ (ps : List Point). nat_le 2 (length ps) ≡ true) (sym (append_assoc part (q ∷ []) rest)) long)
    ∙ ap (λ (ps : List Point). record { block = block; points = ps } ∷ []) (append_assoc part (q ∷ []) rest))
  where
    s : PassedSegment
    s = passed_segment block p q

one_line : (passed : List PassedSegment) (line : LineValue) → AreFirst passed (passed_by line.block line.points) → is_long line ≡ true
    → parts_of passed line.block line.points ≡ line ∷ []
one_line passed line first long = by_points line.points refl
  where
    by_points : (points : List Point) → line.points ≡ points → parts_of passed line.block line.points ≡ line ∷ []
    by_points [] is = absurd (false_true (ap (λ (ps : List Point). nat_le 2 (length ps)) (sym is) ∙ long))
    by_points (p ∷ rest) is =
        ap (λ (ps : List Point). parts_of passed line.block ps) is
        ∙ (one_part passed line.block (p ∷ []) p rest
        (subst (λ (ps : List Point). AreFirst passed (passed_by line.block ps)) is first)
        (subst (λ (ps : List Point). nat_le 2 (length ps) ≡ true) is long)
        ∙ ap (λ (ps : List Point). record { block = line.block; points = ps } ∷ []) (sym is))

-- Lines without copies, each with a segment, stay.
lines_kept : (passed : List PassedSegment) (lines : List LineValue) → AreFirst passed (segments_passed lines)
    → list_all is_long lines ≡ true → uncopied_after passed lines ≡ lines
lines_kept passed [] first long = refl
lines_kept passed (line ∷ rest) first long =
    ap₂ (λ (xs ys : List LineValue). xs ++ ys)
    (one_line passed line (first_part passed (passed_by line.block line.points) (segments_passed rest) first) (first_true _ _ long))
    (lines_kept (passed ++ passed_by line.block line.points) rest
    (other_part passed (passed_by line.block line.points) (segments_passed rest) first) (second_true _ _ long))

-- each part has a segment
part_long : (b : Bool) (block : ℕ) (part : List Point) → list_all is_long (part_if b block part) ≡ true
part_long false block part = refl
part_long true block part = by_test (nat_le 2 (length part)) refl
  where
    by_test : (b : Bool) → nat_le 2 (length part) ≡ b
        → list_all is_long (if true && b then record { block = block; points = part } ∷ [] else []) ≡ true
    by_test true is = ap (λ (x : Bool). x && true) is
    by_test false is = refl

all_of_both : (xs ys : List LineValue) → list_all is_long xs ≡ true → list_all is_long ys ≡ true → list_all is_long (xs ++ ys) ≡ true
all_of_both xs ys here there = list_all-append is_long xs ys ∙ ap₂ (λ (a b : Bool). a && b) here there

parts_long : (passed : List PassedSegment) (block : ℕ) (part : List Point) (p : Point) (rest : List Point)
    → list_all is_long (parts_from passed block part p rest) ≡ true
parts_long passed block part p [] = part_long true block part
parts_long passed block part p (q ∷ rest) =
    let s : PassedSegment = passed_segment block p q in
    let b : Bool = is_passed_in passed s in
    all_of_both (part_if b block part) (parts_from (passed ++ s ∷ []) block (part_after b part q) q rest) (part_long b block part)
    (parts_long (passed ++ s ∷ []) block (part_after b part q) q rest)

line_long : (passed : List PassedSegment) (block : ℕ) (points : List Point) → list_all is_long (parts_of passed block points) ≡ true
line_long passed block [] = refl
line_long passed block (p ∷ rest) = parts_long passed block (p ∷ []) p rest

-- Each line without copies has a segment.
pub uncopied_long : (passed : List PassedSegment) (lines : List LineValue) → list_all is_long (uncopied_after passed lines) ≡ true
uncopied_long passed [] = refl
uncopied_long passed (line ∷ rest) =
    all_of_both (parts_of passed line.block line.points) (uncopied_after (passed ++ passed_by line.block line.points) rest)
    (line_long passed line.block line.points) (uncopied_long (passed ++ passed_by line.block line.points) rest)

-- Lines without copies stay.
pub uncopied_stay : LinesWithoutCopiesStay
uncopied_stay = λ lines. lines_kept [] (uncopied_lines lines)
    (subst (AreFirst []) (sym (segments_left_once lines)) (firsts_are_first [] [] (segments_passed lines) (λ t is. is)))
    (uncopied_long [] lines)

-- Of each line without a copy one is left.
ones_left : (passed : List PassedSegment) (lines : List LineValue) → AreFirst passed (segments_passed lines)
    → list_all is_long lines ≡ true → counts_after passed lines ≡ map (λ line. 1) lines
ones_left passed [] first long = refl
ones_left passed (line ∷ rest) first long =
    ap₂ (λ (n : ℕ) (ns : List ℕ). n ∷ ns)
    (ap length (one_line passed line (first_part passed (passed_by line.block line.points) (segments_passed rest) first)
    (first_true _ _ long)))
    (ones_left (passed ++ passed_by line.block line.points) rest
    (other_part passed (passed_by line.block line.points) (segments_passed rest) first) (second_true _ _ long))

pub uncopied_ones : (lines : List LineValue) → counts_after [] (uncopied_lines lines) ≡ map (λ line. 1) (uncopied_lines lines)
uncopied_ones lines = ones_left [] (uncopied_lines lines)
    (subst (AreFirst []) (sym (segments_left_once lines)) (firsts_are_first [] [] (segments_passed lines) (λ t is. is)))
    (uncopied_long [] lines)

-- Lines that have segments haven't vanished.
pub none_vanished : (index : ℕ) (lines : List LineValue) → list_all is_long lines ≡ true → vanished_after index lines ≡ None
none_vanished index [] long = refl
none_vanished index (line ∷ rest) long =
    ap (λ (b : Bool). if b then Some (record { block = line.block; line = index }) else vanished_after (index + 1) rest)
    (not_short (length line.points) (first_true _ _ long))
    ∙ none_vanished (index + 1) rest (second_true _ _ long)
  where
    not_short : (n : ℕ) → nat_le 2 n ≡ true → nat_lt n 2 ≡ false
    not_short n is = grind (arith, nat_tests)
