-- Marks decide where lines are cut, and sections that are made point by point are those of the line.
use Rattle.std.proofs.Common.{◌≡◌, ◌<◌, ℕ, zero, suc, ◌+◌, ◌==◌, Bool, true, false, ◌&&◌, nat_le, cond, List, [], ◌∷◌, ◌++◌, Option, Some, is_some, map, sum_by, ap, sym, subst, ◌∙◌, refl, append_assoc, append-nil, length, not, arith}
use Rattle.line_sections.proofs.Names.{nat_tests, flat_map-cons, sum_by-append, sum_by-cons, count_by, flat_map, list_any, Point, is_same_point, Spot, LineValue, is_same_spot, AreMarked, is_cut_by, is_listed_again, mark_of, sections_by, sections_continued, spot_at, spots_of, but_last, has_points, is_shared_point, line_sections, lines_through, sections_from, sections_of, Marks, MarksSpot, AreCutMarks, AreMarksOf, SetsMark}
use Rattle.line_sections.proofs.WholeLemmas.{counted, listed_counts}
use Rattle.line_sections.proofs.SectionLemmas.{along}
use Rattle.line_sections.proofs.CallerLemmas.{same_spot, spot_found}

-- a spot that is found to be another one
turned : (a b : Spot) (t : Bool) → is_same_spot a b ≡ t → is_same_spot b a ≡ t
turned a b true found = subst (λ (s : Spot). is_same_spot s a ≡ true) (same_spot a b found) (spot_found a)
turned a b false missed = grind (arith, nat_tests, same_spot b a, spot_found b)

-- a mark after one place more
next_mark : (n : ℕ) → Some (is_some (mark_of n)) ≡ mark_of (n + 1)
next_mark zero = refl
next_mark (suc zero) = refl
next_mark (suc (suc n)) = grind (arith, nat_tests)

told_next : (spot : Spot) (spots : List Spot) (old new : Marks) → AreMarksOf spots old
    → ((other : Spot) → new other ≡ cond (is_same_spot spot other) (Some (is_some (old spot))) (old other))
    → AreMarksOf (spots ++ spot ∷ []) new
told_next spot spots old new told updates other = by_test (is_same_spot spot other) refl
  where
    count : ℕ
    count = count_by (is_same_spot other) spots

    one : Spot → ℕ
    one s = cond (is_same_spot other s) 1 0

    more : count_by (is_same_spot other) (spots ++ spot ∷ []) ≡ count + one spot
    more = omega (arith, sum_by-append one spots (spot ∷ []), sum_by-cons one spot [])

    by_test : (t : Bool) → is_same_spot spot other ≡ t → new other ≡ mark_of (count_by (is_same_spot other) (spots ++ spot ∷ []))
    by_test true is =
        let here : one spot ≡ 1 = ap (λ (t : Bool). cond t 1 0) (turned spot other true is) in
        let times : count_by (is_same_spot other) (spots ++ spot ∷ []) ≡ count + 1 = omega (arith, more, here) in
        updates other ∙ ap (λ (t : Bool). cond t (Some (is_some (old spot))) (old other)) is
        ∙ ap (λ (s : Spot). Some (is_some (old s))) (same_spot spot other is)
        ∙ ap (λ (m : Option Bool). Some (is_some m)) (told other) ∙ next_mark count ∙ ap mark_of (sym times)
    by_test false is =
        let here : one spot ≡ 0 = ap (λ (t : Bool). cond t 1 0) (turned spot other false is) in
        let times : count_by (is_same_spot other) (spots ++ spot ∷ []) ≡ count = omega (arith, more, here) in
        updates other ∙ ap (λ (t : Bool). cond t (Some (is_some (old spot))) (old other)) is
        ∙ told other ∙ ap mark_of (sym times)

-- one spot more is marked
pub spot_marked : (spot : Spot) (again : Bool) (old new : Marks) → again ≡ is_some (old spot)
    → ((other : Spot) → new other ≡ cond (is_same_spot spot other) (Some again) (old other)) → MarksSpot spot old new
spot_marked spot again old new is updates all left marked = record {
  before = marked.before ++ spot ∷ [];
  split = append_assoc marked.before (spot ∷ []) left ∙ marked.split;
  marked = told_next spot marked.before old new marked.marked
      (λ other. updates other ∙ ap (λ (b : Bool). cond (is_same_spot spot other) (Some b) (old other)) is);
}

-- the number of points of a block at a spot, line by line
spot_counts : (block : ℕ) (p : Point) (lines : List LineValue)
    → count_by (is_same_spot (spot_at block p)) (flat_map spots_of lines) ≡ sum_by (counted (is_same_point p) block) lines
spot_counts block p [] = refl
spot_counts block p (line ∷ rest) =
    omega (
      arith,
      ap (count_by (is_same_spot (spot_at block p))) (flat_map-cons spots_of line rest),
      sum_by-append one (spots_of line) (flat_map spots_of rest),
      in_line line.points,
      spot_counts block p rest,
      sum_by-cons (counted (is_same_point p) block) line rest,
    )
  where
    one : Spot → ℕ
    one s = cond (is_same_spot (spot_at block p) s) 1 0

    equal_turned : (a b : ℕ) (t : Bool) → (b == a) ≡ t → (a == b) ≡ t
    equal_turned a b true is = grind (arith, nat_tests)
    equal_turned a b false is = grind (arith, nat_tests)

    by_test : (points : List Point) (t : Bool) → (block == line.block) ≡ t
        → sum_by one (map (spot_at line.block) points) ≡ cond t (count_by (is_same_point p) points) 0
    by_test [] true is = refl
    by_test [] false is = refl
    by_test (q ∷ points) true is =
        let here : one (spot_at line.block q) ≡ cond (is_same_point p q) 1 0 = rw is refl in
        omega (
          arith,
          sum_by-cons one (spot_at line.block q) (map (spot_at line.block) points),
          here,
          by_test points true is,
          sum_by-cons (λ (r : Point). cond (is_same_point p r) 1 0) q points,
        )
    by_test (q ∷ points) false is =
        let here : one (spot_at line.block q) ≡ 0 = rw is refl in
        omega (arith, sum_by-cons one (spot_at line.block q) (map (spot_at line.block) points), here, by_test points false is)

    in_line : (points : List Point)
        → sum_by one (map (spot_at line.block) points) ≡ cond (line.block == block) (count_by (is_same_point p) points) 0
    in_line points = by_test points (line.block == block) (equal_turned block line.block (line.block == block) refl)

-- the marks of all points decide where lines are cut
again_is : (n : ℕ) → is_listed_again (mark_of n) ≡ nat_le 2 n
again_is zero = refl
again_is (suc zero) = refl
again_is (suc (suc n)) = sym (grind (arith, nat_tests))

pub all_marked : (lines : List LineValue) (marks : Marks) → AreMarked (flat_map spots_of lines) [] marks → AreCutMarks lines marks
all_marked lines marks marked = record {
  cut = λ block p.
      let all : marked.before ≡ flat_map spots_of lines = sym (append-nil marked.before) ∙ marked.split in
      ap is_listed_again (marked.marked (spot_at block p))
      ∙ (again_is (count_by (is_same_spot (spot_at block p)) marked.before)
      ∙ ap (nat_le 2) (ap (count_by (is_same_spot (spot_at block p))) all
      ∙ (spot_counts block p lines ∙ sym (listed_counts (is_same_point p) block lines))));
}

-- where two tests agree, they cut alike
module _ (f g : Point → Bool) (agree : (p : Point) → f p ≡ g p) where
  sections_same : (p : Point) (rest : List Point) → sections_from f p rest ≡ sections_from g p rest
  sections_same p [] = refl
  sections_same p (q ∷ rest) = rw (agree q, sections_same q rest) refl

  pub line_same : (points : List Point) → sections_of f points ≡ sections_of g points
  line_same [] = refl
  line_same (p ∷ rest) = sections_same p rest

pub sections_told : (all : List LineValue) (marks : Marks) → AreCutMarks all marks → (lines : List LineValue)
    → flat_map (sections_by marks) lines ≡ flat_map (line_sections all) lines
sections_told all marks tell [] = refl
sections_told all marks tell (line ∷ rest) =
    let here : sections_by marks line ≡ line_sections all line = ap (lines_through line.block)
    (line_same (is_cut_by marks line.block) (is_shared_point all line.block) (tell.cut line.block) line.points) in
    flat_map-cons (sections_by marks) line rest
    ∙ (ap (λ (first : List LineValue). first ++ flat_map (sections_by marks) rest) here
    ∙ (ap (λ (more : List LineValue). line_sections all line ++ more) (sections_told all marks tell rest)
    ∙ sym (flat_map-cons (line_sections all) line rest)))

-- points before the first section
abbrev put_before : List Point → List (List Point) → List (List Point)
put_before begun [] = []
put_before begun (section ∷ rest) = (begun ++ section) ∷ rest

put_none : (sections : List (List Point)) → put_before [] sections ≡ sections
put_none [] = refl
put_none (section ∷ rest) = refl

-- sections that go on are those of the line
module _ (is_cut : Point → Bool) where
  abbrev GoOn : Point → List Point → List (List Point) → Type 0
  GoOn p rest sections = (begun : List Point) → sections_continued is_cut (begun ++ p ∷ []) rest ≡ put_before begun sections

  go_on : (p : Point) (rest : List Point) → GoOn p rest (sections_from is_cut p rest)
  go_on = along is_cut GoOn (λ p begun. refl)
      (λ p q rest behind more cut here begun.
      rw (more, cut) (ap (λ (first : List Point). first ∷ sections_continued is_cut (q ∷ []) rest) (append_assoc begun (p ∷ []) (q ∷ []))
      ∙ ap (λ (others : List (List Point)). (begun ++ p ∷ q ∷ []) ∷ others) (here [] ∙ put_none behind)))
      (λ p q rest first others test is here begun.
      rw test (here (begun ++ p ∷ [])
      ∙ ap (λ (section : List Point). section ∷ others) (append_assoc begun (p ∷ []) (q ∷ first))))

  pub from_first : (p : Point) (rest : List Point) → sections_continued is_cut (p ∷ []) rest ≡ sections_from is_cut p rest
  from_first p rest = go_on p rest [] ∙ put_none (sections_from is_cut p rest)

-- with the first point of a line begun
pub line_begun : (marks : Marks) (line : LineValue) (block : ℕ) (first : Point) (after points section : List Point)
    (sections : List LineValue) → block ≡ line.block → points ≡ line.points → points ≡ first ∷ after → section ≡ first ∷ []
    → sections ++ lines_through block (sections_continued (is_cut_by marks block) section after) ≡ sections ++ sections_by marks line
line_begun marks line block first after points section sections in_block same are begun =
    let parts : sections_continued (is_cut_by marks block) section after ≡ sections_of (is_cut_by marks block) line.points =
    ap (λ (s : List Point). sections_continued (is_cut_by marks block) s after) begun
    ∙ (from_first (is_cut_by marks block) first after ∙ ap (sections_of (is_cut_by marks block)) (sym are ∙ same)) in
    ap (λ (more : List (List Point)). sections ++ lines_through block more) parts
    ∙ ap (λ (b : ℕ). sections ++ lines_through b (sections_of (is_cut_by marks b) line.points)) in_block

-- once no line is left
pub none_left : (lines left : List LineValue) (marks : Marks) → AreMarked (flat_map spots_of lines) (flat_map spots_of left) marks
    → length left < 1 → AreCutMarks lines marks
none_left lines [] marks marked none = all_marked lines marks marked
none_left lines (line ∷ left) marks marked none = absurd (omega (arith, none))

-- whether one of the points that are left is a cut depends on the first of them, and on the others
module _ (test : Point → Bool) (at : Point) where
  cut_found : (after : List Point) → (has_points after && test at) ≡ true → list_any test (but_last (at ∷ after)) ≡ true
  cut_found [] found = absurd cc
  cut_found (p ∷ after) found = rw found refl

  cut_missed : (after : List Point) → (has_points after && test at) ≡ false
      → list_any test (but_last (at ∷ after)) ≡ list_any test (but_last after)
  cut_missed [] missed = refl
  cut_missed (p ∷ after) missed = rw missed refl

  pub not_whole : (rest after : List Point) (whole found : Bool) → whole ≡ not (list_any test (but_last rest)) → rest ≡ at ∷ after
      → found ≡ (has_points after && test at) → found ≡ true → false ≡ whole
  not_whole rest after whole found so_far is here passes =
      sym (so_far ∙ ap (λ (points : List Point). not (list_any test (but_last points))) is ∙ ap not (cut_found after (sym here ∙ passes)))

  pub whole_on : (rest after : List Point) (whole found : Bool) → whole ≡ not (list_any test (but_last rest)) → rest ≡ at ∷ after
      → found ≡ (has_points after && test at) → found ≡ false → whole ≡ not (list_any test (but_last after))
  whole_on rest after whole found so_far is here fails =
      so_far ∙ ap (λ (points : List Point). not (list_any test (but_last points))) is ∙ ap not (cut_missed after (sym here ∙ fails))

-- of two marks of a spot, the later one stays
later_stays : (same : Bool) (old : Option Bool) → cond same (Some true) (cond same (Some false) old) ≡ cond same (Some true) old
later_stays true old = refl
later_stays false old = refl

-- a spot that had a mark gets the mark that it is listed again
pub marked_again : (spot : Spot) (old once new : Marks) → true ≡ is_some (old spot)
    → SetsMark spot false old once → SetsMark spot true once new → MarksSpot spot old new
marked_again spot old once new had first second = spot_marked spot true old new had
    (λ other. second other ∙ (ap (λ (mark : Option Bool). cond (is_same_spot spot other) (Some true) mark) (first other)
    ∙ later_stays (is_same_spot spot other) (old other)))
