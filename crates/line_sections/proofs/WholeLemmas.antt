-- The sections of all lines: they meet at ends alone, and lines that do so already are their own sections.
use Rattle.std.proofs.Common.{◌≡◌, ◌≤◌, ℕ, ◌==◌, Bool, true, false, not, nat_le, cond, List, [], ◌∷◌, ◌++◌, length, filter, All, sum_by, ap, sym, subst, ◌∙◌, refl, arith}
use Rattle.line_sections.proofs.Names.{and_parts, both_ways, or_parts, flat_map-cons, All-head, All-nil, All-tail, sum_by-append, sum_by-cons, count_by, flat_map, list_all, list_any, Point, is_same_point, LineValue, all_sections, are_whole_lines, inner_points, is_shared_point, is_whole_line, line_sections, lines_through, listed_in, sections_of, same_is, same_number, All-append, All-map, All-weaker, list_all-from_AllPass}
use Rattle.line_sections.proofs.SectionLemmas.{IsUncut, line_counts, line_uncut, line_whole}

-- a line of a block
abbrev line_of : ℕ → List Point → LineValue
line_of block points = record { block = block; points = points }

-- a sum over lines in a block is one over their points
sum_through : (count : LineValue → ℕ) (block : ℕ) (sections : List (List Point))
    → sum_by count (lines_through block sections) ≡ sum_by (λ points. count (line_of block points)) sections
sum_through count block [] = refl
sum_through count block (section ∷ rest) =
    omega (
      arith,
      sum_by-cons count (line_of block section) (lines_through block rest),
      sum_by-cons (λ (points : List Point). count (line_of block points)) section rest,
      sum_through count block rest,
    )

-- what holds of all sections, and what is the same of a line and of its sections
module _ (of_line : LineValue → List LineValue) where
  sum_kept : (count : LineValue → ℕ) → ((line : LineValue) → sum_by count (of_line line) ≡ count line) → (lines : List LineValue)
      → sum_by count (flat_map of_line lines) ≡ sum_by count lines
  sum_kept count each [] = refl
  sum_kept count each (line ∷ rest) =
      omega (
        arith,
        ap (sum_by count) (flat_map-cons of_line line rest),
        sum_by-append count (of_line line) (flat_map of_line rest),
        each line,
        sum_kept count each rest,
        sum_by-cons count line rest,
      )

  all_flat : (P Q : LineValue → Type 0) → ((line : LineValue) → P line → All Q (of_line line)) → (lines : List LineValue)
      → All P lines → All Q (flat_map of_line lines)
  all_flat P Q each [] have = All-nil Q
  all_flat P Q each (line ∷ rest) have =
      subst (λ (all : List LineValue). All Q all) (sym (flat_map-cons of_line line rest))
      (All-append Q (of_line line) (flat_map of_line rest) (each line (All-head P line rest have))
      (all_flat P Q each rest (All-tail P line rest have)))

-- how many points of a block pass a test, line by line
abbrev pub counted : (Point → Bool) → ℕ → LineValue → ℕ
counted test block line = cond (line.block == block) (count_by test line.points) 0

pub listed_counts : (test : Point → Bool) (block : ℕ) (lines : List LineValue)
    → count_by test (listed_in lines block) ≡ sum_by (counted test block) lines
listed_counts test block [] = refl
listed_counts test block (line ∷ rest) = by_test (line.block == block) refl (listed_counts test block rest)
  where
    one : Point → ℕ
    one p = cond (test p) 1 0

    points : LineValue → List Point
    points l = l.points

    inside : List LineValue
    inside = filter (λ (l : LineValue). l.block == block) rest

    by_test : (t : Bool) → (line.block == block) ≡ t → count_by test (listed_in rest block) ≡ sum_by (counted test block) rest
        → count_by test (flat_map points (cond t (line ∷ inside) inside)) ≡ sum_by (counted test block) (line ∷ rest)
    by_test true is later =
        let here : counted test block line ≡ count_by test line.points = ap (λ (t : Bool). cond t (count_by test line.points) 0) is in
        omega (
          arith,
          later,
          here,
          sum_by-cons (counted test block) line rest,
          ap (count_by test) (flat_map-cons points line inside),
          sum_by-append one line.points (flat_map points inside),
        )
    by_test false is later =
        let here : counted test block line ≡ 0 = ap (λ (t : Bool). cond t (count_by test line.points) 0) is in
        omega (arith, later, here, sum_by-cons (counted test block) line rest)

-- the lines of a drawing and their sections
module _ (lines : List LineValue) where
  abbrev sections : List LineValue
  sections = all_sections lines

  abbrev cuts : ℕ → Point → Bool
  cuts block = is_shared_point lines block

  -- a point that is no cut is listed as often after as before
  apart_from : (block : ℕ) (p : Point) → cuts block p ≡ false → (q : Point) → cuts block q ≡ true → is_same_point p q ≡ false
  apart_from block p uncut q cut = by_test (is_same_point p q) refl
    where
      by_test : (t : Bool) → is_same_point p q ≡ t → t ≡ false
      by_test true found =
          absurd (both_ways (cuts block p) uncut (subst (λ (r : Point). cuts block r ≡ true) (sym (same_is p q found)) cut))
      by_test false found = refl

  counted_kept : (block : ℕ) (p : Point) → cuts block p ≡ false → (line : LineValue)
      → sum_by (counted (is_same_point p) block) (line_sections lines line) ≡ counted (is_same_point p) block line
  counted_kept block p uncut line =
      sum_through (counted (is_same_point p) block) line.block (sections_of (cuts line.block) line.points)
      ∙ by_test (line.block == block) refl
    where
      count : List Point → ℕ
      count = count_by (is_same_point p)

      nothing : (parts : List (List Point)) → sum_by (λ (points : List Point). 0) parts ≡ 0
      nothing [] = refl
      nothing (part ∷ parts) = omega (arith, sum_by-cons (λ (points : List Point). 0) part parts, nothing parts)

      by_test : (t : Bool) → (line.block == block) ≡ t
          → sum_by (λ (points : List Point). cond t (count points) 0) (sections_of (cuts line.block) line.points)
          ≡ cond t (count line.points) 0
      by_test true is =
          let here : cuts line.block p ≡ false = ap (λ (b : ℕ). cuts b p) (same_number line.block block is) ∙ uncut in
          line_counts (cuts line.block) (is_same_point p) (apart_from line.block p here) line.points
      by_test false is = nothing (sections_of (cuts line.block) line.points)

  listed_kept : (block : ℕ) (p : Point) → cuts block p ≡ false → is_shared_point sections block p ≡ false
  listed_kept block p uncut =
      let count : LineValue → ℕ = counted (is_same_point p) block in
      let times : count_by (is_same_point p) (listed_in sections block) ≡ count_by (is_same_point p) (listed_in lines block) =
      listed_counts (is_same_point p) block sections
      ∙ (sum_kept (line_sections lines) count (counted_kept block p uncut) lines ∙ sym (listed_counts (is_same_point p) block lines)) in
      ap (λ (n : ℕ). nat_le 2 n) times ∙ uncut

  -- and so no line of the sections is cut
  none_later : (block : ℕ) (points : List Point) → list_any (cuts block) points ≡ false
      → list_any (is_shared_point sections block) points ≡ false
  none_later block [] none = refl
  none_later block (p ∷ rest) none =
      let parts = or_parts (cuts block p) (list_any (cuts block) rest) none in
      rw (listed_kept block p parts.0, none_later block rest parts.1) refl

  all_whole : All (λ (line : LineValue). is_whole_line sections line ≡ true) sections
  all_whole =
      let Whole : LineValue → Type 0 = λ line. is_whole_line sections line ≡ true in
      all_flat (line_sections lines) (λ (line : LineValue). Unit {0}) Whole
      (λ line have. All-map Whole (line_of line.block) (sections_of (cuts line.block) line.points)
      (All-weaker (IsUncut (cuts line.block)) (λ (points : List Point). Whole (line_of line.block points))
      (λ points uncut. ap not (none_later line.block (inner_points points) uncut))
      (sections_of (cuts line.block) line.points) (line_uncut (cuts line.block) line.points)))
      lines (λ i d there. tt)

  pub sections_whole : are_whole_lines sections ≡ true
  sections_whole = list_all-from_AllPass (is_whole_line sections) sections all_whole

  -- lines that are whole are their own sections
  own_section : (line : LineValue) → 1 ≤ length line.points → is_whole_line lines line ≡ true → line_sections lines line ≡ line ∷ []
  own_section line able whole =
      ap (lines_through line.block) (from_points line.points (list_any (cuts line.block) (inner_points line.points)) refl able whole)
    where
      from_points : (points : List Point) (t : Bool) → list_any (cuts line.block) (inner_points points) ≡ t
          → 1 ≤ length points → not t ≡ true → sections_of (cuts line.block) points ≡ points ∷ []
      from_points [] t is able whole = absurd (omega (arith, able))
      from_points (p ∷ rest) true is able whole = absurd cc
      from_points (p ∷ rest) false is able whole = line_whole (cuts line.block) p rest is

  own_sections : (some : List LineValue) → All (λ (line : LineValue). 1 ≤ length line.points) some
      → list_all (is_whole_line lines) some ≡ true
      → flat_map (line_sections lines) some ≡ some
  own_sections [] able whole = refl
  own_sections (line ∷ rest) able whole =
      let both = and_parts (is_whole_line lines line) (list_all (is_whole_line lines) rest) whole in
      let here = own_section line (All-head (λ (l : LineValue). 1 ≤ length l.points) line rest able) both.0 in
      let later = own_sections rest (All-tail (λ (l : LineValue). 1 ≤ length l.points) line rest able) both.1 in
      flat_map-cons (line_sections lines) line rest
      ∙ (ap (λ (first : List LineValue). first ++ flat_map (line_sections lines) rest) here
      ∙ ap (λ (more : List LineValue). line ∷ more) later)

  pub whole_same : All (λ (line : LineValue). 1 ≤ length line.points) lines → are_whole_lines lines ≡ true → sections ≡ lines
  whole_same = own_sections lines
