-- The sections of one line: they begin where it begins, keep its segments, and are cut nowhere inside.
use Rattle.std.proofs.Common.{◌≡◌, ◌≤◌, ℕ, Bool, true, false, ◌&&◌, cond, List, [], ◌∷◌, length, All, sum_by, ap, sym, subst, ◌∙◌, refl, arith}
use Rattle.line_sections.proofs.Names.{and_parts, both_ways, or_parts, flat_map-cons, All-head, All-nil, All-tail, sum_by-cons, count_by, flat_map, list_any, Point, but_last, has_points, inner_points, sections_from, sections_of, segments_of, All-cons, sections_with_first, segments_from}

-- sections the first of which begins at p
record Begin (p : Point) (sections : List (List Point)) : Type 0 where
  first : List Point
  others : List (List Point)
  is : sections ≡ (p ∷ first) ∷ others

led_begin : (p q : Point) (behind : List (List Point)) → Begin q behind → Begin p (sections_with_first p behind)
led_begin p q behind begin = record { first = q ∷ begin.first; others = begin.others; is = ap (sections_with_first p) begin.is }

-- the sections from p on begin at p
module _ (is_cut : Point → Bool) where
  cut_begin : (p q : Point) (rest : List Point) (behind : List (List Point)) → Begin q behind → (t : Bool)
      → Begin p (cond t ((p ∷ q ∷ []) ∷ behind) (sections_with_first p behind))
  cut_begin p q rest behind begin true = record { first = q ∷ []; others = behind; is = refl }
  cut_begin p q rest behind begin false = led_begin p q behind begin

  sections_begin : (p : Point) (rest : List Point) → Begin p (sections_from is_cut p rest)
  sections_begin p [] = record { first = []; others = []; is = refl }
  sections_begin p (q ∷ rest) =
      cut_begin p q rest (sections_from is_cut q rest) (sections_begin q rest) (has_points rest && is_cut q)

  -- what each line's sections have that a section of two points has, and that one more point before the first
  -- section keeps
  pub along : (Has : Point → List Point → List (List Point) → Type 0)
      → ((p : Point) → Has p [] ((p ∷ []) ∷ []))
      → ((p q : Point) (rest : List Point) (behind : List (List Point)) → has_points rest ≡ true → is_cut q ≡ true
      → Has q rest behind → Has p (q ∷ rest) ((p ∷ q ∷ []) ∷ behind))
      → ((p q : Point) (rest first : List Point) (others : List (List Point)) → (has_points rest && is_cut q) ≡ false
      → sections_from is_cut q rest ≡ (q ∷ first) ∷ others
      → Has q rest ((q ∷ first) ∷ others) → Has p (q ∷ rest) ((p ∷ q ∷ first) ∷ others))
      → (p : Point) (rest : List Point) → Has p rest (sections_from is_cut p rest)
  along Has ends cuts leads p [] = ends p
  along Has ends cuts leads p (q ∷ rest) = by_test (along Has ends cuts leads q rest) (has_points rest && is_cut q) refl
    where
      behind : List (List Point)
      behind = sections_from is_cut q rest

      led : Has q rest behind → Begin q behind → (has_points rest && is_cut q) ≡ false → Has p (q ∷ rest) (sections_with_first p behind)
      led here begin test =
          let same : sections_with_first p behind ≡ (p ∷ q ∷ begin.first) ∷ begin.others = ap (sections_with_first p) begin.is in
          subst (λ (s : List (List Point)). Has p (q ∷ rest) s) (sym same)
          (leads p q rest begin.first begin.others test begin.is (subst (λ (s : List (List Point)). Has q rest s) begin.is here))

      by_test : Has q rest behind → (t : Bool) → (has_points rest && is_cut q) ≡ t
          → Has p (q ∷ rest) (cond t ((p ∷ q ∷ []) ∷ behind) (sections_with_first p behind))
      by_test here true test =
          let both = and_parts (has_points rest) (is_cut q) test in cuts p q rest behind both.0 both.1 here
      by_test here false test = led here (sections_begin q rest) test

  -- the segments
  sections_segments : (p : Point) (rest : List Point) → flat_map segments_of (sections_from is_cut p rest) ≡ segments_from p rest
  sections_segments = along (λ p rest sections. flat_map segments_of sections ≡ segments_from p rest) (λ p. refl)
      (λ p q rest behind more cut here. flat_map-cons segments_of (p ∷ q ∷ []) behind
      ∙ ap (λ (s : List (Point × Point)). (p, q) ∷ s) here)
      (λ p q rest first others test is here. flat_map-cons segments_of (p ∷ q ∷ first) others
      ∙ ap (λ (s : List (Point × Point)). (p, q) ∷ s) (sym (flat_map-cons segments_of (q ∷ first) others) ∙ here))

  pub line_segments : (points : List Point) → flat_map segments_of (sections_of is_cut points) ≡ segments_of points
  line_segments [] = refl
  line_segments (p ∷ rest) = sections_segments p rest

  -- how often a test finds points, where no cut is at one that it finds
  sections_counts : (test : Point → Bool) → ((q : Point) → is_cut q ≡ true → test q ≡ false) → (p : Point) (rest : List Point)
      → sum_by (count_by test) (sections_from is_cut p rest) ≡ count_by test (p ∷ rest)
  sections_counts test apart = along (λ p rest sections. sum_by (count_by test) sections ≡ count_by test (p ∷ rest))
      (λ p. omega arith)
      (λ p q rest behind more cut here. counts_cut p q rest behind (apart q cut) here)
      (λ p q rest first others uncut is here. omega (
        arith,
        sum_by-cons (count_by test) (p ∷ q ∷ first) others,
        sum_by-cons (count_by test) (q ∷ first) others,
        sum_by-cons one p (q ∷ first),
        sum_by-cons one p (q ∷ rest),
        here,
      ))
    where
      one : Point → ℕ
      one p = cond (test p) 1 0

      counts_cut : (p q : Point) (rest : List Point) (behind : List (List Point)) → test q ≡ false
          → sum_by (count_by test) behind ≡ count_by test (q ∷ rest)
          → sum_by (count_by test) ((p ∷ q ∷ []) ∷ behind) ≡ count_by test (p ∷ q ∷ rest)
      counts_cut p q rest behind missed here =
          let none : one q ≡ 0 = ap (λ (t : Bool). cond t 1 0) missed in
          omega (
            arith,
            sum_by-cons (count_by test) (p ∷ q ∷ []) behind,
            sum_by-cons one p (q ∷ []),
            sum_by-cons one q [],
            sum_by-cons one p (q ∷ rest),
            here,
          )

  pub line_counts : (test : Point → Bool) → ((q : Point) → is_cut q ≡ true → test q ≡ false) → (points : List Point)
      → sum_by (count_by test) (sections_of is_cut points) ≡ count_by test points
  line_counts test apart [] = refl
  line_counts test apart (p ∷ rest) = sections_counts test apart p rest

  -- inside a section no point passes the test
  abbrev pub IsUncut : List Point → Type 0
  IsUncut section = list_any is_cut (inner_points section) ≡ false

  led_uncut : (p q : Point) (rest first : List Point) (others : List (List Point)) → (has_points rest && is_cut q) ≡ false
      → sections_from is_cut q rest ≡ (q ∷ first) ∷ others → IsUncut (q ∷ first) → IsUncut (p ∷ q ∷ first)
  led_uncut p q [] [] others test is here = refl
  led_uncut p q [] (f ∷ first) others test is here = absurd cc
  led_uncut p q (r ∷ rest) [] others test is here = refl
  led_uncut p q (r ∷ rest) (f ∷ first) others test is here = rw (test, here) refl

  sections_uncut : (p : Point) (rest : List Point) → All IsUncut (sections_from is_cut p rest)
  sections_uncut = along (λ p rest sections. All IsUncut sections)
      (λ p. All-cons IsUncut (p ∷ []) [] refl (All-nil IsUncut))
      (λ p q rest behind more cut here. All-cons IsUncut (p ∷ q ∷ []) behind refl here)
      (λ p q rest first others test is here. All-cons IsUncut (p ∷ q ∷ first) others
      (led_uncut p q rest first others test is (All-head IsUncut (q ∷ first) others here))
      (All-tail IsUncut (q ∷ first) others here))

  pub line_uncut : (points : List Point) → All IsUncut (sections_of is_cut points)
  line_uncut [] = All-nil IsUncut
  line_uncut (p ∷ rest) = sections_uncut p rest

  -- where no point inside passes it, the line is its own section
  sections_whole : (p : Point) (rest : List Point) → list_any is_cut (but_last rest) ≡ false
      → sections_from is_cut p rest ≡ (p ∷ rest) ∷ []
  sections_whole = along (λ p rest sections. list_any is_cut (but_last rest) ≡ false → sections ≡ (p ∷ rest) ∷ []) (λ p none. refl)
      (λ p q rest behind more cut here none. absurd (inside_cut q rest more cut none))
      (λ p q rest first others test is here none. ap (sections_with_first p) (here (inside_later q rest none)))
    where
      inside_cut : (q : Point) (rest : List Point) → has_points rest ≡ true → is_cut q ≡ true
          → list_any is_cut (but_last (q ∷ rest)) ≡ false → ⊥
      inside_cut q [] more cut none = cc
      inside_cut q (r ∷ rest) more cut none =
          let parts = or_parts (is_cut q) (list_any is_cut (but_last (r ∷ rest))) none in both_ways (is_cut q) parts.0 cut

      inside_later : (q : Point) (rest : List Point) → list_any is_cut (but_last (q ∷ rest)) ≡ false
          → list_any is_cut (but_last rest) ≡ false
      inside_later q [] none = refl
      inside_later q (r ∷ rest) none = (or_parts (is_cut q) (list_any is_cut (but_last (r ∷ rest))) none).1

  pub line_whole : (p : Point) (rest : List Point) → IsUncut (p ∷ rest) → sections_of is_cut (p ∷ rest) ≡ (p ∷ rest) ∷ []
  line_whole = sections_whole

  -- each section has a segment where the line has one
  abbrev IsLong : List Point → Type 0
  IsLong section = 2 ≤ length section

  abbrev AreLong : Point → List Point → List (List Point) → Type 0
  AreLong p rest sections = has_points rest ≡ true → All IsLong sections

  led_long : (p q : Point) (rest first : List Point) (others : List (List Point))
      → sections_from is_cut q rest ≡ (q ∷ first) ∷ others → AreLong q rest ((q ∷ first) ∷ others)
      → AreLong p (q ∷ rest) ((p ∷ q ∷ first) ∷ others)
  led_long p q [] first [] is here some = All-cons IsLong (p ∷ q ∷ first) [] (omega arith) (All-nil IsLong)
  led_long p q [] first (o ∷ others) is here some = absurd cc
  led_long p q (r ∷ rest) first others is here some =
      All-cons IsLong (p ∷ q ∷ first) others (omega arith) (All-tail IsLong (q ∷ first) others (here refl))

  sections_long : (p : Point) (rest : List Point) → AreLong p rest (sections_from is_cut p rest)
  sections_long = along AreLong (λ p some. absurd cc)
      (λ p q rest behind more cut here some. All-cons IsLong (p ∷ q ∷ []) behind (omega arith) (here more))
      (λ p q rest first others test is here. led_long p q rest first others is here)

  pub lines_long : (points : List Point) → 2 ≤ length points → All IsLong (sections_of is_cut points)
  lines_long [] long = absurd (omega (arith, long))
  lines_long (p ∷ []) long = absurd (omega (arith, long))
  lines_long (p ∷ q ∷ rest) long = sections_long p (q ∷ rest) refl
