-- A line that is listed from its end keeps as many points, and its stitches have the same sum of squares.
use Rattle.std.proofs.Common.{◌≡◌, ◌∙◌, ℕ, ◌+◌, ◌*◌, ◌≤◌, ◌-ℤ◌, Bool, true, not, ◌&&◌, nat_le, List, [], ◌∷◌, ◌++◌, length, refl, ap, sym, subst, append_assoc, arith, ℤ}
use Rattle.std.specs.Int.{abs_diff}
use Rattle.std.specs.Prelude.{max, reverse, unsigned_abs}
use Rattle.std.proofs.lemmas.Int.{ints}
use Rattle.std.proofs.lemmas.List.{length-reverse, reverse-append}
use Rattle.spaced_lines.specs.SpacingRules.{segment_between}
use Rattle.drawing_review.specs.Frames.{are_apart, frame_around, frame_between}
use Rattle.drawing_review.specs.Meetings.{clockwise_sum, counter_sum, reach_of}
use Rattle.drawing_review.specs.declared.frame.Frame.{Frame}
use Rattle.design_model.specs.Lengths.{square_of}
use Rattle.spaced_lines.proofs.Names.{nat_tests, ap₂, list_all, list_all-append, Point, distance_between, does_none_stay, grid_point, is_near, is_stitch_for, may_leave_out, same_back, spaced_points, square_sum, stitch_count, comes_near_all, IsChoice, ReversedLinesAreAsGood, SpacingRule}
use Rattle.spaced_lines.proofs.BestLemmas.{kept_are_best}

reverse_first : {A : Type 0} (x : A) (xs : List A) → reverse (x ∷ xs) ≡ reverse xs ++ x ∷ []
reverse_first x xs = reverse-append (x ∷ []) xs

reverse_twice : {A : Type 0} (xs : List A) → reverse (reverse xs) ≡ xs
reverse_twice [] = refl
reverse_twice (x ∷ xs) = ap (λ (ys : List _). reverse ys) (reverse_first x xs)
    ∙ (reverse-append (reverse xs) (x ∷ []) ∙ ap (λ (ys : List _). x ∷ ys) (reverse_twice xs))

-- all elements of a reversed list pass a test where those of the list do
all_back : (t : Point → Bool) (xs : List Point) → list_all t (reverse xs) ≡ list_all t xs
all_back t [] = refl
all_back t (x ∷ xs) = ap (λ (ys : List Point). list_all t ys) (reverse_first x xs)
    ∙ (list_all-append t (reverse xs) (x ∷ []) ∙ turned (list_all t (reverse xs)) (list_all t xs) (t x) (all_back t xs))
  where
    turned : (a b c : Bool) → a ≡ b → (a && (c && true)) ≡ (c && b)
    turned a b c h1 = grind (arith, nat_tests)

size_back : (x y : ℤ) → unsigned_abs (y -ℤ x) ≡ unsigned_abs (x -ℤ y)
size_back x y = omega (arith, ints)

distance_back : (a b : Point) → distance_between a b ≡ distance_between b a
distance_back a b = ap₂ (λ (x y : ℕ). max x y) (size_back a.x b.x) (size_back a.y b.y)

square_back : (a b : Point) → square_of a b ≡ square_of b a
unfolding square_of
square_back a b = ap₂ (λ (x y : ℕ). x * x + y * y) (size_back a.x b.x) (size_back a.y b.y)

near_back : (gap : ℕ) (a b p : Point) → is_near gap (grid_point p) (segment_between a b) ≡ is_near gap (grid_point p) (segment_between b a)
near_back gap a b p =
    ap₂ (λ (apart there : Bool). not apart && there)
    (ap (λ (frame : Frame). are_apart (frame_around gap (grid_point p)) frame) frame_back)
    (ap₂ (λ (m n : ℕ). nat_le m n) sides_back reach_back)
  where
    frame_back : frame_between (grid_point a) (grid_point b) ≡ frame_between (grid_point b) (grid_point a)
    frame_back = grind (arith, nat_tests)

    sides_back : abs_diff (clockwise_sum (segment_between a b) (grid_point p)) (counter_sum (segment_between a b) (grid_point p))
        ≡ abs_diff (clockwise_sum (segment_between b a) (grid_point p)) (counter_sum (segment_between b a) (grid_point p))
    sides_back = grind (arith, nat_tests)

    reach_back : reach_of gap (segment_between a b) ≡ reach_of gap (segment_between b a)
    reach_back = grind (arith, nat_tests)

all_near_back : (gap : ℕ) (a b : Point) (points : List Point) → comes_near_all gap a b points ≡ comes_near_all gap b a points
all_near_back gap a b [] = refl
all_near_back gap a b (p ∷ points) = ap₂ (λ (x y : Bool). x && y) (near_back gap a b p) (all_near_back gap a b points)

stitch_back : (rule : SpacingRule) (a b : Point) (points : List Point)
    → is_stitch_for rule a b points ≡ is_stitch_for rule b a (reverse points)
stitch_back rule a b points =
    ap₂ (λ (x y : Bool). not x && y) (same_back a b)
    (ap₂ (λ (x y : Bool). x && y) (ap (λ (n : ℕ). nat_le n rule.step) (distance_back a b))
    (ap₂ (λ (x y : Bool). x && y) (ap (λ (n : ℕ). nat_le n rule.square) (square_back a b))
    (all_near_back rule.leeway a b points
    ∙ sym (all_back (λ p. is_near rule.leeway (grid_point p) (segment_between b a)) points))))

-- the test of points that are left out, where there are some
leave_some : (stays : Point → Bool) (rule : SpacingRule) (a b : Point) (out : List Point) → 1 ≤ length out
    → may_leave_out stays rule a out b
    ≡ (does_none_stay stays out && (nat_le (length out) 63 && is_stitch_for rule a b out))
leave_some stays rule a b [] some = absurd (omega (arith, some))
leave_some stays rule a b (p ∷ out) some = refl

leave_back : (stays : Point → Bool) (rule : SpacingRule) (a b : Point) (out : List Point) → may_leave_out stays rule a out b ≡ true
    → may_leave_out stays rule b (reverse out) a ≡ true
leave_back stays rule a b [] may = refl
leave_back stays rule a b (p ∷ out) may =
    leave_some stays rule b a (reverse (p ∷ out)) (let size = length-reverse (p ∷ out) in omega (arith, size))
    ∙ (ap₂ (λ (x y : Bool). x && y) (all_back (λ q. not (stays q)) (p ∷ out))
    (ap₂ (λ (x y : Bool). x && y) (ap (λ (n : ℕ). nat_le n 63) (length-reverse (p ∷ out)))
    (sym (stitch_back rule a b (p ∷ out)))) ∙ may)

module _ (stays : Point → Bool) (rule : SpacingRule) where
  -- a choice with one stitch more at its end
  choice_with : (front : List Point) (a b : Point) (points out : List Point) → IsChoice stays rule (front ++ a ∷ []) points
      → may_leave_out stays rule a out b ≡ true → IsChoice stays rule (front ++ a ∷ b ∷ []) (points ++ (out ++ b ∷ []))
  choice_with [] a b points out is may = (
    b ∷ [],
    record {
      out = out;
      parts = ap (λ (ps
          : List Point). ps ++ (out ++ b ∷ [])) is;
      allowed = may;
    },
    refl,
  )
  choice_with (c ∷ []) a b points out (after, stretch, later) may = (
    after ++ (out ++ b ∷ []),
    record {
      out = stretch.out;
      parts = ap (λ (ps : List Point). ps ++ (out ++ b ∷ [])) stretch.parts
          ∙ ap (λ (ps : List Point). c ∷ ps) (append_assoc stretch.out after (out ++ b ∷ []));
      allowed = stretch.allowed;
    },
    choice_with [] a b after out later may,
  )
  choice_with (c ∷ d ∷ front) a b points out (after, stretch, later) may = (
    after ++ (out ++ b ∷ []),
    record {
      out = stretch.out;
      parts = ap (λ (ps : List Point). ps ++ (out ++ b ∷ [])) stretch.parts
          ∙ ap (λ (ps : List Point). c ∷ ps) (append_assoc stretch.out after (out ++ b ∷ []));
      allowed = stretch.allowed;
    },
    choice_with (d ∷ front) a b after out later may,
  )

  -- a choice from the other end
  choice_back : (kept points : List Point) → IsChoice stays rule kept points → IsChoice stays rule (reverse kept) (reverse points)
  choice_back [] points is = ap (λ (ps : List Point). reverse ps) is
  choice_back (a ∷ []) points is = ap (λ (ps : List Point). reverse ps) is
  choice_back (a ∷ b ∷ rest) points (after, stretch, later) =
      let back = choice_back (b ∷ rest) after later in
      let with_one = choice_with (reverse rest) b a (reverse after) (reverse stretch.out)
      (subst (λ (ks : List Point). IsChoice stays rule ks (reverse after)) (reverse_first b rest) back)
      (leave_back stays rule a b stretch.out stretch.allowed) in
      subst (λ (ks : List Point). IsChoice stays rule ks (reverse points))
      (sym (reverse_first a (b ∷ rest) ∙ (ap (λ (ks : List Point). ks ++ a ∷ []) (reverse_first b rest)
      ∙ append_assoc (reverse rest) (b ∷ []) (a ∷ []))))
      (subst (λ (ps : List Point). IsChoice stays rule (reverse rest ++ b ∷ a ∷ []) ps)
      (sym (ap (λ (ps : List Point). reverse ps) stretch.parts
      ∙ (reverse_first a (stretch.out ++ after) ∙ (ap (λ (ps : List Point). ps ++ a ∷ []) (reverse-append stretch.out after)
      ∙ append_assoc (reverse after) (reverse stretch.out) (a ∷ []))))) with_one)

sum_with : (front : List Point) (a b : Point) → square_sum (front ++ a ∷ b ∷ []) ≡ square_sum (front ++ a ∷ []) + square_of a b
sum_with [] a b = omega arith
sum_with (c ∷ []) a b = omega arith
sum_with (c ∷ d ∷ front) a b = omega (arith, sum_with (d ∷ front) a b)

sum_back : (kept : List Point) → square_sum (reverse kept) ≡ square_sum kept
sum_back [] = refl
sum_back (a ∷ []) = refl
sum_back (a ∷ b ∷ rest) =
    ap (λ (ks : List Point). square_sum ks) (reverse_first a (b ∷ rest)
    ∙ (ap (λ (ks : List Point). ks ++ a ∷ []) (reverse_first b rest) ∙ append_assoc (reverse rest) (b ∷ []) (a ∷ [])))
    ∙ (sum_with (reverse rest) b a
    ∙ let before = ap (λ (ks : List Point). square_sum ks) (sym (reverse_first b rest)) in
    omega (arith, before, sum_back (b ∷ rest), square_back a b))

count_back : (kept : List Point) → stitch_count (reverse kept) ≡ stitch_count kept
count_back kept = counts (reverse kept) kept (length-reverse kept)
  where
    counts : (xs ys : List Point) → length xs ≡ length ys → stitch_count xs ≡ stitch_count ys
    counts [] [] same = refl
    counts [] (y ∷ ys) same = absurd (omega (arith, same))
    counts (x ∷ xs) [] same = absurd (omega (arith, same))
    counts (x ∷ xs) (y ∷ ys) same = omega (arith, same)

-- A line that is listed from its end keeps as many points, with the same sum.
pub reversed_as_good : ReversedLinesAreAsGood
reversed_as_good stays rule points =
    let there = kept_are_best stays rule points in
    let back = kept_are_best stays rule (reverse points) in
    let kept : List Point = spaced_points stays rule points in
    let again : List Point = spaced_points stays rule (reverse points) in
    let turned = choice_back stays rule kept points there.chosen in
    let returned = subst (λ (ps : List Point). IsChoice stays rule (reverse again) ps) (reverse_twice points)
    (choice_back stays rule again (reverse points) back.chosen) in
    let same : stitch_count again ≡ stitch_count kept =
    omega (arith, back.fewest (reverse kept) turned, there.fewest (reverse again) returned, count_back kept, count_back again) in (
      same,
      omega (
        arith,
        back.most_even (reverse kept) turned (count_back kept ∙ sym same),
        there.most_even (reverse again) returned (count_back again ∙ same),
        sum_back kept,
        sum_back again,
      ),
    )
