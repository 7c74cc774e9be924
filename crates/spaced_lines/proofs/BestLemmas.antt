-- The points that a line keeps are a best choice: the table has a choice from each point on, and none is better.
use Rattle.std.proofs.Common.{◌≡◌, ◌∙◌, ℕ, zero, suc, ◌≤◌, Bool, true, false, ◌&&◌, List, [], ◌∷◌, ◌++◌, length, if◌then◌else◌, refl, ap, sym, subst, append_assoc, arith}
use Rattle.std.proofs.lemmas.Bool.Decides.{nat_tests}
use Rattle.std.proofs.lemmas.List.{length-append}
use Rattle.design_model.proofs.ListLemmas.{false_true}
use Rattle.design_model.specs.Lengths.{square_of}
use Rattle.design_model.specs.declared.point.Point.{Point}
use Rattle.spaced_lines.specs.BestChoices.{best_from, best_over, best_with, bests_of, is_better, kept_by, no_stitch}
use Rattle.spaced_lines.specs.Choices.{IsBestChoice, IsChoice, square_sum, stitch_count}
use Rattle.spaced_lines.specs.SpacingLaws.{KeptPointsAreBest}
use Rattle.spaced_lines.specs.SpacingRules.{may_leave_out}
use Rattle.spaced_lines.specs.declared.best.Best.{Best}
use Rattle.spaced_lines.specs.declared.spacing_rule.SpacingRule.{SpacingRule}

-- one choice is no better than a second, and this one no better than a third
no_better : (a b c : Best) → is_better a b ≡ false → is_better b c ≡ false → is_better a c ≡ false
no_better a b c h1 h2 = grind (arith, nat_tests)

-- a choice is no better than itself
not_itself : (a : Best) → is_better a a ≡ false
not_itself a = grind (arith, nat_tests)

-- a better one isn't worse
not_back : (a b : Best) → is_better a b ≡ true → is_better b a ≡ false
not_back a b h1 = grind (arith, nat_tests)

-- two choices with the same stitch before them compare as without it
with_stitch : (p b : Point) (m n : ℕ) (x y : Best) → is_better x y ≡ false → is_better (best_with p b m x) (best_with p b n y) ≡ false
with_stitch p b m n x y h1 = grind (arith, nat_tests, square_of p b)

-- what is chosen of two by a test
taken : (new other : Best) (better allowed : Bool) → is_better new other ≡ better → allowed ≡ true
    → is_better new (if better && allowed then new else other) ≡ false
taken new other true true is may = not_itself new
taken new other false allowed is may = is
taken new other true false is may = absurd (false_true may)

left : (x new other : Best) (better allowed : Bool) → is_better new other ≡ better → is_better x other ≡ false
    → is_better x (if better && allowed then new else other) ≡ false
left x new other true true is below = no_better x other new below (not_back new other is)
left x new other true false is below = below
left x new other false allowed is below = below

-- the first of choices
abbrev pub first_best : List Best → Best
first_best [] = no_stitch
first_best (best ∷ later) = best

module _ (stays : Point → Bool) (rule : SpacingRule) where
  -- the nearest choice is no better than the best one
  over_nearest : (p : Point) (nearest : Best) (out points : List Point) (bests : List Best)
      → is_better nearest (best_over stays rule p nearest out points bests) ≡ false
  over_nearest p nearest out [] bests = not_itself nearest
  over_nearest p nearest out (b ∷ rest) [] = not_itself nearest
  over_nearest p nearest out (b ∷ rest) (from ∷ later) =
      left nearest (best_with p b (length out) from) (best_over stays rule p nearest (out ++ b ∷ []) rest later) _
      (may_leave_out stays rule p out b) refl (over_nearest p nearest (out ++ b ∷ []) rest later)

  -- no allowed stitch to a later point is better than the best choice
  over_each : (p : Point) (nearest : Best) (out pre : List Point) (b : Point) (after : List Point)
      → may_leave_out stays rule p (out ++ pre) b ≡ true
      → is_better (best_with p b (length (out ++ pre)) (first_best (bests_of stays rule (b ∷ after))))
      (best_over stays rule p nearest out (pre ++ b ∷ after) (bests_of stays rule (pre ++ b ∷ after))) ≡ false
  over_each p nearest out [] b after may =
      subst (λ (all : List Point). is_better (best_with p b (length all) (first_best (bests_of stays rule (b ∷ after))))
      (best_over stays rule p nearest out (b ∷ after) (bests_of stays rule (b ∷ after))) ≡ false) (sym (append_none out))
      (taken (best_with p b (length out) (first_best (bests_of stays rule (b ∷ after)))) _ _ (may_leave_out stays rule p out b) refl
      (subst (λ (all : List Point). may_leave_out stays rule p all b ≡ true) (append_none out) may))
    where
      append_none : (xs : List Point) → xs ++ [] ≡ xs
      append_none [] = refl
      append_none (x ∷ xs) = ap (λ (ys : List Point). x ∷ ys) (append_none xs)
  over_each p nearest out (c ∷ pre) b after may =
      left (best_with p b (length (out ++ c ∷ pre)) (first_best (bests_of stays rule (b ∷ after))))
      (best_with p c (length out) (first_best (bests_of stays rule (c ∷ (pre ++ b ∷ after)))))
      (best_over stays rule p nearest (out ++ c ∷ []) (pre ++ b ∷ after) (bests_of stays rule (pre ++ b ∷ after))) _
      (may_leave_out stays rule p out c) refl
      (subst (λ (all : List Point). is_better (best_with p b (length all) (first_best (bests_of stays rule (b ∷ after))))
      (best_over stays rule p nearest (out ++ c ∷ []) (pre ++ b ∷ after) (bests_of stays rule (pre ++ b ∷ after))) ≡ false)
      (append_assoc out (c ∷ []) pre)
      (over_each p nearest (out ++ c ∷ []) pre b after
      (subst (λ (all : List Point). may_leave_out stays rule p all b ≡ true) (sym (append_assoc out (c ∷ []) pre)) may)))

  -- no allowed stitch from a point is better than its best choice
  from_each : (p : Point) (out : List Point) (b : Point) (after : List Point) → may_leave_out stays rule p out b ≡ true
      → is_better (best_with p b (length out) (first_best (bests_of stays rule (b ∷ after))))
      (best_from stays rule p (out ++ b ∷ after) (bests_of stays rule (out ++ b ∷ after))) ≡ false
  from_each p [] b after may =
      over_nearest p (best_with p b 0 (first_best (bests_of stays rule (b ∷ after)))) (b ∷ []) after (bests_of stays rule after)
  from_each p (c ∷ pre) b after may =
      over_each p (best_with p c 0 (first_best (bests_of stays rule (c ∷ (pre ++ b ∷ after))))) (c ∷ []) pre b after may

  -- the numbers of a choice
  abbrev counted : List Point → Best
  counted kept = record { stitches = stitch_count kept; squares = square_sum kept; left_out = 0 }

  counted_with : (a b : Point) (rest : List Point) (n : ℕ) (x : Best) → is_better (counted (b ∷ rest)) x ≡ false
      → is_better (counted (a ∷ b ∷ rest)) (best_with a b n x) ≡ false
  counted_with a b rest n x h1 = grind (arith, nat_tests, square_of a b, square_sum (b ∷ rest), length rest)

  -- the points of a line begin with the first one that is kept
  begins : (b : Point) (rest points : List Point) → IsChoice stays rule (b ∷ rest) points → (more : List Point) × (points ≡ b ∷ more)
  begins b [] points is = ([], is)
  begins b (c ∷ rest) points is = (is.1.out ++ is.0, is.1.parts)

  -- no choice is better than that of the table
  none_better : (a : Point) (rest points : List Point) → IsChoice stays rule (a ∷ rest) points
      → is_better (counted (a ∷ rest)) (first_best (bests_of stays rule points)) ≡ false
  none_better a [] points is =
      subst (λ (ps : List Point). is_better (counted (a ∷ [])) (first_best (bests_of stays rule ps)) ≡ false) (sym is) refl
  none_better a (b ∷ rest) points (after, stretch, later) =
      let begun = begins b rest after later in
      subst (λ (ps : List Point). is_better (counted (a ∷ b ∷ rest)) (first_best (bests_of stays rule ps)) ≡ false)
      (sym (stretch.parts ∙ ap (λ (ps : List Point). a ∷ (stretch.out ++ ps)) begun.1))
      (no_better (counted (a ∷ b ∷ rest)) (best_with a b (length stretch.out) (first_best (bests_of stays rule (b ∷ begun.0))))
      (best_from stays rule a (stretch.out ++ b ∷ begun.0) (bests_of stays rule (stretch.out ++ b ∷ begun.0)))
      (counted_with a b rest (length stretch.out) (first_best (bests_of stays rule (b ∷ begun.0)))
      (subst (λ (ps : List Point). is_better (counted (b ∷ rest)) (first_best (bests_of stays rule ps)) ≡ false) begun.1
      (none_better b rest after later)))
      (from_each a stretch.out b begun.0 stretch.allowed))

  -- A choice from p on that begins with an allowed stitch.
  record IsMade (p : Point) (points : List Point) (best : Best) : Type 0 where
    out : List Point
    b : Point
    after : List Point
    parts : points ≡ out ++ b ∷ after
    allowed : may_leave_out stays rule p out b ≡ true
    is : best ≡ best_with p b (length out) (first_best (bests_of stays rule (b ∷ after)))

  either_made : (p : Point) (points : List Point) (new other : Best) (better allowed : Bool) → (allowed ≡ true → IsMade p points new)
      → IsMade p points other → IsMade p points (if better && allowed then new else other)
  either_made p points new other true true one two = one refl
  either_made p points new other true false one two = two
  either_made p points new other false allowed one two = two

  over_made : (p : Point) (nearest : Best) (out rest all : List Point) → all ≡ out ++ rest → IsMade p all nearest
      → IsMade p all (best_over stays rule p nearest out rest (bests_of stays rule rest))
  over_made p nearest out [] all parts made = made
  over_made p nearest out (b ∷ rest) all parts made =
      either_made p all (best_with p b (length out) (first_best (bests_of stays rule (b ∷ rest))))
      (best_over stays rule p nearest (out ++ b ∷ []) rest (bests_of stays rule rest)) _ (may_leave_out stays rule p out b)
      (λ may. record { out = out; b = b; after = rest; parts = parts; allowed = may; is = refl })
      (over_made p nearest (out ++ b ∷ []) rest all (parts ∙ sym (append_assoc out (b ∷ []) rest)) made)

  from_made : (p b : Point) (rest : List Point)
      → IsMade p (b ∷ rest) (best_from stays rule p (b ∷ rest) (bests_of stays rule (b ∷ rest)))
  from_made p b rest = over_made p (best_with p b 0 (first_best (bests_of stays rule (b ∷ rest)))) (b ∷ []) rest (b ∷ rest) refl
      (record { out = []; b = b; after = rest; parts = refl; allowed = refl; is = refl })

  -- points that are left out first
  kept_later : (out points : List Point)
      → kept_by (length out) (out ++ points) (bests_of stays rule (out ++ points)) ≡ kept_by 0 points (bests_of stays rule points)
  kept_later [] points = refl
  kept_later (p ∷ out) points = kept_later out points

  -- the points that the table keeps
  abbrev kept_of : List Point → List Point
  kept_of points = kept_by 0 points (bests_of stays rule points)

  -- the points that the table keeps are a choice with its numbers
  record IsReached (points : List Point) (best : Best) (kept : List Point) : Type 0 where
    chosen : IsChoice stays rule kept points
    stitches : stitch_count kept ≡ best.stitches
    squares : square_sum kept ≡ best.squares

  kept_first : (p : Point) (rest : List Point)
      → kept_of (p ∷ rest) ≡ p ∷ kept_by (first_best (bests_of stays rule (p ∷ rest))).left_out rest (bests_of stays rule rest)
  kept_first p rest = refl

  -- a kept point with a stitch before it
  reached_with : (p b : Point) (out after more : List Point) (best : Best) → may_leave_out stays rule p out b ≡ true
      → IsReached (b ∷ after) best (b ∷ more) → IsReached (p ∷ (out ++ b ∷ after)) (best_with p b (length out) best) (p ∷ b ∷ more)
  reached_with p b out after more best may reached = record {
    chosen = (b ∷ after, record { out = out; parts = refl; allowed = may }, reached.chosen);
    stitches = omega (arith, reached.stitches);
    squares = omega (arith, reached.squares);
  }

  kept_next : (p b : Point) (out after : List Point)
      → kept_by (length out) (out ++ b ∷ after) (bests_of stays rule (out ++ b ∷ after))
      ≡ b ∷ kept_by (first_best (bests_of stays rule (b ∷ after))).left_out after (bests_of stays rule after)
  kept_next p b out after = kept_later out (b ∷ after)

  reached : (n : ℕ) (p : Point) (rest : List Point) → length rest ≤ n
      → IsReached (p ∷ rest) (first_best (bests_of stays rule (p ∷ rest))) (kept_of (p ∷ rest))
  reached n p [] less = record { chosen = refl; stitches = refl; squares = refl }
  reached zero p (b ∷ rest) less = absurd (omega (arith, less))
  reached (suc n) p (c ∷ rest) less =
      let made = from_made p c rest in
      let x : Best = first_best (bests_of stays rule (made.b ∷ made.after)) in
      let best : Best = best_from stays rule p (c ∷ rest) (bests_of stays rule (c ∷ rest)) in
      let more : List Point = kept_by x.left_out made.after (bests_of stays rule made.after) in
      let later = reached n made.b made.after
      (let count = ap (λ (ps
      : List Point). length ps) made.parts in omega (arith, less, count, length-append made.out (made.b ∷ made.after))) in
      let step = reached_with p made.b made.out made.after more x made.allowed later in
      subst (λ (kept : List Point). IsReached (p ∷ c ∷ rest) best (p ∷ kept))
      (sym (ap (λ (b : Best). kept_by b.left_out (c ∷ rest) (bests_of stays rule (c ∷ rest))) made.is
      ∙ (ap (λ (ps : List Point). kept_by (length made.out) ps (bests_of stays rule ps)) made.parts
      ∙ kept_next p made.b made.out made.after)))
      (subst (λ (b : Best). IsReached (p ∷ c ∷ rest) b (p ∷ made.b ∷ more)) (sym made.is)
      (subst (λ (ps : List Point). IsReached (p ∷ ps) (best_with p made.b (length made.out) x) (p ∷ made.b ∷ more)) (sym made.parts) step))

  -- the numbers of a choice that isn't better
  fewer_of : (other : List Point) (best : Best) → is_better (counted other) best ≡ false → best.stitches ≤ stitch_count other
  fewer_of other best h1 = grind (arith, nat_tests, stitch_count other, square_sum other)

  even_of : (other : List Point) (best : Best) → is_better (counted other) best ≡ false → stitch_count other ≡ best.stitches
      → best.squares ≤ square_sum other
  even_of other best h1 h2 = grind (arith, nat_tests, stitch_count other, square_sum other)

  -- no choice of a line's points is better than what the table keeps
  not_better : (p : Point) (rest other : List Point) → IsChoice stays rule other (p ∷ rest)
      → is_better (counted other) (first_best (bests_of stays rule (p ∷ rest))) ≡ false
  not_better p rest [] is = absurd (none is)
    where
      none : p ∷ rest ≡ [] → ⊥
      none never = cc
  not_better p rest (a ∷ more) is = none_better a more (p ∷ rest) is

  pub best_of : (p : Point) (rest : List Point) → IsBestChoice stays rule (kept_of (p ∷ rest)) (p ∷ rest)
  best_of p rest =
      let best : Best = first_best (bests_of stays rule (p ∷ rest)) in
      let is = reached (length rest) p rest (omega arith) in
      record {
        chosen = is.chosen;
        fewest = λ other chosen. let few = fewer_of other best (not_better p rest other chosen) in omega (arith, few, is.stitches);
        most_even = λ other chosen same.
            let least = even_of other best (not_better p rest other chosen) (same ∙ is.stitches) in omega (arith, least, is.squares);
      }

-- The points that a line keeps are a best choice.
pub kept_are_best : KeptPointsAreBest
kept_are_best stays rule [] = record { chosen = refl; fewest = λ other chosen. omega arith; most_even = λ other chosen same. omega arith }
kept_are_best stays rule (p ∷ rest) = best_of stays rule p rest
