-- The best choice from a point on, from the farthest stitch to the nearest, and the points that may be left out.
use Rattle.std.proofs.Common.{◌≡◌, ◌∙◌, ℕ, zero, suc, ◌+◌, ◌-◌, ◌≤◌, ◌<◌, ◌⊎◌, inl, inr, min, Bool, true, false, not, ◌&&◌, nat_le, nat_lt, List, [], ◌∷◌, ◌++◌, length, take, drop, get_or, if◌then◌else◌, refl, ap, sym, subst, arith}
use Rattle.std.proofs.Math.Path.{ap₂}
use Rattle.std.proofs.lemmas.Bool.{leb-false, leb-true}
use Rattle.std.proofs.lemmas.Bool.Decides.{nat_tests}
use Rattle.std.proofs.lemmas.List.{drop_all, drop_more, length-append, length-take-le, take_more}
use Rattle.std.proofs.lemmas.List.Folds.{list_all-append}
use Rattle.design_model.specs.Lengths.{square_of}
use Rattle.design_model.specs.declared.point.Point.{Point}
use Rattle.spaced_lines.specs.BestChoices.{best_over, best_with, better_with, is_better, room_after, room_of}
use Rattle.spaced_lines.specs.SpacingRules.{distance_between, does_none_stay, may_leave_out}
use Rattle.spaced_lines.specs.declared.best.Best.{Best}
use Rattle.spaced_lines.specs.declared.spacing_rule.SpacingRule.{SpacingRule}
use Rattle.spaced_lines.specs.declared.spacing_rule.TheConstants.{MAX_LEFT_OUT}

-- points that may be left out as far as they are tested alone and counted
abbrev fits : (Point → Bool) → List Point → Bool
fits stays out = does_none_stay stays out && nat_le (length out) MAX_LEFT_OUT

fits_more : (stays : Point → Bool) (out : List Point) (b : Point) → fits stays out ≡ false → fits stays (out ++ b ∷ []) ≡ false
fits_more stays out b h1 =
    grind (arith, nat_tests, list_all-append (λ q. not (stays q)) out (b ∷ []), length-append out (b ∷ []))

unfit : (stays : Point → Bool) (rule : SpacingRule) (p : Point) (out : List Point) (b : Point) → fits stays out ≡ false
    → may_leave_out stays rule p out b ≡ false
unfit stays rule p [] b h1 = grind (arith, nat_tests)
unfit stays rule p (q ∷ out) b h1 = grind (arith, nat_tests)

other_of : (new other : Best) (better allowed : Bool) → allowed ≡ false → (if better && allowed then new else other) ≡ other
other_of new other better allowed h1 = grind (arith, nat_tests)

-- where points don't fit, the nearest choice is best
far_none : (stays : Point → Bool) (rule : SpacingRule) (p : Point) (nearest : Best) (out points : List Point) (bests : List Best)
    → fits stays out ≡ false → best_over stays rule p nearest out points bests ≡ nearest
far_none stays rule p nearest out [] bests bad = refl
far_none stays rule p nearest out (b ∷ rest) [] bad = refl
far_none stays rule p nearest out (b ∷ rest) (from ∷ later) bad =
    other_of (best_with p b (length out) from) (best_over stays rule p nearest (out ++ b ∷ []) rest later) _ _
    (unfit stays rule p out b bad)
    ∙ far_none stays rule p nearest (out ++ b ∷ []) rest later (fits_more stays out b bad)

-- the points that may be left out are counted
counted_by : (stays : Point → Bool) (n : ℕ) (p : Point) (rest : List Point) (t : Bool) → stays p ≡ t
    → (n ≤ room_of stays rest → does_none_stay stays (take n rest) ≡ true) → suc n ≤ room_after t (room_of stays rest)
    → does_none_stay stays (take (suc n) (p ∷ rest)) ≡ true
counted_by stays n p rest true is others most = absurd (omega (arith, most))
counted_by stays n p rest false is others most =
    ap₂ (λ (a b : Bool). not a && b) is (others (omega (arith, most)))

pub counted : (stays : Point → Bool) (n : ℕ) (points : List Point) → n ≤ room_of stays points → does_none_stay stays (take n points) ≡ true
counted stays zero points most = refl
counted stays (suc n) [] most = absurd (omega (arith, most))
counted stays (suc n) (p ∷ rest) most = counted_by stays n p rest (stays p) refl (counted stays n rest) most

-- either number is the least of the two
least_of : (a b : ℕ) → (min a b ≡ a) ⊎ (min a b ≡ b)
least_of a b = by (nat_le a b) refl
  where
    by : (t : Bool) → nat_le a b ≡ t → (min a b ≡ a) ⊎ (min a b ≡ b)
    by true is = inl (grind (arith, nat_tests))
    by false is = inr (grind (arith, nat_tests))

unfit_front : (stays : Point → Bool) (p : Point) (out : List Point) → fits stays out ≡ false → fits stays (p ∷ out) ≡ false
unfit_front stays p out h1 = grind (arith, nat_tests)

too_many : (stays : Point → Bool) (out : List Point) → MAX_LEFT_OUT < length out → fits stays out ≡ false
too_many stays out h1 = grind (arith, nat_tests)

stays_first : (stays : Point → Bool) (p : Point) (out : List Point) → stays p ≡ true → fits stays (p ∷ out) ≡ false
stays_first stays p out h1 = grind (arith, nat_tests)

-- one point more than those that are counted is too many, or stays
full_by : (stays : Point → Bool) (p : Point) (rest : List Point) (t : Bool) → stays p ≡ t
    → (room_of stays rest < length rest → fits stays (take (suc (room_of stays rest)) rest) ≡ false)
    → room_after t (room_of stays rest) < suc (length rest)
    → fits stays (take (suc (room_after t (room_of stays rest))) (p ∷ rest)) ≡ false
full_by stays p rest true is others less = stays_first stays p [] is
full_by stays p rest false is others less = by (least_of (room_of stays rest + 1) MAX_LEFT_OUT)
  where
    by : (min (room_of stays rest + 1) MAX_LEFT_OUT ≡ room_of stays rest + 1) ⊎ (min (room_of stays rest + 1) MAX_LEFT_OUT ≡ MAX_LEFT_OUT)
        → fits stays (p ∷ take (min (room_of stays rest + 1) MAX_LEFT_OUT) rest) ≡ false
    by (inl one) =
        let next : min (room_of stays rest + 1) MAX_LEFT_OUT ≡ suc (room_of stays rest) = omega (arith, one) in
        subst (λ (n : ℕ). fits stays (p ∷ take n rest) ≡ false) (sym next)
        (unfit_front stays p (take (suc (room_of stays rest)) rest) (others (omega (arith, one, less))))
    by (inr all) = subst (λ (n : ℕ). fits stays (p ∷ take n rest) ≡ false) (sym all)
        (too_many stays (p ∷ take MAX_LEFT_OUT rest)
        (let size = length-take-le MAX_LEFT_OUT rest (omega (arith, all, less)) in omega (arith, size)))

full : (stays : Point → Bool) (points : List Point) → room_of stays points < length points
    → fits stays (take (suc (room_of stays points)) points) ≡ false
full stays [] less = absurd (omega (arith, less))
full stays (p ∷ rest) less = full_by stays p rest (stays p) refl (full stays rest) less

-- the best choice of no stitch that leaves out more points than may be left out
pub begun : (stays : Point → Bool) (rule : SpacingRule) (p : Point) (nearest : Best) (after : List Point) (bests : List Best) (room n : ℕ)
    → room ≡ room_of stays after → n ≡ min room (length after - 1) → 1 ≤ length after
    → nearest ≡ best_over stays rule p nearest (take (n + 1) after) (drop (n + 1) after) bests
begun stays rule p nearest after bests room n is least some = by (least_of room (length after - 1))
  where
    by : (min room (length after - 1) ≡ room) ⊎ (min room (length after - 1) ≡ length after - 1)
        → nearest ≡ best_over stays rule p nearest (take (n + 1) after) (drop (n + 1) after) bests
    by (inl counts) = by_length (nat_le (length after) room) refl
      where
        by_length : (t : Bool) → nat_le (length after) room ≡ t
            → nearest ≡ best_over stays rule p nearest (take (n + 1) after) (drop (n + 1) after) bests
        by_length true most = absurd (omega (arith, leb-true (length after) room most, counts, some, least))
        by_length false most =
            sym (far_none stays rule p nearest (take (n + 1) after) (drop (n + 1) after) bests
            (let next : suc (room_of stays after) ≡ n + 1 = omega (arith, is, least, counts) in
            subst (λ (k : ℕ). fits stays (take k after) ≡ false) next
            (full stays after (omega (arith, is, leb-false (length after) room most)))))
    by (inr all) =
        subst (λ (points : List Point). nearest ≡ best_over stays rule p nearest (take (n + 1) after) points bests)
        (sym (drop_all (n + 1) after (omega (arith, all, least, some)))) refl

-- the best choice with the stitches that leave out one point fewer
pub next_over : (stays : Point → Bool) (rule : SpacingRule) (p : Point) (nearest : Best) (after : List Point) (bests : List Best) (n : ℕ)
    (b : Point) (from : Best) → n < length after → length bests ≡ length after
    → best_over stays rule p nearest (take n after) (drop n after) (drop n bests)
    ≡ better_with stays rule p (take n after) (get_or after n b) (get_or bests n from)
    (best_over stays rule p nearest (take (n + 1) after) (drop (n + 1) after) (drop (n + 1) bests))
next_over stays rule p nearest after bests n b from less sized =
    ap₂ (λ (points : List Point) (table : List Best). best_over stays rule p nearest (take n after) points table)
    (drop_more after n b less) (drop_more bests n from (omega (arith, less, sized)))
    ∙ ap (λ (out : List Point). better_with stays rule p (take n after) (get_or after n b) (get_or bests n from)
    (best_over stays rule p nearest out (drop (n + 1) after) (drop (n + 1) bests))) (sym (take_more after n b less))

-- the better of the best choice so far and the next one
pub next_best : (stays : Point → Bool) (rule : SpacingRule) (p : Point) (nearest : Best) (after : List Point) (bests : List Best) (n m : ℕ)
    (b : Point) (from best result : Best) → n < length after → length bests ≡ length after → n ≡ m
    → result ≡ better_with stays rule p (take n after) (get_or after n b) (get_or bests n from) best
    → best ≡ best_over stays rule p nearest (take (n + 1) after) (drop (n + 1) after) (drop (n + 1) bests)
    → result ≡ best_over stays rule p nearest (take m after) (drop m after) (drop m bests)
next_best stays rule p nearest after bests n m b from best result less sized back is so_far =
    subst (λ (k : ℕ). result ≡ best_over stays rule p nearest (take k after) (drop k after) (drop k bests)) back
    (is ∙ (ap (λ (other : Best). better_with stays rule p (take n after) (get_or after n b) (get_or bests n from) other) so_far
    ∙ sym (next_over stays rule p nearest after bests n b from less sized)))

-- a stitch that is no better, or too long, isn't taken
other_if : (new other : Best) (better allowed : Bool) → better ≡ false → (if better && allowed then new else other) ≡ other
other_if new other better allowed h1 = grind (arith, nat_tests)

as_many : (p b : Point) (out : ℕ) (from other : Best) → nat_lt from.stitches other.stitches ≡ false
    → is_better (best_with p b out from) other ≡ false
as_many p b out from other h1 = grind (arith, nat_tests, square_of p b)

too_long : (stays : Point → Bool) (rule : SpacingRule) (p q : Point) (out : List Point) (b : Point)
    → nat_le (distance_between p b) rule.step ≡ false → may_leave_out stays rule p (q ∷ out) b ≡ false
too_long stays rule p q out b h1 = grind (arith, nat_tests)

pub not_taken : (stays : Point → Bool) (rule : SpacingRule) (p : Point) (out : List Point) (b : Point) (from other : Best) → 1 ≤ length out
    → (nat_lt from.stitches other.stitches && nat_le (distance_between p b) rule.step) ≡ false
    → other ≡ better_with stays rule p out b from other
not_taken stays rule p [] b from other some never = absurd (omega (arith, some))
not_taken stays rule p (q ∷ out) b from other some never = by (nat_lt from.stitches other.stitches) refl never
  where
    by : (t : Bool) → nat_lt from.stitches other.stitches ≡ t → (t && nat_le (distance_between p b) rule.step) ≡ false
        → other ≡ better_with stays rule p (q ∷ out) b from other
    by true is long = sym (other_of (best_with p b (length (q ∷ out)) from) other _ _ (too_long stays rule p q out b long))
    by false is long = sym (other_if (best_with p b (length (q ∷ out)) from) other _ _ (as_many p b (length (q ∷ out)) from other is))
