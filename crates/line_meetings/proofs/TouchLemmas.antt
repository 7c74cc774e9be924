-- The least distance within which a segment comes of a point, and segments that lie aside.
use Rattle.std.proofs.Common.{◌≡◌, ℕ, suc, ◌+◌, ◌-◌, ◌<◌, Bool, true, false, ◌&&◌, ◌||◌, ◌==◌, nat_lt, if◌then◌else◌, ap, ◌∙◌, arith}
use Rattle.drawing_review.specs.declared.grid_point.GridPoint.{GridPoint}
use Rattle.drawing_review.specs.Meetings.{clockwise_sum, counter_sum, cross_inside, is_near, lies_between}
use Rattle.line_meetings.specs.Touches.{do_overlap, is_along, lies_on_side}
use Rattle.line_meetings.proofs.Names.{LineSegment, least_near, nat_tests}

-- A distance that doesn't come near is left out.
pub near_skips : (gap distance : ℕ) (p : GridPoint) (t : LineSegment) → distance < gap → is_near distance p t ≡ false
    → least_near (gap - distance) distance p t ≡ least_near (gap - (distance + 1)) (distance + 1) p t
near_skips gap distance p t less far =
    ap (λ (n : ℕ). least_near n distance p t) (let is : gap - distance ≡ suc (gap - (distance + 1)) = omega (arith, less) in is)
    ∙ ap (λ (b : Bool). if b then distance else least_near (gap - (distance + 1)) (distance + 1) p t) far

-- One that comes near is the least.
pub near_found : (gap distance : ℕ) (p : GridPoint) (t : LineSegment) → distance < gap → is_near distance p t ≡ true
    → least_near (gap - distance) distance p t ≡ distance
near_found gap distance p t less near =
    ap (λ (n : ℕ). least_near n distance p t) (let is : gap - distance ≡ suc (gap - (distance + 1)) = omega (arith, less) in is)
    ∙ ap (λ (b : Bool). if b then distance else least_near (gap - (distance + 1)) (distance + 1) p t) near

-- What lies on one side of a line neither crosses it nor lies along it.
none_between : (a b c d : ℕ) → ((nat_lt a b && nat_lt c d) || (nat_lt b a && nat_lt d c)) ≡ true
    → ((nat_lt a b && nat_lt d c) || (nat_lt b a && nat_lt c d)) ≡ false
none_between a b c d aside = grind (arith, nat_tests, aside)

none_along : (a b c d : ℕ) → ((nat_lt a b && nat_lt c d) || (nat_lt b a && nat_lt d c)) ≡ true → (a == b && c == d) ≡ false
none_along a b c d aside = grind (arith, nat_tests, aside)

neither : (near first second along more : Bool) → first ≡ false → along ≡ false
    → false ≡ ((near && (first && second)) || (along && more))
neither near first second along more across on = grind (arith, nat_tests, across, on)

pub aside_apart : (s t : LineSegment) → lies_on_side s t ≡ true → false ≡ (cross_inside s t || do_overlap s t)
aside_apart s t aside =
    let a = clockwise_sum s t.a in
    let b = counter_sum s t.a in
    let c = clockwise_sum s t.b in
    let d = counter_sum s t.b in
    neither _ (lies_between s t) _ (is_along s t) _ (none_between a b c d aside) (none_along a b c d aside)
