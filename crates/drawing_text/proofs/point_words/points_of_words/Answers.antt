use Rattle.std.proofs.Common.{◌≡◌, ℤ, ◌≤◌, unsigned_abs, to_z, of_z, w32, List, ℕ, Result, Ok, subst, ◌∙◌, ap, ◌++◌, ◌∷◌, [], arith}
use Rattle.std.proofs.lemmas.Int.{ints}
use Rattle.drawing_text.proofs.Names.{NEEDLE_LIMIT, DrawKind, BeginsWithCoordinate}
use Rattle.drawing_text.proofs.PointWordLemmas.{coordinate_within, point_in_range, point_read}
use Rattle.drawing_text.proofs.point_words.points_of_words.Goals as goal

-- a coordinate is held as it is
held : (n : ℤ) → unsigned_abs n ≤ NEEDLE_LIMIT → to_z w32 (of_z w32 n) ≡ n
held n within = omega (arith, ints)

-- a line begins with a coordinate that isn't refused
begins : (line : List ℕ) (answer : Result ℤ DrawKind) (n : ℤ) (rest : List ℕ) → answer ≡ Ok n
    → BeginsWithCoordinate line answer rest → BeginsWithCoordinate line (Ok n) rest
begins line answer n rest is = subst (λ (told : Result ℤ DrawKind). BeginsWithCoordinate line told rest) is

pub loop-x-preserved : goal.loop-x-preserved
loop-x-preserved c =
    let x = c.in_ok-across.across in
    let y = c.in_ok-down.down in
    let points = c.loop-x.points in
    let across = coordinate_within _ x c.in_ok-across.was c.in-Some.ensures.within in
    let down = coordinate_within _ y c.in_ok-down.was c.in-Some-next_coordinate.ensures.within in
    let more = c.in_ok-push.ensures.ok
    ∙ (ap (λ (n : ℤ). points ++ record { x = n; y = to_z w32 (of_z w32 y) } ∷ []) (held x across)
    ∙ ap (λ (n : ℤ). points ++ record { x = x; y = n } ∷ []) (held y down)) in
    rw more (record {
      goes_on = point_read _ c.loop-x.rest.now c.in-Some.after.now c.in-Some-next_coordinate.more.now points x y
          c.loop-x.invariant.goes_on (begins _ _ x _ c.in_ok-across.was c.in-Some.ensures.some)
          (begins _ _ y _ c.in_ok-down.was c.in-Some-next_coordinate.ensures.some);
      in_range = point_in_range points x y c.loop-x.invariant.in_range across down;
    })
