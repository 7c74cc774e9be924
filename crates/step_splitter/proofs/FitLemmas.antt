-- Refitted acts fit.
use Rattle.std.proofs.Common.{◌≡◌, ℕ, ◌≤◌, Bool, true, false, not, ◌&&◌, IsTrue, List, [], ◌∷◌, ◌++◌, refl, arith}
use Rattle.step_splitter.proofs.Names.{nat_tests, le-max_left, le-max_right, if◌then◌else◌, Act, Point, is_point_within, move_between, origin, RefitMode, AreCloseAfter, last_point_or, MeetsRefitGoal, is_no_float, needles_at, refitted_acts, refitted_from, split_points, list_all, AreNearActs}
use Rattle.design_model.specs.declared.act.Act.TheVariants as act
use Rattle.step_splitter.proofs.ChainLemmas.{comes_close}
use Rattle.step_splitter.specs.declared.refitting.RefitMode.TheVariants as mode

-- needles that keep close keep near
near_along : (limit : ℕ) (place : Point) (points : List Point) (rest : List Act) → AreCloseAfter limit place points
    → AreNearActs limit false (last_point_or place points) rest → AreNearActs limit false place (needles_at points ++ rest)
near_along limit place [] rest close near = near
near_along limit place (p ∷ points) rest close near = (close.0, near_along limit p points rest close.1 near)

-- a needle that is split if it is too far
near_split : (limit : ℕ) (loose within : Bool) (place p : Point) (rest : List Act) → 1 ≤ limit
    → is_point_within limit (move_between place p) ≡ within → AreNearActs limit false p rest
    → AreNearActs limit loose place
    ((if not loose && not within then needles_at (split_points place p limit) else act.Needle p false ∷ []) ++ rest)
near_split limit true within place p rest low is near = (refl, near)
near_split limit false true place p rest low is near = (is, near)
near_split limit false false place p rest low is near = grind (arith, nat_tests, comes_close, le-max_left, le-max_right, near_along)

near_refitted : (limit : ℕ) (loose : Bool) (place : Point) (acts : List Act) → 1 ≤ limit
    → AreNearActs limit loose place (refitted_from mode.Split limit loose place acts)
near_refitted limit loose place [] low = tt
near_refitted limit loose place (act.Needle p true ∷ rest) low = (refl, near_refitted limit false p rest low)
near_refitted limit loose place (act.Needle p false ∷ rest) low =
    grind (arith, nat_tests, near_split, (near_refitted limit false p rest low))
near_refitted limit loose place (act.Trim ∷ rest) low = (refl, near_refitted limit true place rest low)
near_refitted limit loose place (act.Stop ∷ rest) low = (refl, near_refitted limit true place rest low)

no_float_refitted : (limit : ℕ) (loose : Bool) (place : Point) (acts : List Act)
    → IsTrue (list_all is_no_float (refitted_from mode.Cut limit loose place acts))
no_float_refitted limit loose place [] = refl
no_float_refitted limit loose place (act.Needle p true ∷ rest) = no_float_refitted limit false p rest
no_float_refitted limit loose place (act.Needle p false ∷ rest) = no_float_refitted limit false p rest
no_float_refitted limit loose place (act.Trim ∷ rest) = no_float_refitted limit true place rest
no_float_refitted limit loose place (act.Stop ∷ rest) = no_float_refitted limit true place rest

-- the acts of a refit fit
pub refitted_fits : (m : RefitMode) (limit : ℕ) (acts refitted : List Act) → 1 ≤ limit
    → refitted ≡ refitted_acts m limit acts → MeetsRefitGoal m limit refitted
refitted_fits mode.Split limit acts refitted low is = grind (arith, nat_tests, near_refitted limit true origin acts low)
refitted_fits mode.Cut limit acts refitted low is = grind (arith, nat_tests, no_float_refitted limit true origin acts)
