-- A design is less than 2 ^ 16 wide and high.
use Rattle.std.proofs.Common.{ℕ, ◌+◌, ◌<◌, ◌≤◌, ◌^◌, ℤ, ◌-ℤ◌, unsigned_abs, Bool, true, false, IsTrue, List, [], ◌∷◌, All, Contains, Option, subst, arith}
use Rattle.std.proofs.lemmas.List.Elements.{All-nil}
use Rattle.pec_codec.proofs.Names.{nat_tests, and_parts, ints, list_all, Command, Trim, Point, acts_from, IsExtentOrNone, x_coordinates, extent_height, needle_points_of_acts, y_coordinates, extent_width}
use Rattle.design_model.specs.declared.bounds.Extent.{Extent}
use Rattle.design_model.specs.declared.command.Command.TheVariants.{Stitch, Jump, Stop}
use Rattle.design_model.specs.declared.point.TheConstants.{NEEDLE_LIMIT}
use Rattle.design_model.specs.Commands.{is_command_in_range}

-- a coordinate of a needle
abbrev IsNear : ℤ → Type 0
IsNear z = unsigned_abs z ≤ NEEDLE_LIMIT

-- the coordinates of all needles are near
pub record AreNear (points : List Point) : Type 0 where
  pub columns : All IsNear (x_coordinates points)
  pub rows : All IsNear (y_coordinates points)

-- the needles of commands in range are near
pub needles_near : (n : ℕ) (loose jumped : Bool) (commands : List Command)
    → IsTrue (list_all is_command_in_range commands) → AreNear (needle_points_of_acts (acts_from n loose jumped commands))
needles_near n loose jumped [] all = record { columns = All-nil IsNear; rows = All-nil IsNear }
needles_near n loose jumped (Stitch p ∷ rest) all =
    let both = and_parts (is_command_in_range (Stitch p)) (list_all is_command_in_range rest) all in
    grind (arith, nat_tests, both.0, (needles_near (n + 1) false false rest both.1))
needles_near n loose jumped (Jump p ∷ rest) all = needles_near (n + 1) loose true rest
    (and_parts (is_command_in_range (Jump p)) (list_all is_command_in_range rest) all).1
needles_near n true jumped (Trim ∷ rest) all = needles_near (n + 1) true jumped rest all
needles_near n false jumped (Trim ∷ rest) all = needles_near (n + 1) true false rest all
needles_near n loose jumped (Stop ∷ rest) all = needles_near (n + 1) true false rest all

-- one of them
near_one : (z : ℤ) (zs : List ℤ) → All IsNear zs → Contains zs z → IsNear z
near_one z zs all (k, below, is) = subst IsNear is (all k z below)

difference : (y z : ℤ) → IsNear y → IsNear z → unsigned_abs (y -ℤ z) < 2 ^ 16
difference y z near_y near_z = omega (arith, ints, near_y, near_z)

pub narrow : (points : List Point) (extent : Option Extent) → AreNear points → IsExtentOrNone points extent → extent_width extent < 2 ^ 16
narrow points extent h1 h2 = grind (arith, nat_tests, ints)

pub low : (points : List Point) (extent : Option Extent) → AreNear points → IsExtentOrNone points extent → extent_height extent < 2 ^ 16
low points extent h1 h2 = grind (arith, nat_tests, ints)
