-- Lemmas that this crate and those above cite.
use Rattle.std.proofs.Common.{Bool, IsTrue, List, [], arith, false, refl, true, unsigned_abs, ℕ, ℤ, ◌+◌, ◌∷◌, ◌≡◌, ◌≤◌}
use Rattle.std.proofs.Math.Path.{ap₂}
use Rattle.std.specs.Ordering.{int_eq}
use Rattle.design_model.proofs.Names.{and_from, and_parts, Decides-int_eq, nat_tests, list_all, is_act_in_range, acts_from, is_command_in_range, is_point_within, is_same_point, NumberedAct, Command, Jump, Stitch, Point}
use Rattle.design_model.specs.declared.command.Command.TheVariants.{Stop, Trim}

-- points that are found to be the same are the same
pub same_is : (p q : Point) → is_same_point p q ≡ true → p ≡ q
same_is p q found = grind (arith, nat_tests, and_parts, ap₂)

-- two points are the same either way
pub same_back : (p q : Point) → is_same_point p q ≡ is_same_point q p
same_back p q = grind (arith, nat_tests)

pub point_itself : (p : Point) → is_same_point p p ≡ true
point_itself p = and_from (int_eq p.x p.x) (int_eq p.y p.y) ((Decides-int_eq p.x p.x).1 refl) ((Decides-int_eq p.y p.y).1 refl)

-- a point is within a limit where both its coordinates are
pub within_parts : (limit : ℕ) (p : Point) → IsTrue (is_point_within limit p) → (unsigned_abs p.x ≤ limit) × (unsigned_abs p.y ≤ limit)
within_parts limit p within = grind (arith, nat_tests)

-- equal coordinates are those of equal points
pub same_point : (p q : Point) → p.x ≡ q.x → p.y ≡ q.y → p ≡ q
same_point p q across down = grind (arith, nat_tests, ap₂)

-- points are equal where their coordinates are
pub point_of_parts : {x x' y y' : ℤ} → x ≡ x' → y ≡ y'
    → (let p : Point = record { x = x; y = y } in p) ≡ (let q : Point = record { x = x'; y = y' } in q)
point_of_parts x y = cc

pub within_from : (limit : ℕ) (p : Point) → unsigned_abs p.x ≤ limit → unsigned_abs p.y ≤ limit → IsTrue (is_point_within limit p)
within_from limit p across down = grind (arith, nat_tests)

-- the points of acts are in a needle's range
abbrev pub are_in_range : List NumberedAct → Bool
are_in_range acts = list_all (λ a. is_act_in_range a.act) acts

-- the acts of commands in range are in range
pub acts_in_range : (n : ℕ) (loose jumped : Bool) (commands : List Command)
    → IsTrue (list_all is_command_in_range commands) → IsTrue (are_in_range (acts_from n loose jumped commands))
acts_in_range n loose jumped [] all = all
acts_in_range n loose jumped (Stitch p ∷ rest) all =
    let both = and_parts (is_command_in_range (Stitch p)) (list_all is_command_in_range rest) all in
    and_from (is_command_in_range (Stitch p)) (are_in_range (acts_from (n + 1) false false rest)) both.0
    (acts_in_range (n + 1) false false rest both.1)
acts_in_range n loose jumped (Jump p ∷ rest) all = acts_in_range (n + 1) loose true rest
    (and_parts (is_command_in_range (Jump p)) (list_all is_command_in_range rest) all).1
acts_in_range n true jumped (Trim ∷ rest) all = acts_in_range (n + 1) true jumped rest all
acts_in_range n false jumped (Trim ∷ rest) all = acts_in_range (n + 1) true false rest all
acts_in_range n loose jumped (Stop ∷ rest) all = acts_in_range (n + 1) true false rest all

pub within_more : (limit more : ℕ) (m : Point) → limit ≤ more → IsTrue (is_point_within limit m) → IsTrue (is_point_within more m)
within_more limit more m less here = grind (arith, nat_tests, within_parts, within_from)
