-- Lines that touch, turned.
use Rattle.std.proofs.Common.{◌≡◌, ◌==◌, Bool, true, ◌||◌, List, [], ◌∷◌, inl, inr, refl, arith, ◌∙◌}
use Rattle.line_graph.proofs.Names.{and_parts, or_cases, or_left, or_right, nat_tests, list_any, Point, is_same_point, LineValue, shares_point, touches, endpoints, same_back}

-- a test that passes where another does
any_more : {X : Type 0} (f g : X → Bool) → ((x : X) → f x ≡ true → g x ≡ true) → (xs : List X) → list_any f xs ≡ true → list_any g xs ≡ true
any_more f g more [] some = some
any_more f g more (x ∷ xs) some = elim (or_cases (f x) (list_any f xs) some) [
  | inl here ↦ or_left (g x) (list_any g xs) (more x here)
  | inr later ↦ or_right (g x) (list_any g xs) (any_more f g more xs later)
]

-- what one list shares with another, the other shares with it
shares_turned : (ps qs : List Point) → shares_point ps qs ≡ true → shares_point qs ps ≡ true
shares_turned [] qs shared = absurd cc
shares_turned (p ∷ ps) qs shared =
    let goal : Point → Bool = λ q. is_same_point q p || list_any (is_same_point q) ps in
    elim (or_cases (list_any (is_same_point p) qs) (shares_point ps qs) shared) [
      | inl here ↦ any_more (is_same_point p) goal
          (λ q found. or_left (is_same_point q p) (list_any (is_same_point q) ps) (same_back q p ∙ found)) qs here
      | inr later ↦ any_more (λ q. list_any (is_same_point q) ps) goal
          (λ q found. or_right (is_same_point q p) (list_any (is_same_point q) ps) found) qs (shares_turned ps qs later)
    ]

pub touch_turned : (a b : LineValue) → touches a b ≡ true → touches b a ≡ true
touch_turned a b touch =
    let both = and_parts (a.block == b.block) (shares_point (endpoints a.points) (endpoints b.points)) touch in
    let block : (b.block == a.block) ≡ true = grind (arith, nat_tests, both.0) in
    rw (block, shares_turned (endpoints a.points) (endpoints b.points) both.1) refl
