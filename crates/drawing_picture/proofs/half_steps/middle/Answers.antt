use Rattle.std.proofs.Common.{◌≡◌, ◌≤◌, ◌&&◌, ℕ, ℤ, ◌+ℤ◌, true, nat_le, unsigned_abs, to_z, of_z, w32, ap, arith, ◌∙◌}
use Rattle.std.proofs.lemmas.Int.{ints}
use Rattle.drawing_picture.proofs.Names.{nat_tests}
use Rattle.drawing_picture.proofs.half_steps.middle.Goals as goal

-- a coordinate is held as it is, and a sum of two
sum : (a b : ℤ) → unsigned_abs a ≤ 30000 → unsigned_abs b ≤ 30000
    → to_z w32 (of_z w32 (to_z w32 (of_z w32 a) +ℤ to_z w32 (of_z w32 b))) ≡ a +ℤ b
sum a b one other = omega (arith, ints)

across : (a b : ℕ) → (nat_le a 30000 && nat_le b 30000) ≡ true → a ≤ 30000
across a b is = grind (arith, nat_tests)

down : (a b : ℕ) → (nat_le a 30000 && nat_le b 30000) ≡ true → b ≤ 30000
down a b is = grind (arith, nat_tests)

pub returns : goal.returns
returns c =
    let p = c.args.p in
    let q = c.args.q in
    ap (λ (x : ℤ). record { x = x; y = to_z w32 (of_z w32 (to_z w32 (of_z w32 p.y) +ℤ to_z w32 (of_z w32 q.y))) })
    (sum p.x q.x (across (unsigned_abs p.x) (unsigned_abs p.y) c.requires.first)
    (across (unsigned_abs q.x) (unsigned_abs q.y) c.requires.last))
    ∙ ap (λ (y : ℤ). record { x = p.x +ℤ q.x; y = y }) (sum p.y q.y (down (unsigned_abs p.x) (unsigned_abs p.y) c.requires.first)
    (down (unsigned_abs q.x) (unsigned_abs q.y) c.requires.last))
