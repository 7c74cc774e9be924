-- A walk crosses the boundary of a set an odd number of times exactly where it has one of the walk's two ends.
use Rattle.std.proofs.Common.{◌≡◌, ℕ, ◌+◌, ◌%◌, ◌==◌, Bool, true, false, cond, not, List, [], ◌∷◌, Option, Some, None, arith}
use Rattle.odd_cuts.proofs.Names.{nat_tests, Edge, Pass, one_if, after_edge, edge_of, pass_end, edge_value, pass_sum, pass_start, walk_end_from, lost}

-- 1 where the set has the junction
abbrev pub inside : (ℕ → Bool) → ℕ → ℕ
inside set j = one_if (set j)

-- 1 where the set has exactly one end of the edge
abbrev pub crossing : (ℕ → Bool) → Edge → ℕ
crossing set e = one_if (cond (set e.a) (not (set e.b)) (set e.b))

swapped : (x y z : ℕ) → ((x + y) + z) % 2 ≡ 0 → ((x + z) + y) % 2 ≡ 0
swapped x y z h = omega arith

joined : (c s i j t : ℕ) → ((c + i) + j) % 2 ≡ 0 → ((s + j) + t) % 2 ≡ 0 → (((c + s) + i) + t) % 2 ≡ 0
joined c s i j t first rest = omega arith

twice : (k : ℕ) → ((0 + k) + k) % 2 ≡ 0
twice k = omega arith

step_even : (ns : List ℕ) (es : List Edge) (set : ℕ → Bool) (ps : List Pass) (e : Edge) (back : Bool) (at to : ℕ) (t : Bool)
    → (pass_start e back == at) ≡ t → walk_end_from ns es (cond t (Some (pass_end e back)) None) ps ≡ Some to
    → (walk_end_from ns es (Some (pass_end e back)) ps
    ≡ Some to → ((pass_sum ns es (crossing set) ps + inside set (pass_end e back)) + inside set to) % 2 ≡ 0)
    → (((crossing set e + pass_sum ns es (crossing set) ps) + inside set at) + inside set to) % 2 ≡ 0
step_even ns es set ps e back at to true test is rest = grind (arith, nat_tests)
step_even ns es set ps e back at to false test is rest = absurd (lost ns es ps to is)

edge_step : (ns : List ℕ) (es : List Edge) (set : ℕ → Bool) (ps : List Pass) (found : Option Edge) (back : Bool) (at to : ℕ)
    → walk_end_from ns es (after_edge found back at) ps ≡ Some to
    → ((k : ℕ) → walk_end_from ns es (Some k) ps ≡ Some to → ((pass_sum ns es (crossing set) ps + inside set k) + inside set to) % 2 ≡ 0)
    → (((edge_value (crossing set) found + pass_sum ns es (crossing set) ps) + inside set at) + inside set to) % 2 ≡ 0
edge_step ns es set ps None back at to is rest = absurd (lost ns es ps to is)
edge_step ns es set ps (Some e) back at to is rest = grind (arith, nat_tests, step_even)

pub walk_even : (ns : List ℕ) (es : List Edge) (set : ℕ → Bool) (ps : List Pass) (at to : ℕ) → walk_end_from ns es (Some at) ps ≡ Some to
    → ((pass_sum ns es (crossing set) ps + inside set at) + inside set to) % 2 ≡ 0
walk_even ns es set [] at to is = grind (arith, nat_tests)
walk_even ns es set (p ∷ ps) at to is =
    edge_step ns es set ps (edge_of ns es p.line) p.back at to is (λ k. λ h. walk_even ns es set ps k to h)
