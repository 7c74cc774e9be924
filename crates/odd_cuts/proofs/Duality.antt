-- The bound: a walk crosses each cut once more than the lines do, and the loads bound the extra crossings.
use Rattle.std.proofs.Common.{◌≡◌, ◌≤◌, ℕ, ◌+◌, ◌*◌, ◌%◌, Bool, true, cond, List, [], ◌∷◌, ◌++◌, length, Option, Some, None, All, arith, refl, sym, ◌∙◌, ap}
use Rattle.std.proofs.lemmas.List.Sums.{sum_by-cons}
use Rattle.odd_cuts.proofs.Names.{nat_tests, and_parts, All-head, All-tail, option_or, Edge, Pass, IsValidPiece, PieceValue, edges_with_closing, closing_edge, are_same_junction, edge_cost, covers, edge_sum, walk_start, is_fitting_walk, is_walk_start_to_end, piece_cost, walk_cost, walk_end_from, Cut, BoundsWalks, ProvesLeast, has_member, load_on, total_weight, IsOddCut, odd_held, crosses}
use native.Mathlib.Nat.{mul-le-mul_left, le-mul_of_pos_right}
use Rattle.odd_cuts.proofs.Crossing.{crossing, inside, walk_even}
use Rattle.odd_cuts.proofs.Degrees.{odd_counted, odd_crossing}
use Rattle.odd_cuts.proofs.Sums.{exchange, more, once_and_more, weigh}

-- what the first of the cuts adds
load_cons : (c : Cut) (cs : List Cut) (e : Edge) → load_on (c ∷ cs) e ≡ cond (crosses c.members e) c.weight 0 + load_on cs e
load_cons c cs e = sum_by-cons (λ (cut : Cut). cond (crosses cut.members e) cut.weight 0) c cs

total_cons : (c : Cut) (cs : List Cut) → total_weight (c ∷ cs) ≡ c.weight + total_weight cs
total_cons c cs = sum_by-cons (λ (cut : Cut). cut.weight) c cs

no_load : (ns : List ℕ) (es : List Edge) (y : ℕ → ℕ) → weigh ns es y (load_on []) ≡ 0
no_load [] es y = refl
no_load (n ∷ ns) [] y = refl
no_load (n ∷ ns) (e ∷ es) y = grind (arith, nat_tests, no_load ns es y)

load_step : (ns : List ℕ) (es : List Edge) (y : ℕ → ℕ) (c : Cut) (cs : List Cut)
    → weigh ns es y (load_on (c ∷ cs)) ≡ c.weight * weigh ns es y (crossing (has_member c.members)) + weigh ns es y (load_on cs)
load_step [] es y c cs = omega arith
load_step (n ∷ ns) [] y c cs = omega arith
load_step (n ∷ ns) (e ∷ es) y c cs = rw (load_step ns es y c cs, load_cons c cs e) (grind (arith, nat_tests))

-- where each cut is crossed, the total is at most the load that is crossed
pub total_loads : (ns : List ℕ) (es : List Edge) (y : ℕ → ℕ) (p : PieceValue) (cuts : List Cut) → All (IsOddCut p) cuts
    → ((c : Cut) → IsOddCut p c → 1 ≤ weigh ns es y (crossing (has_member c.members))) → total_weight cuts ≤ weigh ns es y (load_on cuts)
total_loads ns es y p [] odd each = omega arith
total_loads ns es y p (c ∷ cs) odd each =
    rw (load_step ns es y c cs, total_cons c cs) (added c.weight (weigh ns es y (crossing (has_member c.members))) (total_weight cs)
    (weigh ns es y (load_on cs))
    (each c (All-head (IsOddCut p) c cs odd)) (total_loads ns es y p cs (All-tail (IsOddCut p) c cs odd) each))
  where
    added : (w u t v : ℕ) → 1 ≤ u → t ≤ v → w + t ≤ w * u + v
    added w u t v least rest =
        let more : w ≤ w * u = le-mul_of_pos_right w least in
        omega arith

-- no line carries more than two halves for each of its steps
abbrev pub Fits : List Cut → Edge → Type 0
Fits cuts e = load_on cuts e ≤ 2 * e.cost

-- where each line carries at most twice its cost
pub loads_cost : (ns : List ℕ) (es : List Edge) (y : ℕ → ℕ) (cuts : List Cut) → All (λ (e : Edge). load_on cuts e ≤ 2 * e.cost) es
    → weigh ns es y (load_on cuts) ≤ 2 * weigh ns es y edge_cost
loads_cost [] es y cuts is_fitting_walk = omega arith
loads_cost (n ∷ ns) [] y cuts is_fitting_walk = omega arith
loads_cost (n ∷ ns) (e ∷ es) y cuts is_fitting_walk =
    added (y n) (load_on cuts e) e.cost (weigh ns es y (load_on cuts)) (weigh ns es y edge_cost)
    (All-head (Fits cuts) e es is_fitting_walk) (loads_cost ns es y cuts (All-tail (Fits cuts) e es is_fitting_walk))
  where
    added : (k l c u v : ℕ) → l ≤ 2 * c → u ≤ 2 * v → k * l + u ≤ 2 * (k * c + v)
    added k l c u v first rest =
        let times : k * l ≤ k * (2 * c) = mul-le-mul_left k first in
        let turned : k * (2 * c) ≡ 2 * (k * c) = omega arith in
        omega arith

-- where a fitting walk leads, and that the line back crosses a set as its two ends do
record Led (ns : List ℕ) (es : List Edge) (walk : List Pass) (back : List Edge) : Type 0 where
  at : ℕ
  to : ℕ
  goes : walk_end_from ns es (Some at) walk ≡ Some to
  even : (s : ℕ → Bool) → ((edge_sum (crossing s) back + inside s at) + inside s to) % 2 ≡ 0

same_place : (x : Option ℕ) (b : ℕ) → are_same_junction x (Some b) ≡ true → x ≡ Some b
same_place None b is = absurd (cc)
same_place (Some a) b is = grind (arith, nat_tests)

nowhere : (x : Option ℕ) → are_same_junction x None ≡ true → ⊥
nowhere None is = cc
nowhere (Some a) is = cc

line_back : (s : ℕ → Bool) (a b : ℕ) → ((edge_sum (crossing s) (closing_edge (Some a) (Some b)) + inside s a) + inside s b) % 2 ≡ 0
line_back s a b = grind (arith, nat_tests)

led : (ns : List ℕ) (es : List Edge) (walk : List Pass) (start end first : Option ℕ)
    → are_same_junction (walk_end_from ns es (option_or (option_or start end) first) walk) (option_or (option_or end start) first) ≡ true
    → Led ns es walk (closing_edge (option_or start end) (option_or end start))
led ns es walk (Some a) (Some b) first is = grind (arith, nat_tests)
led ns es walk (Some a) None first is = grind (arith, nat_tests)
led ns es walk None (Some b) first is = grind (arith, nat_tests)
led ns es walk None None None is = absurd (nowhere (walk_end_from ns es None walk) is)
led ns es walk None None (Some a) is = grind (arith, nat_tests)

pub sum_append : (f : Edge → ℕ) (xs ys : List Edge) → edge_sum f (xs ++ ys) ≡ edge_sum f xs + edge_sum f ys
sum_append f [] ys = omega arith
sum_append f (x ∷ xs) ys = grind (arith, nat_tests, sum_append f xs ys)

-- the odd junctions that a set holds, and the lines that cross it, the line back among them
pub held_crossing : (p : PieceValue) → IsValidPiece p → (members : List ℕ)
    → odd_held p members % 2 ≡ edge_sum (crossing (has_member members)) (edges_with_closing p) % 2
held_crossing p kept members =
    ap (λ (k : ℕ). k % 2) (odd_counted (has_member members) (edges_with_closing p) 0 (length p.junctions))
    ∙ odd_crossing (has_member members) (edges_with_closing p) (length p.junctions) (grind (arith, nat_tests))

-- a fitting walk crosses an odd cut once more than the lines do
crossed_more : (p : PieceValue) (walk : List Pass) → IsValidPiece p → covers p.lines walk ≡ true
    → Led p.lines p.edges walk (closing_edge (option_or p.start p.end) (option_or p.end p.start))
    → (c : Cut) → IsOddCut p c → 1 ≤ weigh p.lines p.edges (more walk) (crossing (has_member c.members))
crossed_more p walk kept all led c odd =
    let s = has_member c.members in
    omega (
      arith,
      exchange p.lines p.edges (crossing s) walk kept.rising ∙ once_and_more p.lines p.edges (crossing s) walk kept.beside
          all,
      walk_even p.lines p.edges s walk led.at led.to led.goes,
      led.even s,
      ap (λ (k : ℕ). k % 2)
          (sym (sum_append (crossing s) (closing_edge (option_or p.start p.end) (option_or p.end p.start)) p.edges)) ∙ sym
          (held_crossing p kept c.members) ∙ odd.odd,
    )

pub bounds_walks : BoundsWalks
bounds_walks p cuts walk kept packing fit =
    let parts = and_parts (is_walk_start_to_end p walk) (covers p.lines walk) fit in
    let there = led p.lines p.edges walk p.start p.end (walk_start p.lines p.edges walk) parts.0 in
    let cost : walk_cost p walk ≡ piece_cost p + weigh p.lines p.edges (more walk) edge_cost = exchange p.lines p.edges edge_cost walk
    kept.rising ∙ once_and_more p.lines p.edges edge_cost walk kept.beside parts.1 in
    let most = total_loads p.lines p.edges (more walk) p cuts packing.odd (crossed_more p walk kept parts.1 there) in
    omega (arith, cost, most, loads_cost p.lines p.edges (more walk) cuts packing.loads)

pub proves_least : ProvesLeast
proves_least p cuts walk kept packing full other fit = grind (arith, nat_tests, bounds_walks p cuts other kept packing fit)
