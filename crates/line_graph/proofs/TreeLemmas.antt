-- A connected graph has at least as many edges as junctions, less one.
use Rattle.std.proofs.Common.{◌≡◌, ◌<◌, ◌≤◌, ℕ, zero, suc, ◌+◌, ◌==◌, Bool, true, false, cond, List, [], ◌∷◌, length, slice_get, Some, arith, refl, ◌∙◌, ap}
use Rattle.line_graph.proofs.Names.{nat_tests, Edge, IsConnectedGraph, one_if, eq_self, same_number}

-- who leads what that number led, once another follows a first
abbrev led : (first other n : ℕ) → ℕ
led first other n = cond (n == other) first n

-- the representative of a junction among those that edges connect
abbrev leader : List Edge → ℕ → ℕ
leader [] j = j
leader (e ∷ es) j = led (leader es e.a) (leader es e.b) (leader es j)

-- how many junctions lead themselves
abbrev leaders : (ℕ → ℕ) → ℕ → ℕ
leaders f zero = 0
leaders f (suc n) = one_if (f n == n) + leaders f n

-- how often a number is below another
abbrev marks : ℕ → ℕ → ℕ
marks c zero = 0
marks c (suc n) = one_if (n == c) + marks c n

-- one at most
bit_few : (b : Bool) → one_if b ≤ 1
bit_few true = omega arith
bit_few false = omega arith

-- no number from there on is below
marks_none : (c n : ℕ) → n ≤ c → marks c n ≡ 0
marks_none c zero less = refl
marks_none c (suc n) less = grind (arith, nat_tests, marks_none c n (omega (arith, less)))

-- a number is there once at most
marks_few : (c n : ℕ) → marks c n ≤ 1
marks_few c zero = omega arith
marks_few c (suc n) = grind (arith, nat_tests, marks_few c n, marks_none c n, same_number n c, bit_few (n == c))

-- both ends of an edge have one leader
leader_keeps : (es : List Edge) (i : ℕ) (e : Edge) → slice_get es i ≡ Some e → leader es e.a ≡ leader es e.b
leader_keeps [] i e is = absurd (cc)
leader_keeps (x ∷ es) zero e is = grind (arith, nat_tests, eq_self)
leader_keeps (x ∷ es) (suc i) e is = ap (led (leader es x.a) (leader es x.b)) (leader_keeps es i e is)

-- an edge takes no more than one leader away
leader_falls : (f : ℕ → ℕ) (first other n : ℕ) → leaders f n ≤ leaders (λ j. led first other (f j)) n + marks other n
leader_falls f first other zero = omega arith
leader_falls f first other (suc n) = grind (arith, nat_tests, leader_falls f first other n)

-- without edges each junction leads itself
all_lead : (n : ℕ) → leaders (λ j. j) n ≡ n
all_lead zero = refl
all_lead (suc n) = omega (arith, ap one_if (eq_self n), all_lead n)

-- with n edges there remain at least this many representatives
leaders_left : (es : List Edge) (n : ℕ) → n ≤ leaders (leader es) n + length es
leaders_left [] n = omega (arith, all_lead n)
leaders_left (e ∷ es) n =
    omega (arith, leaders_left es n, leader_falls (leader es) (leader es e.a) (leader es e.b) n, marks_few (leader es e.b) n)

-- one leader of all is one at most
one_leader : (f : ℕ → ℕ) (c n : ℕ) → ((j : ℕ) → j < n → f j ≡ c) → leaders f n ≤ marks c n
one_leader f c zero all = omega arith
one_leader f c (suc n) all = grind (arith, nat_tests, one_leader f c n (λ j. λ below. all j (omega (arith, below))))

-- a connected graph has at least as many edges as junctions, less one
pub junctions_few : (es : List Edge) (n : ℕ) → IsConnectedGraph es n → n ≤ length es + 1
junctions_few es zero joined = omega arith
junctions_few es (suc n) joined =
    let all = one_leader (leader es) (leader es 0) (suc n) (λ j. λ below. follows j below) in
    omega (arith, leaders_left es (suc n), all, marks_few (leader es 0) (suc n))
  where
    follows : (j : ℕ) → j < suc n → leader es j ≡ leader es 0
    follows j below =
        let alike = joined (λ k. leader es k == leader es 0) (λ i. λ e. λ is. ap (λ (k : ℕ). k == leader es 0) (leader_keeps es i e is))
        j 0 below (omega arith) in
        same_number (leader es j) (leader es 0) (alike ∙ eq_self (leader es 0))
