-- Chains that close into blossoms, and the sets that they make.
use Rattle.std.proofs.Common.{◌≡◌, ℕ, ◌+◌, ◌%◌, ◌≤◌, zero, suc, List, [], ◌∷◌, ◌++◌, arith, refl, sym, subst}
use Rattle.odd_sets.proofs.Names.{nat_tests, TableValue, Each, dual_sets, count, height, AreTightInside, IsTightInside, IsSlackRow, members_in, dual_sets_in, blossom_edges_in, IsPartPath, cycle_edges, path_edges, IsPartCycle, IsBlossom, AreOddSets, slack_rows_in, blossom_set, blossom_slacks, IsSoundBranch, IsSoundPart, IsSoundSet, IsTight, outer_members, inner_members, IsAlternatingTree, TightEdge, BranchValue, PartValue, IsChainTo}
use Rattle.odd_sets.proofs.ListLemmas.{each-append, each-map}
use Rattle.odd_sets.proofs.SumLemmas.{count-append, height-append, low, none_tall}
use Rattle.odd_sets.proofs.BlossomLemmas.{made_kept, none_in}
use Rattle.odd_sets.proofs.SlackRowLemmas.{blossom_near}
use Rattle.odd_sets.proofs.TreeLemmas.{outer_members_base}

pub leads_on : (way : TightEdge) (ps : List PartValue) (to : ℕ) (p : PartValue) → IsChainTo way ps to → count to p.odd_set.members ≡ 1
    → count p.next.from p.odd_set.members ≡ 1 → IsChainTo way (ps ++ p ∷ []) p.next.to
leads_on way [] to p l here from = (subst (λ (x : ℕ). count x p.odd_set.members ≡ 1) (sym l) here, from, refl)
leads_on way (q ∷ ps) to p l here from = (l.0, l.1, leads_on q.next ps to p l.2 here from)

linked_to : (p : PartValue) (ps : List PartValue) (to : ℕ) (top : PartValue) → count p.next.from p.odd_set.members ≡ 1
    → IsChainTo p.next ps to → count to top.odd_set.members ≡ 1 → IsPartPath p (ps ++ top ∷ [])
linked_to p [] to top from l here = ((from, subst (λ (x : ℕ). count x top.odd_set.members ≡ 1) (sym l) here), tt)
linked_to p (q ∷ ps) to top from l here = ((from, l.0), linked_to q ps to top l.1 l.2 here)

-- the set at the top and the chain below it are a blossom
pub chain_closes : (top : PartValue) (ps : List PartValue) (to : ℕ) → IsChainTo top.next ps to → count top.next.from top.odd_set.members ≡ 1
    → count to top.odd_set.members ≡ 1 → IsPartCycle (top ∷ ps)
chain_closes top ps to l from here = linked_to top ps to top from l here

-- in each part heights are those over all sets
abbrev pub IsLocal : (ℕ → ℕ) → PartValue → Type 0
IsLocal h p = (x : ℕ) → 1 ≤ count x p.odd_set.members → height x (dual_sets p.odd_set) ≡ h x

abbrev pub AllLocal : (ℕ → ℕ) → List PartValue → Type 0
AllLocal h ps = Each (IsLocal h) ps

-- the edges of a chain, but for that of the last part
abbrev pub ChainTight : TableValue → (ℕ → ℕ) → PartValue → List PartValue → Type 0
ChainTight d h p [] = Unit {0}
ChainTight d h p (q ∷ qs) = IsTight d h p.next × ChainTight d h q qs

pub tight_is_paid : (d : TableValue) (h : ℕ → ℕ) (p : PartValue) (qs : List PartValue) → IsPartPath p qs → IsLocal h p → AllLocal h qs
    → ChainTight d h p qs → AreTightInside d (path_edges p qs)
tight_is_paid d h p [] l a b t = tt
tight_is_paid d h p (q ∷ qs) l a b t =
    (omega (arith, t.0, a p.next.from (omega (arith, l.0.0)), b.0 p.next.to (omega (arith, l.0.1))), tight_is_paid d h q qs l.1 b.0 b.1 t.1)

pub paid_is_tight : (d : TableValue) (h : ℕ → ℕ) (p : PartValue) (qs : List PartValue) → IsPartPath p qs → IsLocal h p → AllLocal h qs
    → AreTightInside d (path_edges p qs) → ChainTight d h p qs
paid_is_tight d h p [] l a b t = tt
paid_is_tight d h p (q ∷ qs) l a b t =
    (omega (arith, t.0, a p.next.from (omega (arith, l.0.0)), b.0 p.next.to (omega (arith, l.0.1))), paid_is_tight d h q qs l.1 b.0 b.1 t.1)

chain_on : (d : TableValue) (h : ℕ → ℕ) (p top : PartValue) (qs : List PartValue) → Each (λ (k : PartValue). IsTight d h k.next) (p ∷ qs)
    → ChainTight d h p (qs ++ top ∷ [])
chain_on d h p top [] t = (t.0, tt)
chain_on d h p top (q ∷ qs) t = (t.0, chain_on d h q top qs t.1)

pub AllLocal_on : (h : ℕ → ℕ) (qs : List PartValue) (p : PartValue) → AllLocal h qs → IsLocal h p → AllLocal h (qs ++ p ∷ [])
AllLocal_on h [] p a b = (b, tt)
AllLocal_on h (q ∷ qs) p a b = (a.0, AllLocal_on h qs p a.1 b)

-- the blossom edges of a new blossom are tight where all edges of its cycle are
pub blossom_is_paid : (d : TableValue) (h : ℕ → ℕ) (p : PartValue) (ps : List PartValue) → IsPartCycle (p ∷ ps) → AllLocal h (p ∷ ps)
    → Each (λ (k : PartValue). IsTight d h k.next) (p ∷ ps) → AreTightInside d (cycle_edges (p ∷ ps))
blossom_is_paid d h p ps l a t = tight_is_paid d h p (ps ++ p ∷ []) l a.0 (AllLocal_on h ps p a.1 a.0) (chain_on d h p p ps t)

paid_inside : (d : TableValue) (h : ℕ → ℕ) (ps : List PartValue) → Each (IsSoundPart d h) ps → AreTightInside d (blossom_edges_in ps)
paid_inside d h [] f = tt
paid_inside d h (p ∷ ps) f = grind (arith, nat_tests, each-append, paid_inside d h ps f.1)

near_inside : (d : TableValue) (h : ℕ → ℕ) (ps : List PartValue) → Each (IsSoundPart d h) ps → Each (IsSlackRow d) (slack_rows_in ps)
near_inside d h [] f = tt
near_inside d h (p ∷ ps) f = grind (arith, nat_tests, each-append, near_inside d h ps f.1)

-- a member of the first part is in no other; a member of another is not in it
local_case : (n : ℕ) (d : TableValue) (h : ℕ → ℕ) (x : ℕ) (p : PartValue) (ps : List PartValue) → count x p.odd_set.members ≡ n
    → AreOddSets (p ∷ ps) → IsSoundSet d h p.odd_set → count x (members_in (p ∷ ps)) ≤ 1
    → (count x p.odd_set.members ≡ 0 → height x (dual_sets_in ps) ≡ h x) → height x (dual_sets_in (p ∷ ps)) ≡ h x
local_case n d h x p ps h1 h2 h3 h4 h5 = grind (arith, nat_tests, height-append, low, none_tall, none_in, count-append)

-- a member of one of the parts has the height there that it has over all sets
local_in : (d : TableValue) (h : ℕ → ℕ) (x : ℕ) (ps : List PartValue) → AreOddSets ps → Each (IsSoundPart d h) ps
    → count x (members_in ps) ≤ 1 → 1 ≤ count x (members_in ps) → height x (dual_sets_in ps) ≡ h x
local_in d h x [] kept f once some = absurd (omega arith)
local_in d h x (p ∷ ps) kept f once some =
    let c = count-append x p.odd_set.members (members_in ps) in
    local_case (count x p.odd_set.members) d h x p ps refl kept f.0.odd_set once
    (λ none. local_in d h x ps kept.1 f.1 (omega (arith, c)) (omega (arith, c, none)))

-- the set that a blossom of firm parts makes is sound
pub blossom_sound : (d : TableValue) (h : ℕ → ℕ) (key : ℕ) (p : PartValue) (ps : List PartValue) → IsBlossom (p ∷ ps)
    → ((x : ℕ) → count x (members_in (p ∷ ps)) ≤ 1) → Each (IsSoundPart d h) (p ∷ ps)
    → ((x y : ℕ) → 1 ≤ count x (members_in (p ∷ ps)) → 1 ≤ count y (members_in (p ∷ ps)) → (h x + h y) % 2 ≡ 0)
    → IsSoundSet d h (blossom_set key (p ∷ ps))
blossom_sound d h key p ps blossom once firm even = record {
  kept = made_kept key (members_in (p ∷ ps)) 0 (blossom_slacks (p ∷ ps)) (p ∷ ps) (refl, blossom);
  paid = each-append (IsTightInside d) (cycle_edges (p ∷ ps)) (blossom_edges_in (p ∷ ps))
      (blossom_is_paid d h p ps blossom.linked (each-map (IsSoundPart d h) (IsLocal h) (λ q f. f.odd_set.local) (p ∷ ps) firm)
      (each-map (IsSoundPart d h) (λ (k : PartValue). IsTight d h k.next) (λ q f. f.next) (p ∷ ps) firm))
      (paid_inside d h (p ∷ ps) firm);
  near = (
    blossom_near d h p ps firm once (λ x some. local_in d h x (p ∷ ps) blossom.kept firm (once x) some),
    near_inside d h (p ∷ ps) firm,
  );
  local = λ x some. omega (arith, local_in d h x (p ∷ ps) blossom.kept firm (once x) some);
  even = even;
}

with_more : (n k m : ℕ) → (1 ≤ n → k % 2 ≡ 0) → (1 ≤ m → k % 2 ≡ 0) → 1 ≤ n + m → k % 2 ≡ 0
with_more zero k m one two some = two (omega arith)
with_more (suc n) k m one two some = one (omega arith)

even_case : (n k m o : ℕ) → (1 ≤ n → k % 2 ≡ 0) → (1 ≤ o + m → k % 2 ≡ 0) → 1 ≤ n + (o + m) → k % 2 ≡ 0
even_case zero k m o one two some = two (omega arith)
even_case (suc n) k m o one two some = one (omega arith)

-- all members of the tree's sets have heights that are even or odd as that of r is
pub tree_even : (d : TableValue) (h : ℕ → ℕ) (r : ℕ) (base : List ℕ) (tree : List BranchValue) → IsAlternatingTree base tree
    → Each (IsSoundBranch d h) tree → ((x : ℕ) → 1 ≤ count x base → (h r + h x) % 2 ≡ 0) → (x : ℕ)
    → 1 ≤ count x (outer_members base tree) + count x (inner_members tree) → (h r + h x) % 2 ≡ 0
tree_even d h r base [] g f even x some = even x (omega (arith, some))
tree_even d h r base (b ∷ bs) g f even x some =
    let up : (h r + h b.up.to) % 2 ≡ 0 = omega (arith, even b.up.from g.0, f.0.up) in
    let inside : (y : ℕ) → 1 ≤ count y b.inner.members → (h r + h y) % 2 ≡ 0 =
    λ y here. omega (arith, up, f.0.inner.even b.up.to y (omega (arith, g.1)) here) in
    let across : (h r + h b.pair.to) % 2 ≡ 0 = omega (arith, inside b.pair.from (omega (arith, g.2)), f.0.pair) in
    let outside : (y : ℕ) → 1 ≤ count y b.outer.members → (h r + h y) % 2 ≡ 0 =
    λ y here. omega (arith, across, f.0.outer.even b.pair.to y (omega (arith, g.3)) here) in
    even_case (count x b.inner.members) (h r + h x) (count x (inner_members bs)) (count x (outer_members (b.outer.members ++ base) bs))
    (inside x)
    (tree_even d h r (b.outer.members ++ base) bs g.4 f.1 (λ y here. with_more (count y b.outer.members) (h r + h y) (count y base)
    (outside y) (even y) (omega (arith, here, count-append))) x)
    (omega (arith, some, count-append, outer_members_base x b.outer.members base bs))
