-- Each step leads from a search to a search.
use Rattle.std.proofs.Common.{◌≡◌, ℕ, ◌+◌, ◌≤◌, ◌<◌, suc, List, [], ◌∷◌, ◌++◌, length, take, drop, Bool, true, false, cond, ltb, arith, refl, sym, ap, subst, ◌∙◌, drop-cons, get_or}
use Rattle.blossom_match.proofs.Names.{nat_tests, lt-ltb, ltb-true, ltb-false, take-append-drop, Each, IsAdditive, DualSet, OddSetValue, dual_sets, count, height, one_if_equal, dual_load, reversed_edge, match_members, match_dual_sets, IsMatch, IsSoundBranch, IsSoundMatch, branch_dual_sets, branch_by_edge, inner_members, inner_sets, outer_members, RemovesMatch, Shrinks, is_place, outer_vertices, Advances, TableValue, TightEdge, BranchValue, MatchValue, SearchValue, Shrink, Expand, each-append, each-left, each-right, each-push, dual_sets-append, bands_push, count-append, height-append, dual_load-append, members-append, members_push, none_hold, size-append, entry-comm, IsOutside, NoneHold, IsSymmetric, IsTight, branch_sets, Expands, Grow, none_tall, tight_back, grown_push}

-- a search with other sets
abbrev pub with_sets : SearchValue → OddSetValue → List BranchValue → List MatchValue → SearchValue
with_sets s root tree rest = record { root = root; tree = tree; rest = rest; free = s.free; heights = s.heights }

pub shrunk : (blossom : OddSetValue) (link : TightEdge) (s : SearchValue) (root : OddSetValue) (tree : List BranchValue)
    (rest : List MatchValue) → Shrinks blossom link s.root root s.tree tree → rest ≡ s.rest
    → Advances s (Shrink link) (with_sets s root tree rest)
shrunk blossom link s root tree rest sh e =
    subst (λ (cs : List MatchValue). Advances s (Shrink link) (with_sets s root tree cs)) (sym e) (record {
      search = λ t h i ready.
          let firm = sh.firm t h (entry-comm t) ready.3 i.root i.tree in
          record {
            tall = λ x none. omega (arith, i.tall x none, sh.sums (height x) (height-append x));
            slack = i.slack;
            places = λ x. omega (arith, i.places x, sh.places x);
            grown = sh.grown;
            joined = i.joined;
            root = firm.0;
            tree = firm.1;
            rest = i.rest;
            loads = λ a b la lb ne. omega (arith, i.loads a b la lb ne, sh.sums (dual_load a b) (dual_load-append a b));
          };
      fewer = omega (arith, sh.fewer);
      free = refl;
      heights = refl;
    })

pub came_apart : (key at : ℕ) (s : SearchValue) (root : OddSetValue) (tree : List BranchValue) (rest : List MatchValue)
    → Expands key s.root s.tree tree s.rest rest → root ≡ s.root → Advances s (Expand at) (with_sets s root tree rest)
came_apart key at s root tree rest ex e =
    subst (λ (v : OddSetValue). Advances s (Expand at) (with_sets s v tree rest)) (sym e) (record {
      search = λ t h i ready.
          let firm = ex.firm t h (entry-comm t) i.tree i.rest in
          record {
            tall = λ x none. omega (arith, i.tall x none, ex.sums (height x) (height-append x));
            slack = i.slack;
            places = λ x. omega (arith, i.places x, ex.places x);
            grown = ex.grown;
            joined = ex.joined i.joined;
            root = i.root;
            tree = firm.0;
            rest = firm.1;
            loads = λ a b la lb ne. omega (arith, i.loads a b la lb ne, ex.sums (dual_load a b) (dual_load-append a b));
          };
      fewer = ex.fewer;
      free = refl;
      heights = refl;
    })

-- what a match's sets are as a branch
record IsHung (up : TightEdge) (c : MatchValue) (b : BranchValue) : Type 0 where
  same : b.up ≡ up
  counts : (x : ℕ) → count x b.inner.members + count x b.outer.members ≡ count x c.first.members + count x c.second.members
  sums : (F : List DualSet → ℕ) → F (dual_sets b.inner) + F (dual_sets b.outer) ≡ F (dual_sets c.first) + F (dual_sets c.second)
  up_to : count up.to b.inner.members ≡ 1
  pair_from : count b.pair.from b.inner.members ≡ 1
  pair_to : count b.pair.to b.outer.members ≡ 1
  firm : (d : TableValue) (h : ℕ → ℕ) → IsSymmetric d → IsTight d h up → IsSoundMatch d h c → IsSoundBranch d h b

hung_case : (b : Bool) (up : TightEdge) (c : MatchValue) → ltb 0 (count up.to c.first.members) ≡ b
    → count up.to c.first.members + count up.to c.second.members ≡ 1 → IsMatch c
    → IsHung up c (cond b (record { up = up; inner = c.first; pair = c.link; outer = c.second })
    (record { up = up; inner = c.second; pair = reversed_edge c.link; outer = c.first }))
hung_case true up c is one j =
    grind (arith, nat_tests, ltb-true)
hung_case false up c is one j =
    grind (arith, nat_tests, ltb-false, tight_back)

hung_is : (up : TightEdge) (c : MatchValue) → count up.to c.first.members + count up.to c.second.members ≡ 1 → IsMatch c
    → IsHung up c (branch_by_edge up c)
hung_is up c one j = hung_case (ltb 0 (count up.to c.first.members)) up c refl one j

members_split : (x : ℕ) (before after : List MatchValue) (c : MatchValue) →
    count x (match_members (before ++ c ∷ after)) ≡ count x (match_members (before ++ after)) + count x c.first.members
    + count x c.second.members
members_split x before after c = omega (arith, members-append, count-append)

bands_split : (F : List DualSet → ℕ) → IsAdditive F → (before after : List MatchValue) (c : MatchValue) →
    F (match_dual_sets (before ++ c ∷ after)) ≡ F (match_dual_sets (before ++ after)) + F (dual_sets c.first) + F (dual_sets c.second)
bands_split F add before after c =
    omega (arith, dual_sets-append F add, add)

without : (P : MatchValue → Type 0) (before after : List MatchValue) (c : MatchValue) → Each P (before ++ c ∷ after) → P c × Each P
    (before ++ after)
without P before after c h1 = grind (arith, nat_tests, each-right, each-append, each-left)

pub is_one : (t : TableValue) (x : ℕ) → is_place t x ≤ 1
is_one t x = grind (arith, nat_tests)

-- x is a place
place_case : (b : Bool) (x n : ℕ) → ltb x n ≡ b → 1 ≤ cond b 1 0 → x < n
place_case b x n h1 h2 = grind (arith, nat_tests, ltb-true)

pub place_in : (t : TableValue) (x : ℕ) → 1 ≤ is_place t x → x < t.places
place_in t x h1 = grind (arith, nat_tests, ltb-true)

pub in_place : (t : TableValue) (x : ℕ) → x < t.places → is_place t x ≡ 1
in_place t x low = rw (lt-ltb x t.places low) refl

-- the inner set of a match's branch is fewer sets than the match
abbrev InnerIsFewer : MatchValue → BranchValue → Type 0
InnerIsFewer c b = length (dual_sets b.inner) < length (dual_sets c.first) + length (dual_sets c.second)

hung_fewer : (p : Bool) (up : TightEdge) (c : MatchValue) →
    InnerIsFewer c (cond p (record { up = up; inner = c.first; pair = c.link; outer = c.second })
    (record { up = up; inner = c.second; pair = reversed_edge c.link; outer = c.first }))
hung_fewer true up c = omega arith
hung_fewer false up c = omega arith

pub hung : (link : TightEdge) (s : SearchValue) (tree : List BranchValue) (rest : List MatchValue) (c : MatchValue)
    → RemovesMatch link.to s.rest rest c → tree ≡ s.tree ++ branch_by_edge link c ∷ []
    → Advances s (Grow link) (with_sets s s.root tree rest)
hung link s tree rest c out g =
    let b = branch_by_edge link c in
    let sizes = λ (ks : List DualSet). length ks in
    let was = λ (F : List DualSet → ℕ) (add : IsAdditive F). ap (λ (cs : List MatchValue). F (match_dual_sets cs)) out.was
    ∙ bands_split F add out.before out.after c in
    let held = λ (x : ℕ). ap (λ (cs : List MatchValue). count x (match_members cs)) out.was ∙ members_split x out.before out.after c in
    let grew = λ (F : List DualSet → ℕ) (add : IsAdditive F). bands_push F add BranchValue branch_sets s.tree b in
    subst (λ (ks : List BranchValue). Advances s (Grow link) (with_sets s s.root ks rest)) (sym g)
    (subst (λ (cs : List MatchValue). Advances s (Grow link) (with_sets s s.root (s.tree ++ b ∷ []) cs)) (sym out.now) (record {
      search = λ t h i ready.
          let joined = without IsMatch out.before out.after c (subst (λ (cs : List MatchValue). Each IsMatch cs) out.was i.joined) in
          let firm = without (IsSoundMatch t h) out.before out.after c
          (subst (λ (cs : List MatchValue). Each (IsSoundMatch t h) cs) out.was i.rest) in
          let k = hung_is link c (omega (arith, out.here, held link.to, i.places link.to, is_one t link.to)) joined.0 in
          record {
            tall = λ x none. omega (
              arith,
              i.tall x none,
              was (height x) (height-append x),
              grew (height x) (height-append x),
              k.sums (height x),
            );
            slack = i.slack;
            places = λ x. omega (arith, i.places x, held x, k.counts x, members_push);
            grown = grown_push s.root.members s.tree b i.grown
                (subst (λ (l : TightEdge). 1 ≤ count l.from (outer_vertices s)) (sym k.same) ready.0)
                (subst (λ (l : TightEdge). count l.to b.inner.members ≡ 1) (sym k.same) k.up_to) k.pair_from k.pair_to;
            joined = joined.1;
            root = i.root;
            tree = each-push (IsSoundBranch t h) s.tree b i.tree (k.firm t h (entry-comm t) ready.2 firm.0);
            rest = firm.1;
            loads = λ x y lx ly ne. omega (
              arith,
              i.loads x y lx ly ne,
              was (dual_load x y) (dual_load-append x y),
              grew (dual_load x y) (dual_load-append x y),
              k.sums (dual_load x y),
            );
          };
      fewer = omega (
        arith,
        hung_fewer (ltb 0 (count link.to c.first.members)) link c,
        bands_push sizes size-append BranchValue inner_sets s.tree b,
        was sizes size-append,
      );
      free = refl;
      heights = refl;
    }))

-- a place in no member list is in no set
pub none_branches : (d : TableValue) (h : ℕ → ℕ) (x : ℕ) (base : List ℕ) (tree : List BranchValue) → Each (IsSoundBranch d h) tree
    → count x (outer_members base tree) ≡ 0 → count x (inner_members tree) ≡ 0 → NoneHold x (branch_dual_sets tree)
none_branches d h x base [] f none empty = tt
none_branches d h x base (b ∷ bs) f none empty =
    each-append (IsOutside x) (dual_sets b.inner) (dual_sets b.outer ++ branch_dual_sets bs)
    (none_hold x b.inner f.0.inner.kept (omega (arith, count-append, empty)))
    (each-append (IsOutside x) (dual_sets b.outer) (branch_dual_sets bs)
    (none_hold x b.outer f.0.outer.kept (omega (arith, count-append, none)))
    (none_branches d h x base bs f.1 (omega (arith, count-append, none)) (omega (arith, count-append, empty))))

pub none_matches : (d : TableValue) (h : ℕ → ℕ) (x : ℕ) (cs : List MatchValue) → Each (IsSoundMatch d h) cs
    → count x (match_members cs) ≡ 0 → NoneHold x (match_dual_sets cs)
none_matches d h x [] f none = tt
none_matches d h x (c ∷ cs) f none =
    grind (arith, nat_tests, each-append, none_hold, count-append, none_matches d h x cs f.1 (omega (arith, count-append, none)))

-- and has height 0
pub low_branches : (d : TableValue) (h : ℕ → ℕ) (x : ℕ) (base : List ℕ) (tree : List BranchValue) → Each (IsSoundBranch d h) tree
    → count x (outer_members base tree) ≡ 0 → count x (inner_members tree) ≡ 0 → height x (branch_dual_sets tree) ≡ 0
low_branches d h x base tree f none empty = none_tall x (branch_dual_sets tree) (none_branches d h x base tree f none empty)

pub low_matches : (d : TableValue) (h : ℕ → ℕ) (x : ℕ) (cs : List MatchValue) → Each (IsSoundMatch d h) cs → count x (match_members cs) ≡ 0
    → height x (match_dual_sets cs) ≡ 0
low_matches d h x cs f none = none_tall x (match_dual_sets cs) (none_matches d h x cs f none)

-- a place is taken from the free ones
pub taken_place : (x : ℕ) (xs new : List ℕ) (i place : ℕ) → i < length xs → get_or xs i 0 ≡ place → new ≡ take i xs ++ drop (suc i) xs
    → count x new + one_if_equal x place ≡ count x xs
taken_place x xs new i place low is e =
    let here : drop i xs ≡ place ∷ drop (suc i) xs = drop-cons xs i 0 low ∙ ap (λ (y : ℕ). y ∷ drop (suc i) xs) is in
    omega (
      arith,
      ap (λ (ys : List ℕ). count x ys) e,
      count-append,
      ap (λ (ys : List ℕ). count x ys)
          (take-append-drop i xs),
      ap (λ (ys : List ℕ). count x ys) here,
    )
