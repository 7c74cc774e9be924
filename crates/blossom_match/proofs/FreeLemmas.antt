-- Free vertices and their initial duals: a search begins at one, and ends at another.
use Rattle.std.proofs.Common.{◌≡◌, ◌≢◌, ℕ, ◌+◌, ◌*◌, ◌≤◌, ◌<◌, List, [], ◌∷◌, ◌++◌, length, Bool, cond, eqb, arith, refl, sym, ap, subst, ◌∙◌}
use Rattle.blossom_match.proofs.Names.{nat_tests, eqb-true, count-append, height-append, hit_is, hit_same, dual_load-append, low, none_hold, base_in, entry-comm, by_count, Each, DualSet, OddSetValue, apart, dual_sets, count, height, one_if_equal, dual_load, vertex_set, match_dual_sets, IsSoundBranch, IsSoundSet, branch_dual_sets, Augments, IsAlternatingTree, stored_height, dual_height, EndsSearch, IsSearch, IsPartialMatching, CanStepAt, TableValue, entry, IsTable, TightEdge, BranchValue, MatchValue, SearchValue, PartialMatchingValue, Augment, single_near, dual_load-comm, load_alone, made_kept, vertex_slacks}
use Rattle.blossom_match.proofs.SearchLemmas.{is_one, low_branches, low_matches, none_branches, none_matches, place_in}

-- all duals between two places
abbrev pub load_of : SearchValue → ℕ → ℕ → ℕ
load_of s a b = dual_load a b (dual_sets s.root) + dual_load a b (branch_dual_sets s.tree) + dual_load a b (match_dual_sets s.rest)

pub load_of-comm : (s : SearchValue) (a b : ℕ) → load_of s a b ≡ load_of s b a
load_of-comm s a b = grind (arith, nat_tests, dual_load-comm)

-- to a free place the load is the height
load_free : (t : TableValue) (h : ℕ → ℕ) (s : SearchValue) (x f : ℕ) → IsSearch t h s → 1 ≤ count f s.free → load_of s x f ≡ dual_height s x
load_free t h s x f h1 h2 = grind (arith, nat_tests, is_one, load_alone, none_hold, base_in, none_branches, none_matches)

-- a free place is in no set
low_free : (t : TableValue) (h : ℕ → ℕ) (s : SearchValue) (x : ℕ) → IsSearch t h s → 1 ≤ count x s.free → dual_height s x ≡ 0
low_free t h s x h1 h2 = grind (arith, nat_tests, is_one, low, base_in, low_branches, low_matches)

-- the sets make no place higher than it is
pub under : (t : TableValue) (h : ℕ → ℕ) (s : SearchValue) (x : ℕ) → IsSearch t h s → dual_height s x ≤ h x
under t h s x i = by_count (count x s.free)
    (λ e. omega (arith, i.tall x e))
    (λ e. omega (arith, low_free t h s x i e))

-- one place with its height is a sound set
pub single_sound : (key : ℕ) (d : TableValue) (h : ℕ → ℕ) (x : ℕ) → IsTable d → x < d.places → IsSoundSet d h (vertex_set key d x (h x))
single_sound key d h x is low =
    let at = λ (y : ℕ) (here : 1 ≤ one_if_equal y x + 0). hit_is y x (omega (arith, here)) in
    record {
      kept = made_kept key (x ∷ []) (h x) (vertex_slacks d x) [] refl;
      paid = tt;
      near = (single_near d x is low, tt);
      local = λ y here. subst (λ (z : ℕ). height z (dual_sets (vertex_set key d x (h x))) ≡ h z) (sym (at y here))
          (omega (arith, ap (λ (k : ℕ). h x * k) (hit_same x)));
      even = λ y z hy hz. omega (arith, ap h (at y hy), ap h (at z hz));
    }

load_case : (p q : Bool) (a b f w old top : ℕ) → eqb a f ≡ p → eqb b f ≡ q → a ≢ b → old ≤ top → (a ≡ f → old + w ≤ top)
    → (b ≡ f → old + w ≤ top) → old + w * apart (cond p 1 0 + 0) (cond q 1 0 + 0) ≤ top
load_case p q a b f w old top h1 h2 h3 h4 h5 h6 = grind (arith, nat_tests, eqb-true)

-- the load with the set of one place more
single_load : (key : ℕ) (t : TableValue) (a b f w old top : ℕ) → a ≢ b → old ≤ top → (a ≡ f → old + w ≤ top) → (b ≡ f → old + w ≤ top)
    → old + dual_load a b (dual_sets (vertex_set key t f w)) ≤ top
single_load key t a b f w old top h1 h2 h3 h4 = grind (arith, nat_tests, eqb-true)

-- the height with the set of one place more
single_tall : (key : ℕ) (t : TableValue) (x f w top old left was : ℕ) → left + one_if_equal x f ≡ was → left ≡ 0 → (was ≡ 0 → top ≡ old)
    → (x ≡ f → (top ≡ w) × (old ≡ 0)) → top ≡ old + height x (dual_sets (vertex_set key t f w))
single_tall key t x f w top old left was h1 h2 h3 h4 = grind (arith, nat_tests, eqb-true)

-- in a search the slack between a free place and any other isn't negative
load_slack : (t : TableValue) (h : ℕ → ℕ) (s : SearchValue) (x f : ℕ) → IsSearch t h s → x < t.places → 1 ≤ count f s.free → x ≢ f
    → load_of s x f + h f ≤ 2 * entry t x f
load_slack t h s x f i lx hf ne = omega (arith, load_free t h s x f i hf, under t h s x i, i.slack x f lx hf ne)

met_standing : (t : TableValue) (h : ℕ → ℕ) (link : TightEdge) (s : SearchValue) (r : PartialMatchingValue) (m : OddSetValue)
    → Augments s.root m link s.tree s.rest r.matches → IsTable t → m ≡ vertex_set m.key t link.to (h link.to)
    → ((x : ℕ) → count x r.free + one_if_equal x link.to ≡ count x s.free) → IsSearch t h s → 1 ≤ count link.to s.free
    → 2 * entry t link.from link.to ≡ h link.from + h link.to → IsPartialMatching t h r.matches r.free
met_standing t h link s r m aug is e counts i here tight =
    let f = link.to in
    let at = λ (F : List DualSet → ℕ). ap (λ (v : OddSetValue). F (dual_sets v)) e in
    record {
      tall = λ x none. omega (
        arith,
        single_tall m.key t x f (h f) (h x) (dual_height s x) (count x r.free) (count x s.free) (counts x) none (i.tall x)
            (λ g. (ap h g, ap (dual_height s) g ∙ low_free t h s f i here)),
        aug.sums (height x) (height-append x),
        at (height x),
      );
      slack = λ a g la hg ne. i.slack a g la (omega (arith, hg, counts g)) ne;
      places = λ x. omega (arith, i.places x, aug.places x, ap (λ (v : OddSetValue). count x v.members) e, counts x);
      joined = aug.joined i.joined;
      firm = aug.firm t h tight i.root (subst (λ (v : OddSetValue). IsSoundSet t h v) (sym e)
          (single_sound m.key t h f is (place_in t f (omega (arith, i.places f, here)))))
          i.tree i.rest;
      loads = λ a b la lb ne. omega (
        arith,
        single_load m.key t a b f (h f) (load_of s a b) (2 * entry t a b) ne (i.loads a b la lb ne)
            (λ g. omega (
              arith,
              load_of-comm s a b,
              entry-comm t a b,
              subst (λ (z : ℕ). load_of s b z + h f ≤ 2 * entry t b z) (sym g) (load_slack t h s b f i lb here (λ k. ne (g ∙ sym k))),
            ))
            (λ g. subst (λ (z : ℕ). load_of s a z + h f ≤ 2 * entry t a z) (sym g) (load_slack t h s a f i la here (λ k. ne (k ∙ sym g)))),
        aug.sums (dual_load a b) (dual_load-append a b),
        at (dual_load a b),
      );
    }

pub met : (t : TableValue) (link : TightEdge) (s : SearchValue) (r : PartialMatchingValue) (m : OddSetValue) → CanStepAt t s (Augment link)
    → Augments s.root m link s.tree s.rest r.matches → IsTable t → m ≡ vertex_set m.key t link.to (stored_height s link.to) →
    ((x : ℕ) → count x r.free + one_if_equal x link.to ≡ count x s.free) → length r.free + 1 ≡ length s.free
    → r.heights ≡ s.heights → EndsSearch t s (Augment link) r
met t link s r m can aug is e counts fewer same = record {
  standing = met_standing t (stored_height s) link s r m aug is e counts can.search can.ready.1 can.ready.2;
  fewer = fewer;
  heights = same;
}

low_standing : (t : TableValue) (h : ℕ → ℕ) (cs : List MatchValue) (free : List ℕ) (x : ℕ) → IsPartialMatching t h cs free
    → 1 ≤ count x free → height x (match_dual_sets cs) ≡ 0
low_standing t h cs free x i some = low_matches t h x cs i.firm (omega (arith, i.places x, is_one t x, some))

standing_slack : (t : TableValue) (h : ℕ → ℕ) (cs : List MatchValue) (free : List ℕ) (x f : ℕ) → IsPartialMatching t h cs free
    → x < t.places → 1 ≤ count f free → x ≢ f → dual_load x f (match_dual_sets cs) + h f ≤ 2 * entry t x f
standing_slack t h cs free x f h1 h2 h3 h4 = grind (arith, nat_tests, low, by_count, low_standing, load_alone, none_matches, is_one)

-- a search from a free place
pub begun : (t : TableValue) (h : ℕ → ℕ) (place : ℕ) (s : SearchValue) → IsTable t
    → IsPartialMatching t h s.rest (s.free ++ place ∷ []) → s.root ≡ vertex_set s.root.key t place (h place) → s.tree ≡ [] → IsSearch t h s
begun t h place s is i e f =
    let cs = s.rest in
    let at = λ (x : ℕ). count-append x s.free (place ∷ []) in
    let here : 1 ≤ count place (s.free ++ place ∷ []) = omega (arith, at place, hit_same place) in
    let sums = λ (F : List DualSet → ℕ). ap (λ (v : OddSetValue). F (dual_sets v)) e in
    let none_hung = λ (F : List DualSet → ℕ). ap (λ (bs : List BranchValue). F (branch_dual_sets bs)) f in
    record {
      tall = λ x none. omega (
        arith,
        single_tall s.root.key t x place (h place) (h x) (height x (match_dual_sets cs)) (count x s.free) (count x (s.free ++ place ∷ []))
            (omega (arith, at x)) none (i.tall x)
            (λ g. (ap h g, ap (λ (z : ℕ). height z (match_dual_sets cs)) g ∙ low_standing t h cs (s.free ++ place ∷ []) place i here)),
        sums (height x),
        none_hung (height x),
      );
      slack = λ a g la hg ne. i.slack a g la (omega (arith, hg, at g)) ne;
      places = λ x. grind (arith, nat_tests, i.places x, at x);
      grown = subst (λ (bs : List BranchValue). IsAlternatingTree s.root.members bs) (sym f) tt;
      joined = i.joined;
      root = subst (λ (v : OddSetValue). IsSoundSet t h v) (sym e)
          (single_sound s.root.key t h place is (place_in t place (omega (arith, i.places place, here))));
      tree = subst (λ (bs : List BranchValue). Each (IsSoundBranch t h) bs) (sym f) tt;
      rest = i.firm;
      loads = λ a b la lb ne. omega (
        arith,
        single_load s.root.key t a b place (h place) (dual_load a b (match_dual_sets cs)) (2 * entry t a b) ne (i.loads a b la lb ne)
            (λ g. omega (
              arith,
              dual_load-comm a b (match_dual_sets cs),
              entry-comm t a b,
              subst (λ (z : ℕ). dual_load b z (match_dual_sets cs) + h place ≤ 2 * entry t b z) (sym g)
                  (standing_slack t h cs (s.free ++ place ∷ []) b place i lb here (λ k. ne (g ∙ sym k))),
            ))
            (λ g. subst (λ (z : ℕ). dual_load a z (match_dual_sets cs) + h place ≤ 2 * entry t a z) (sym g)
            (standing_slack t h cs (s.free ++ place ∷ []) a place i la here (λ k. ne (k ∙ sym g)))),
        sums (dual_load a b),
        none_hung (dual_load a b),
      );
    }
