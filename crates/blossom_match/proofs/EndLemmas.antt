-- Searches one after another, and the matching at their end.
use Rattle.std.proofs.Common.{◌≡◌, ◌≢◌, ℕ, ◌+◌, ◌*◌, ◌≤◌, ◌<◌, List, [], ◌∷◌, ◌++◌, length, get_or, Bool, cond, eqb, ltb, arith, refl, sym, ap, subst, ◌∙◌}
use Rattle.std.proofs.lemmas.List.Elements.{All-nil, All-cons}
use Rattle.std.proofs.lemmas.List.Kept.{AllPairs-cons}
use Rattle.blossom_match.proofs.Names.{nat_tests, All, AllPairs, eqb-true, eqb-false, ltb-true, ltb-false, Each, DualSet, count, dual_load, match_members, match_dual_sets, IsMatch, IsSoundMatch, stored_height, Advances, IsSearch, IsPartialMatching, CanStepAt, SearchStep, IsLeastChange, CanSearch, vertex_set, CanAdjust, Adjusts, BeginsSearch, IsPartialWithHeights, IsOddMoatIn, AreMoatsIn, TakesApartMatches, AreLaminar, IsOptimalMatching, IsOddMoat, TableValue, entry, IsMetric, MatchValue, SearchValue, Moat, Pair, DualChange, matches_in, count-append, hit_same, EachPair, IsTightMatch, MakesProgress, MatchesAll, IsStepResult}
use Rattle.blossom_match.specs.declared.phase.StepResult.{StepResult}
use Rattle.blossom_match.specs.declared.phase.StepResult.TheVariants.{More, Done}
use Rattle.blossom_match.proofs.FreeLemmas.{begun}
use Rattle.blossom_match.proofs.SearchLemmas.{is_one, place_in}

below_case : (p q r : Bool) (x n : ℕ) → ltb x n ≡ p → eqb x n ≡ q → ltb x (n + 1) ≡ r → cond p 1 0 + (cond q 1 0 + 0) ≡ cond r 1 0
below_case p q r x n h1 h2 h3 = grind (arith, nat_tests, ltb-true, eqb-true, ltb-false, eqb-false)

-- one place more
pub places_more : (x n : ℕ) (xs new : List ℕ) → new ≡ xs ++ n ∷ [] → count x xs ≡ cond (ltb x n) 1 0 → count x new
    ≡ cond (ltb x (n + 1)) 1 0
places_more x n xs new h1 h2 = grind (arith, nat_tests, count-append, ltb-true, eqb-true, ltb-false, eqb-false)

-- a free place has a cell
pub place_there : (t : TableValue) (place : ℕ) (matches : List MatchValue) (free heights : List ℕ)
    → IsPartialWithHeights t matches (free ++ place ∷ []) heights → place < length heights
place_there t place matches free heights st =
    omega (arith, st.size, place_in t place (omega (arith, st.standing.places place, count-append, hit_same place)))

pub begins : (t : TableValue) (place : ℕ) (matches : List MatchValue) (free heights : List ℕ) (s : SearchValue)
    → IsPartialWithHeights t matches (free ++ place ∷ []) heights → 1 ≤ length free → BeginsSearch t place matches free heights s
    → CanSearch t s
begins t place matches free heights s st some b =
    let high = λ (hs : List ℕ) (x : ℕ). get_or hs x 0 in
    let at = subst (λ (hs : List ℕ). IsPartialMatching t (high hs) s.rest (s.free ++ place ∷ [])) (sym b.heights)
    (subst (λ (cs : List MatchValue). IsPartialMatching t (high heights) cs (s.free ++ place ∷ [])) (sym b.rest)
    (subst (λ (xs : List ℕ). IsPartialMatching t (high heights) matches (xs ++ place ∷ [])) (sym b.free) st.standing)) in
    record {
      search = begun t (stored_height s) place s b.table at
          (subst (λ (hs : List ℕ). s.root ≡ vertex_set s.root.key t place (high hs place)) (sym b.heights) b.root)
          b.tree;
      size = ap (λ (hs : List ℕ). length hs) b.heights ∙ st.size;
      some = omega (arith, some, ap (λ (xs : List ℕ). length xs) b.free);
    }

pub can_step : (t : TableValue) (s wide : SearchValue) (c : DualChange) → IsMetric t → CanSearch t s → IsLeastChange t (stored_height s) s c
    → Adjusts s c wide → CanStepAt t wide c.step
can_step t s wide c m can bounds w =
    let on = w.search t m can bounds in
    record { search = on.search; ready = on.ready; size = on.size }

pub can_adjust_now : (t : TableValue) (s : SearchValue) (c : DualChange) → IsMetric t → CanSearch t s
    → IsLeastChange t (stored_height s) s c → CanAdjust s c
can_adjust_now t s c m can bounds = record { t = t; metric = m; can = can; bounds = bounds }

-- the search that a step leads to
pub searches_on : (t : TableValue) (s r : SearchValue) (step : SearchStep) → CanStepAt t s step → 1 ≤ length s.free
    → Advances s step r → CanSearch t r
searches_on t s r step can some l = record {
  search = subst (λ (hs : List ℕ). IsSearch t (λ (x : ℕ). get_or hs x 0) r) (sym l.heights)
      (l.search t (stored_height s) can.search can.ready);
  size = ap (λ (hs : List ℕ). length hs) l.heights ∙ can.size;
  some = omega (arith, some, ap (λ (xs : List ℕ). length xs) l.free);
}

pub goes : (t : TableValue) (s wide : SearchValue) (c : DualChange) (next : StepResult) → IsMetric t → CanSearch t s
    → IsLeastChange t (stored_height s) s c → Adjusts s c wide → IsStepResult t wide c.step next → MakesProgress t s next
goes t s wide c (More r) m can bounds w l = (omega (arith, l.0.fewer, w.size), l.0.free ∙ w.free, l.1)
goes t s wide c (Done r) m can bounds w l =
    let on = w.search t m can bounds in
    let same = subst (λ (hs : List ℕ). IsPartialMatching t (λ (x : ℕ). get_or hs x 0) (matches_in r.sets r.matches.items) r.free.items)
    (sym l.heights)
    l.standing in (
      record { standing = same; size = ap (λ (hs : List ℕ). length hs) l.heights ∙ on.size },
      grind (arith, nat_tests, l.fewer),
    )

-- the edges of each match are tight
settled : (d : TableValue) (h : ℕ → ℕ) (cs : List MatchValue) → Each IsMatch cs → Each (IsSoundMatch d h) cs → Each (IsTightMatch d) cs
settled d h [] j f = tt
settled d h (c ∷ cs) j f = (
  record {
    link = grind (arith, nat_tests, f.0.link, f.0.first.local, f.0.second.local);
    first = f.0.first.paid;
    second = f.0.second.paid;
  },
  settled d h cs j.1 f.1,
)

missing : (x : ℕ) (xs : List ℕ) → count x xs ≡ 0 → All (λ (y : ℕ). x ≢ y) xs
missing x [] none = All-nil (λ (y : ℕ). x ≢ y)
missing x (y ∷ xs) none =
    grind (arith, nat_tests, hit_same, missing x xs (omega (arith, none)))

different : (xs : List ℕ) → ((x : ℕ) → count x xs ≤ 1) → AllPairs (λ (x y : ℕ). x ≢ y) xs
different [] once = λ i j d less low. absurd (omega (arith, low))
different (x ∷ xs) once =
    AllPairs-cons (λ (y z : ℕ). y ≢ z) x xs (missing x xs (omega (arith, once x, hit_same x))) (different xs (λ y. omega (arith, once y)))

below : (n : ℕ) (xs all : List ℕ) → ((x : ℕ) → count x xs ≤ count x all) → ((x : ℕ) → 1 ≤ count x all → x < n) → All (λ (x : ℕ). x < n) xs
below n [] all within low = All-nil (λ (x : ℕ). x < n)
below n (x ∷ xs) all within low =
    All-cons (λ (y : ℕ). y < n) x xs (low x (omega (arith, within x, hit_same x))) (below n xs all (λ y. omega (arith, within y)) low)

odd_moats : (n : ℕ) (all : List ℕ) (moats : List Moat) → ((x : ℕ) → count x all ≤ 1) → ((x : ℕ) → 1 ≤ count x all → x < n)
    → Each (IsOddMoatIn all) moats → All (IsOddMoat n) moats
odd_moats n all [] once low each = All-nil (IsOddMoat n)
odd_moats n all (m ∷ moats) once low each =
    All-cons (IsOddMoat n) m moats (record {
      odd = each.0.odd;
      different = different m.members (λ x. omega (arith, each.0.within x, once x));
      below = below n m.members all each.0.within low;
      wide = each.0.wide;
    }) (odd_moats n all moats once low each.1)

each_all : {X : Type 0} (P : X → Type 0) (xs : List X) → Each P xs → All P xs
each_all P [] e = All-nil P
each_all P (x ∷ xs) e = All-cons P x xs e.0 (each_all P xs e.1)

pairs_all : {X : Type 0} (R : X → X → Type 0) (xs : List X) → EachPair R xs → AllPairs R xs
pairs_all R [] e = λ i j d less low. absurd (omega (arith, low))
pairs_all R (x ∷ xs) e = AllPairs-cons R x xs (each_all (R x) xs e.0) (pairs_all R xs e.1)

load_same : (a : ℕ) (bs : List DualSet) → dual_load a a bs ≡ 0
load_same a [] = refl
load_same a (s ∷ bs) =
    grind (arith, nat_tests, load_same a bs)

load_case : (p : Bool) (t : TableValue) (h : ℕ → ℕ) (cs : List MatchValue) (a b : ℕ) → eqb a b ≡ p → IsPartialMatching t h cs []
    → a < t.places → b < t.places → dual_load a b (match_dual_sets cs) ≤ 2 * entry t a b
load_case p t h cs a b h1 h2 h3 h4 = grind (arith, nat_tests, eqb-true, load_same, eqb-false)

-- what is taken out of matches that hold all places is a matching with moats
pub matched : (t : TableValue) (cs : List MatchValue) (pairs : List Pair) (moats : List Moat) → MatchesAll t cs
    → TakesApartMatches cs [] pairs [] moats → IsOptimalMatching t pairs moats
matched t cs pairs moats s k =
    let st = s.stands.standing in
    let places = λ (x : ℕ). st.places x in
    let lie = subst (λ (ms : List Moat). AreMoatsIn (match_members cs) ms) (sym k.is) k.lie in
    record {
      paired = λ x. omega (arith, k.places x, places x);
      odd = odd_moats t.places (match_members cs) moats (λ x. omega (arith, places x, is_one t x))
          (λ x some. place_in t x (omega (arith, places x, some))) lie.each;
      laminar = pairs_all AreLaminar moats lie.apart;
      loads = λ a b la lb. omega (arith, k.loads a b, load_case (eqb a b) t (λ x. get_or s.heights x 0) cs a b refl st la lb);
      paid = omega (arith, k.widths, k.paid t (settled t (λ x. get_or s.heights x 0) cs st.joined st.firm));
    }

pub once_each : (t : TableValue) (cs : List MatchValue) → MatchesAll t cs → (x : ℕ) → count x (match_members cs) ≤ 1
once_each t cs s x = omega (arith, s.stands.standing.places x, is_one t x)
