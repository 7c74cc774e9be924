-- The initial dual of a vertex rises, and two vertices are matched by a tight edge.
use Rattle.std.proofs.Common.{◌≡◌, ℕ, ◌+◌, ◌*◌, ◌≤◌, List, [], ◌∷◌, ◌++◌, length, get_or, set, Bool, cond, ltb, arith, sym, ap, subst, ◌∙◌}
use Rattle.std.proofs.Math.ListN.{get_or-eq_default}
use Rattle.std.proofs.lemmas.List.{get_or-set_same}
use Rattle.blossom_match.proofs.Names.{nat_tests, eqb-true, eqb-false, ltb-false, count, one_if_equal, is_place, EndsSearch, IsPartialMatching, CanStepAt, BeginsSearch, IsPartialWithHeights, KeepsSlack, HasFreeSlack, TableValue, entry, MatchValue, SearchValue, PartialMatchingValue, Augment, not_hit, count-append, hit_same, entry-comm, get_or-set_other, AreWithinDistances, CanPair, FindsTight, PairsFree}
use Rattle.blossom_match.proofs.SearchLemmas.{is_one, place_in}
use Rattle.blossom_match.proofs.DualLemmas.{matches_same}
use Rattle.blossom_match.proofs.EndLemmas.{begins}

place_case : (b : Bool) (x n : ℕ) → ltb x n ≡ b → cond b 1 0 ≤ 0 → n ≤ x
place_case b x n h1 h2 = grind (arith, nat_tests, ltb-false)

-- all places free at half of their least distances
pub half_free : (t : TableValue) (matches : List MatchValue) (free heights : List ℕ) → matches ≡ []
    → ((x : ℕ) → count x free ≡ is_place t x) → AreWithinDistances t heights → length heights ≡ t.places
    → IsPartialWithHeights t matches free heights
half_free t matches free heights h1 h2 h3 h4 = grind (arith, nat_tests, get_or-eq_default, place_in, entry-comm, place_case)

-- at its initial dual a free vertex has no negative slack to others
pub free_lies : (t : TableValue) (matches : List MatchValue) (free heights : List ℕ) (place : ℕ)
    → IsPartialWithHeights t matches free heights → 1 ≤ count place free → HasFreeSlack t heights free place
free_lies t matches free heights place h1 h2 = grind (arith, nat_tests, place_in, entry-comm)

pub low_enough : (t : TableValue) (heights : List ℕ) (place price : ℕ) → KeepsSlack t heights place price → KeepsSlack t heights place 0
low_enough t heights place price slack b lb ne = omega (arith, slack b lb ne)

-- a free vertex may have any initial dual that makes no slack negative
pub risen : (t : TableValue) (matches : List MatchValue) (free heights new : List ℕ) (place price : ℕ)
    → IsPartialWithHeights t matches free heights → 1 ≤ count place free → KeepsSlack t heights place price → new ≡ set heights place price
    → length new ≡ length heights → IsPartialWithHeights t matches free new
risen t matches free heights new place price h1 h2 h3 h4 h5 =
    grind (arith, nat_tests, place_in, get_or-set_other, matches_same, is_one, eqb-true, get_or-set_same, eqb-false, entry-comm)

-- the free places in another order
reordered : (t : TableValue) (matches : List MatchValue) (free other heights : List ℕ) → ((x : ℕ) → count x other ≡ count x free)
    → IsPartialWithHeights t matches free heights → IsPartialWithHeights t matches other heights
reordered t matches free other heights same st =
    let i = st.standing in
    record {
      standing = record {
        tall = λ x none. i.tall x (omega (arith, none, same x));
        slack = λ a f la hf ne. i.slack a f la (omega (arith, hf, same f)) ne;
        places = λ x. omega (arith, i.places x, same x);
        joined = i.joined;
        firm = i.firm;
        loads = i.loads;
      };
      size = st.size;
    }

some_left : (x : ℕ) (xs : List ℕ) → 1 ≤ count x xs → 1 ≤ length xs
some_left x [] some = absurd (omega (arith, some))
some_left x (y ∷ xs) some = omega arith

-- the search of the one place can meet the other
can_meet : (t : TableValue) (place other : ℕ) (matches : List MatchValue) (free left heights : List ℕ) (s : SearchValue)
    → ((x : ℕ) → count x left + one_if_equal x place ≡ count x free) →
    IsPartialWithHeights t matches free heights → FindsTight t heights free place other → BeginsSearch t place matches left heights s
    → CanStepAt t s (Augment (record { from = place; to = other }))
can_meet t place other matches free left heights s counts st f b =
    let here : 1 ≤ count other left = omega (arith, counts other, f.here, not_hit other place (λ g. f.pair.differ (sym g))) in
    let at = reordered t matches free (left ++ place ∷ []) heights (λ x. omega (arith, counts x, count-append)) st in
    let can = begins t place matches left heights s at (some_left other left here) b in
    record {
      search = can.search;
      ready = (
        grind (arith, nat_tests, hit_same place),
        omega (arith, here, ap (λ (xs : List ℕ). count other xs) b.free),
        subst (λ (hs : List ℕ). 2 * entry t place other ≡ get_or hs place 0 + get_or hs other 0) (sym b.heights) (sym f.pair.tight),
      );
      size = can.size;
    }

pub pair_step : (t : TableValue) (place other : ℕ) (from : PartialMatchingValue) (left : List ℕ) (s : SearchValue)
    → CanPair t place other from → ((x : ℕ) → count x left + one_if_equal x place ≡ count x from.free)
    → BeginsSearch t place from.matches left from.heights s → CanStepAt t s (Augment (record { from = place; to = other }))
pair_step t place other from left s can counts b = can_meet t place other from.matches from.free left from.heights s counts can.stands
    can.found b

pub paired : (t : TableValue) (place other : ℕ) (from : PartialMatchingValue) (left : List ℕ) (s : SearchValue) (r : PartialMatchingValue)
    → CanPair t place other from → ((x : ℕ) → count x left + one_if_equal x place ≡ count x from.free) → length left + 1 ≡ length from.free
    → BeginsSearch t place from.matches left from.heights s → EndsSearch t s (Augment (record { from = place; to = other })) r
    → PairsFree t from r
paired t place other from left s r k counts fewer b e = record {
  stands =
      let can = can_meet t place other from.matches from.free left from.heights s counts k.stands k.found b in
      let same : r.heights ≡ s.heights = e.heights in
      record {
        standing = subst (λ (hs : List ℕ). IsPartialMatching t (λ (x : ℕ). get_or hs x 0) r.matches r.free) (sym same)
            e.standing;
        size = ap (λ (hs : List ℕ). length hs) same ∙ can.size;
      };
  fewer = omega (arith, fewer, e.fewer, ap (λ (xs : List ℕ). length xs) b.free);
}
