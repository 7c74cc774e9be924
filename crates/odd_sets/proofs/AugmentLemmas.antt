-- Augmenting, branch by branch from the newest.
use Rattle.std.proofs.Common.{◌≡◌, ◌≤◌, List, [], ◌∷◌, ◌++◌, length, arith, sym, subst}
use Rattle.odd_sets.proofs.Names.{OddSetValue, count, IsMatch, IsSoundBranch, IsSoundMatch, TightEdge, BranchValue, MatchValue, CanAugment, Augments, PairsBranch}
use Rattle.odd_sets.proofs.ListLemmas.{each-left, each-last, each-push}
use Rattle.odd_sets.proofs.TreeLemmas.{last_of}
use Rattle.odd_sets.proofs.SumLemmas.{bands_push, members_push}

-- what is left to do does the rest
pub record Pairing (root met : OddSetValue) (link : TightEdge) (tree : List BranchValue) (old now : List MatchValue) (hand : OddSetValue)
    (way : TightEdge)
    (left : List BranchValue) : Type 0 where
  pub can : CanAugment hand way root left
  pub does : (new : List MatchValue) → Augments root hand way left now new → Augments root met link tree old new

abbrev match_of : OddSetValue → OddSetValue → TightEdge → MatchValue
match_of s t l = record { first = s; second = t; link = l }

pub takes_hand : (hand : OddSetValue) (way : TightEdge) (b : BranchValue) → 1 ≤ count way.from b.outer.members
    → PairsBranch hand way b (match_of b.outer hand way) b.inner b.up
takes_hand hand way b here =
    let c = match_of b.outer hand way in
    record {
      can = λ root bs can. let l = last_of root.members bs b can.grown in
          record {
            grown = l.grown;
            from = l.above;
            to = l.up_to;
            once = λ x. omega (arith, can.once x, members_push);
          };
      does = λ root bs old new can a.
          let one : count way.from b.outer.members ≡ 1 = omega (arith, here, can.once way.from, members_push) in
          record {
            joined = λ j. a.joined (each-push IsMatch old c j (record { from = one; to = can.to }));
            firm = λ d h w r m t j. let f = each-last (IsSoundBranch d h) bs b t in
                a.firm d h f.up r f.inner (each-left (IsSoundBranch d h) bs (b ∷ []) t)
                (each-push (IsSoundMatch d h) old c j (record { link = w; first = f.outer; second = m }));
            places = λ x. omega (arith, a.places x, members_push);
            sums = λ F add. omega (arith, a.sums F add, bands_push F add);
          };
    }

pub keeps_hand : (hand : OddSetValue) (way : TightEdge) (b : BranchValue) → count way.from b.outer.members ≡ 0
    → PairsBranch hand way b (match_of b.inner b.outer b.pair) hand way
keeps_hand hand way b none =
    let c = match_of b.inner b.outer b.pair in
    record {
      can = λ root bs can. record {
        grown = (last_of root.members bs b can.grown).grown;
        from = omega (arith, none, can.from, members_push);
        to = can.to;
        once = λ x. omega (arith, can.once x, members_push);
      };
      does = λ root bs old new can a. let l = last_of root.members bs b can.grown in
          record {
            joined = λ j. a.joined (each-push IsMatch old c j (record { from = l.pair_from; to = l.pair_to }));
            firm = λ d h w r m t j. let f = each-last (IsSoundBranch d h) bs b t in
                a.firm d h w r m (each-left (IsSoundBranch d h) bs (b ∷ []) t)
                (each-push (IsSoundMatch d h) old c j (record { link = f.pair; first = f.inner; second = f.outer }));
            places = λ x. omega (arith, a.places x, members_push);
            sums = λ F add. omega (arith, a.sums F add, bands_push F add);
          };
    }

pub pairing_more : (root met : OddSetValue) (link : TightEdge) (tree : List BranchValue) (old now next : List MatchValue)
    (hand : OddSetValue) (way : TightEdge) (left bs : List BranchValue) (b : BranchValue) (c : MatchValue) (more : OddSetValue)
    (on : TightEdge) → Pairing root met link tree old now hand way left → left ≡ bs ++ b ∷ [] → PairsBranch hand way b c more on
    → next ≡ now ++ c ∷ [] → Pairing root met link tree old next more on bs
pairing_more root met link tree old now next hand way left bs b c more on p e s f =
    let can = subst (λ (ks : List BranchValue). CanAugment hand way root ks) e p.can in
    record {
      can = s.can root bs can;
      does = λ new a. p.does new (subst (λ (ks : List BranchValue). Augments root hand way ks now new) (sym e)
          (s.does root bs now new can (subst (λ (ks : List MatchValue). Augments root more on bs ks new) f a)));
    }

at_root : (root hand : OddSetValue) (way : TightEdge) (now : List MatchValue) → CanAugment hand way root []
    → Augments root hand way [] now (now ++ match_of root hand way ∷ [])
at_root root hand way now can =
    let one : count way.from root.members ≡ 1 = omega (arith, can.from, can.once way.from) in
    let c = match_of root hand way in
    record {
      joined = λ j. each-push IsMatch now c j (record { from = one; to = can.to });
      firm = λ d h w r m t j. each-push (IsSoundMatch d h) now c j (record { link = w; first = r; second = m });
      places = λ x. omega (arith, members_push);
      sums = λ F add. omega (arith, bands_push F add, add [] []);
    }

pub pairing_done : (root met : OddSetValue) (link : TightEdge) (tree : List BranchValue) (old now new : List MatchValue)
    (hand : OddSetValue) (way : TightEdge) (left : List BranchValue) → Pairing root met link tree old now hand way left → length left ≡ 0
    → new ≡ now ++ match_of root hand way ∷ [] → Augments root met link tree old new
pairing_done root met link tree old now new hand way [] p none f =
    p.does new (subst (λ (ks : List MatchValue). Augments root hand way [] now ks) (sym f) (at_root root hand way now p.can))
pairing_done root met link tree old now new hand way (b ∷ bs) p none f = absurd (omega arith)
