-- The split of a path of parts, two at a time.
use Rattle.std.proofs.Common.{◌≡◌, ℕ, ◌%◌, ◌≤◌, inl, inr, List, [], ◌∷◌, ◌++◌, length, arith, sym, ap, subst, ◌∙◌, append_assoc, refl}
use Rattle.odd_sets.proofs.Names.{TableValue, Each, DualSet, OddSetValue, dual_sets, count, dual_sets_in, IsPartPath, matches_along, IsMatch, IsSoundBranch, IsSoundMatch, IsSoundPart, HoldsAtEvenIndex, CanSplitBlossom, SplitsBlossom, TightEdge, BranchValue, MatchValue, PartValue, EdgeLeadsInto}
use Rattle.odd_sets.proofs.ListLemmas.{each-push}
use Rattle.odd_sets.proofs.SumLemmas.{bands_push, count-append, members_push, size-append}
use Rattle.odd_sets.proofs.OpenLemmas.{members_matched, bands_matched}
use Rattle.odd_sets.proofs.TreeLemmas.{grown_push}

pub record Laying (root : OddSetValue) (old : List BranchValue) (blossom : List PartValue) (up pair : TightEdge) (outer : OddSetValue)
    (now : List BranchValue)
    (left : List PartValue) (way : TightEdge) : Type 0 where
  pub can : CanSplitBlossom root now left way pair outer
  pub does : (new : List BranchValue) (cs : List MatchValue) → SplitsBlossom root now left way pair outer new cs
      → SplitsBlossom root old blossom up pair
      outer new cs

not_here : (x : ℕ) (p q : PartValue) (ps : List PartValue) → HoldsAtEvenIndex x (p ∷ q ∷ ps) → count x p.odd_set.members ≡ 0
    → HoldsAtEvenIndex x ps
not_here x p q ps (inl h) none = absurd (omega arith)
not_here x p q ps (inr h) none = h

abbrev branch_of : TightEdge → OddSetValue → TightEdge → OddSetValue → BranchValue
branch_of u i p o = record { up = u; inner = i; pair = p; outer = o }

into_next : (q : PartValue) (ps : List PartValue) (x : ℕ) → HoldsAtEvenIndex x ps → IsPartPath q ps → EdgeLeadsInto q.next ps
into_next q [] x e l = absurd e
into_next q (r ∷ ps) x e l = (l.0.1, l.1)

source_of : (q : PartValue) (ps : List PartValue) (x : ℕ) → HoldsAtEvenIndex x ps → IsPartPath q ps
    → count q.next.from q.odd_set.members ≡ 1
source_of q [] x e l = absurd e
source_of q (r ∷ ps) x e l = l.0.0

pub can_more : (root : OddSetValue) (now : List BranchValue) (p q : PartValue) (ps : List PartValue) (way pair : TightEdge)
    (outer : OddSetValue) → CanSplitBlossom root now (p ∷ q ∷ ps) way pair outer → count pair.from p.odd_set.members ≡ 0
    → CanSplitBlossom root (now ++ branch_of way p.odd_set p.next q.odd_set ∷ []) ps q.next pair outer
can_more root now p q ps way pair outer c none =
    let b = branch_of way p.odd_set p.next q.odd_set in
    let e = not_here pair.from p q ps c.exit none in
    record {
      grown = grown_push root.members now b c.grown c.from c.into.0 c.into.1.0.0 c.into.1.0.1;
      from = omega (arith, source_of q ps pair.from e c.into.1.1, members_push);
      into = into_next q ps pair.from e c.into.1.1;
      exit = e;
      odd = omega (arith, c.odd);
      to = c.to;
      once = λ x. omega (arith, c.once x, count-append);
    }

does_more : (root : OddSetValue) (now : List BranchValue) (p q : PartValue) (ps : List PartValue) (way pair : TightEdge)
    (outer : OddSetValue) (new : List BranchValue) (cs : List MatchValue)
    → SplitsBlossom root (now ++ branch_of way p.odd_set p.next q.odd_set ∷ []) ps q.next pair outer new cs
    → SplitsBlossom root now (p ∷ q ∷ ps) way pair outer new cs
does_more root now p q ps way pair outer new cs l =
    let b = branch_of way p.odd_set p.next q.odd_set in
    record {
      grown = l.grown;
      joined = l.joined;
      places = λ x. omega (arith, l.places x, members_push, count-append);
      more = λ x. omega (arith, l.more x, members_push);
      added = b ∷ l.added;
      last = l.last;
      is = l.is ∙ append_assoc now (b ∷ []) (l.added ++ l.last ∷ []);
      same = l.same;
      sums = λ F add. omega (arith, l.sums F add, bands_push F add, add);
      fewer = omega (
        arith,
        bands_push (λ (ks : List DualSet). length ks) size-append,
        size-append (dual_sets p.odd_set) (dual_sets q.odd_set ++ dual_sets_in ps),
        size-append (dual_sets q.odd_set) (dual_sets_in ps),
      );
      firm = λ d h t w a parts o. l.firm d h
          (each-push (IsSoundBranch d h) now b t
          (record { up = w; pair = parts.0.next; inner = parts.0.odd_set; outer = parts.1.0.odd_set }))
          parts.1.0.next a parts.1.1 o;
    }

pub laying_more : (root : OddSetValue) (old : List BranchValue) (blossom : List PartValue) (up pair : TightEdge) (outer : OddSetValue)
    (now : List BranchValue) (left after rest : List PartValue) (p q : PartValue) (way : TightEdge) (next : List BranchValue)
    → Laying root old blossom up pair outer now left way → left ≡ p ∷ after → after ≡ q ∷ rest → count pair.from p.odd_set.members ≡ 0
    → next ≡ now ++ branch_of way p.odd_set p.next q.odd_set ∷ [] → Laying root old blossom up pair outer next rest q.next
laying_more root old blossom up pair outer now left after rest p q way next l e f none g =
    let is : left ≡ p ∷ q ∷ rest = e ∙ ap (λ (ps : List PartValue). p ∷ ps) f in
    let m = subst (λ (ps : List PartValue). Laying root old blossom up pair outer now ps way) is l in
    subst (λ (bs : List BranchValue). Laying root old blossom up pair outer bs rest q.next) (sym g) (record {
      can = can_more root now p q rest way pair outer m.can none;
      does = λ new cs k. m.does new cs (does_more root now p q rest way pair outer new cs k);
    })

matched_joined : (p : PartValue) (ps : List PartValue) → length ps % 2 ≡ 0 → IsPartPath p ps → Each IsMatch (matches_along ps)
matched_joined p [] even l = tt
matched_joined p (q ∷ []) even l = absurd (omega arith)
matched_joined p (q ∷ r ∷ ps) even l =
    let less : length ps % 2 ≡ 0 = omega arith in
    (record { from = l.1.0.0; to = l.1.0.1 }, matched_joined r ps less l.1.1)

matched_firm : (d : TableValue) (h : ℕ → ℕ) (ps : List PartValue) → Each (IsSoundPart d h) ps → Each (IsSoundMatch d h) (matches_along ps)
matched_firm d h [] t = tt
matched_firm d h (q ∷ []) t = tt
matched_firm d h (q ∷ r ∷ ps) t = (record { link = t.0.next; first = t.0.odd_set; second = t.1.0.odd_set }, matched_firm d h ps t.1.1)

lays_last : (root : OddSetValue) (now : List BranchValue) (p : PartValue) (ps : List PartValue) (way pair : TightEdge) (outer : OddSetValue)
    → CanSplitBlossom root now (p ∷ ps) way pair outer → 1 ≤ count pair.from p.odd_set.members
    → SplitsBlossom root now (p ∷ ps) way pair outer (now ++ branch_of way p.odd_set pair outer ∷ []) (matches_along ps)
lays_last root now p ps way pair outer c here =
    let b = branch_of way p.odd_set pair outer in
    let even : length ps % 2 ≡ 0 = omega (arith, c.odd) in
    let one : count pair.from p.odd_set.members ≡ 1 = omega (arith, c.once pair.from, count-append) in
    record {
      grown = grown_push root.members now b c.grown c.from c.into.0 one c.to;
      joined = matched_joined p ps even c.into.1;
      places = λ x. omega (arith, members_push, members_matched x ps even, count-append);
      more = λ x. omega (arith, members_push);
      added = [];
      last = b;
      is = refl;
      same = refl;
      sums = λ F add. omega (arith, bands_push F add, bands_matched F add ps even, add);
      fewer = omega (
        arith,
        bands_push (λ (ks : List DualSet). length ks) size-append,
        bands_matched
            (λ (ks : List DualSet). length ks) size-append ps even,
        size-append (dual_sets p.odd_set) (dual_sets_in ps),
      );
      firm = λ d h t w a parts o. (
        each-push (IsSoundBranch d h) now b t
            (record { up = w; pair = a; inner = parts.0.odd_set; outer = o }),
        matched_firm d h ps parts.1,
      );
    }

pub laid : (root : OddSetValue) (old : List BranchValue) (blossom : List PartValue) (up pair : TightEdge) (outer : OddSetValue)
    (now : List BranchValue) (left rest : List PartValue) (p : PartValue) (way : TightEdge) (new : List BranchValue) (cs : List MatchValue)
    → Laying root old blossom up pair outer now left way → left ≡ p ∷ rest → 1 ≤ count pair.from p.odd_set.members
    → new ≡ now ++ branch_of way p.odd_set pair outer ∷ [] → cs ≡ matches_along rest → SplitsBlossom root old blossom up pair outer new cs
laid root old blossom up pair outer now left rest p way new cs l e here f g =
    let m = subst (λ (ps : List PartValue). Laying root old blossom up pair outer now ps way) e l in
    let done = m.does _ _ (lays_last root now p rest way pair outer m.can here) in
    let moved = subst (λ (bs : List BranchValue). SplitsBlossom root old blossom up pair outer bs (matches_along rest)) (sym f) done in
    subst (λ (ks : List MatchValue). SplitsBlossom root old blossom up pair outer new ks) (sym g) moved
