-- The chain of the sets between the two ends of an edge.
use Rattle.std.proofs.Common.{◌≡◌, ℕ, ◌+◌, ◌≤◌, List, [], ◌∷◌, ◌++◌, length, reverse, arith, sym, ap, subst, ◌∙◌, length-append}
use Rattle.odd_sets.proofs.Names.{TableValue, Each, DualSet, OddSetValue, IsOddSet, dual_sets, count, reversed_edge, members_in, IsSoundBranch, IsSoundPart, IsSymmetric, IsTight, outer_with_both, one_if_both, branch_dual_sets, inner_dual_sets, outer_members, outer_sets, IsAlternatingTree, part_with_edge, IsOpenChain, TightEdge, BranchValue, PartValue, reverse-append}
use Rattle.odd_sets.proofs.ListLemmas.{each-append, each-left, each-last}
use Rattle.odd_sets.proofs.SumLemmas.{bands_push, count-append, members_push, sets-append, size-append}
use Rattle.odd_sets.proofs.ClosingLemmas.{leads_on}
use Rattle.odd_sets.proofs.TreeLemmas.{last_of, grown_more}

-- the sets of two trees
pub around_append : (a b : ℕ) (xs ys : List BranchValue) → outer_with_both a b (xs ++ ys) ≡ outer_with_both a b xs + outer_with_both a b ys
around_append a b xs ys = sets-append outer_sets (one_if_both a b) xs ys

pub tight_back : (d : TableValue) (h : ℕ → ℕ) (l : TightEdge) → IsSymmetric d → IsTight d h l → IsTight d h (reversed_edge l)
tight_back d h l sy t = omega (arith, sy l.from l.to, t)

pub chaining_left : (link : TightEdge) (root : OddSetValue) (tree left bs : List BranchValue) (b : BranchValue)
    (chain next : List PartValue) (aside : List BranchValue) (way : TightEdge) (to : ℕ) → IsOpenChain link root tree left chain aside way to
    → left ≡ bs ++ b ∷ [] → 1 ≤ count way.from b.outer.members → count to b.outer.members ≡ 0 → IsOddSet b.inner → IsOddSet b.outer
    → next ≡ part_with_edge b.inner b.pair ∷ part_with_edge b.outer way ∷ chain → IsOpenChain link root tree bs next aside b.up to
chaining_left link root tree left bs b chain next aside way to c e here away ci co f =
    let c = subst (λ (ks : List BranchValue). IsOpenChain link root tree ks chain aside way to) e c in
    let l = last_of root.members bs b c.grown in
    let one : count way.from b.outer.members ≡ 1 = omega (arith, c.once way.from, c.places way.from, members_push) in
    let longer = part_with_edge b.inner b.pair ∷ part_with_edge b.outer way ∷ chain in
    subst (λ (ks : List PartValue). IsOpenChain link root tree bs ks aside b.up to) (sym f) (record {
      grown = l.grown;
      leads = (l.up_to, l.pair_from, (l.pair_to, one, c.leads));
      from = l.above;
      back = omega (arith, c.back, members_push);
      even = omega (arith, c.even);
      begun = λ none. absurd (omega arith);
      apart = omega (arith, c.apart, around_append);
      kept = (ci, (co, c.kept));
      hung = grown_more (members_in chain ++ outer_members root.members (bs ++ b ∷ [])) (members_in longer ++ outer_members root.members bs)
          (reverse aside)
          (λ x. omega (arith, members_push, count-append)) c.hung;
      outers = λ a x none.
          omega (arith, c.outers a x (omega (arith, none, count-append)), none, around_append, count-append);
      once = c.once;
      places = λ x. omega (arith, c.places x, members_push, count-append);
      sums = λ F add. omega (arith, c.sums F add, bands_push F add, add);
      fewer = omega (arith, c.fewer, bands_push (λ (ks : List DualSet). length ks) size-append);
      firm = λ d h sy w t. let r = c.firm d h sy w t in let g = each-last (IsSoundBranch d h) bs b r.0 in (
        each-left (IsSoundBranch d h) bs (b ∷ []) r.0,
        r.1,
        (
          record { next = g.pair; odd_set = g.inner },
          (record { next = r.3; odd_set = g.outer }, r.2),
        ),
        g.up,
      );
    })

pub chaining_right : (link : TightEdge) (root : OddSetValue) (tree left bs : List BranchValue) (b : BranchValue)
    (chain next : List PartValue) (aside : List BranchValue) (way : TightEdge) (to : ℕ) → IsOpenChain link root tree left chain aside way to
    → left ≡ bs ++ b ∷ [] → count way.from b.outer.members ≡ 0 → 1 ≤ count to b.outer.members → IsOddSet b.inner → IsOddSet b.outer
    → next ≡ (chain ++ part_with_edge b.outer (reversed_edge b.pair) ∷ []) ++ part_with_edge b.inner (reversed_edge b.up) ∷ []
    → IsOpenChain link root tree bs next aside way b.up.from
chaining_right link root tree left bs b chain next aside way to c e away here ci co f =
    let c = subst (λ (ks : List BranchValue). IsOpenChain link root tree ks chain aside way to) e c in
    let l = last_of root.members bs b c.grown in
    let one : count to b.outer.members ≡ 1 = omega (arith, c.once to, c.places to, members_push) in
    let p = part_with_edge b.outer (reversed_edge b.pair) in
    let q = part_with_edge b.inner (reversed_edge b.up) in
    let longer = (chain ++ p ∷ []) ++ q ∷ [] in
    let size : length longer ≡ length chain + 2 = omega (arith, length-append (chain ++ p ∷ []) (q ∷ []), length-append chain (p ∷ [])) in
    subst (λ (ks : List PartValue). IsOpenChain link root tree bs ks aside way b.up.from) (sym f) (record {
      grown = l.grown;
      leads = leads_on way (chain ++ p ∷ []) b.pair.from q (leads_on way chain to p c.leads one l.pair_to) l.pair_from l.up_to;
      from = omega (arith, c.from, members_push);
      back = l.above;
      even = omega (arith, c.even, size);
      begun = λ none. absurd (omega (arith, size));
      apart = omega (arith, c.apart, around_append);
      kept = each-append (λ (k : PartValue). IsOddSet k.odd_set) (chain ++ p ∷ []) (q ∷ [])
          (each-append (λ (k : PartValue). IsOddSet k.odd_set) chain (p ∷ []) c.kept (co, tt)) (ci, tt);
      hung = grown_more (members_in chain ++ outer_members root.members (bs ++ b ∷ [])) (members_in longer ++ outer_members root.members bs)
          (reverse aside)
          (λ x. omega (arith, members_push, count-append)) c.hung;
      outers = λ a x none.
          omega (arith, c.outers a x (omega (arith, none, members_push)), none, around_append, members_push);
      once = c.once;
      places = λ x. omega (arith, c.places x, members_push);
      sums = λ F add. omega (arith, c.sums F add, bands_push F add);
      fewer = omega (arith, c.fewer, size, bands_push (λ (ks : List DualSet). length ks) size-append);
      firm = λ d h sy w t. let r = c.firm d h sy w t in let g = each-last (IsSoundBranch d h) bs b r.0 in (
        each-left (IsSoundBranch d h) bs (b ∷ []) r.0,
        r.1,
        each-append (IsSoundPart d h) (chain ++ p ∷ []) (q ∷ [])
            (each-append (IsSoundPart d h) chain (p ∷ []) r.2 (record { next = tight_back d h b.pair sy g.pair; odd_set = g.outer }, tt))
            (record { next = tight_back d h b.up sy g.up; odd_set = g.inner }, tt),
        r.3,
      );
    })

pub chaining_aside : (link : TightEdge) (root : OddSetValue) (tree left bs : List BranchValue) (b : BranchValue)
    (chain : List PartValue) (aside next : List BranchValue) (way : TightEdge) (to : ℕ) → IsOpenChain link root tree left chain aside way to
    → left ≡ bs ++ b ∷ [] → count way.from b.outer.members ≡ 0 → count to b.outer.members ≡ 0 → next ≡ aside ++ b ∷ []
    → IsOpenChain link root tree bs chain next way to
chaining_aside link root tree left bs b chain aside next way to c e away off f =
    let c = subst (λ (ks : List BranchValue). IsOpenChain link root tree ks chain aside way to) e c in
    let l = last_of root.members bs b c.grown in
    let base = members_in chain ++ outer_members root.members bs in
    let rev : reverse next ≡ b ∷ reverse aside = ap reverse f ∙ reverse-append aside (b ∷ []) in
    record {
      grown = l.grown;
      leads = c.leads;
      from = omega (arith, c.from, members_push);
      back = omega (arith, c.back, members_push);
      even = c.even;
      begun = c.begun;
      apart = omega (arith, c.apart, around_append);
      kept = c.kept;
      hung = subst (λ (ks : List BranchValue). IsAlternatingTree base ks) (sym rev) (
        omega (arith, l.above, count-append),
        l.up_to,
        l.pair_from,
        l.pair_to,
        grown_more (members_in chain ++ outer_members root.members (bs ++ b ∷ [])) (b.outer.members ++ base) (reverse aside)
            (λ x. omega (arith, members_push, count-append)) c.hung,
      );
      outers = λ a x none.
          omega (arith, c.outers a x none, around_append, ap (λ (ks : List BranchValue). outer_with_both a x ks) rev);
      once = c.once;
      places = λ x. rw rev (omega (arith, c.places x, members_push, count-append));
      sums = λ F add. omega (arith, c.sums F add, bands_push F add, ap (λ (ks : List BranchValue). F (branch_dual_sets ks)) rev, add);
      fewer = omega (
        arith,
        bands_push (λ (ks : List DualSet). length ks) size-append,
        ap (λ (ks : List BranchValue). length (inner_dual_sets ks)) rev,
        size-append (dual_sets b.inner) (inner_dual_sets (reverse aside)),
      );
      firm = λ d h sy w t. let r = c.firm d h sy w t in (
        each-left (IsSoundBranch d h) bs (b ∷ []) r.0,
        subst (λ (ks : List BranchValue). Each (IsSoundBranch d h) ks) (sym rev)
            (each-last (IsSoundBranch d h) bs b r.0, r.1),
        r.2,
        r.3,
      );
    }

-- the same chain, its ends by other names
pub chaining_ends : (link : TightEdge) (root : OddSetValue) (tree left : List BranchValue) (chain : List PartValue)
    (aside : List BranchValue) (way on : TightEdge) (to end : ℕ) → IsOpenChain link root tree left chain aside way to → on ≡ way → end ≡ to
    → IsOpenChain link root tree left chain aside on end
chaining_ends link root tree left chain aside way on to end c e f =
    subst (λ (l : TightEdge). IsOpenChain link root tree left chain aside l end) (sym e)
    (subst (λ (x : ℕ). IsOpenChain link root tree left chain aside way x) (sym f) c)
