-- An inner blossom that is expanded, between the branches before and after it.
use Rattle.std.proofs.Common.{◌≡◌, ℕ, ◌+◌, ◌%◌, ◌≤◌, ◌<◌, suc, zero, List, [], ◌∷◌, ◌++◌, length, take, drop, arith, refl, sym, ap, subst, ◌∙◌, append_assoc, length-append}
use Rattle.odd_sets.proofs.Names.{nat_tests, length-take, take-append-drop, TableValue, Each, IsAdditive, DualSet, OddSetValue, dual_sets, count, height, slack_rows_of, AreTightInside, IsTightInside, IsSlackRow, members_in, dual_sets_in, blossom_edges_in, odd_set_of, cycle_edges, slack_rows_in, AreOddSets, IsBlossom, IsMatch, IsSoundBranch, IsSoundMatch, IsSoundPart, IsSoundSet, IsTight, outer_members, inner_members, IsAlternatingTree, CanSplitBlossom, CanExpand, Expands, IsEvenlyOriented, SplitsBlossom, InsertsBranches, BranchValue, MatchValue, PartValue, FirstCanExpand}
use Rattle.odd_sets.proofs.ListLemmas.{each-append, each-left, each-right, each-last}
use Rattle.odd_sets.proofs.SumLemmas.{dual_sets-append, bands_push, count-append, height-append, low, members-append, members_push, none_tall, size-append}
use Rattle.odd_sets.proofs.BlossomLemmas.{none_in}
use Rattle.odd_sets.proofs.ClosingLemmas.{AllLocal, ChainTight, paid_is_tight, AllLocal_on}
use Rattle.odd_sets.proofs.ReversalLemmas.{linked_left}
use Rattle.odd_sets.proofs.TreeLemmas.{last_of, outer_members_base, grown_more, grown-append}

-- in a blossom of dual 0 each part alone makes the heights of its members
parts_local : (h : ℕ → ℕ) (ps : List PartValue) → AreOddSets ps → ((x : ℕ) → count x (members_in ps) ≤ 1)
    → ((x : ℕ) → 1 ≤ count x (members_in ps) → height x (dual_sets_in ps) ≡ h x) → AllLocal h ps
parts_local h [] kept once at = tt
parts_local h (p ∷ ps) kept once at =
    let c = λ (x : ℕ). count-append x p.odd_set.members (members_in ps) in
    let s = λ (x : ℕ). height-append x (dual_sets p.odd_set) (dual_sets_in ps) in (
      λ x here. omega (
        arith,
        at x (omega (arith, c x, here)),
        s x,
        none_tall x (dual_sets_in ps)
            (none_in x ps kept.1 (omega (arith, c x, once x, here))),
      ),
      parts_local h ps kept.1 (λ x. omega (arith, once x, c x))
          (λ x here. omega (arith, at x (omega (arith, c x, here)), s x, low x p.odd_set kept.0 (omega (arith, c x, once x, here)))),
    )

links_tight : (d : TableValue) (h : ℕ → ℕ) (p e : PartValue) (qs : List PartValue) → ChainTight d h p (qs ++ e ∷ [])
    → Each (λ (k : PartValue). IsTight d h k.next) (p ∷ qs)
links_tight d h p e [] t = (t.0, tt)
links_tight d h p e (q ∷ qs) t = (t.0, links_tight d h q e qs t.1)

firm_each : (d : TableValue) (h : ℕ → ℕ) (ps : List PartValue) → AreOddSets ps → AllLocal h ps
    → Each (λ (k : PartValue). IsTight d h k.next) ps → AreTightInside d (blossom_edges_in ps) → Each (IsSlackRow d) (slack_rows_in ps)
    → ((x y : ℕ) → 1 ≤ count x (members_in ps) → 1 ≤ count y (members_in ps) → (h x + h y) % 2 ≡ 0) → Each (IsSoundPart d h) ps
firm_each d h [] kept at t paid near even = tt
firm_each d h (p ∷ ps) kept at t paid near even =
    let c = λ (x : ℕ). count-append x p.odd_set.members (members_in ps) in (
      record {
        next = t.0;
        odd_set = record {
          kept = kept.0;
          paid = each-left (IsTightInside d) p.odd_set.blossom_edges (blossom_edges_in ps) paid;
          near = each-left (IsSlackRow d) (slack_rows_of p.odd_set) (slack_rows_in ps) near;
          local = at.0;
          even = λ x y hx hy. even x y (omega (arith, c x, hx)) (omega (arith, c y, hy));
        };
      },
      firm_each d h ps kept.1 at.1 t.1 (each-right (IsTightInside d) p.odd_set.blossom_edges (blossom_edges_in ps) paid)
          (each-right (IsSlackRow d) (slack_rows_of p.odd_set) (slack_rows_in ps) near)
          (λ x y hx hy. even x y (omega (arith, c x, hx)) (omega (arith, c y, hy))),
    )

-- the parts of a sound blossom of dual 0 are firm
parts_firm : (d : TableValue) (h : ℕ → ℕ) (key : ℕ) (near : List ℕ) (ps : List PartValue) → IsBlossom ps
    → ((x : ℕ) → count x (members_in ps) ≤ 1) → IsSoundSet d h (odd_set_of key (members_in ps) 0 near ps) → Each (IsSoundPart d h) ps
parts_firm d h key near [] blossom once s = tt
parts_firm d h key near (p ∷ ps) blossom once s =
    let at = parts_local h (p ∷ ps) blossom.kept once (λ x here. omega (arith, s.local x here)) in
    let tight = paid_is_tight d h p (ps ++ p ∷ []) blossom.linked at.0 (AllLocal_on h ps p at.1 at.0)
    (each-left (IsTightInside d) (cycle_edges (p ∷ ps)) (blossom_edges_in (p ∷ ps)) s.paid) in
    firm_each d h (p ∷ ps) blossom.kept at (links_tight d h p p ps tight)
    (each-right (IsTightInside d) (cycle_edges (p ∷ ps)) (blossom_edges_in (p ∷ ps)) s.paid) s.near.1 s.even

pub drop_past : (xs ys : List BranchValue) → drop (length xs) (xs ++ ys) ≡ ys
drop_past [] ys = refl
drop_past (x ∷ xs) ys = drop_past xs ys

pub apart_within : (at : ℕ) (tree : List BranchValue) → FirstCanExpand (drop at tree) → at < length tree
apart_within zero [] a = absurd a
apart_within zero (b ∷ bs) a = omega arith
apart_within (suc at) [] a = absurd a
apart_within (suc at) (b ∷ bs) a = omega (arith, apart_within at bs a)

grown-left : (base : List ℕ) (xs ys : List BranchValue) → IsAlternatingTree base (xs ++ ys) → IsAlternatingTree base xs
grown-left base [] ys g = tt
grown-left base (b ∷ xs) ys g = (g.0, g.1, g.2, g.3, grown-left (b.outer.members ++ base) xs ys g.4)

pub grown-right : (base : List ℕ) (xs ys : List BranchValue) → IsAlternatingTree base (xs ++ ys)
    → IsAlternatingTree (outer_members base xs) ys
grown-right base [] ys g = g
grown-right base (b ∷ xs) ys g =
    grind (arith, nat_tests, grown_more, outer_members_base, count-append, grown-right (b.outer.members ++ base) xs ys g.4)

-- the tree as the branches before, the one that comes apart and those after it
pub record SplitAt (root : OddSetValue) (old bs : List BranchValue) (b : BranchValue) (later : List BranchValue) : Type 0 where
  pub is : old ≡ (bs ++ b ∷ []) ++ later
  pub zero_wide : b.inner.dual ≡ 0
  pub some : 0 < length b.inner.below
  pub before : IsAlternatingTree root.members bs
  pub above : 1 ≤ count b.up.from (outer_members root.members bs)
  pub up_to : count b.up.to b.inner.members ≡ 1
  pub pair_from : count b.pair.from b.inner.members ≡ 1
  pub pair_to : count b.pair.to b.outer.members ≡ 1
  pub after : IsAlternatingTree (outer_members root.members (bs ++ b ∷ [])) later
  pub once : (x : ℕ) → count x b.inner.members ≤ 1

split_size : (root : OddSetValue) (old kept bs : List BranchValue) (b : BranchValue) (at : ℕ) → CanExpand root old at
    → kept ≡ take (at + 1) old → kept ≡ bs ++ b ∷ [] → length bs ≡ at
split_size root old kept bs b at ex e g =
    grind (arith, nat_tests, apart_within at old ex.apart, length-take (at + 1) old, length-append bs (b ∷ []))

pub split_at : (root : OddSetValue) (old kept bs : List BranchValue) (b : BranchValue) (later : List BranchValue) (at : ℕ)
    → CanExpand root old at → kept ≡ take (at + 1) old → later ≡ drop (at + 1) old → kept ≡ bs ++ b ∷ [] → SplitAt root old bs b later
split_at root old kept bs b later at ex e f g =
    let is : old ≡ (bs ++ b ∷ []) ++ later =
    sym (take-append-drop (at + 1) old) ∙ ap (λ (ks : List BranchValue). ks ++ drop (at + 1) old) (sym e ∙ g)
    ∙ ap (λ (ks : List BranchValue). (bs ++ b ∷ []) ++ ks) (sym f) in
    let size = split_size root old kept bs b at ex e g in
    let rest : drop at old ≡ b ∷ later = ap (λ (ks : List BranchValue). drop at ks) (is ∙ append_assoc bs (b ∷ []) later)
    ∙ ap (λ (i : ℕ). drop i (bs ++ b ∷ later)) (sym size) ∙ drop_past bs (b ∷ later) in
    let apart = subst FirstCanExpand rest ex.apart in
    let grown = subst (λ (ks : List BranchValue). IsAlternatingTree root.members ks) is ex.grown in
    let l = last_of root.members bs b (grown-left root.members (bs ++ b ∷ []) later grown) in
    record {
      is = is;
      zero_wide = apart.0;
      some = apart.1;
      before = l.grown;
      above = l.above;
      up_to = l.up_to;
      pair_from = l.pair_from;
      pair_to = l.pair_to;
      after = grown-right root.members (bs ++ b ∷ []) later grown;
      once = λ x. omega (arith, ex.once x, ap (λ (ks : List BranchValue). count x (inner_members ks)) is, members-append, members_push);
    }

pub can_lay : (key : ℕ) (root : OddSetValue) (old bs : List BranchValue) (b : BranchValue) (later : List BranchValue)
    (parts blossom : List PartValue) → SplitAt root old bs b later
    → b.inner ≡ odd_set_of key (members_in parts) b.inner.dual b.inner.near parts → IsEvenlyOriented b.up.to b.pair.from parts blossom
    → CanSplitBlossom root bs blossom b.up b.pair b.outer
can_lay key root old bs b later parts blossom h1 h2 h3 = grind (arith, nat_tests, count-append, linked_left)

pub expanded : (key : ℕ) (root : OddSetValue) (old bs : List BranchValue) (b : BranchValue) (later mid new : List BranchValue)
    (parts blossom : List PartValue) (was cs now : List MatchValue) → SplitAt root old bs b later → IsBlossom parts
    → b.inner ≡ odd_set_of key (members_in parts) b.inner.dual b.inner.near parts → IsEvenlyOriented b.up.to b.pair.from parts blossom
    → SplitsBlossom root bs blossom b.up b.pair b.outer mid cs → now ≡ was ++ cs → new ≡ mid ++ later → Expands key root old new was now
expanded key root old bs b later mid new parts blossom was cs now s is made g l e f =
    let flat : b.inner ≡ odd_set_of key (members_in parts) 0 b.inner.near parts =
    made ∙ ap (λ (w : ℕ). odd_set_of key (members_in parts) w b.inner.near parts) s.zero_wide in
    let inside = λ (x : ℕ). ap (λ (v : OddSetValue). count x v.members) made in
    let tree = bs ++ b ∷ [] in
    let band : DualSet = record { key = key; members = members_in parts; dual = 0 } in
    let sizes = λ (ks : List DualSet). length ks in
    let at = λ (F : List DualSet → ℕ) (add : IsAdditive F). ap (λ (v : OddSetValue). F (dual_sets v)) flat in
    subst (λ (ks : List BranchValue). Expands key root old ks was now) (sym f)
    (subst (λ (cs : List MatchValue). Expands key root old (mid ++ later) was cs) (sym e)
    (subst (λ (ks : List BranchValue). Expands key root ks (mid ++ later) was (was ++ cs)) (sym s.is) (record {
      grown = grown-append root.members mid later l.grown (grown_more (outer_members root.members tree)
          (outer_members root.members mid) later
          (λ x. omega (arith, l.more x, members_push)) s.after);
      more = cs;
      rest = refl;
      joined = λ j. each-append IsMatch was cs j l.joined;
      places = λ x. omega (arith, members-append, members_push, l.places x, g.places x, inside x);
      blossom = members_in parts;
      sums = λ F add. omega (
        arith,
        dual_sets-append F add,
        bands_push F add,
        l.sums F add,
        g.sums F add,
        at F add,
        add (band ∷ []) (dual_sets_in parts),
      );
      fewer = omega (
        arith,
        dual_sets-append sizes size-append,
        bands_push sizes size-append,
        l.fewer,
        g.sums sizes size-append,
        at sizes size-append,
      );
      firm = λ d h sy t c.
          let front = each-left (IsSoundBranch d h) tree later t in
          let k = each-last (IsSoundBranch d h) bs b front in
          let sound = subst (λ (v : OddSetValue). IsSoundSet d h v) flat k.inner in
          let r = l.firm d h (each-left (IsSoundBranch d h) bs (b ∷ []) front) k.up k.pair
          (g.firm d h sy (parts_firm d h key b.inner.near parts is (λ x. omega (arith, inside x, s.once x)) sound)) k.outer in (
            each-append (IsSoundBranch d h) mid later r.0 (each-right (IsSoundBranch d h) tree later t),
            each-append (IsSoundMatch d h) was
                cs c r.1,
          );
    })))

pub grows_at : (root : OddSetValue) (old kept bs : List BranchValue) (b : BranchValue) (later mid new : List BranchValue)
    (blossom : List PartValue)
    (cs : List MatchValue) (at : ℕ) → CanExpand root old at → kept ≡ take (at + 1) old → later ≡ drop (at + 1) old → kept ≡ bs ++ b ∷ []
    → SplitsBlossom root bs blossom b.up b.pair b.outer mid cs → new ≡ mid ++ later → InsertsBranches at old new
grows_at root old kept bs b later mid new blossom cs at ex e f g l m =
    let s = split_at root old kept bs b later at ex e f g in
    record {
      before = bs;
      branch = b;
      added = l.added;
      last = l.last;
      later = later;
      was = s.is ∙ append_assoc bs (b ∷ []) later;
      now = m ∙ ap (λ (ks : List BranchValue). ks ++ later) l.is ∙ append_assoc bs (l.added ++ l.last ∷ []) later
          ∙ ap (λ (ks : List BranchValue). bs ++ ks) (append_assoc l.added (l.last ∷ []) later);
      same = l.same;
      size = split_size root old kept bs b at ex e g;
    }
