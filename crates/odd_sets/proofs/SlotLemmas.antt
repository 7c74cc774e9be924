-- Sets in slots, after a slot is inserted or removed.
use Rattle.std.proofs.Common.{◌≡◌, ℕ, zero, suc, ◌+◌, ◌≤◌, ◌<◌, List, [], ◌∷◌, ◌++◌, map, length, ltb, Option, Some, None, IsSome, arith, length-append, refl, sym, ap, subst, ◌∙◌}
use Rattle.odd_sets.proofs.Names.{nat_tests, lt-ltb, get, ContainsKey, Updates, Each, DualSet, OddSetValue, dual_sets, one_if_equal, key_count, match_dual_sets, members_in, dual_sets_in, odd_set_of, AreOddSets, IsVertexOrBlossom, IsBlossom, blossom_set, blossom_slacks, branch_of, part_with_edge, branch_dual_sets, BranchValue, MatchValue, PartValue, branch_in, branches_in, match_in, matches_in, members_at, slot_members, slacks_at, part_in, parts_at, parts_in, slot_parts, set_in, AreSets, InsertsSet, Slots, TightEdge, Handle, BlossomPart, Slot, Match, Branch, slot_slacks, part_to_depth, part_with_inside, AreSlacksOf, IsSet, IsSetToDepth, KeepsOtherSlots}
use Rattle.odd_sets.proofs.ListLemmas.{each-map, each-mapped}
use Rattle.odd_sets.proofs.SumLemmas.{hit_is, hit_same, key_count-append}

-- a part has fewer members than its blossom
many : (ps : List PartValue) → AreOddSets ps → length ps ≤ length (members_in ps)
many [] kept = omega arith
many (p ∷ ps) kept = omega (arith, kept.0.odd, many ps kept.1, length-append p.odd_set.members (members_in ps))

fewer_each : (n : ℕ) (ps : List PartValue) → AreOddSets ps → 2 ≤ n + length ps
    → Each (λ (p : PartValue). length p.odd_set.members < n + length (members_in ps)) ps
fewer_each n [] kept two = tt
fewer_each n (p ∷ ps) kept two =
    let size = length-append p.odd_set.members (members_in ps) in (
      omega (arith, kept.0.odd, many ps kept.1, size),
      each-map (λ (q : PartValue). length q.odd_set.members < n + length p.odd_set.members + length (members_in ps))
          (λ (q : PartValue). length q.odd_set.members < n + length (p.odd_set.members ++ members_in ps))
          (λ q low. omega (arith, size, low)) ps
          (fewer_each (n + length p.odd_set.members) ps kept.1 (omega (arith, kept.0.odd))),
    )

sizes : (sets : Slots) (ms : List ℕ) (ps : List BlossomPart) (m : ℕ) → IsVertexOrBlossom ms (parts_in sets ps) → length ms ≤ m
    → Each (λ (p : BlossomPart). length (members_at sets p.handle.key) < m) ps
sizes sets ms [] m made low = tt
sizes sets ms (p ∷ ps) m made low =
    each-mapped (λ (q : PartValue). length q.odd_set.members < m) (part_in sets) (p ∷ ps)
    (each-map (λ (q : PartValue). length q.odd_set.members < 0 + length (members_in (parts_in sets (p ∷ ps))))
    (λ (q : PartValue). length q.odd_set.members < m)
    (λ q less. omega (arith, less, low, ap (λ (ks : List ℕ). length ks) made.0)) (parts_in sets (p ∷ ps))
    (fewer_each 0 (parts_in sets (p ∷ ps)) made.1.kept (omega (arith, made.1.three))))

-- as many levels as members, or more, show all sets inside
levels_list : (m : ℕ) (sets : Slots) (P : ℕ → Type 0)
    → ((n k : ℕ) → P k → length (members_at sets k) ≤ n → map (part_to_depth n sets) (parts_at sets k) ≡ parts_in sets (parts_at sets k))
    → (ps : List BlossomPart) → Each (λ (p : BlossomPart). P p.handle.key) ps
    → Each (λ (p : BlossomPart). length (members_at sets p.handle.key) < m) ps → map (part_to_depth m sets) ps ≡ parts_in sets ps
levels_list m sets P all [] are low = refl
levels_list zero sets P all (p ∷ ps) are low = absurd (omega (arith, low.0))
levels_list (suc m) sets P all (p ∷ ps) are low =
    let k = p.handle.key in
    let inside = all m k are.0 (omega (arith, low.0)) ∙ sym (all (length (members_at sets k)) k are.0 (omega arith)) in
    let rest = levels_list (suc m) sets P all ps are.1 low.1 in
    ap (λ (xs : List PartValue). part_with_inside sets p xs ∷ map (part_to_depth (suc m) sets) ps) inside
    ∙ ap (λ (xs : List PartValue). part_in sets p ∷ xs) rest

levels : (a m : ℕ) (sets : Slots) (k : ℕ) → IsSetToDepth a sets k → length (members_at sets k) ≤ m
    → map (part_to_depth m sets) (parts_at sets k) ≡ parts_in sets (parts_at sets k)
levels zero m sets k is low = absurd is
levels (suc a) m sets k is low =
    levels_list m sets (IsSetToDepth a sets) (λ n j. levels a n sets j) (parts_at sets k) is.2
    (sizes sets (members_at sets k) (parts_at sets k) m is.1 low)

made_to : (a : ℕ) (sets : Slots) (s : Handle) → IsSetToDepth a sets s.key
    → set_in sets s ≡ odd_set_of s.key (members_at sets s.key) s.dual (slacks_at sets s.key) (parts_in sets (parts_at sets s.key))
made_to a sets s is =
    ap (λ (ps : List PartValue). odd_set_of s.key (members_at sets s.key) s.dual (slacks_at sets s.key) ps)
    (levels a (length (members_at sets s.key)) sets s.key is (omega arith))

made_some : (ms : List ℕ) (ps : List PartValue) → IsVertexOrBlossom ms ps → 1 ≤ length ms
made_some ms ps h1 = grind (arith, nat_tests, length-append)

each_both : {X : Type 0} (P Q R : X → Type 0) (f : (x : X) → P x → Q x → R x) (xs : List X) → Each P xs → Each Q xs → Each R xs
each_both P Q R f [] p q = tt
each_both P Q R f (x ∷ xs) p q = (f x p.0 q.0, each_both P Q R f xs p.1 q.1)

-- as many levels as members are enough
to_all : (a : ℕ) (sets : Slots) (k : ℕ) → IsSetToDepth a sets k → (n : ℕ) → length (members_at sets k) ≤ n → IsSetToDepth n sets k
to_all zero sets k is n low = absurd is
to_all (suc a) sets k is zero low = absurd (omega (arith, low, made_some (members_at sets k) (parts_in sets (parts_at sets k)) is.1))
to_all (suc a) sets k is (suc n) low = (
  is.0,
  is.1,
  each_both (λ (p : BlossomPart). IsSetToDepth a sets p.handle.key) (λ (p : BlossomPart). length (members_at sets p.handle.key) < suc n)
      (λ (p : BlossomPart). IsSetToDepth n sets p.handle.key) (λ p set less. to_all a sets p.handle.key set n (omega (arith, less)))
      (parts_at sets k) is.2
      (sizes sets (members_at sets k) (parts_at sets k) (suc n) is.1 low),
  is.3,
)

set_to : (a : ℕ) (sets : Slots) (k : ℕ) → IsSetToDepth a sets k → IsSet sets k
set_to a sets k is = record { to = to_all a sets k is }

levels_of : (sets : Slots) (k : ℕ) → IsSet sets k → IsSetToDepth (length (members_at sets k)) sets k
levels_of sets k is = is.to (length (members_at sets k)) (omega arith)

-- a set by its parts
pub set_made : (sets : Slots) (s : Handle) → IsSet sets s.key
    → set_in sets s ≡ odd_set_of s.key (members_at sets s.key) s.dual (slacks_at sets s.key) (parts_in sets (parts_at sets s.key))
set_made sets s is = made_to (length (members_at sets s.key)) sets s (levels_of sets s.key is)

made_at : (a : ℕ) (sets : Slots) (k : ℕ) → IsSetToDepth a sets k → IsVertexOrBlossom (members_at sets k) (parts_in sets (parts_at sets k))
made_at zero sets k is = absurd is
made_at (suc a) sets k is = is.1

pub is_made : (sets : Slots) (k : ℕ) → IsSet sets k → IsVertexOrBlossom (members_at sets k) (parts_in sets (parts_at sets k))
is_made sets k is = made_at (length (members_at sets k)) sets k (levels_of sets k is)

pub has_slot : (sets : Slots) (k : ℕ) → IsSet sets k → ContainsKey sets k
has_slot sets k h1 = grind (arith, nat_tests, levels_of)

-- what follows of the one and of the other follows of their sum
pub either : {R : Type 0} (m n : ℕ) → (1 ≤ m → R) → (1 ≤ n → R) → 1 ≤ m + n → R
either zero n one two some = two (omega (arith, some))
either (suc m) n one two some = one (omega arith)

-- each set inside is a set
inside_list : (a : ℕ) (sets : Slots) → ((s : Handle) (j : ℕ) → IsSetToDepth a sets s.key → 1 ≤ key_count j (dual_sets (set_in sets s))
    → IsSet sets j)
    → (ps : List BlossomPart) (j : ℕ) → Each (λ (p : BlossomPart). IsSetToDepth a sets p.handle.key) ps
    → 1 ≤ key_count j (dual_sets_in (parts_in sets ps)) → IsSet sets j
inside_list a sets all [] j are some = absurd (omega arith)
inside_list a sets all (p ∷ ps) j are some =
    grind (arith, nat_tests, either, nat_tests, key_count-append, inside_list a sets all ps j are.1)

inside_to : (a : ℕ) (sets : Slots) (s : Handle) (j : ℕ) → IsSetToDepth a sets s.key → 1 ≤ key_count j (dual_sets (set_in sets s))
    → IsSet sets j
inside_to zero sets s j is some = absurd is
inside_to (suc a) sets s j is some =
    either (one_if_equal j s.key) (key_count j (dual_sets_in (parts_in sets (parts_at sets s.key))))
    (λ here. subst (λ (k : ℕ). IsSet sets k) (sym (hit_is j s.key here)) (set_to (suc a) sets s.key is))
    (inside_list a sets (λ r k. inside_to a sets r k) (parts_at sets s.key) j is.2)
    (omega (arith, some, ap (λ (v : OddSetValue). key_count j (dual_sets v)) (made_to (suc a) sets s is)))

pub inside : (sets : Slots) (s : Handle) (j : ℕ) → IsSet sets s.key → 1 ≤ key_count j (dual_sets (set_in sets s)) → IsSet sets j
inside sets s j is = inside_to (length (members_at sets s.key)) sets s j (levels_of sets s.key is)

-- a handle refers to an equal set in other slots
pub record IsKept (old new : Slots) (s : Handle) : Type 0 where
  pub set : IsSet new s.key
  pub same : set_in new s ≡ set_in old s

-- where each key inside keeps its slot, so does the set
abbrev KeepsTo : ℕ → Slots → Slots → Type 0
KeepsTo a old new = (s : Handle) → IsSetToDepth a old s.key → ((j : ℕ) → 1 ≤ key_count j (dual_sets (set_in old s)) → get new j ≡ get old j)
    → IsSetToDepth a new s.key × (set_in new s ≡ set_in old s)

keeps_list : (a : ℕ) (old new : Slots) → KeepsTo a old new → (ps : List BlossomPart)
    → Each (λ (p : BlossomPart). IsSetToDepth a old p.handle.key) ps
    → ((j : ℕ) → 1 ≤ key_count j (dual_sets_in (parts_in old ps)) → get new j ≡ get old j)
    → Each (λ (p : BlossomPart). IsSetToDepth a new p.handle.key) ps × (parts_in new ps ≡ parts_in old ps)
keeps_list a old new keeps [] are same = (tt, refl)
keeps_list a old new keeps (p ∷ ps) are same =
    let sum = λ (j : ℕ). key_count-append j (dual_sets (set_in old p.handle)) (dual_sets_in (parts_in old ps)) in
    let first = keeps p.handle are.0 (λ j u. same j (omega (arith, u, sum j))) in
    let rest = keeps_list a old new keeps ps are.1 (λ j u. same j (omega (arith, u, sum j))) in (
      (first.0, rest.0),
      ap (λ (v : OddSetValue). part_with_edge v p.next ∷ parts_in new ps) first.1
          ∙ ap (λ (qs : List PartValue). part_in old p ∷ qs) rest.1,
    )

keeps_to : (a : ℕ) (old new : Slots) → KeepsTo a old new
keeps_to zero old new s is same = absurd is
keeps_to (suc a) old new s is same =
    let k = s.key in
    let e = same k (omega (arith, hit_same k)) in
    let made = made_to (suc a) old s is in
    let parts = keeps_list a old new (keeps_to a old new) (parts_at old k) is.2
    (λ j u. same j (omega (arith, u, ap (λ (v : OddSetValue). key_count j (dual_sets v)) made))) in
    let now : IsSetToDepth (suc a) new k =
    subst (λ (slot : Option Slot). IsSome slot × IsVertexOrBlossom (slot_members slot) (parts_in new (slot_parts slot))
    × Each (λ (p : BlossomPart). IsSetToDepth a new p.handle.key) (slot_parts slot)
    × AreSlacksOf (slot_slacks slot) (parts_in new (slot_parts slot))) (sym e) (
      is.0,
      subst (λ (qs : List PartValue). IsVertexOrBlossom (members_at old k) qs) (sym parts.1) is.1,
      parts.0,
      subst (λ (qs : List PartValue). AreSlacksOf (slacks_at old k) qs) (sym parts.1) is.3,
    ) in (
      now,
      made_to (suc a) new s now
          ∙ ap (λ (slot : Option Slot). odd_set_of k (slot_members slot) s.dual (slot_slacks slot) (parts_in new (slot_parts slot))) e
          ∙ ap (λ (qs : List PartValue). odd_set_of k (members_at old k) s.dual (slacks_at old k) qs) parts.1 ∙ sym made,
    )

pub set_kept : (old new : Slots) (s : Handle) → IsSet old s.key
    → ((j : ℕ) → 1 ≤ key_count j (dual_sets (set_in old s)) → get new j ≡ get old j) → IsKept old new s
set_kept old new s is same =
    let n = length (members_at old s.key) in
    let k = keeps_to n old new s (levels_of old s.key is) same in
    record { set = set_to n new s.key k.0; same = k.1 }

-- the sets of a list, and that they are the same in other slots
pub record AreKept (old new : Slots) (was : List DualSet) : Type 0 where
  pub sets : (j : ℕ) → 1 ≤ key_count j was → IsSet new j

pub kept_append : (old new : Slots) (xs ys : List DualSet) → AreKept old new xs → AreKept old new ys → AreKept old new (xs ++ ys)
kept_append old new xs ys h1 h2 = grind (arith, nat_tests, either, key_count-append)

-- the slots of these sets stay, and there are sets in them
pub record CanKeep (old new : Slots) (was : List DualSet) : Type 0 where
  pub each : (j : ℕ) → 1 ≤ key_count j was → IsSet old j
  pub same : (j : ℕ) → 1 ≤ key_count j was → get new j ≡ get old j

pub can_left : (old new : Slots) (xs ys : List DualSet) → CanKeep old new (xs ++ ys) → CanKeep old new xs
can_left old new xs ys c = record {
  each = λ j u. c.each j (omega (arith, u, key_count-append j xs ys));
  same = λ j u. c.same j (omega (arith, u, key_count-append j xs ys));
}

pub can_right : (old new : Slots) (xs ys : List DualSet) → CanKeep old new (xs ++ ys) → CanKeep old new ys
can_right old new xs ys c = record {
  each = λ j u. c.each j (omega (arith, u, key_count-append j xs ys));
  same = λ j u. c.same j (omega (arith, u, key_count-append j xs ys));
}

-- a value shown by other slots is the same, and its sets are kept
pub record KeepsValue {X : Type 0} (old new : Slots) (was : List DualSet) (x y : X) : Type 0 where
  pub kept : AreKept old new was
  pub same : y ≡ x

pub keep_seat : (old new : Slots) (s : Handle) → CanKeep old new (dual_sets (set_in old s))
    → KeepsValue old new (dual_sets (set_in old s)) (set_in old s) (set_in new s)
keep_seat old new s c =
    let k = set_kept old new s (c.each s.key (omega (arith, hit_same s.key))) c.same in
    record {
      kept = record {
        sets = λ j u. inside new s j k.set (omega (arith, u, ap (λ (v : OddSetValue). key_count j (dual_sets v)) k.same));
      };
      same = k.same;
    }

pub keep_parts : (old new : Slots) (ps : List BlossomPart) → CanKeep old new (dual_sets_in (parts_in old ps))
    → KeepsValue old new (dual_sets_in (parts_in old ps)) (parts_in old ps) (parts_in new ps)
keep_parts old new [] c = record { kept = record { sets = λ j u. absurd (omega arith) }; same = refl }
keep_parts old new (p ∷ ps) c =
    let first = dual_sets (set_in old p.handle) in
    let later = dual_sets_in (parts_in old ps) in
    let k = keep_seat old new p.handle (can_left old new first later c) in
    let rest = keep_parts old new ps (can_right old new first later c) in
    record {
      kept = kept_append old new first later k.kept rest.kept;
      same = ap (λ (v : OddSetValue). part_with_edge v p.next ∷ parts_in new ps) k.same
          ∙ ap (λ (qs : List PartValue). part_in old p ∷ qs) rest.same;
    }

abbrev match_of : OddSetValue → OddSetValue → TightEdge → MatchValue
match_of first second link = record { first = first; second = second; link = link }

pub keep_matches : (old new : Slots) (cs : List Match) → CanKeep old new (match_dual_sets (matches_in old cs))
    → KeepsValue old new (match_dual_sets (matches_in old cs)) (matches_in old cs) (matches_in new cs)
keep_matches old new [] c = record { kept = record { sets = λ j u. absurd (omega arith) }; same = refl }
keep_matches old new (k ∷ cs) c =
    let one = dual_sets (set_in old k.first) in
    let two = dual_sets (set_in old k.second) in
    let later = match_dual_sets (matches_in old cs) in
    let after = can_right old new one (two ++ later) c in
    let a = keep_seat old new k.first (can_left old new one (two ++ later) c) in
    let b = keep_seat old new k.second (can_left old new two later after) in
    let rest = keep_matches old new cs (can_right old new two later after) in
    record {
      kept = kept_append old new one (two ++ later) a.kept (kept_append old new two later b.kept rest.kept);
      same = ap (λ (v : OddSetValue). match_of v (set_in new k.second) k.link ∷ matches_in new cs) a.same
          ∙ ap (λ (v : OddSetValue). match_of (set_in old k.first) v k.link ∷ matches_in new cs) b.same
          ∙ ap (λ (ks : List MatchValue). match_in old k ∷ ks) rest.same;
    }

pub keep_branches : (old new : Slots) (bs : List Branch) → CanKeep old new (branch_dual_sets (branches_in old bs))
    → KeepsValue old new (branch_dual_sets (branches_in old bs)) (branches_in old bs) (branches_in new bs)
keep_branches old new [] c = record { kept = record { sets = λ j u. absurd (omega arith) }; same = refl }
keep_branches old new (b ∷ bs) c =
    let one = dual_sets (set_in old b.inner) in
    let two = dual_sets (set_in old b.outer) in
    let later = branch_dual_sets (branches_in old bs) in
    let after = can_right old new one (two ++ later) c in
    let i = keep_seat old new b.inner (can_left old new one (two ++ later) c) in
    let o = keep_seat old new b.outer (can_left old new two later after) in
    let rest = keep_branches old new bs (can_right old new two later after) in
    record {
      kept = kept_append old new one (two ++ later) i.kept (kept_append old new two later o.kept rest.kept);
      same = ap (λ (v : OddSetValue). branch_of b.up v b.pair (set_in new b.outer) ∷ branches_in new bs) i.same
          ∙ ap (λ (v : OddSetValue). branch_of b.up (set_in old b.inner) b.pair v ∷ branches_in new bs) o.same
          ∙ ap (λ (ks : List BranchValue). branch_in old b ∷ ks) rest.same;
    }

pub no_slot : (sets : Slots) (j key : ℕ) → ContainsKey sets j → j ≡ key → get sets key ≡ None → ⊥
no_slot sets j key h1 h2 h3 = cc

-- a key more changes no set that was there
pub inserted_keeps : (old new : Slots) (key : ℕ) (was : List DualSet) → get old key ≡ None → KeepsOtherSlots old new key
    → ((j : ℕ) → 1 ≤ key_count j was → IsSet old j) → CanKeep old new was
inserted_keeps old new key was h1 h2 h3 = grind (arith, nat_tests, no_slot, has_slot)

-- a key less changes no set without it
pub removed_keeps : (old new : Slots) (key : ℕ) (was : List DualSet) → KeepsOtherSlots old new key → key_count key was ≡ 0
    → ((j : ℕ) → 1 ≤ key_count j was → IsSet old j) → CanKeep old new was
removed_keeps old new key was others none each = record {
  each = each;
  same = λ j u. others j (λ e. absurd (omega (arith, u, none, ap (λ (k : ℕ). key_count k was) e)));
}

-- a set has others inside where it has parts
pub parts_show : (m : ℕ) (sets : Slots) (ps : List BlossomPart)
    → ltb 0 (length ps) ≡ ltb 0 (length (dual_sets_in (map (part_to_depth m sets) ps)))
parts_show m sets [] = refl
parts_show m sets (p ∷ ps) =
    lt-ltb 0 (length (p ∷ ps)) (omega arith) ∙ sym (lt-ltb 0 (length (dual_sets_in (map (part_to_depth m sets) (p ∷ ps)))) (omega arith))

each_set : (old new : Slots) (ps : List BlossomPart) → ((j : ℕ) → 1 ≤ key_count j (dual_sets_in (parts_in old ps)) → IsSet new j)
    → Each (λ (p : BlossomPart). IsSet new p.handle.key) ps
each_set old new [] sets = tt
each_set old new (p ∷ ps) sets =
    let sum = λ (j : ℕ). key_count-append j (dual_sets (set_in old p.handle)) (dual_sets_in (parts_in old ps)) in (
      sets p.handle.key (omega (arith, sum p.handle.key, hit_same p.handle.key)),
      each_set old new ps (λ j u. sets j (omega (arith, u, sum j))),
    )

blossom_made : (ms : List ℕ) (ps : List PartValue) → ms ≡ members_in ps → IsBlossom ps → IsVertexOrBlossom ms ps
blossom_made ms [] same blossom = absurd (omega (arith, blossom.three))
blossom_made ms (p ∷ ps) same blossom = (same, blossom)

row_made : (near : List ℕ) (ps : List PartValue) → near ≡ blossom_slacks ps → AreSlacksOf near ps
row_made near [] same = tt
row_made near (p ∷ ps) same = same

-- a blossom's slot beside those of its parts
pub record BlossomMore (old new : Slots) (key : ℕ) (parts : List BlossomPart) : Type 0 where
  pub inserts : InsertsSet old new key
  pub same : set_in new (record { key = key; dual = 0 }) ≡ blossom_set key (parts_in old parts)

pub blossom_more : (old new : Slots) (key : ℕ) (slot : Slot) → get old key ≡ None → Updates old new key (Some slot)
    → AreSets old (dual_sets_in (parts_in old slot.parts.items)) → IsBlossom (parts_in old slot.parts.items)
    → slot.members.items ≡ members_in (parts_in old slot.parts.items) → slot.near.items ≡ blossom_slacks (parts_in old slot.parts.items)
    → BlossomMore old new key slot.parts.items
blossom_more old new key slot fresh up sets blossom ms near =
    let ps = slot.parts.items in
    let handle : Handle = record { key = key; dual = 0 } in
    let k = keep_parts old new ps (inserted_keeps old new key (dual_sets_in (parts_in old ps)) fresh up.others sets.each) in
    let made : IsVertexOrBlossom slot.members.items (parts_in new ps) =
    subst (λ (qs : List PartValue). IsVertexOrBlossom slot.members.items qs) (sym k.same)
    (blossom_made slot.members.items (parts_in old ps) ms
    blossom) in
    let m = length slot.members.items in
    let each = each_both (λ (p : BlossomPart). IsSet new p.handle.key) (λ (p : BlossomPart). length (members_at new p.handle.key) < m)
    (λ (p : BlossomPart). IsSetToDepth m new p.handle.key) (λ p set less. set.to m (omega (arith, less))) ps
    (each_set old new ps k.kept.sets) (sizes new slot.members.items ps m made (omega arith)) in
    let row = subst (λ (qs : List PartValue). AreSlacksOf slot.near.items qs) (sym k.same)
    (row_made slot.near.items (parts_in old ps) near) in
    let set = set_to (suc m) new key (subst (λ (o : Option Slot). IsSome o
    × IsVertexOrBlossom (slot_members o) (parts_in new (slot_parts o))
    × Each (λ (p : BlossomPart). IsSetToDepth m new p.handle.key) (slot_parts o)
    × AreSlacksOf (slot_slacks o) (parts_in new (slot_parts o))) (sym up.changed)
    (refl, made, each, row)) in
    record {
      inserts = record { fresh = fresh; others = up.others; set = set };
      same = set_made new handle set
          ∙ ap (λ (o : Option Slot). odd_set_of key (slot_members o) 0 (slot_slacks o) (parts_in new (slot_parts o))) up.changed
          ∙ ap (λ (xs : List ℕ). odd_set_of key xs 0 slot.near.items (parts_in new ps)) ms
          ∙ ap (λ (xs : List ℕ). odd_set_of key (members_in (parts_in old ps)) 0 xs (parts_in new ps)) near
          ∙ ap (λ (qs : List PartValue). odd_set_of key (members_in (parts_in old ps)) 0 (blossom_slacks (parts_in old ps)) qs) k.same;
    }

-- fewer sets
pub sets_fewer : (sets : Slots) (bs cs : List DualSet) → AreSets sets bs → ((k : ℕ) → key_count k cs ≤ key_count k bs) → AreSets sets cs
sets_fewer sets bs cs a fewer =
    record { each = λ k u. a.each k (omega (arith, u, fewer k)); once = λ k. omega (arith, a.once k, fewer k) }

pub sets_left : (sets : Slots) (xs ys : List DualSet) → AreSets sets (xs ++ ys) → AreSets sets xs
sets_left sets xs ys a = sets_fewer sets (xs ++ ys) xs a (λ k. omega (arith, key_count-append k xs ys))

pub sets_right : (sets : Slots) (xs ys : List DualSet) → AreSets sets (xs ++ ys) → AreSets sets ys
sets_right sets xs ys a = sets_fewer sets (xs ++ ys) ys a (λ k. omega (arith, key_count-append k xs ys))

pub set_of : (sets : Slots) (s : Handle) → AreSets sets (dual_sets (set_in sets s)) → IsSet sets s.key
set_of sets s a = a.each s.key (omega (arith, hit_same s.key))

-- a set stays one where there is a key more
pub set_more : (old new : Slots) (key k : ℕ) → get old key ≡ None → KeepsOtherSlots old new key → IsSet old k → IsSet new k
set_more old new key k fresh others is =
    let s : Handle = record { key = k; dual = 0 } in
    (set_kept old new s is (λ j u. others j (λ e. no_slot old j key (has_slot old j (inside old s j is u)) e fresh))).set
