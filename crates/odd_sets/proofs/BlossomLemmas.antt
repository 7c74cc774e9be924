-- Blossoms rotated to another part.
use Rattle.std.proofs.Common.{◌≡◌, ℕ, ◌+◌, ◌≤◌, ◌<◌, ◌%◌, List, [], ◌∷◌, ◌++◌, length, map, take, drop, get_or, arith, refl, sym, ap, subst, ◌∙◌, append_assoc, length-append}
use Rattle.odd_sets.proofs.Names.{nat_tests, append-nil, map-append, take-append-drop, TableValue, NoneHold, IsOddSet, dual_sets, count, AreTightInside, IsTightInside, FirstPartHolds, PartHoldsAt, IsRotated, members_in, dual_sets_in, part_sets, path_edges, IsPartPath, cycle_edges, IsPartCycle, AreOddSets, IsVertexOrBlossom, odd_set_of, PartValue, IsOutside, blossom_edge_of, EdgeLeadsTo}
use Rattle.odd_sets.proofs.ListLemmas.{drop_here, each-append, mapped_drop, mapped_low, mapped_take}
use Rattle.odd_sets.proofs.SumLemmas.{count-append, members-append, none_hold}

-- a chain that goes on by one part
Linked_on : (p a b : PartValue) (qs : List PartValue) → IsPartPath p (qs ++ a ∷ []) → EdgeLeadsTo a b
    → IsPartPath p ((qs ++ a ∷ []) ++ b ∷ [])
Linked_on p a b [] l j = (l.0, (j, tt))
Linked_on p a b (q ∷ qs) l j = (l.0, Linked_on q a b qs l.1 j)

paid_on : (d : TableValue) (p a b : PartValue) (qs : List PartValue) → AreTightInside d (path_edges p (qs ++ a ∷ []))
    → IsTightInside d (blossom_edge_of a b) → AreTightInside d (path_edges p ((qs ++ a ∷ []) ++ b ∷ []))
paid_on d p a b [] l j = (l.0, (j, tt))
paid_on d p a b (q ∷ qs) l j = (l.0, paid_on d q a b qs l.1 j)

blossom_by_one : (p : PartValue) (ps : List PartValue) → IsPartCycle (p ∷ ps) → IsPartCycle (ps ++ p ∷ [])
blossom_by_one p [] l = l
blossom_by_one p (q ∷ qs) l = Linked_on q p q qs l.1 l.0

paid_by_one : (d : TableValue) (p : PartValue) (ps : List PartValue) → AreTightInside d (cycle_edges (p ∷ ps))
    → AreTightInside d (cycle_edges (ps ++ p ∷ []))
paid_by_one d p [] l = l
paid_by_one d p (q ∷ qs) l = paid_on d q p q qs l.1 l.0

shifted : (xs ys : List PartValue) (x : PartValue) → (ys ++ x ∷ []) ++ xs ≡ ys ++ (x ∷ xs)
shifted xs ys x = append_assoc ys (x ∷ []) xs

-- a rotated cycle of parts is a cycle
pub blossom_turned : (xs ys : List PartValue) → IsPartCycle (xs ++ ys) → IsPartCycle (ys ++ xs)
blossom_turned [] ys l = subst IsPartCycle (sym (append-nil ys)) l
blossom_turned (x ∷ xs) ys l =
    subst IsPartCycle (shifted xs ys x)
    (blossom_turned xs (ys ++ x ∷ []) (subst IsPartCycle (append_assoc xs ys (x ∷ [])) (blossom_by_one x (xs ++ ys) l)))

pub paid_turned : (d : TableValue) (xs ys : List PartValue) → AreTightInside d (cycle_edges (xs ++ ys))
    → AreTightInside d (cycle_edges (ys ++ xs))
paid_turned d [] ys l = subst (λ (zs : List PartValue). AreTightInside d (cycle_edges zs)) (sym (append-nil ys)) l
paid_turned d (x ∷ xs) ys l =
    subst (λ (zs : List PartValue). AreTightInside d (cycle_edges zs)) (shifted xs ys x)
    (paid_turned d xs (ys ++ x ∷ []) (subst (λ (zs : List PartValue). AreTightInside d (cycle_edges zs)) (append_assoc xs ys (x ∷ []))
    (paid_by_one d x (xs ++ ys) l)))

-- an additive quantity of the parts doesn't change when they are rotated
pub sum_turned : (G : List PartValue → ℕ) → ((ps qs : List PartValue) → G (ps ++ qs) ≡ G ps + G qs) → (i : ℕ) (ps : List PartValue)
    → G (drop i ps ++ take i ps) ≡ G ps
sum_turned G add i ps =
    omega (arith, add, ap G (take-append-drop i ps))

pub members_turned : (x : ℕ) (i : ℕ) (ps : List PartValue) → count x (members_in (drop i ps ++ take i ps)) ≡ count x (members_in ps)
members_turned x i ps = sum_turned (λ (qs : List PartValue). count x (members_in qs)) (members-append part_sets x []) i ps

pub members_size : (ps : List PartValue) → AreOddSets ps → (length (members_in ps) + length ps) % 2 ≡ 0
members_size [] all = refl
members_size (p ∷ ps) all = omega (arith, length-append p.odd_set.members (members_in ps), members_size ps all.1, all.0.odd)

pub none_in : (x : ℕ) (ps : List PartValue) → AreOddSets ps → count x (members_in ps) ≡ 0 → NoneHold x (dual_sets_in ps)
none_in x [] all none = tt
none_in x (p ∷ ps) all none =
    let c = count-append x p.odd_set.members (members_in ps) in
    each-append (IsOutside x) (dual_sets p.odd_set) (dual_sets_in ps) (none_hold x p.odd_set all.0 (omega (arith, c)))
    (none_in x ps all.1 (omega (arith, c)))

pub made_kept : (key : ℕ) (ms : List ℕ) (w : ℕ) (near : List ℕ) (ps : List PartValue) → IsVertexOrBlossom ms ps
    → IsOddSet (odd_set_of key ms w near ps)
made_kept key ms w near [] one = record { odd = omega (arith, one); covered = λ x none. tt; single = λ e. one }
made_kept key ms w near (p ∷ ps) made = record {
  odd = omega (arith, ap (λ (xs : List ℕ). length xs) made.0, members_size (p ∷ ps) made.1.kept, made.1.odd);
  covered = λ x none. none_in x (p ∷ ps) made.1.kept (sym (ap (λ (xs : List ℕ). count x xs) made.0) ∙ none);
  single = λ e. absurd (omega arith);
}

-- the part at the index holds the place
pub holds_here : (x : ℕ) (ps : List PartValue) (i : ℕ) (p : PartValue) → i < length ps → p ≡ get_or ps i p → 1 ≤ count x p.odd_set.members
    → PartHoldsAt x ps i
holds_here x ps i p low is here = subst (FirstPartHolds x) (sym (drop_here ps i p low is)) here

pub turned_in : {X Y : Type 0} (f : X → Y) (old new : List X) (at : ℕ) → at < length old → new ≡ drop at old ++ take at old
    → IsRotated (map f old) (map f new)
turned_in f old new at low is = record {
  at = at;
  within = mapped_low f old at low;
  is =
      grind (arith, nat_tests, map-append, mapped_drop, mapped_take);
}

first_before : (x : ℕ) (ps qs : List PartValue) → FirstPartHolds x ps → FirstPartHolds x (ps ++ qs)
first_before x [] qs first = absurd first
first_before x (p ∷ ps) qs first = first

pub first_turned : {X : Type 0} (f : X → PartValue) (x : ℕ) (old new : List X) (at : ℕ) → new ≡ drop at old ++ take at old
    → PartHoldsAt x (map f old) at → FirstPartHolds x (map f new)
first_turned f x old new at is holds =
    subst (FirstPartHolds x) (sym (grind (arith, nat_tests, map-append, mapped_drop, mapped_take)))
    (first_before x (drop at (map f old)) (take at (map f old)) holds)
