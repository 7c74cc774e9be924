-- Reversed blossoms, and the parity of their parts.
use Rattle.std.proofs.Common.{◌≡◌, ℕ, ◌+◌, ◌%◌, ◌≤◌, ◌<◌, inl, inr, List, [], ◌∷◌, ◌++◌, length, take, drop, arith, refl, sym, ap, subst, ◌∙◌, append_assoc, length-append}
use Rattle.odd_sets.proofs.Names.{nat_tests, length-take, take-append-drop, flat_map, TableValue, Each, sum_over, IsAdditive, DualSet, OddSetValue, dual_sets, count, reversed_edge, members_in, dual_sets_in, part_sets, AreOddSets, FirstPartHolds, PartHoldsAt, IsPartCycle, IsBlossom, IsRotated, IsPartPath, IsSoundPart, IsSymmetric, IsTight, HoldsAtEvenIndex, IsEvenlyOriented, last_edge_of, reversed_blossom, reversed_onto, TightEdge, PartValue}
use Rattle.odd_sets.proofs.ListLemmas.{each-turned}
use Rattle.odd_sets.proofs.SumLemmas.{bands_each, members_each}
use Rattle.odd_sets.proofs.BlossomLemmas.{members_turned}
use Rattle.odd_sets.proofs.OpenLemmas.{bands_turned, turned_is_blossom}
use Rattle.odd_sets.proofs.ChainLemmas.{tight_back}

-- the last part of a chain that begins with p
abbrev last_part : PartValue → List PartValue → PartValue
last_part p [] = p
last_part p (q ∷ qs) = last_part q qs

abbrev part_of : PartValue → TightEdge → PartValue
part_of p l = record { odd_set = p.odd_set; next = l }

told_size : (l : TightEdge) (ps told : List PartValue) → length (reversed_onto l ps told) ≡ length ps + length told
told_size l [] told = omega arith
told_size l (p ∷ ps) told = omega (arith, told_size p.next ps (part_of p (reversed_edge l) ∷ told))

-- a sum over the sets of the parts
abbrev sum_in : (OddSetValue → ℕ) → List PartValue → ℕ
sum_in f ps = sum_over f (flat_map part_sets ps)

told_sum : (f : OddSetValue → ℕ) (l : TightEdge) (ps told : List PartValue)
    → sum_in f (reversed_onto l ps told) ≡ sum_in f ps + sum_in f told
told_sum f l [] told = omega arith
told_sum f l (p ∷ ps) told = omega (arith, told_sum f p.next ps (part_of p (reversed_edge l) ∷ told))

told_kept : (l : TightEdge) (ps told : List PartValue) → AreOddSets ps → AreOddSets told → AreOddSets (reversed_onto l ps told)
told_kept l [] told a b = b
told_kept l (p ∷ ps) told a b = told_kept p.next ps (part_of p (reversed_edge l) ∷ told) a.1 (a.0, b)

told_firm : (d : TableValue) (h : ℕ → ℕ) → IsSymmetric d → (l : TightEdge) (ps told : List PartValue) → IsTight d h l
    → Each (IsSoundPart d h) ps → Each (IsSoundPart d h) told → Each (IsSoundPart d h) (reversed_onto l ps told)
told_firm d h sy l [] told t a b = b
told_firm d h sy l (p ∷ ps) told t a b =
    told_firm d h sy p.next ps (part_of p (reversed_edge l) ∷ told) a.0.next a.1
    (record { next = tight_back d h l sy t; odd_set = a.0.odd_set }, b)

last_firm : (d : TableValue) (h : ℕ → ℕ) (p : PartValue) (ps : List PartValue) → Each (IsSoundPart d h) (p ∷ ps) → IsTight d h
    (last_edge_of p.next ps)
last_firm d h p [] a = a.0.next
last_firm d h p (q ∷ qs) a = last_firm d h q qs a.1

last_joins : (p : PartValue) (qs : List PartValue) (e : PartValue) → IsPartPath p (qs ++ e ∷ []) →
    (count (last_edge_of p.next qs).from (last_part p qs).odd_set.members ≡ 1) × (count (last_edge_of p.next qs).to e.odd_set.members ≡ 1)
last_joins p [] e l = l.0
last_joins p (q ∷ qs) e l = last_joins q qs e l.1

pub linked_left : (p : PartValue) (qs es : List PartValue) → IsPartPath p (qs ++ es) → IsPartPath p qs
linked_left p [] es l = tt
linked_left p (q ∷ qs) es l = (l.0, linked_left q qs es l.1)

-- a chain that leads to the part e, and begins at a part with the place x
abbrev LeadsTo : PartValue → ℕ → List PartValue → Type 0
LeadsTo e x [] = ⊥
LeadsTo e x (z ∷ zs) = IsPartPath z (zs ++ e ∷ []) × (count x z.odd_set.members ≡ 1)

told_linked : (e : PartValue) (x : ℕ) (p a : PartValue) (qs told : List PartValue) → a.odd_set ≡ p.odd_set → IsPartPath p qs
    → IsPartPath a (told ++ e ∷ []) → count x (last_part p qs).odd_set.members ≡ 1 → LeadsTo e x (reversed_onto p.next qs (a ∷ told))
told_linked e x p a [] told same l m here = (m, subst (λ (n : OddSetValue). count x n.members ≡ 1) (sym same) here)
told_linked e x p a (q ∷ qs) told same l m here =
    told_linked e x q (part_of q (reversed_edge p.next)) qs (a ∷ told) refl l.1
    ((l.0.1, subst (λ (n : OddSetValue). count p.next.from n.members ≡ 1) (sym same) l.0.0), m) here

closes_at : (p : PartValue) (x : ℕ) (zs : List PartValue) → count p.next.from p.odd_set.members ≡ 1 → p.next.to ≡ x → LeadsTo p x zs
    → IsPartPath p (zs ++ p ∷ [])
closes_at p x [] from to l = absurd l
closes_at p x (z ∷ zs) from to l = ((from, subst (λ (y : ℕ). count y z.odd_set.members ≡ 1) (sym to) l.1), l.0)

mirror_linked : (p q : PartValue) (qs : List PartValue) → IsPartCycle (p ∷ q ∷ qs) → IsPartCycle (reversed_blossom (p ∷ q ∷ qs))
mirror_linked p q qs l =
    let end = last_joins p (q ∷ qs) p l in
    let top = part_of p (reversed_edge (last_edge_of p.next (q ∷ qs))) in
    let first = part_of q (reversed_edge p.next) in
    closes_at top (last_edge_of q.next qs).from (reversed_onto q.next qs (first ∷ [])) end.1 refl
    (told_linked top (last_edge_of q.next qs).from q first qs [] refl (linked_left q qs (p ∷ []) l.1) ((l.0.1, l.0.0), tt) end.0)

mirror_size : (ps : List PartValue) → length (reversed_blossom ps) ≡ length ps
mirror_size ps = grind (arith, nat_tests, told_size)

mirror_is_blossom : (ps : List PartValue) → IsBlossom ps → IsBlossom (reversed_blossom ps)
mirror_is_blossom [] r = r
mirror_is_blossom (p ∷ []) r = absurd (omega (arith, r.three))
mirror_is_blossom (p ∷ q ∷ qs) r = record {
  odd = omega (arith, mirror_size (p ∷ q ∷ qs), r.odd);
  three = omega (arith, mirror_size (p ∷ q ∷ qs), r.three);
  linked = mirror_linked p q qs r.linked;
  kept = (r.kept.0, told_kept p.next (q ∷ qs) [] r.kept.1 tt);
}

mirror_sum : (f : OddSetValue → ℕ) (ps : List PartValue) → sum_in f (reversed_blossom ps) ≡ sum_in f ps
mirror_sum f ps = grind (arith, nat_tests, told_sum)

mirror_places : (x : ℕ) (ps : List PartValue) → count x (members_in (reversed_blossom ps)) ≡ count x (members_in ps)
mirror_places x ps = omega (arith, members_each, mirror_sum (λ (s : OddSetValue). count x s.members) ps)

mirror_bands : (F : List DualSet → ℕ) → IsAdditive F → (ps : List PartValue) → F (dual_sets_in (reversed_blossom ps)) ≡ F (dual_sets_in ps)
mirror_bands F add ps = omega (arith, bands_each F add, mirror_sum (λ (s : OddSetValue). F (dual_sets s)) ps)

mirror_firm : (d : TableValue) (h : ℕ → ℕ) → IsSymmetric d → (ps : List PartValue) → Each (IsSoundPart d h) ps
    → Each (IsSoundPart d h) (reversed_blossom ps)
mirror_firm d h h1 ps h2 = grind (arith, nat_tests, tight_back, last_firm, told_firm)

-- a part that holds the place, and the parts before it
record HeldAt (x : ℕ) (ps : List PartValue) (i : ℕ) : Type 0 where
  before : List PartValue
  part : PartValue
  after : List PartValue
  is : ps ≡ before ++ part ∷ after
  size : length before ≡ i
  here : 1 ≤ count x part.odd_set.members

held_case : (x : ℕ) (ps : List PartValue) (i : ℕ) (rest : List PartValue) → drop i ps ≡ rest → i < length ps → FirstPartHolds x rest
    → HeldAt x ps i
held_case x ps i [] e low holds = absurd holds
held_case x ps i (p ∷ rest) e low holds = record {
  before = take i ps;
  part = p;
  after = rest;
  is = sym (take-append-drop i ps) ∙ ap (λ (qs : List PartValue). take i ps ++ qs) e;
  size = omega (arith, length-take i ps);
  here = holds;
}

held_at : (x : ℕ) (ps : List PartValue) (i : ℕ) → i < length ps → PartHoldsAt x ps i → HeldAt x ps i
held_at x ps i low holds = held_case x ps i (drop i ps) refl low holds

here_evenly : (x : ℕ) (p : PartValue) (after : List PartValue) → 1 ≤ count x p.odd_set.members → HoldsAtEvenIndex x (p ∷ after)
here_evenly x p [] here = here
here_evenly x p (q ∷ after) here = inl here

evenly : (x : ℕ) (before : List PartValue) (p : PartValue) (after : List PartValue) → length before % 2 ≡ 0 → 1 ≤ count x p.odd_set.members
    → HoldsAtEvenIndex x (before ++ p ∷ after)
evenly x [] p after even here = here_evenly x p after here
evenly x (a ∷ []) p after even here = absurd (omega arith)
evenly x (a ∷ b ∷ before) p after even here = inr (evenly x before p after (omega arith) here)

told_append : (l : TightEdge) (ps told : List PartValue) → reversed_onto l ps told ≡ reversed_onto l ps [] ++ told
told_append l [] told = refl
told_append l (p ∷ ps) told =
    told_append p.next ps (part_of p (reversed_edge l) ∷ told)
    ∙ sym (append_assoc (reversed_onto p.next ps []) (part_of p (reversed_edge l) ∷ []) told)
    ∙ ap (λ (qs : List PartValue). qs ++ told) (sym (told_append p.next ps (part_of p (reversed_edge l) ∷ [])))

-- a part after others comes before them in the reversed chain
record ToldAt (l : TightEdge) (before : List PartValue) (p : PartValue) (after told : List PartValue) : Type 0 where
  link : TightEdge
  rest : List PartValue
  is : reversed_onto l (before ++ p ∷ after) told ≡ reversed_onto p.next after [] ++ part_of p link ∷ rest

told_at : (l : TightEdge) (before : List PartValue) (p : PartValue) (after told : List PartValue) → ToldAt l before p after told
told_at l [] p after told = record {
  link = reversed_edge l;
  rest = told;
  is = told_append p.next after (part_of p (reversed_edge l) ∷ told);
}
told_at l (a ∷ before) p after told =
    let t = told_at a.next before p after (part_of a (reversed_edge l) ∷ told) in
    record { link = t.link; rest = t.rest; is = t.is }

mirror_held : (x : ℕ) (before : List PartValue) (p : PartValue) (after : List PartValue) → length before % 2 ≡ 1
    → (length before + (1 + length after)) % 2 ≡ 1 → 1 ≤ count x p.odd_set.members
    → HoldsAtEvenIndex x (reversed_blossom (before ++ p ∷ after))
mirror_held x [] p after odd all here = absurd (omega arith)
mirror_held x (a ∷ before) p after odd all here =
    let t = told_at a.next before p after [] in
    let top = part_of a (reversed_edge (last_edge_of a.next (before ++ p ∷ after))) in
    subst (λ (qs : List PartValue). HoldsAtEvenIndex x (top ∷ qs)) (sym t.is)
    (evenly x (top ∷ reversed_onto p.next after []) (part_of p t.link) t.rest (omega (arith, told_size p.next after [])) here)

-- a blossom with the part at an odd index is reversed, which makes the index even
mirror_evenly : (x : ℕ) (ps : List PartValue) (i : ℕ) → length ps % 2 ≡ 1 → i % 2 ≡ 1 → HeldAt x ps i
    → HoldsAtEvenIndex x (reversed_blossom ps)
mirror_evenly x ps i odd way h = subst (λ (qs : List PartValue). HoldsAtEvenIndex x (reversed_blossom qs)) (sym h.is)
    (mirror_held x h.before h.part h.after (omega (arith, h.size))
    (omega (arith, odd, ap (λ (qs : List PartValue). length qs) h.is, length-append h.before (h.part ∷ h.after))) h.here)

-- a blossom rotated to the part that is entered, with the part that is left at an even index
pub goes_on : (entry exit : ℕ) (old blossom : List PartValue) (i : ℕ) → IsBlossom old → IsRotated old blossom → FirstPartHolds entry blossom
    → i < length blossom → PartHoldsAt exit blossom i → i % 2 ≡ 0 → IsEvenlyOriented entry exit old blossom
goes_on entry exit old blossom i is turned first low holds even =
    let h = held_at exit blossom i low holds in
    record {
      blossom = subst IsBlossom (sym turned.is) (turned_is_blossom old turned.at is);
      first = first;
      last = subst (λ (qs : List PartValue). HoldsAtEvenIndex exit qs) (sym h.is)
          (evenly exit h.before h.part h.after (omega (arith, h.size, even)) h.here);
      places = λ x. ap (λ (qs : List PartValue). count x (members_in qs)) turned.is ∙ members_turned x turned.at old;
      sums = λ F add. ap (λ (qs : List PartValue). F (dual_sets_in qs)) turned.is ∙ bands_turned F add turned.at old;
      firm = λ d h sy f. subst (λ (qs : List PartValue). Each (IsSoundPart d h) qs) (sym turned.is)
          (each-turned (IsSoundPart d h) turned.at old f);
    }

first_mirrored : (x : ℕ) (ps : List PartValue) → FirstPartHolds x ps → FirstPartHolds x (reversed_blossom ps)
first_mirrored x [] h = h
first_mirrored x (p ∷ ps) h = h

-- and the other way round where that way is odd
pub goes_back : (entry exit : ℕ) (old blossom back : List PartValue) (i : ℕ) → IsBlossom old → IsRotated old blossom
    → FirstPartHolds entry blossom → i < length blossom → PartHoldsAt exit blossom i → i % 2 ≡ 1 → back ≡ reversed_blossom blossom
    → IsEvenlyOriented entry exit old back
goes_back entry exit old blossom back i is turned first low holds odd e =
    let r : IsBlossom blossom = subst IsBlossom (sym turned.is) (turned_is_blossom old turned.at is) in
    subst (λ (qs : List PartValue). IsEvenlyOriented entry exit old qs) (sym e) (record {
      blossom = mirror_is_blossom blossom r;
      first = first_mirrored entry blossom first;
      last = mirror_evenly exit blossom i r.odd odd (held_at exit blossom i low holds);
      places = λ x. mirror_places x blossom ∙ ap (λ (qs : List PartValue). count x (members_in qs)) turned.is
          ∙ members_turned x turned.at old;
      sums = λ F add. mirror_bands F add blossom ∙ ap (λ (qs : List PartValue). F (dual_sets_in qs)) turned.is
          ∙ bands_turned F add turned.at old;
      firm = λ d h sy f. mirror_firm d h sy blossom (subst (λ (qs : List PartValue). Each (IsSoundPart d h) qs) (sym turned.is)
          (each-turned (IsSoundPart d h) turned.at old f));
    })

pub turned_places : (x : ℕ) (old blossom : List PartValue) → IsRotated old blossom → count x (members_in blossom) ≡ count x (members_in old)
turned_places x old blossom turned = ap (λ (qs : List PartValue). count x (members_in qs)) turned.is ∙ members_turned x turned.at old
