-- What sets in a slab are: under each key one vertex or a blossom, on all levels, and what takes in another one.
use Rattle.std.proofs.Common.{◌≡◌, ℕ, suc, ◌≤◌, List, [], ◌∷◌, None, Some, length, refl, arith, subst}
use Rattle.odd_sets.proofs.Names.{AreSets, AreSlacksOf, BlossomPart, ContainsKey, DualSet, Each, Handle, InsertsSet, IsBlossom, IsOddSet, IsSet, IsSetToDepth, IsVertexOrBlossom, PartValue, Slots, blossom_slacks, get, members_at, odd_set_of, parts_at, parts_in, set_in, slacks_at}
use Rattle.odd_sets.specs.Slots.{core_in}
use Rattle.odd_sets.specs.SlotProps.{set-prop}
use Rattle.odd_sets.proofs.SetFacts.{part, place}

none_there : 1 ≤ 0 → ⊥
none_there is = omega (arith, is)

even_odd : ◌≡◌ {A = ℕ} 0 1 → ⊥
even_odd is = omega (arith, is)

-- two members are no odd set, three members alone have sets inside, and these hold no other vertex
pub known_even_set : IsOddSet (odd_set_of 9 (1 ∷ 2 ∷ []) 0 [] []) → ⊥
known_even_set is = even_odd is.odd

pub known_bare_set : IsOddSet (odd_set_of 9 (1 ∷ 2 ∷ 3 ∷ []) 0 [] []) → ⊥
known_bare_set is = other (is.single refl)
  where
    other : ◌≡◌ {A = ℕ} 3 1 → ⊥
    other same = omega (arith, same)

pub known_foreign_set : IsOddSet (odd_set_of 9 (1 ∷ 2 ∷ 3 ∷ []) 0 [] (part (place 7 0) 7 1 ∷ [])) → ⊥
known_foreign_set is = other (is.covered 7 refl).0
  where
    other : ◌≡◌ {A = ℕ} 1 0 → ⊥
    other same = omega (arith, same)

-- the parts of a blossom: three places in a cycle, where a fourth, only one, an edge elsewhere or an even set is refused
abbrev one : PartValue
one = part (place 1 4) 1 2

abbrev two : PartValue
two = part (place 2 5) 2 3

pub known_four_parts : IsBlossom (one ∷ two ∷ part (place 3 6) 3 4 ∷ part (place 4 6) 4 1 ∷ []) → ⊥
known_four_parts is = even_odd is.odd

pub known_one_part : IsBlossom (part (place 1 4) 1 1 ∷ []) → ⊥
known_one_part is = few is.three
  where
    few : 3 ≤ 1 → ⊥
    few less = omega (arith, less)

pub known_led_away : IsBlossom (one ∷ two ∷ part (place 3 6) 3 2 ∷ []) → ⊥
known_led_away is = even_odd is.linked.1.1.0.1

pub known_even_part : IsBlossom (one ∷ two ∷ part (odd_set_of 3 (3 ∷ 4 ∷ []) 0 [] []) 3 1 ∷ []) → ⊥
known_even_part is = even_odd is.kept.1.1.0.odd

-- a set without parts is one vertex
pub known_vertex : (sets : Slots) → IsSet sets 9 → parts_at sets 9 ≡ [] → ContainsKey sets 9 × (length (members_at sets 9) ≡ 1)
known_vertex sets is none = let deep = is.to (suc (length (members_at sets 9))) (omega arith) in
    (deep.0, subst (λ (parts : List BlossomPart). IsVertexOrBlossom (members_at sets 9) (parts_in sets parts)) none deep.1)

-- a set with parts has their members and slacks, and each part is a set one level below
pub known_parts : (sets : Slots) (p q r : BlossomPart) → IsSet sets 9 → parts_at sets 9 ≡ p ∷ q ∷ r ∷ []
    → (length (members_at sets 9) ≡ 3 → IsSetToDepth 3 sets r.handle.key) × IsBlossom (parts_in sets (p ∷ q ∷ r ∷ []))
    × (slacks_at sets 9 ≡ blossom_slacks (parts_in sets (p ∷ q ∷ r ∷ [])))
known_parts sets p q r is are = let deep = is.to (suc (length (members_at sets 9))) (omega arith) in (
  λ three. let below = is.to 4 (omega (arith, three)) in
      (subst (λ (parts : List BlossomPart). Each (λ (p : BlossomPart). IsSetToDepth 3 sets p.handle.key) parts) are below.2).1.1.0,
  (subst (λ (parts : List BlossomPart). IsVertexOrBlossom (members_at sets 9) (parts_in sets parts)) are deep.1).1,
  subst (λ (parts : List BlossomPart). AreSlacksOf (slacks_at sets 9) (parts_in sets parts)) are deep.3,
)

-- a key is used once, and has a set
abbrev under : ℕ → DualSet
under key = record { key = key; members = key ∷ []; dual = 4 }

pub known_key_twice : (sets : Slots) → AreSets sets (under 3 ∷ under 5 ∷ under 3 ∷ []) → ⊥
known_key_twice sets are = twice (are.once 3)
  where
    twice : 2 ≤ 1 → ⊥
    twice is = omega (arith, is)

pub known_key : (sets : Slots) → AreSets sets (under 3 ∷ under 5 ∷ []) → IsSet sets 3 × IsSet sets 5
known_key sets are = (are.each 3 (omega arith), are.each 5 (omega arith))

-- another set comes under a free key, and all others stay
pub known_inserted : (old new : Slots) → InsertsSet old new 7 → (get old 7 ≡ None) × (get new 8 ≡ get old 8) × IsSet new 7
known_inserted old new is = (is.fresh, is.others 8 (λ same. omega (arith, same)), is.set)

-- the set of a handle, if there is one, and that it is a set in one way only
pub known_core : (sets : Slots) (h : Handle) → (core_in sets None ≡ None) × (core_in sets (Some h) ≡ Some (set_in sets h))
known_core sets h = (refl, refl)

pub known_same_set : (sets : Slots) (key : ℕ) (a b : IsSet sets key) → a ≡ b
known_same_set sets key a b = set-prop sets key a b
