-- Worked lists of sets.
use Rattle.std.proofs.Common.{◌≡◌, ℕ, List, [], ◌∷◌, map, refl}
use Rattle.odd_sets.proofs.Names.{DualSet, OddSetValue, dual_sets, height, dual_load, total, key_count, match_members, members_in, odd_set_of, members_at, slacks_at, parts_at, set_in, Slots, all_dual_sets, outer_with_both, inner_dual_sets, inner_members, outer_members, BranchValue, MatchValue, PartValue, TightEdge, BlossomPart}

abbrev pub link : ℕ → ℕ → TightEdge
link from to = record { from = from; to = to }

-- one vertex under its own number, with a dual in halves of a step
abbrev pub place : ℕ → ℕ → OddSetValue
place x dual = odd_set_of x (x ∷ []) dual (x ∷ []) []

abbrev pub part : OddSetValue → ℕ → ℕ → PartValue
part s from to = record { odd_set = s; next = link from to }

-- the places 1, 2 and 3 in a blossom under the key 9
abbrev pub blossom : OddSetValue
blossom = odd_set_of 9 (1 ∷ 2 ∷ 3 ∷ []) 7 (0 ∷ []) (part (place 1 4) 1 2 ∷ part (place 2 5) 2 3 ∷ part (place 3 6) 3 1 ∷ [])

-- the blossom before place 4, and place 5 before place 6
abbrev pub tree : List BranchValue
tree = record { up = link 0 1; inner = blossom; pair = link 3 4; outer = place 4 1 }
    ∷ record { up = link 4 5; inner = place 5 1; pair = link 5 6; outer = place 6 1 } ∷ []

abbrev pub matches : List MatchValue
matches = record { first = place 4 1; second = blossom; link = link 4 1 }
    ∷ record { first = place 5 1; second = place 6 1; link = link 5 6 } ∷ []

abbrev keys : List DualSet → List ℕ
keys bs = map (λ (b : DualSet). b.key) bs

pub known_match_members : (match_members matches ≡ 4 ∷ 1 ∷ 2 ∷ 3 ∷ 5 ∷ 6 ∷ [])
    × (outer_members (0 ∷ []) tree ≡ 4 ∷ 6 ∷ 0 ∷ [])
    × (inner_members tree ≡ 1 ∷ 2 ∷ 3 ∷ 5 ∷ [])
known_match_members = (refl, refl, refl)

pub known_keys : (keys (inner_dual_sets tree) ≡ 9 ∷ 1 ∷ 2 ∷ 3 ∷ 5 ∷ [])
    -- the root, the tree and the matches, in each the sets inside the blossom as well
    × (keys (all_dual_sets (place 0 1) tree matches)
    ≡ 0 ∷ 9 ∷ 1 ∷ 2 ∷ 3 ∷ 4 ∷ 5 ∷ 6 ∷ 4 ∷ 9 ∷ 1 ∷ 2 ∷ 3 ∷ 5 ∷ 6 ∷ [])
known_keys = (refl, refl)

-- the outer set of the second branch alone holds place 6, and no outer set holds places 4 and 6
pub known_outer_with_both : (outer_with_both 6 6 tree ≡ 1)
    × (outer_with_both 4 6 tree ≡ 0)
known_outer_with_both = (refl, refl)

pub known_members_in : members_in (part (place 4 1) 4 1 ∷ part blossom 1 4 ∷ []) ≡ 4 ∷ 1 ∷ 2 ∷ 3 ∷ []
known_members_in = refl

-- what the blossom's sets add up to
pub known_uses : (key_count 2 (dual_sets blossom) ≡ 1)
    × (height 2 (dual_sets blossom) ≡ 12)
    × (total (dual_sets blossom) ≡ 22)
    × (dual_load 1 3 (dual_sets blossom) ≡ 10)
known_uses = (refl, refl, refl, refl)

-- a place of dual 2 under the key 7 is alone in a set of dual 3 under the key 8, that alone in the set of key 9
abbrev inside : ℕ → ℕ → BlossomPart
inside key dual = record { handle = record { key = key; dual = dual }; next = link 1 2 }

pub known_set : (sets : Slots)
    → members_at sets 9 ≡ 1 ∷ 2 ∷ [] → slacks_at sets 9 ≡ 6 ∷ [] → parts_at sets 9 ≡ inside 8 3 ∷ []
    → members_at sets 8 ≡ 1 ∷ [] → slacks_at sets 8 ≡ 5 ∷ [] → parts_at sets 8 ≡ inside 7 2 ∷ []
    → members_at sets 7 ≡ 1 ∷ [] → slacks_at sets 7 ≡ 4 ∷ [] → parts_at sets 7 ≡ [] →
    set_in sets (record { key = 9; dual = 1 }) ≡ record {
      key = 9;
      members = 1 ∷ 2 ∷ [];
      dual = 1;
      near = 6 ∷ [];
      below = record { key = 8; members = 1 ∷ []; dual = 3 } ∷ record { key = 7; members = 1 ∷ []; dual = 2 } ∷ [];
      blossom_edges = record { from = 1; to = 2; price = 5 } ∷ record { from = 1; to = 2; price = 2 } ∷ [];
      rows = record { members = 1 ∷ []; below = record { key = 7; members = 1 ∷ []; dual = 2 } ∷ []; cells = 5 ∷ [] }
          ∷ record { members = 1 ∷ []; below = []; cells = 4 ∷ [] } ∷ [];
    }
known_set sets a b c d e f g h i = rw (a, b, c, d, e, f, g, h, i) refl
