-- The slack rows of blossoms, computed from those of their parts.
use Rattle.std.specs.Prelude.{◌≡◌, ℕ, ◌<◌, ◌≤◌, List, [], ◌∷◌, length, map, min, nat_lt, slice_index, if◌then◌else◌}
use Rattle.std.specs.List.{range_with_len}
use Rattle.odd_sets.specs.Lists.{Each}
use Rattle.odd_sets.specs.DualSets.{OddSetValue, count}
use Rattle.odd_sets.specs.SlackRows.{lowered_slack}
use Rattle.odd_sets.specs.Blossoms.{members_in, odd_set_of}
use Rattle.odd_sets.specs.declared.table.TheConstants.{FAR}
use Rattle.odd_sets.specs.Values.{PartValue}

-- The least slack of the parts to x, less their duals; FAR where there is none.
abbrev pub least_part_slack : List PartValue → ℕ → ℕ
least_part_slack [] x = FAR
least_part_slack (p ∷ ps) x = min (lowered_slack p.odd_set.dual (slice_index p.odd_set.near x))
    (least_part_slack ps x)

-- The cell of a blossom for x; FAR at its own members.
abbrev pub blossom_slack : List PartValue → ℕ → ℕ
blossom_slack ps x = if nat_lt 0 (count x (members_in ps)) then FAR else least_part_slack ps x

-- The slack row of a blossom with n cells, computed from those of its parts.
abbrev pub blossom_slacks_of : ℕ → List PartValue → List ℕ
blossom_slacks_of n ps = map (blossom_slack ps) (range_with_len 0 n)

-- The slack row of a blossom, as long as that of its first part.
abbrev pub blossom_slacks : List PartValue → List ℕ
blossom_slacks [] = []
blossom_slacks (p ∷ ps) = blossom_slacks_of (length p.odd_set.near) (p ∷ ps)

-- The slack rows of the parts have n cells, and their members are below n.
pub record HaveSlacks (n : ℕ) (parts : List PartValue) : Type 0 where
  pub rows : Each (λ (p : PartValue). length p.odd_set.near ≡ n) parts
  pub within : (x : ℕ) → 1 ≤ count x (members_in parts) → x < n

-- The slack rows of all parts are as long as the first.
abbrev pub SlacksAgree : List PartValue → Type 0
SlacksAgree [] = ⊥
SlacksAgree (p ∷ ps) = HaveSlacks (length p.odd_set.near) (p ∷ ps)

-- The blossom of a list of parts, with dual 0.
abbrev pub blossom_set : ℕ → List PartValue → OddSetValue
blossom_set key parts = odd_set_of key (members_in parts) 0 (blossom_slacks parts) parts
