-- The states of terminals while moats are processed, from small moats to large ones. The outermost
-- moat around a terminal is recorded at its first member.
use Rattle.std.specs.Prelude.{◌≡◌, ℕ, ◌<◌, ◌≤◌, ◌⊎◌, List, [], ◌∷◌, Some, length, true, false, slice_get, slice_index, slice_set}
use Rattle.blossom_match.specs.declared.matching.Moat.{Moat}
use Rattle.cut_certificate.specs.declared.terminal_state.TerminalState.{TerminalState}
use Rattle.cut_certificate.specs.declared.terminal_state.TerminalState.TheVariants as stand
use Rattle.odd_cuts.specs.Cuts.{has_member}

-- A moat was processed: it has fewer members than the limit, or as many and a lower index.
abbrev pub IsProcessed : (members before i : ℕ) → Moat → Type 0
IsProcessed members before i m =
    (length m.members < members) ⊎ ((length m.members ≡ members) × (i < before))

-- No processed moat holds a terminal.
abbrev pub IsUncovered : List Moat → (members before t : ℕ) → Type 0
IsUncovered moats members before t = (i : ℕ) (m : Moat) → slice_get moats i ≡ Some m
    → IsProcessed members before i m → has_member m.members t ≡ false

-- The moat with index c is the largest processed moat around the terminal t, and h is another
-- member.
pub record IsOutermost (moats : List Moat) (members before t h c : ℕ) : Type 0 where
  pub moat : Moat
  pub at : slice_get moats c ≡ Some moat
  pub done : IsProcessed members before c moat
  pub around : has_member moat.members t ≡ true
  pub first : has_member moat.members h ≡ true
  pub largest : (i : ℕ) (m : Moat) → slice_get moats i ≡ Some m → IsProcessed members before i m
      → has_member m.members t ≡ true → length m.members ≤ length moat.members

-- A terminal whose outermost processed moat is recorded, at the first member of that moat.
abbrev pub IsFirst : List Moat → (members before t : ℕ) → List TerminalState → Type 0
IsFirst moats members before t stands = (h : ℕ) × (c : ℕ)
    × (slice_get stands h ≡ Some (stand.First c)) × IsOutermost moats members before t h c

-- The states of all terminals, when some moats were processed.
pub record AreTerminalStates (moats : List Moat) (places members before : ℕ)
    (stands : List TerminalState)
    : Type 0 where
  pub sized : length stands ≡ places
  pub free : (t : ℕ) → slice_get stands t ≡ Some stand.Free → IsUncovered moats members before t
  pub first : (t c : ℕ) → slice_get stands t ≡ Some (stand.First c)
      → IsOutermost moats members before t t c
  pub held : (t : ℕ) → t < places
      → (slice_get stands t ≡ Some stand.Free) ⊎ IsFirst moats members before t stands

-- The states after the given terminals are marked as inside a moat.
abbrev pub covered : List TerminalState → List ℕ → List TerminalState
covered stands [] = stands
covered stands (t ∷ rest) = covered (slice_set stands t stand.Inside) rest

-- The states after a moat with an index becomes the outermost one around its members.
abbrev pub surrounded : List TerminalState → List ℕ → ℕ → List TerminalState
surrounded stands members index =
    slice_set (covered stands members) (slice_index members 0) (stand.First index)
