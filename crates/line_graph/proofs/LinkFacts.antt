-- Links from lines to the first line at a spot: what a step that adds one requires, and what links are in the end.
use Rattle.std.proofs.Common.{◌≡◌, ℕ, ◌<◌, ◌⊎◌, List, [], ◌∷◌, Contains, Option, Some, None, length, get_or, refl, arith, ⊎_elim, subst}
use Rattle.line_graph.proofs.Names.{All-cons, All-nil, AddsLink, AreConnected, AreLinkedBelow, AreLinks, DrawingValue, IsLineEnd, LineLink, LinesTouch, Spot}
use Rattle.line_graph.proofs.WalkFacts.{at, stroke}

abbrev link : ℕ → ℕ → LineLink
link line first = record { line = line; first = first }

same_number : (o : Option ℕ) (a b : ℕ) → o ≡ Some a → o ≡ Some b → a ≡ b
same_number o a b one other = cc

none_some : (n : ℕ) → ◌≡◌ {A = Option ℕ} None (Some n) → ⊥
none_some n is = cc

-- a line's end is the first point or the last of a line that is drawn, in its block
pub known_end : (spot : Spot) → IsLineEnd stroke 0 spot
    → (spot.block ≡ 0) × ((Some (at 0 0) ≡ Some spot.at) ⊎ (Some (at 40 0) ≡ Some spot.at))
known_end spot is = (omega (arith, is.block), is.at_end)

pub known_no_end : (spot : Spot) → IsLineEnd stroke 1 spot → ⊥
known_no_end spot is = far is.there
  where
    far : 1 < 1 → ⊥
    far less = omega (arith, less)

-- the first line at a spot is linked to itself
pub known_first : (spot other : Spot) (new : Spot → Option ℕ) (after : List LineLink) → AddsLink spot 7 (λ s. None) new [] after
    → (new spot ≡ Some 7) × (after ≡ link 7 7 ∷ []) × ((n : ℕ) → new other ≡ Some n → other ≡ spot)
known_first spot other new after adds = let first = seven adds.first adds.takes.is in (
  subst (λ (n : ℕ). new spot ≡ Some n) first adds.takes.is,
  subst (λ (n : ℕ). after ≡ link 7 n ∷ []) first adds.added,
  λ n is. ⊎_elim (λ before. absurd (none_some n before)) (λ here. here.0) (adds.takes.only other n is),
)
  where
    seven : (n : ℕ) → new spot ≡ Some n → n ≡ 7
    seven n is = ⊎_elim (λ before. absurd (none_some n before)) (λ here. here.1) (adds.takes.only spot n is)

-- a later one is linked to the line that is first there, and no entry changes
pub known_later : (spot other : Spot) (new : Spot → Option ℕ) (after : List LineLink)
    → AddsLink spot 7 (λ s. Some 3) new (link 1 0 ∷ []) after
    → (new other ≡ Some 3) × (after ≡ link 1 0 ∷ link 7 3 ∷ [])
known_later spot other new after adds = (
  adds.takes.keeps other 3 refl,
  subst (λ (n : ℕ). after ≡ link 1 0 ∷ link 7 n ∷ [])
      (same_number (new spot) adds.first 3 adds.takes.is (adds.takes.keeps spot 3 refl)) adds.added,
)

-- the lines so far are linked at their ends, each entry is a line with an end there, and linked lines have an end in common
pub known_below : (d : DrawingValue) (firsts : Spot → Option ℕ) (spot : Spot) → AreLinkedBelow d 2 firsts (link 1 0 ∷ [])
    → (firsts spot ≡ Some 5 → IsLineEnd d 5 spot)
    × (IsLineEnd d 1 spot → (first : ℕ) × (firsts spot ≡ Some first) × Contains (link 1 0 ∷ []) (link 1 first))
    × ((s : Spot) × IsLineEnd d 1 s × IsLineEnd d 0 s)
known_below d firsts spot are = let shares = are.shared 0 (link 0 0) (omega arith) in (
  are.sound spot 5,
  λ end. let met = are.met 1 spot (omega arith) end in (met.first, met.is, met.linked),
  (shares.spot, shares.one, shares.two),
)

-- links of a drawing: of its lines, between connected ones, and lines that touch have equal labels where linked ones do
pub known_links : (d : DrawingValue) (labels : List ℕ) → AreLinks d (link 2 0 ∷ [])
    → (2 < length d.lines) × (0 < length d.lines) × AreConnected d 2 0
    × (get_or labels 2 0 ≡ get_or labels 0 0 → LinesTouch d 4 6 → get_or labels 4 0 ≡ get_or labels 6 0)
known_links d labels are = let within = are.within 0 (link 0 0) (omega arith) in (
  within.0,
  within.1,
  are.joined 0 (link 0 0) (omega arith),
  λ same touch. are.met labels
      (All-cons (λ (l : LineLink). get_or labels l.line 0 ≡ get_or labels l.first 0) (link 2 0) [] same
      (All-nil (λ (l : LineLink). get_or labels l.line 0 ≡ get_or labels l.first 0))) 4 6 touch,
)
