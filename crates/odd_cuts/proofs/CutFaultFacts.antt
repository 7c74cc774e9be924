-- Worked values of the first fault of cuts.
use Rattle.std.proofs.Common.{◌≡◌, ℕ, List, [], ◌∷◌, Some, None, refl}
use Rattle.odd_cuts.proofs.Names.{PieceValue, Cut, cuts_fault}
use Rattle.odd_cuts.specs.declared.faults.CutFault.TheVariants as fault
use Rattle.odd_cuts.proofs.WalkFaultFacts.{closed, corners, edge, star}

abbrev cut : ℕ → List ℕ → Cut
cut weight members = record { weight = weight; members = members }

-- the ends of the star's lines, each with two halves for each step: twice six
abbrev ends : List Cut
ends = cut 4 (1 ∷ []) ∷ cut 6 (2 ∷ []) ∷ cut 2 (3 ∷ []) ∷ []

pub known_cuts_fault : (cuts_fault closed 6 ends ≡ None)
    -- weights of one cut add up, and a junction named twice counts once
    × (cuts_fault closed 6 (cut 1 (1 ∷ []) ∷ cut 3 (1 ∷ 1 ∷ []) ∷ cut 6 (2 ∷ []) ∷ cut 2 (3 ∷ []) ∷ []) ≡ None)
    -- the other side of a cut does as well
    × (cuts_fault closed 6 (cut 4 (3 ∷ 0 ∷ 2 ∷ []) ∷ cut 6 (2 ∷ []) ∷ cut 2 (3 ∷ []) ∷ []) ≡ None)
    × (cuts_fault closed 6 (cut 4 (1 ∷ []) ∷ cut 6 (2 ∷ 4 ∷ 7 ∷ []) ∷ []) ≡ Some (fault.Stranger 2 5))
    × (cuts_fault closed 6 (cut 4 (1 ∷ []) ∷ cut 6 (2 ∷ 0 ∷ []) ∷ []) ≡ Some (fault.EvenCut 2 2))
    × (cuts_fault closed 6 (cut 4 [] ∷ []) ≡ Some (fault.EvenCut 1 0))
    × (cuts_fault closed 6 (cut 4 (1 ∷ 1 ∷ 3 ∷ []) ∷ []) ≡ Some (fault.EvenCut 1 2))
    -- the first cut with a fault is reported, and of one cut the stranger
    × (cuts_fault closed 6 (cut 4 (1 ∷ 2 ∷ []) ∷ cut 6 (9 ∷ []) ∷ []) ≡ Some (fault.EvenCut 1 2))
    × (cuts_fault closed 6 (cut 4 (1 ∷ 2 ∷ 8 ∷ []) ∷ []) ≡ Some (fault.Stranger 1 9))
    -- the third line is number 6 of the drawing; a load is what all cuts add up to
    × (cuts_fault closed 6 (cut 4 (1 ∷ []) ∷ cut 2 (3 ∷ []) ∷ cut 1 (0 ∷ 1 ∷ 2 ∷ []) ∷ []) ≡ Some (fault.Overload 6 3 2))
    -- the first line that carries too much, whatever the total
    × (cuts_fault closed 6 (cut 3 (3 ∷ []) ∷ cut 9 (2 ∷ []) ∷ []) ≡ Some (fault.Overload 3 9 6))
    × (cuts_fault closed 6 (cut 9 (2 ∷ []) ∷ cut 1 (1 ∷ 2 ∷ []) ∷ []) ≡ Some (fault.EvenCut 2 2))
    × (cuts_fault closed 6 (cut 4 (1 ∷ []) ∷ cut 6 (2 ∷ []) ∷ cut 1 (3 ∷ []) ∷ []) ≡ Some (fault.Total 11 12))
    × (cuts_fault closed 6 [] ≡ Some (fault.Total 0 12))
    -- between two different junctions these two are odd no more, and the walk retraces one line
    × (cuts_fault (star (Some 1) (Some 3)) 3 (cut 6 (2 ∷ []) ∷ []) ≡ None)
    × (cuts_fault (star (Some 1) (Some 3)) 3 (cut 6 (3 ∷ []) ∷ []) ≡ Some (fault.EvenCut 1 0))
    -- where a single junction is required, none changes
    × (cuts_fault (star (Some 1) None) 6 ends ≡ None)
known_cuts_fault = (refl, refl, refl, refl, refl, refl, refl, refl, refl, refl, refl, refl, refl, refl, refl, refl, refl)

-- a walk from the middle to an end has a junction of even degree that is odd
abbrev path : PieceValue
path = record {
  block = 0;
  lines = 0 ∷ 1 ∷ [];
  junctions = corners;
  edges = edge 0 1 2 ∷ edge 1 2 3 ∷ [];
  degrees = 1 ∷ 2 ∷ 1 ∷ 0 ∷ [];
  start = Some 1;
  end = Some 2;
}

pub known_even_degree : cuts_fault path 2 (cut 4 (1 ∷ 2 ∷ []) ∷ []) ≡ None
known_even_degree = refl

-- six lines of one step between four junctions: a half at each junction is a packing, two halves at one and one
-- half at two others carry three halves over the first line
abbrev pub complete : PieceValue
complete = record {
  block = 0;
  lines = 0 ∷ 1 ∷ 2 ∷ 3 ∷ 4 ∷ 5 ∷ [];
  junctions = corners;
  edges = edge 0 1 1 ∷ edge 0 2 1 ∷ edge 0 3 1 ∷ edge 1 2 1 ∷ edge 1 3 1 ∷ edge 2 3 1 ∷ [];
  degrees = 3 ∷ 3 ∷ 3 ∷ 3 ∷ [];
  start = None;
  end = None;
}

pub known_halves : (cuts_fault complete 2 (cut 1 (0 ∷ []) ∷ cut 1 (1 ∷ []) ∷ cut 1 (2 ∷ []) ∷ cut 1 (3 ∷ []) ∷ []) ≡ None)
    × (cuts_fault complete 2 (cut 2 (0 ∷ []) ∷ cut 1 (1 ∷ []) ∷ cut 1 (2 ∷ []) ∷ []) ≡ Some (fault.Overload 1 3 2))
known_halves = (refl, refl)
