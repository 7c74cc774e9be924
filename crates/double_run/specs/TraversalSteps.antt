-- The steps of a traversal.
use Rattle.std.specs.Prelude.{◌≡◌, ℕ, ◌+◌, ◌*◌, ◌<◌, Bool, true, false, not, List, [], ◌∷◌, ◌++◌, Result, Ok, Err, length, get_or, sum_by}
use Rattle.design_model.specs.declared.memory.Memory.{Memory}
use Rattle.line_graph.specs.PieceGraphs.{PieceValue, one_if}
use Rattle.line_graph.specs.Pieces.{first_line}
use Rattle.line_graph.specs.PieceWalks.{BeginsWith}
use Rattle.double_run.specs.declared.legs.DirectedLeg.{DirectedLeg}
use Rattle.double_run.specs.declared.traversal.Traversal.{Traversal}
use Rattle.double_run.specs.Traversals.{HasTraversalTables, KeepsTraversal, is_exhausted, leg_pass}

-- The number of lines that weren't passed.
abbrev pub remaining_count : List Bool → ℕ
remaining_count [] = 0
remaining_count (p ∷ passed) = one_if (not p) + remaining_count passed

-- The number that decreases with each step of a traversal.
abbrev pub traversal_rank : Traversal → ℕ
traversal_rank o =
    (2 * remaining_count o.passed.items + length o.out.items) + sum_by (λ n. n) o.ends.last.items

-- A traversal stays valid, its first pass stays, and the first line stays passed.
pub record ContinuesTraversal (p : PieceValue) (old new : Traversal) : Type 0 where
  pub keeps : KeepsTraversal p new
  pub ready : HasTraversalTables p new
  pub begins : BeginsWith (first_line p.lines) old.walk → BeginsWith (first_line p.lines) new.walk
  pub first : get_or old.passed.items 0 false ≡ true → get_or new.passed.items 0 false ≡ true

-- A step of a traversal was made.
pub record IsTraversalStep (p : PieceValue) (old new : Traversal) : Type 0 where
  pub on : ContinuesTraversal p old new
  pub less : traversal_rank new < traversal_rank old

-- A step went out along a leg.
pub record GoesOut (p : PieceValue) (old new : Traversal) (leg : DirectedLeg) : Type 0 where
  pub made : IsTraversalStep p old new
  pub walk : new.walk ≡ old.walk ++ leg_pass p.lines leg ∷ []
  pub marked : get_or new.passed.items leg.place false ≡ true

-- A traversal is finished: the stack is empty, and the junction is exhausted.
pub record IsTraversalDone (p : PieceValue) (old new : Traversal) : Type 0 where
  pub on : ContinuesTraversal p old new
  pub empty : new.out.items ≡ []
  pub spent : is_exhausted new.passed.items p.edges new.at ≡ true

-- A step was made where the result is true; the traversal is finished where it is false.
abbrev pub StepsTraversal : PieceValue → Traversal → Traversal → Result Bool Memory → Type 0
StepsTraversal p old new (Ok true) = IsTraversalStep p old new
StepsTraversal p old new (Ok false) = IsTraversalDone p old new
StepsTraversal p old new (Err e) = Unit {0}
