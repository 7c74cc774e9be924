-- Cuts of a graph: sets of junctions, each with a weight. Weights and loads count halves of a step.
use Rattle.std.specs.Prelude.{ℕ, ◌==◌, Bool, not, List, sum_by, if◌then◌else◌}
use Rattle.std.specs.List.{list_any}
use Rattle.odd_cuts.specs.declared.cut.Cut.{Cut}
use Rattle.line_graph.specs.declared.edge.Edge.{Edge}

-- A junction is a member of a cut.
abbrev pub has_member : List ℕ → ℕ → Bool
has_member members j = list_any (λ m. j == m) members

-- A cut holds exactly one end of an edge.
abbrev pub crosses : List ℕ → Edge → Bool
crosses members e = if has_member members e.a then not (has_member members e.b) else has_member
    members e.b

-- The load on an edge: the weights of the cuts that hold exactly one of its ends, added up.
abbrev pub load_on : List Cut → Edge → ℕ
load_on cuts e = sum_by (λ (cut : Cut). if crosses cut.members e then cut.weight else 0) cuts

-- The total weight of all cuts.
abbrev pub total_weight : List Cut → ℕ
total_weight cuts = sum_by (λ (cut : Cut). cut.weight) cuts
