use Rattle.line_graph.proofs.DrawnWalkLemmas.{given_numbers}
use Rattle.line_graph.proofs.walk_theorems.given_points_are_junctions.Goals as goal

pub returns : goal.returns
returns c = given_numbers
