use Rattle.euler_tour.proofs.Names.{graph_of, HasTourTables, IsPartialTour, tour_rank}
use Rattle.euler_tour.proofs.closed_walk.tour.Given as goal

abbrev pub invariant-loop-t : goal.invariant-loop-t
invariant-loop-t l = record {
  ready : HasTourTables (graph_of l.p) l.t;
  keeps : IsPartialTour (graph_of l.p) l.copies l.t;
}

abbrev pub decreases-loop-t : goal.decreases-loop-t
decreases-loop-t l = tour_rank (graph_of l.p) l.t
