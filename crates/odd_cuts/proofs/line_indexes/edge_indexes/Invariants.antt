use Rattle.std.proofs.Common.{◌≡◌, ℕ, drop, length, get_or, slice_get, true}
use Rattle.odd_cuts.proofs.Names.{MAX_LINES, edge_of, is_strictly_increasing}
use Rattle.odd_cuts.proofs.PlaceLemmas.{earlier}
use Rattle.odd_cuts.proofs.line_indexes.edge_indexes.Given as goal

-- the edge of a line is among the remaining ones, or at its index
abbrev pub invariant-loop-at : goal.invariant-loop-at
invariant-loop-at l = record {
  sized : length l.places ≡ MAX_LINES;
  rising : is_strictly_increasing (drop l.at l.lines) ≡ true;
  places : (line : ℕ) → earlier (edge_of (drop l.at l.lines) (drop l.at l.p.edges) line)
      (slice_get l.p.edges (get_or l.places line MAX_LINES))
      ≡ edge_of l.lines l.p.edges line;
}
