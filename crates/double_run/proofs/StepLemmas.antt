-- The steps of a traversal, and the double walk at its end.
use Rattle.std.proofs.Common.{◌≡◌, ◌<◌, ℕ, ◌+◌, ◌*◌, ◌/◌, Bool, true, false, List, [], ◌∷◌, ◌++◌, length, get_or, set, slice_get, slice_index_or, replicate, Some, Vec, Global, arith, refl, sym, ap, ◌∙◌, subst}
use Rattle.double_run.proofs.Names.{and_parts, nat_tests, Edge, Pass, IsValidPiece, PieceValue, first_line, pass_end, piece_cost, pass_start, walk_cost, DirectedLeg, IsDouble, AreCursors, IsTraversal, IsTraversalInvariant, WasPassed, IsLegFrom, legs_are_below, edge_at, is_exhausted, leg_pass, leg_return, root_junction, remaining_count, cursors_stay, ends_are_below, edge_there, ends_below, SkipsEnd, HasTraversalTables, KeepsTraversal, GoesOut, IsTraversalDone, IsTraversalStep, cursors_begin, cursors_skip, skipped_less, begins_on}
use Rattle.double_run.specs.declared.traversal.Traversal.{Traversal}
use Rattle.euler_tour.specs.declared.line_ends.LineEnds.{LineEnds}
use Rattle.euler_tour.specs.LineEnds.{AreBefore, AreLast}
use Rattle.double_run.proofs.CursorLemmas.{marked_at, marked_stays, out_ready}
use Rattle.double_run.proofs.HomeLemmas.{begins_kept, home_double, home_passed}
use Rattle.double_run.proofs.MetLemmas.{found_at, cost_all}
use Rattle.double_run.proofs.OutingLemmas.{back_kept, back_less, out_kept, out_less, there_push}

-- the first line begins at the root, which is a junction
root_at : (edges : List Edge) → (slice_index_or edges 0 (record { a = 0; b = 0; cost = 0 })).a ≡ root_junction edges
root_at [] = refl
root_at (e ∷ edges) = refl

root_below : (p : PieceValue) → IsValidPiece p → root_junction p.edges < length p.junctions
root_below p kept = grind (arith, nat_tests)

-- the ends of a line are junctions, whichever way it is passed
leg_below : (n : ℕ) (edges : List Edge) (k : ℕ) (e : Edge) (back : Bool) → ends_below n edges ≡ true → slice_get edges k ≡ Some e
    → (pass_start e back < n) × (pass_end e back < n)
leg_below n edges k e back all is = grind (arith, nat_tests, ends_are_below n edges k e all is)

-- a traversal without a pass satisfies the invariant
pub begins_all : (p : PieceValue) (walk : List Pass) (out : List DirectedLeg) (passed : List Bool) (edges : List Edge) → walk ≡ []
    → out ≡ [] → passed ≡ replicate (length p.edges) false → edges ≡ p.edges
    → IsTraversalInvariant p.lines p.edges walk out passed (root_junction p.edges)
    (slice_index_or edges 0 (record { a = 0; b = 0; cost = 0 })).a
begins_all p walk out passed edges is_walk is_out is_passed are =
    rw (is_walk, is_out, is_passed, are, root_at p.edges) (begins_kept p.lines p.edges (root_junction p.edges))

-- and it has its chains
pub begins_chains : (p : PieceValue) (passed : List Bool) (last before : List ℕ) (edges : List Edge) → IsValidPiece p → edges ≡ p.edges
    → length last ≡ length p.junctions → length before ≡ 2 * length p.edges → AreBefore p.edges before
    → AreLast p.edges (2 * length p.edges) last → AreCursors p.edges (length p.junctions) (WasPassed passed) last before
    (slice_index_or edges 0 (record { a = 0; b = 0; cost = 0 })).a
begins_chains p passed last before edges kept are is_last is_before linked ends =
    rw (are, root_at p.edges)
    (cursors_begin p.edges (length p.junctions) (WasPassed passed) last before (root_junction p.edges) is_last is_before
    (root_below p kept) linked ends)

-- a step out
pub out_step : (p : PieceValue) (old : Traversal) (walk : List Pass) (out : Vec DirectedLeg Global) (passed : Vec Bool Global) (at : ℕ)
    (leg : DirectedLeg) → IsValidPiece p → KeepsTraversal p old → HasTraversalTables p old → IsLegFrom p.edges old.passed.items old.at leg
    → walk ≡ old.walk ++ leg_pass p.lines leg ∷ [] → out.items ≡ old.out.items ++ leg ∷ []
    → passed.items ≡ set old.passed.items leg.place true → at ≡ pass_end (edge_at p.edges leg.place) leg.back
    → GoesOut p old (record { walk = walk; ends = old.ends; out = out; passed = passed; at = at }) leg
out_step p old walk out passed at leg kept keeps ready leads is_walk is_out is_passed is_at = record {
  made = record {
    on = record {
      keeps = rw (is_walk, is_out, is_passed, is_next) (out_kept p.lines p.edges old.walk old.out.items old.passed.items
          (root_junction p.edges) leg leads.edge kept.rising kept.beside leads.there leads.left (subst
          (λ (n : ℕ). IsTraversalInvariant p.lines p.edges old.walk old.out.items old.passed.items (root_junction p.edges) n)
          (sym leads.starts) keeps));
      ready = rw (is_passed, is_next) (out_ready p.edges (length p.junctions) old.passed.items old.ends.last.items
          old.ends.before.items old.at leg.place (pass_end leads.edge leg.back)
          (leg_below (length p.junctions) p.edges leg.place leads.edge leg.back kept.ends leads.there).1 ready);
      begins = λ h. rw is_walk (begins_on (first_line p.lines) old.walk (leg_pass p.lines leg ∷ []) h);
      first = λ h. rw is_passed (marked_stays old.passed.items leg.place 0 h);
    };
    less = rw (is_out, is_passed) (omega (arith, out_less old.out.items old.passed.items leg leads.left));
  };
  walk = is_walk;
  marked = rw is_passed (marked_at old.passed.items leg.place leads.left);
}
  where
    is_next : at ≡ pass_end leads.edge leg.back
    is_next = is_at ∙ ap (λ (e : Edge). pass_end e leg.back) (found_at p.edges leg.place leads.edge leads.there)

-- a skipped end
pub over_step : (p : PieceValue) (old : Traversal) (ends : LineEnds) (end : ℕ) → KeepsTraversal p old → HasTraversalTables p old
    → get_or old.ends.last.items old.at 0 ≡ end + 1 → get_or old.passed.items (end / 2) false ≡ true → SkipsEnd old.at end old.ends ends
    → IsTraversalStep p old (record { walk = old.walk; ends = ends; out = old.out; passed = old.passed; at = old.at })
over_step p old ends end keeps ready here gone skips = record {
  on = record {
    keeps = keeps;
    ready = rw skips.before (cursors_skip p.edges (length p.junctions) (WasPassed old.passed.items) old.ends.last.items
        old.ends.before.items old.at ends.last.items end skips.last here gone ready);
    begins = λ h. h;
    first = λ h. h;
  };
  less = skipped_less p.edges (length p.junctions) (WasPassed old.passed.items) old.ends.last.items old.ends.before.items old.at
      (2 * remaining_count old.passed.items + length old.out.items) ends.last.items end skips.last here ready;
}

-- the edge of the last leg
leg_edge : (edges : List Edge) (out : List DirectedLeg) (leg : DirectedLeg) → legs_are_below (length edges) (out ++ leg ∷ []) ≡ true
    → (e : Edge) × (slice_get edges leg.place ≡ Some e)
leg_edge edges out leg there = grind (arith, nat_tests, edge_there, and_parts, there_push)

-- a step back
pub back_step : (p : PieceValue) (old : Traversal) (walk : List Pass) (out : Vec DirectedLeg Global) (at : ℕ) (leg : DirectedLeg)
    → IsValidPiece p → KeepsTraversal p old → HasTraversalTables p old → is_exhausted old.passed.items p.edges old.at ≡ true
    → old.out.items ≡ out.items ++ leg ∷ [] → walk ≡ old.walk ++ leg_return p.lines leg ∷ []
    → at ≡ pass_start (edge_at p.edges leg.place) leg.back
    → IsTraversalStep p old (record { walk = walk; ends = old.ends; out = out; passed = old.passed; at = at })
back_step p old walk out at leg kept keeps ready spent is_out is_walk is_at = record {
  on = record {
    keeps = rw (is_walk, is_next) (back_kept p.lines p.edges old.walk out.items old.passed.items (root_junction p.edges) old.at leg
        e.0 kept.rising kept.beside e.1 spent (rw is_out at keeps));
    ready = rw is_next (cursors_stay p.edges (length p.junctions) (WasPassed old.passed.items) old.ends.last.items old.ends.before.items
        old.at (WasPassed old.passed.items) (pass_start e.0 leg.back) (λ k was. was)
        (leg_below (length p.junctions) p.edges leg.place e.0 leg.back kept.ends e.1).0 ready);
    begins = λ h. rw is_walk (begins_on (first_line p.lines) old.walk (leg_return p.lines leg ∷ []) h);
    first = λ h. h;
  };
  less = rw is_out (omega (arith, back_less (2 * remaining_count old.passed.items) out.items leg));
}
  where
    e : (e : Edge) × (slice_get p.edges leg.place ≡ Some e)
    e = leg_edge p.edges out.items leg (rw is_out at keeps.legs)

    is_next : at ≡ pass_start e.0 leg.back
    is_next = is_at ∙ ap (λ (x : Edge). pass_start x leg.back) (found_at p.edges leg.place e.0 e.1)

-- home, with a double walk
pub finished : (p : PieceValue) (old new : Traversal) → IsValidPiece p → IsTraversal p old → IsTraversalDone p old new → IsDouble p new.walk
finished p old new kept was home =
    home_double p new.walk new.passed.items new.at kept (rw home.empty at home.on.keeps) home.spent (home.on.begins was.begins)
    (home.on.first was.first)

-- that costs twice the piece
pub finished_cost : (p : PieceValue) (old new : Traversal) → IsValidPiece p → IsTraversal p old → IsTraversalDone p old new
    → walk_cost p new.walk ≡ 2 * piece_cost p
finished_cost p old new kept was home = grind (arith, nat_tests, cost_all, home_passed)
