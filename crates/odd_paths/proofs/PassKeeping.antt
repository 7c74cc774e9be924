-- The invariants that relaxation preserves in a table of lanes.
use Rattle.std.proofs.Common.{◌≡◌, ℕ, ◌+◌, ◌<◌, ◌≤◌, Bool, false, List, Some, length, sym, subst, arith}
use Rattle.std.specs.Prelude.{slice_get}
use Rattle.odd_paths.proofs.Names.{nat_tests, Edge, one_if, LANES, IsCapped, KeepsCosts, lane_column, weight, EndsAreBelow, IsFullyRelaxed, AreWalkCosts, changes, relaxed, swept}
use Rattle.odd_paths.proofs.PlaceLemmas.{below_at}
use Rattle.odd_paths.proofs.RowLemmas.{settled_new}
use Rattle.odd_paths.proofs.SoundLemmas.{relaxed_sound, swept_sound}

-- one pass after another
pub keeps_on : (es : List Edge) (old between new : List (List ℕ)) → KeepsCosts es old between → KeepsCosts es between new
    → KeepsCosts es old new
keeps_on es old between new one two = grind (arith, nat_tests)

-- one edge
pub relax_keeps : (es : List Edge) (k : ℕ) (e : Edge) (old new : List (List ℕ)) (reported : Bool) → EndsAreBelow (length old) es
    → slice_get es k ≡ Some e → length new ≡ length old → IsCapped new
    → ((i : ℕ) → i < LANES → lane_column i new ≡ relaxed (lane_column i old) e) → weight new + one_if reported ≤ weight old
    → KeepsCosts es old new
relax_keeps es k e old new reported ends got size capped value less = record {
  size = size;
  capped = capped;
  sound = λ i from there s. (
      let both = below_at (length old) es k e ends got in
      subst (λ (row : List ℕ). AreWalkCosts es (length old) from row) (sym (value i there))
      (relaxed_sound es (length old) from k e (lane_column i old) s got both.0 both.1));
  most = omega (arith, less);
}

-- all edges in their order
pub sweep_keeps : (es : List Edge) (old new : List (List ℕ)) (reported : Bool) → EndsAreBelow (length old) es → length new ≡ length old
    → IsCapped new → ((i : ℕ) → i < LANES → lane_column i new ≡ swept (lane_column i old) es) → weight new + one_if reported ≤ weight old
    → KeepsCosts es old new
sweep_keeps es old new reported ends size capped value less = record {
  size = size;
  capped = capped;
  sound = λ i from there s. (
      subst (λ (row : List ℕ). AreWalkCosts es (length old) from row) (sym (value i there))
      (swept_sound es (length old) from (lane_column i old) ends s));
  most = omega (arith, less);
}

pub sweep_settles : (es : List Edge) (old new : List (List ℕ)) → ((i : ℕ) → i < LANES → lane_column i new ≡ swept (lane_column i old) es)
    → ((i : ℕ) → i < LANES → changes (lane_column i old) es ≡ false) → (i : ℕ) → i < LANES → IsFullyRelaxed (lane_column i new) es
sweep_settles es old new value same i there = settled_new es (lane_column i old) (lane_column i new) (value i there) (same i there)
