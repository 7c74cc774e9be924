-- Rows of a piece and moats over its odd junctions are an input of lifting whose cuts are a packing.
use Rattle.std.proofs.Common.{◌≡◌, ℕ, ◌+◌, ◌*◌, ◌%◌, ◌<◌, ◌≤◌, List, [], ◌∷◌, length, Vec, Global, All, Bool, drop, true, false, not, ◌&&◌, get_or, Some, slice_get, arith, refl, sym, ◌∙◌, ap, subst}
use Rattle.cut_certificate.proofs.Names.{nat_tests, All-weaker, slice_get_read, if◌then◌else◌, count_by, Moat, IsOddMoat, moat_load, Edge, PieceValue, RowsValue, cost_at, length_in, terminal_of, Cut, has_member, load_on, LiftInput, lift_input, width_sum, AreLiftableMoats, IsLifted, AddsCuts, AreCutsTo, IsPlainCut, HasRowsForMoats, AreDistancesFrom, is_sum_by, slice_get-get_or, crosses_moat, MAX_LINES, IsOddCut, AreAllMoatDistances, odd_junctions}
use Rattle.line_graph.specs.ValidPieces.{IsValidPiece}
use Rattle.odd_paths.specs.CostTheorems.{AreDistances}
use Rattle.line_graph.specs.PieceGraphs.{is_odd_junction}
use Rattle.std.proofs.lemmas.List.FromFn.{length-range_with_len}
use Rattle.std.proofs.lemmas.List.Sums.{count_by-le-length, length-filter}
use Rattle.std.specs.List.{range_with_len}
use Rattle.cut_certificate.proofs.ClimbLemmas.{carries}
use Rattle.cut_certificate.proofs.InnerLevelLemmas.{few_inners}
use Rattle.cut_certificate.proofs.MoatCountLemmas.{few_moats}
use Rattle.cut_certificate.proofs.HeldLemmas.{as_many}
use Rattle.cut_certificate.proofs.LaminarLemmas.{below, differ, held_below, laminar, of_all}
use Rattle.cut_certificate.proofs.LiftLemmas.{AreCutsOf, AreLifted, IsMade, all_lifted, as_moat}
use Rattle.cut_certificate.proofs.MoatLemmas.{Fits, parts}
use Rattle.line_graph.proofs.CallerLemmas.{ends_at}

-- the input of lifting for a piece
abbrev pub piece_site : PieceValue → RowsValue → List Moat → LiftInput
piece_site p rows moats = lift_input rows (length p.junctions) moats

two_parts : (a b : Bool) (w x y z : ℕ) → x + y ≡ z
    → ((if a && not b then w else 0) + x) + ((if b && not a then w else 0) + y) ≡ (if (if a then not b else b) then w else 0) + z
two_parts true true w x y z h = omega arith
two_parts true false w x y z h = omega arith
two_parts false true w x y z h = omega arith
two_parts false false w x y z h = omega arith

both_parts : (t u : ℕ) (ms : List Moat) → width_sum (parts t u) ms + width_sum (parts u t) ms ≡ width_sum (crosses_moat t u) ms
both_parts t u [] = refl
both_parts t u (m ∷ ms) = two_parts (has_member m.members t) (has_member m.members u) m.width _ _ _ (both_parts t u ms)

-- the widths between two terminals, from both sides
between_is : (t u : ℕ) (ms : List Moat) → width_sum (parts t u) ms + width_sum (parts u t) ms ≡ moat_load ms t u
between_is t u ms =
    both_parts t u ms
    ∙ is_sum_by (width_sum (crosses_moat t u)) (λ (m : Moat). if crosses_moat t u m then m.width else 0) refl (λ x xs. refl) ms

terminal_below : (p : PieceValue) (rows : RowsValue) (moats : List Moat) → AreLiftableMoats p rows moats → (u : ℕ)
    → u < length rows.terminals → terminal_of rows u < length p.junctions
terminal_below p rows moats are u lt = are.rows_are.terminals.there u 0 lt

-- such moats fit
pub fits : (p : PieceValue) (rows : RowsValue) (moats : List Moat) → AreDistances p → AreLiftableMoats p rows moats
    → Fits (piece_site p rows moats)
fits p rows moats law are = record {
  laminar = laminar (length rows.terminals) moats are.odd are.laminar;
  placed = λ m is t h. held_below (length rows.terminals) t m.members
      (below (length rows.terminals) m.members (of_all (IsOddMoat (length rows.terminals)) moats m are.odd is).below) h;
  bounded = λ t u in_t in_u. omega (arith, between_is t u moats, are.loads t u in_t in_u);
  home = λ t lt. law.home (terminal_of rows t) (cost_at rows t (terminal_of rows t))
      (are.rows_are.least t (terminal_of rows t) lt (terminal_below p rows moats are t lt));
  joined = λ t u j in_t in_u in_j. law.meeting (terminal_of rows t) j (terminal_of rows u) _ _ _
      (are.rows_are.least t (terminal_of rows u) in_t (terminal_below p rows moats are u in_u))
      (are.rows_are.least t j in_t in_j) (are.rows_are.least u j in_u in_j);
}

-- the edge carries no more than two halves for each of its steps
abbrev Carries : List Cut → Edge → Type 0
Carries cuts e = load_on cuts e ≤ 2 * e.cost

loads : (p : PieceValue) (rows : RowsValue) (moats : List Moat) (cuts : List Cut) → IsValidPiece p → AreDistances p
    → AreLiftableMoats p rows moats → AreLifted (piece_site p rows moats) [] cuts → All (Carries cuts) p.edges
loads p rows moats cuts kept law are l k d lt = carried (get_or p.edges k d) (slice_get-get_or p.edges k d lt)
    (ends_at (length p.junctions) p.edges k d kept.ends lt)
  where
    carried : (e : Edge) → slice_get p.edges k ≡ Some e → (e.a < length p.junctions) × (e.b < length p.junctions) → Carries cuts e
    carried e at ends =
        let most = carries (piece_site p rows moats) (fits p rows moats law are) e.a e.b e.cost ends.0 ends.1
        (grind (arith, nat_tests, ends.0, ends.1)) in
        omega (arith, l.loads e ends.0 ends.1, most)

odd_cut : (p : PieceValue) (rows : RowsValue) (moats : List Moat) → AreDistances p → AreLiftableMoats p rows moats → (c : Cut)
    → IsMade (piece_site p rows moats) c → IsOddCut p c
odd_cut p rows moats law are c made =
    let moat = of_all (IsOddMoat (length rows.terminals)) moats made.moat are.odd made.is in
    let many : count_by (has_member c.members) rows.terminals ≡ length made.moat.members
    = as_many c.members made.moat.members rows.terminals
    (λ u lt. as_moat (piece_site p rows moats) (fits p rows moats law are) c made u lt (terminal_below p rows moats are u lt))
    (differ made.moat.members moat.different) (below (length rows.terminals) made.moat.members moat.below) in
    record {
      there = made.there;
      odd = ap (λ (ts : List ℕ). count_by (has_member c.members) ts % 2) (sym are.terminals) ∙ ap (λ (k : ℕ). k % 2) many ∙ moat.odd;
    }

some_of : (n : ℕ) → n % 2 ≡ 1 → 1 ≤ n
some_of n odd = omega (arith, odd)

-- there are no more terminals than junctions
few_terminals : (p : PieceValue) (rows : RowsValue) → rows.terminals ≡ odd_junctions p → length rows.terminals ≤ length p.junctions
few_terminals p rows are = omega (
  arith,
  ap (λ (ts : List ℕ). length ts) are,
  length-filter (is_odd_junction p) (range_with_len 0 (length p.junctions)),
  count_by-le-length (is_odd_junction p) (range_with_len 0 (length p.junctions)),
  length-range_with_len 0 (length p.junctions),
)

-- there are at most two cuts for each terminal, and one for each junction
few_cuts : (p : PieceValue) (rows : RowsValue) (moats : List Moat) (cuts : List Cut) → AreDistances p → AreLiftableMoats p rows moats
    → AreLifted (piece_site p rows moats) [] cuts → length cuts ≤ 3 * length p.junctions
few_cuts p rows moats cuts law are l =
    let g = piece_site p rows moats in
    let f = fits p rows moats law are in
    omega (
      arith,
      l.few,
      few_inners g f,
      few_moats g f (λ m is. let moat = of_all (IsOddMoat (length rows.terminals)) moats m are.odd is in
          (differ m.members moat.different, some_of (length m.members) moat.odd)),
      few_terminals p rows are.terminals,
    )

-- the cuts of all moats are what lifting is to bring out
lifted : (p : PieceValue) (rows : RowsValue) (moats : List Moat) (cuts : List Cut) → IsValidPiece p → AreDistances p
    → AreLiftableMoats p rows moats → AreLifted (piece_site p rows moats) [] cuts → IsLifted p moats cuts
lifted p rows moats cuts kept law are l = record {
  packing = record {
    odd = All-weaker (IsMade (piece_site p rows moats)) (IsOddCut p) (λ c made. odd_cut p rows moats law are c made) cuts l.each;
    loads = loads p rows moats cuts kept law are l;
  };
  total = omega (arith, l.total);
  few = few_cuts p rows moats cuts law are l;
  plain = All-weaker (IsMade (piece_site p rows moats)) IsPlainCut (λ c made. record { heavy = made.heavy; rising = made.rising }) cuts
      l.each;
}

reaching : (p : PieceValue) (rows : RowsValue) (moats : List Moat) → IsValidPiece p → AreLiftableMoats p rows moats
    → HasRowsForMoats rows (length p.junctions) moats
reaching p rows moats kept are = record {
  rows_sized = are.rows_are.sized;
  wide = λ t lt. ap length_in (slice_get-get_or rows.table t [] (omega (arith, are.rows_are.sized)))
      ∙ are.rows_are.wide t [] (omega (arith, are.rows_are.sized));
  low = λ t j in_t in_j. omega (arith, are.rows_are.most t j in_t in_j, kept.cost_few);
  odd = are.odd;
  laminar = are.laminar;
}

-- the distances can be computed
pub can_reach : (p : PieceValue) (rows : RowsValue) (moats seen : List Moat) (size : ℕ) → IsValidPiece p → AreLiftableMoats p rows moats
    → seen ≡ moats → size ≡ length p.junctions → HasRowsForMoats rows size seen
can_reach p rows moats seen size kept are same sized = grind (arith, nat_tests, reaching p rows moats kept are)

-- the distances at an index, as the code reads them
pub reach_at : (p : PieceValue) (rows : RowsValue) (moats : List Moat) (size index : ℕ) (s : Moat) (reaches : List (Vec ℕ Global))
    (v : Vec ℕ Global) (read : List ℕ) → size ≡ length p.junctions → AreAllMoatDistances (lift_input rows size moats) reaches
    → index < length moats → s ≡ get_or moats index s → v ≡ get_or reaches index v → read ≡ v.items
    → AreDistancesFrom (piece_site p rows moats) s read
reach_at p rows moats size index s reaches v read sized all lt at is same =
    subst (λ (n : ℕ). AreDistancesFrom (lift_input rows n moats) s read) sized
    (subst (AreDistancesFrom (lift_input rows size moats) s) (sym same)
    (all.1 index s v (slice_get_read moats (length moats) index s refl lt at)
    (slice_get_read reaches (length reaches) index v refl (omega (arith, all.0)) is)))

-- it has no more numbers than a piece has junctions
pub reach_few : (p : PieceValue) (rows : RowsValue) (moats : List Moat) (s : Moat) (read : List ℕ) → IsValidPiece p
    → AreDistancesFrom (piece_site p rows moats) s read → length read ≤ MAX_LINES + 1
reach_few p rows moats s read kept is = omega (arith, is.sized, kept.junctions_few, kept.few)

-- and makes the cuts of its moat
pub cuts_of : (g : LiftInput) (s : Moat) (read : List ℕ) (width : ℕ) (old new : List Cut) → AreDistancesFrom g s read → width ≡ s.width
    → AddsCuts (AreCutsTo read width) old new → AddsCuts (AreCutsOf g s) old new
cuts_of g s read width old new is wide adds = grind (arith, nat_tests)

-- after the last moat
pub lifted_by : (p : PieceValue) (rows : RowsValue) (moats seen : List Moat) (i : ℕ) (cuts : List Cut) → seen ≡ moats → IsValidPiece p
    → AreDistances p → AreLiftableMoats p rows moats → length seen ≤ i → AreLifted (piece_site p rows seen) (drop i seen) cuts
    → IsLifted p moats cuts
lifted_by p rows moats seen i cuts same kept law are le l =
    lifted p rows moats cuts kept law are
    (subst (λ (ms : List Moat). AreLifted (piece_site p rows ms) [] cuts) same (all_lifted (piece_site p rows seen) i cuts le l))
