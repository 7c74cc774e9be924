-- Certificates and double runs that aren't right, each for one reason, and what a route means.
use Rattle.std.proofs.Common.{◌≡◌, ℕ, ◌+◌, ◌*◌, ◌≤◌, pos, true, false, List, [], ◌∷◌, All, None, Option, length, refl, arith, ap, sym, true≢false}
use Rattle.route_core.proofs.Names.{AllZip, Edge, Pass, DrawingValue, PieceValue, given_start, piece_graph, ArePieces, BeginsWith, is_fitting_walk, piece_cost, walk_cost, AreWritable, runs_of, sewn_design, PieceCert, Cut, HasCanonicalText, walks_of, Routed, IsDoubled, CertifiesLeastWalk, IsLeastPieceRoute, first_line, IsPacking, IsDouble}
use Rattle.design_model.specs.declared.point.Point.{Point}
use Rattle.line_graph.specs.Walks.{needles_of_walk}
use Rattle.odd_cuts.specs.Cuts.{total_weight}
use Rattle.route_core.specs.SewnDrawings.{IsRoute, IsSewnOver}
use Rattle.route_verdict.specs.declared.sewing_ways.Sewing.TheVariants as ways

abbrev corner : ℕ → ℕ → Point
corner x y = record { x = pos x; y = pos y }

abbrev edge : (a b cost : ℕ) → Edge
edge a b cost = record { a = a; b = b; cost = cost }

-- the lines 1, 3 and 6 from one junction, the last of them towards it
abbrev star : Option ℕ → PieceValue
star start = record {
  block = 0;
  lines = 0 ∷ 2 ∷ 5 ∷ [];
  junctions = corner 0 0 ∷ corner 30 0 ∷ corner 30 30 ∷ corner 0 30 ∷ [];
  edges = edge 0 1 2 ∷ edge 0 2 3 ∷ edge 3 0 1 ∷ [];
  degrees = 3 ∷ 1 ∷ 1 ∷ 1 ∷ [];
  start = start;
  end = None;
}

abbrev forth : ℕ → Pass
forth line = record { line = line; back = false }

abbrev back : ℕ → Pass
back line = record { line = line; back = true }

abbrev cut : ℕ → List ℕ → Cut
cut weight members = record { weight = weight; members = members }

abbrev cert : ℕ → List Pass → List Cut → PieceCert
cert retraced walk cuts = record { retraced = retraced; walk = walk; cuts = cuts }

-- forth and back on each line, and the packing that proves it least
abbrev all_twice : List Pass
all_twice = forth 0 ∷ back 0 ∷ forth 2 ∷ back 2 ∷ back 5 ∷ forth 5 ∷ []

abbrev ends : List Cut
ends = cut 4 (1 ∷ []) ∷ cut 6 (2 ∷ []) ∷ cut 2 (3 ∷ []) ∷ []

-- six passes of the first line cost as much, and are no walk
pub known_no_walk : CertifiesLeastWalk (star None) (cert 6 (forth 0 ∷ forth 0 ∷ forth 0 ∷ forth 0 ∷ forth 0 ∷ forth 0 ∷ []) ends) → ⊥
known_no_walk is = true≢false (sym is.fitting)

-- the walk begins with the first line, forwards
pub known_other_line : CertifiesLeastWalk (star None) (cert 6 (forth 2 ∷ back 2 ∷ forth 0 ∷ back 0 ∷ back 5 ∷ forth 5 ∷ []) ends) → ⊥
known_other_line is = other (ap (λ (pass : Pass). pass.line) (is.begins refl))
  where
    other : ◌≡◌ {A = ℕ} 2 0 → ⊥
    other same = omega (arith, same)

pub known_backwards : CertifiesLeastWalk (star None) (cert 6 (back 0 ∷ forth 2 ∷ back 2 ∷ back 5 ∷ forth 5 ∷ forth 0 ∷ []) ends) → ⊥
known_backwards is = true≢false (ap (λ (pass : Pass). pass.back) (is.begins refl))

-- a retraced cost of nothing, with cuts for it
pub known_retraced : CertifiesLeastWalk (star None) (cert 0 all_twice []) → ⊥
known_retraced is = other is.retraced
  where
    other : ◌≡◌ {A = ℕ} 12 6 → ⊥
    other same = omega (arith, same)

-- one cut with the entire total overloads a line
pub known_overload : CertifiesLeastWalk (star None) (cert 6 all_twice (cut 12 (1 ∷ []) ∷ [])) → ⊥
known_overload is = heavy (is.packing.loads 0 (edge 0 0 0) (omega arith))
  where
    heavy : 12 ≤ 4 → ⊥
    heavy same = omega (arith, same)

-- a packing of less than twice the retraced cost
pub known_unpaid : CertifiesLeastWalk (star None) (cert 6 all_twice (cut 4 (1 ∷ []) ∷ cut 6 (2 ∷ []) ∷ [])) → ⊥
known_unpaid is = less is.total
  where
    less : ◌≡◌ {A = ℕ} 10 12 → ⊥
    less same = omega (arith, same)

-- no fitting walk costs a step less
pub known_least : (p : PieceValue) (c : PieceCert) (other : List Pass) → CertifiesLeastWalk p c → is_fitting_walk p other ≡ true
    → walk_cost p c.walk ≡ walk_cost p other + 1
    → ⊥
known_least p c other is fits more = omega (arith, is.least other fits, more)

-- what a certificate of a least walk says, in the words of walks and cuts
abbrev Certifies : PieceValue → PieceCert → Type 0
Certifies p c = (is_fitting_walk p c.walk ≡ true) × (given_start p ≡ None → BeginsWith (first_line p.lines) c.walk)
    × (walk_cost p c.walk ≡ c.retraced + piece_cost p) × IsPacking p c.cuts × (total_weight c.cuts ≡ c.retraced * 2)
    × ((other : List Pass) → is_fitting_walk p other ≡ true → walk_cost p c.walk ≤ walk_cost p other)

pub known_certificate : (p : PieceValue) (c : PieceCert) → CertifiesLeastWalk p c → Certifies p c
known_certificate p c is = (is.fitting, is.begins, omega (arith, is.retraced), is.packing, omega (arith, is.total), is.least)

-- no certificate has more passes than steps, or more than three cuts for each junction
pub known_few : (p : PieceValue) (c : PieceCert) → CertifiesLeastWalk p c
    → (length c.walk ≡ walk_cost p c.walk + 1 → ⊥) × (length c.cuts ≡ 3 * length p.junctions + 1 → ⊥)
known_few p c is = (λ more. omega (arith, more, is.few_passes), λ more. omega (arith, more, is.few_cuts))

-- a stroke of four steps, and as many needle points as a walk that returns has
abbrev stroke : DrawingValue
stroke = record {
  label = [];
  step = 10;
  threads = 1 ∷ [];
  lines = record { block = 0; points = corner 0 0 ∷ corner 40 0 ∷ [] } ∷ [];
  starts = [];
  ends = [];
}

-- a route has one needle point more than its walk costs
pub known_needles : (d : DrawingValue) (lines : List ℕ) (c : PieceCert) → IsLeastPieceRoute d lines c
    → (length (needles_of_walk d c.walk) ≡ 1 + walk_cost (piece_graph d lines) c.walk) × Certifies (piece_graph d lines) c
known_needles d lines c is = (omega (arith, is.penetrations), known_certificate (piece_graph d lines) c is.proved)

-- a double walk is one in each direction, without cuts, and its retraced cost is that of the lines
pub known_double_cuts : IsDoubled stroke (0 ∷ []) (cert 4 (forth 0 ∷ back 0 ∷ []) (cut 8 (0 ∷ []) ∷ [])) → ⊥
known_double_cuts is = none (ap (λ (cuts : List Cut). length cuts) is.cuts)
  where
    none : ◌≡◌ {A = ℕ} 1 0 → ⊥
    none same = omega (arith, same)

pub known_double_retraced : IsDoubled stroke (0 ∷ []) (cert 8 (forth 0 ∷ back 0 ∷ []) []) → ⊥
known_double_retraced is = other is.retraced
  where
    other : ◌≡◌ {A = ℕ} 8 4 → ⊥
    other same = omega (arith, same)

-- forth and back twice is a closed walk that begins right, and no double walk
pub known_double_twice : IsDouble (piece_graph stroke (0 ∷ [])) (forth 0 ∷ back 0 ∷ forth 0 ∷ back 0 ∷ []) → ⊥
known_double_twice double = twice (double.each 0 0 (omega arith)).forwards
  where
    twice : ◌≡◌ {A = ℕ} 2 1 → ⊥
    twice same = omega (arith, same)

pub known_double : (d : DrawingValue) (lines : List ℕ) (c : PieceCert) → IsDoubled d lines c
    → IsDouble (piece_graph d lines) c.walk × (c.retraced ≡ piece_cost (piece_graph d lines)) × (c.cuts ≡ [])
    × (length (needles_of_walk d c.walk) ≡ 1 + piece_cost (piece_graph d lines) * 2)
known_double d lines c is = (is.double, is.retraced, is.cuts, omega (arith, is.penetrations))

-- a route is over the pieces of the drawing, its certificates have a text, its runs can be written, and its design sews its walks
pub known_route : (d : DrawingValue) (r : Routed) → IsRoute d r → (pieces : List (List ℕ)) × ArePieces d pieces
    × AllZip (IsLeastPieceRoute d) pieces r.cert.pieces × All HasCanonicalText r.cert.pieces
    × AreWritable d.step (runs_of d (walks_of r.cert.pieces)) × (r.design ≡ sewn_design d (walks_of r.cert.pieces))
known_route d r is = (is.pieces, is.is.pieces_are, is.is.each, is.is.canonical, is.is.writable, is.is.design)

pub known_double_run : (d : DrawingValue) (pieces : List (List ℕ)) (r : Routed) → IsSewnOver ways.Double d pieces r → ArePieces d pieces
    × AllZip (IsDoubled d) pieces r.cert.pieces × All HasCanonicalText r.cert.pieces
    × AreWritable d.step (runs_of d (walks_of r.cert.pieces)) × (r.design ≡ sewn_design d (walks_of r.cert.pieces))
known_double_run d pieces r is = (is.pieces_are, is.each, is.canonical, is.writable, is.design)
