-- Certificates and routes that aren't correct, each for one reason, and what a verdict means.
use Rattle.std.proofs.Common.{◌≡◌, ℕ, ◌+◌, ◌*◌, ◌≤◌, pos, true, false, List, [], ◌∷◌, length, refl, arith, ap, sym, true≢false}
use Rattle.route_verdict.proofs.Names.{AllZip, Act, Stitch, Point, acts_of, acts_without_numbers, DesignValue, Pass, DrawingValue, PieceValue, piece_graph, ArePieces, is_fitting_walk, walk_cost, runs_of, sewn_acts, PieceCert, Cut, walks_of, Verdict, HasShortLists, IsCorrectPieceCert, IsCorrectRoute, IsVerdict, verdict_of, piece_cost}
use Rattle.odd_cuts.specs.Cuts.{total_weight}
use Rattle.odd_cuts.specs.Packings.{IsPacking}
use Rattle.route_verdict.specs.declared.verdict.Reason.TheVariants as reason
use Rattle.route_verdict.specs.declared.verdict.Verdict.TheVariants as verdict

abbrev at : ℕ → Point
at x = record { x = pos x; y = pos 0 }

-- a stroke of four steps, and its graph
abbrev stroke : DrawingValue
stroke = record {
  label = [];
  step = 10;
  threads = 1 ∷ [];
  lines = record { block = 0; points = at 0 ∷ at 40 ∷ [] } ∷ [];
  starts = [];
  ends = [];
}

abbrev graph : PieceValue
graph = piece_graph stroke (0 ∷ [])

abbrev forth : Pass
forth = record { line = 0; back = false }

abbrev back : Pass
back = record { line = 0; back = true }

abbrev cut : ℕ → List ℕ → Cut
cut weight members = record { weight = weight; members = members }

abbrev cert : ℕ → List Pass → List Cut → PieceCert
cert retraced walk cuts = record { retraced = retraced; walk = walk; cuts = cuts }

-- the walk that is passed twice forwards costs as much as the one that returns, and isn't one
pub known_no_walk : IsCorrectPieceCert graph (cert 4 (forth ∷ forth ∷ []) (cut 8 (0 ∷ []) ∷ [])) → ⊥
known_no_walk is = true≢false (sym is.fitting)

-- a retraced cost that is less than that of the walk, with cuts for it
pub known_retraced : IsCorrectPieceCert graph (cert 0 (forth ∷ back ∷ []) []) → ⊥
known_retraced is = other is.retraced
  where
    other : ◌≡◌ {A = ℕ} 8 4 → ⊥
    other is = omega (arith, is)

-- cuts of the right total that overload the line, or hold both of its ends
pub known_overload : IsCorrectPieceCert graph (cert 8 (forth ∷ back ∷ forth ∷ back ∷ []) (cut 16 (0 ∷ []) ∷ [])) → ⊥
known_overload is = heavy (is.packing.loads 0 (record { a = 0; b = 0; cost = 0 }) (omega arith))
  where
    heavy : 16 ≤ 8 → ⊥
    heavy is = omega (arith, is)

pub known_even : IsCorrectPieceCert graph (cert 8 (forth ∷ back ∷ forth ∷ back ∷ []) (cut 16 (0 ∷ 1 ∷ []) ∷ [])) → ⊥
known_even is = even (is.packing.odd 0 (cut 0 []) (omega arith)).odd
  where
    even : ◌≡◌ {A = ℕ} 0 1 → ⊥
    even is = omega (arith, is)

-- cuts with a total of less than twice the retraced cost
pub known_unpaid : IsCorrectPieceCert graph (cert 12 (forth ∷ back ∷ forth ∷ back ∷ []) (cut 8 (0 ∷ []) ∷ [])) → ⊥
known_unpaid is = half is.total
  where
    half : ◌≡◌ {A = ℕ} 8 24 → ⊥
    half is = omega (arith, is)

abbrev right : PieceCert
right = cert 4 (forth ∷ back ∷ []) (cut 8 (0 ∷ []) ∷ [])

-- the stitches of the stroke without a trim
abbrev untrimmed : DesignValue
untrimmed = record {
  label = [];
  threads = 1 ∷ [];
  commands = Stitch (at 0) ∷ Stitch (at 10) ∷ Stitch (at 20) ∷ Stitch (at 30) ∷ Stitch (at 40) ∷ Stitch (at 30) ∷ Stitch (at 20)
      ∷ Stitch (at 10) ∷ Stitch (at 0) ∷ [];
}

-- nine acts aren't ten
nine : acts_without_numbers (acts_of untrimmed) ≡ sewn_acts (runs_of stroke (walks_of (right ∷ []))) → ⊥
nine is = ten (ap (λ (acts : List Act). length acts) is)
  where
    ten : ◌≡◌ {A = ℕ} 9 10 → ⊥
    ten is = omega (arith, is)

-- without the trim no certificate is right, whatever the pieces
pub known_no_trim : (pieces : List (List ℕ)) → IsCorrectRoute stroke pieces untrimmed (right ∷ []) → ⊥
known_no_trim pieces is = nine is.sews

-- the number of pieces is judged before the first piece
pub known_count_first : verdict_of stroke ((0 ∷ []) ∷ []) untrimmed (cert 3 (forth ∷ []) [] ∷ right ∷ []) ≡ verdict.No (reason.Pieces 2 1)
known_count_first = refl

-- a certificate for each piece: none is left out, and none is added
pub known_left_out : IsCorrectRoute stroke ((0 ∷ []) ∷ []) untrimmed [] → ⊥
known_left_out is = is.each

pub known_added : IsCorrectRoute stroke [] untrimmed (right ∷ []) → ⊥
known_added is = is.each

-- no fitting walk over a piece costs less than the walk of its certificate
abbrev CostsNoMore : DrawingValue → List ℕ → PieceCert → Type 0
CostsNoMore d lines c = (other : List Pass) → is_fitting_walk (piece_graph d lines) other ≡ true
    → walk_cost (piece_graph d lines) c.walk ≤ walk_cost (piece_graph d lines) other

-- a walk over a piece fits, and what it retraces is half of the total of a packing
abbrev IsPaid : DrawingValue → List ℕ → PieceCert → Type 0
IsPaid d lines c = (is_fitting_walk (piece_graph d lines) c.walk ≡ true)
    × (walk_cost (piece_graph d lines) c.walk ≡ c.retraced + piece_cost (piece_graph d lines))
    × IsPacking (piece_graph d lines) c.cuts × (total_weight c.cuts ≡ c.retraced * 2)

correct : (p : PieceValue) (c : PieceCert) → IsCorrectPieceCert p c → (is_fitting_walk p c.walk ≡ true)
    × (walk_cost p c.walk ≡ c.retraced + piece_cost p)
    × IsPacking p c.cuts × (total_weight c.cuts ≡ c.retraced * 2)
correct p c is = (is.fitting, omega (arith, is.retraced), is.packing, omega (arith, is.total))

are_correct : (d : DrawingValue) (pieces : List (List ℕ)) (certs : List PieceCert)
    → AllZip (λ lines c. IsCorrectPieceCert (piece_graph d lines) c) pieces certs
    → AllZip (IsPaid d) pieces certs
are_correct d [] [] are = are
are_correct d [] (c ∷ certs) are = are
are_correct d (lines ∷ pieces) [] are = are
are_correct d (lines ∷ pieces) (c ∷ certs) are = (correct (piece_graph d lines) c are.0, are_correct d pieces certs are.1)

-- a verdict is over the pieces of the drawing, the defined one, yes exactly where all is right, and then each walk is least
pub known_verdict : (d : DrawingValue) (design : DesignValue) (certs : List PieceCert) (given : Verdict) → IsVerdict d design certs given
    → (pieces : List (List ℕ)) × ArePieces d pieces × (given ≡ verdict_of d pieces design certs)
    × (given ≡ verdict.Yes → AllZip (IsPaid d) pieces certs)
    × (given ≡ verdict.Yes → AllZip (CostsNoMore d) pieces certs)
    × (given ≡ verdict.Yes → acts_without_numbers (acts_of design) ≡ sewn_acts (runs_of d (walks_of certs)))
    × (IsCorrectRoute d pieces design certs → given ≡ verdict.Yes)
known_verdict d design certs given v = (
  v.pieces,
  v.is.pieces_are,
  v.is.is,
  λ yes. are_correct d v.pieces certs (v.is.exact.0 yes).each,
  v.is.least,
  λ yes. (v.is.exact.0 yes).sews,
  v.is.exact.1,
)

-- the lists of a certificate have fewer items than the greatest 32-bit number
pub known_lists : (c : PieceCert) → HasShortLists c → (length c.walk ≡ 4294967295 → ⊥) × (length c.cuts ≡ 4294967295 → ⊥)
known_lists c short = (λ is. omega (arith, is, short.walk), λ is. omega (arith, is, short.cuts))
