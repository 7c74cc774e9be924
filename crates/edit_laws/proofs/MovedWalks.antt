-- Threads, cuts and packings over a moved drawing.
use Rattle.std.proofs.Common.{◌≡◌, ◌∙◌, ℕ, ◌+◌, ◌*◌, ◌%◌, ◌<◌, ◌≤◌, ◌==◌, ◌&&◌, Bool, true, false, not, cond, All, List, [], ◌∷◌, Option, Some, None, length, map, sum_by, count_by, refl, ap, sym, subst}
use Rattle.edit_laws.proofs.Names.{length-map, option_map, list_any, Point, is_same_point, moved_drawing, with_moved_spot, Pass, DrawingValue, block_of, first_point, last_point, points_of, IsThreadOver, needle_points, junction_number, junctions_of, needles_of_pass, needles_of_walk, cost_of_line, Spot, AllZip, KeepsGivenEnds, Leads, given_point, is_junction_of, first_line}
use Rattle.odd_cuts.specs.declared.certificate.PieceCert.{PieceCert}
use Rattle.odd_cuts.specs.declared.cut.Cut.{Cut}
use Rattle.odd_cuts.specs.DrawnCuts.{IsOddOver, IsPackingOver, given_apart, holds_point, leads_out, parts}
use Rattle.route_verdict.specs.LeastRedwork.{IsLeastThread}
use Rattle.edit_laws.proofs.MovedLines.{block_moved, cost_moved, first_moved, junction_number_moved, junctions_moved, last_moved, listed_moved, pass_moved, points_moved, same_function, walk_length_moved}

-- given ends are kept by mapped ends
ends_kept : (f : Point → Point) (start end from to : Option Point) → KeepsGivenEnds start end from to
    → KeepsGivenEnds (option_map f start) (option_map f end) (option_map f from) (option_map f to)
ends_kept f (Some s) (Some e) from to (one, two) = (ap (option_map f) one, ap (option_map f) two)
ends_kept f (Some s) None from to (one, two) = (ap (option_map f) one, ap (option_map f) two)
ends_kept f None (Some e) from to (one, two) = (ap (option_map f) one, ap (option_map f) two)
ends_kept f None None from to is = ap (option_map f) is

module _ (f : Point → Point) (same : (p q : Point) → is_same_point (f p) (f q) ≡ is_same_point p q) where
  junction_moved : (d : DrawingValue) (lines : List ℕ) (spot : Spot)
      → is_junction_of (moved_drawing f d) lines (with_moved_spot f spot) ≡ is_junction_of d lines spot
  junction_moved d lines spot =
      ap (λ (b : ℕ). (spot.block == b) && list_any (is_same_point (f spot.at)) (junctions_of (moved_drawing f d) lines))
      (block_moved f d (first_line lines))
      ∙ (ap (λ (js : List Point). (spot.block == block_of d (first_line lines)) && list_any (is_same_point (f spot.at)) js)
      (junctions_moved f same d lines)
      ∙ ap (λ (t : Bool). (spot.block == block_of d (first_line lines)) && t) (listed_moved f same spot.at (junctions_of d lines)))

  given_moved : (d : DrawingValue) (lines : List ℕ) (spots : List Spot)
      → given_point (moved_drawing f d) lines (map (with_moved_spot f) spots) ≡ option_map f (given_point d lines spots)
  given_moved d lines [] = refl
  given_moved d lines (spot ∷ rest) =
      ap (λ (t : Bool). cond t (Some (f spot.at)) (given_point (moved_drawing f d) lines (map (with_moved_spot f) rest)))
      (junction_moved d lines spot)
      ∙ (ap (λ (r : Option Point). cond (is_junction_of d lines spot) (Some (f spot.at)) r) (given_moved d lines rest)
      ∙ by_test (is_junction_of d lines spot) (given_point d lines rest) spot.at)
    where
      by_test : (t : Bool) (r : Option Point) (at : Point)
          → cond t (Some (f at)) (option_map f r) ≡ option_map f (cond t (Some at) r)
      by_test true r at = refl
      by_test false r at = refl

  -- cuts
  holds_moved : (d : DrawingValue) (lines : List ℕ) (cut : Cut) (p : Option Point)
      → holds_point (moved_drawing f d) lines cut (option_map f p) ≡ holds_point d lines cut p
  holds_moved d lines cut p = ap (λ (n : ℕ). list_any (λ m. n == m) cut.members)
      (ap (λ (js : List Point). junction_number js (option_map f p)) (junctions_moved f same d lines)
      ∙ junction_number_moved f same (junctions_of d lines) p)

  parts_moved : (d : DrawingValue) (lines : List ℕ) (cut : Cut) (p q : Option Point)
      → parts (moved_drawing f d) lines cut (option_map f p) (option_map f q) ≡ parts d lines cut p q
  parts_moved d lines cut p q =
      ap (λ (t : Bool). cond t (not (holds_point (moved_drawing f d) lines cut (option_map f q)))
      (holds_point (moved_drawing f d) lines cut (option_map f q))) (holds_moved d lines cut p)
      ∙ ap (λ (u : Bool). cond (holds_point d lines cut p) (not u) u) (holds_moved d lines cut q)

  out_moved : (d : DrawingValue) (lines : List ℕ) (cut : Cut) (line : ℕ)
      → leads_out (moved_drawing f d) lines cut line ≡ leads_out d lines cut line
  out_moved d lines cut line =
      ap (λ (ps : List Point). parts (moved_drawing f d) lines cut (first_point ps) (last_point ps)) (points_moved f d line)
      ∙ (ap (λ (p : Option Point). parts (moved_drawing f d) lines cut p (last_point (map f (points_of d line))))
      (first_moved f (points_of d line))
      ∙ (ap (λ (q : Option Point). parts (moved_drawing f d) lines cut (option_map f (first_point (points_of d line))) q)
      (last_moved f (points_of d line))
      ∙ parts_moved d lines cut (first_point (points_of d line)) (last_point (points_of d line))))

  apart_moved : (d : DrawingValue) (lines : List ℕ) (cut : Cut) (start end : Option Point)
      → given_apart (moved_drawing f d) lines cut (option_map f start) (option_map f end) ≡ given_apart d lines cut start end
  apart_moved d lines cut (Some s) (Some e) = ap (λ (t : Bool). cond t 1 0) (parts_moved d lines cut (Some s) (Some e))
  apart_moved d lines cut (Some s) None = refl
  apart_moved d lines cut None end = refl

  given_apart_moved : (d : DrawingValue) (lines : List ℕ) (cut : Cut)
      → given_apart (moved_drawing f d) lines cut (given_point (moved_drawing f d) lines (map (with_moved_spot f) d.starts))
      (given_point (moved_drawing f d) lines (map (with_moved_spot f) d.ends))
      ≡ given_apart d lines cut (given_point d lines d.starts) (given_point d lines d.ends)
  given_apart_moved d lines cut =
      ap (λ (s : Option Point). given_apart (moved_drawing f d) lines cut s
      (given_point (moved_drawing f d) lines (map (with_moved_spot f) d.ends))) (given_moved d lines d.starts)
      ∙ (ap (λ (e : Option Point). given_apart (moved_drawing f d) lines cut (option_map f (given_point d lines d.starts)) e)
      (given_moved d lines d.ends)
      ∙ apart_moved d lines cut (given_point d lines d.starts) (given_point d lines d.ends))

  odd_moved : (d : DrawingValue) (lines : List ℕ) (cut : Cut) → IsOddOver d lines cut → IsOddOver (moved_drawing f d) lines cut
  odd_moved d lines cut is = record {
    there = subst (λ (n : ℕ). All (λ j. j < n) cut.members)
        (sym (ap (λ (js : List Point). length js) (junctions_moved f same d lines) ∙ length-map (junctions_of d lines) f)) is.there;
    odd = ap (λ (t : ℕ → Bool). (count_by t lines + given_apart (moved_drawing f d) lines cut
        (given_point (moved_drawing f d) lines (map (with_moved_spot f) d.starts))
        (given_point (moved_drawing f d) lines (map (with_moved_spot f) d.ends))) % 2)
        (same_function (leads_out (moved_drawing f d) lines cut) (leads_out d lines cut) (out_moved d lines cut))
        ∙ (ap (λ (n : ℕ). (count_by (leads_out d lines cut) lines + n) % 2) (given_apart_moved d lines cut) ∙ is.odd);
  }

  pub packing_moved : (d : DrawingValue) (lines : List ℕ) (cuts : List Cut)
      → ((line : ℕ) → cost_of_line (moved_drawing f d) line ≡ cost_of_line d line)
      → IsPackingOver d lines cuts → IsPackingOver (moved_drawing f d) lines cuts
  packing_moved d lines cuts costs is = record {
    odd = λ i e below. odd_moved d lines _ (is.odd i e below);
    loads = λ i e below. load_moved _ (is.loads i e below);
  }
    where
      load_moved : (line : ℕ)
          → sum_by (λ (cut : Cut). cond (leads_out d lines cut line) cut.weight 0) cuts ≤ 2 * cost_of_line d line
          → sum_by (λ (cut : Cut). cond (leads_out (moved_drawing f d) lines cut line) cut.weight 0) cuts
          ≤ 2 * cost_of_line (moved_drawing f d) line
      load_moved line load =
          subst (λ (n : ℕ). sum_by (λ (cut : Cut). cond (leads_out (moved_drawing f d) lines cut line) cut.weight 0) cuts ≤ 2 * n)
          (sym (costs line))
          (subst (λ (w : Cut → ℕ). sum_by w cuts ≤ 2 * cost_of_line d line)
          (same_function (λ (cut : Cut). cond (leads_out d lines cut line) cut.weight 0)
          (λ (cut : Cut). cond (leads_out (moved_drawing f d) lines cut line) cut.weight 0)
          (λ cut. ap (λ (t : Bool). cond t cut.weight 0) (sym (out_moved d lines cut line)))) load)

module _ (f : Point → Point) (same : (p q : Point) → is_same_point (f p) (f q) ≡ is_same_point p q)
    (needles : (step : ℕ) (ps : List Point) → needle_points step (map f ps) ≡ map f (needle_points step ps)) where
  leads_moved : (d : DrawingValue) (from : Option Point) (walk : List Pass) (to : Option Point) → Leads d from walk to
      → Leads (moved_drawing f d) (option_map f from) walk (option_map f to)
  leads_moved d from [] to is = ap (option_map f) is
  leads_moved d from (pass ∷ rest) to (first, later) = (
    ap first_point (pass_moved f needles d pass) ∙ (first_moved f (needles_of_pass d pass) ∙ ap (option_map f) first),
    subst (λ (at : Option Point). Leads (moved_drawing f d) at rest (option_map f to))
        (sym (ap last_point (pass_moved f needles d pass) ∙ last_moved f (needles_of_pass d pass)))
        (leads_moved d (last_point (needles_of_pass d pass)) rest to later),
  )

  pub thread_moved : (d : DrawingValue) (lines : List ℕ) (walk : List Pass) → IsThreadOver d lines walk
      → IsThreadOver (moved_drawing f d) lines walk
  thread_moved d lines walk is = record {
    from = option_map f is.from;
    to = option_map f is.to;
    drawn = is.drawn;
    covered = is.covered;
    leads = leads_moved d is.from walk is.to is.leads;
    ends = subst (λ (s : Option Point). KeepsGivenEnds s (given_point (moved_drawing f d) lines (map (with_moved_spot f) d.ends))
        (option_map f is.from) (option_map f is.to)) (sym (given_moved f same d lines d.starts))
        (subst (λ (e : Option Point). KeepsGivenEnds (option_map f (given_point d lines d.starts)) e
        (option_map f is.from) (option_map f is.to)) (sym (given_moved f same d lines d.ends))
        (ends_kept f (given_point d lines d.starts) (given_point d lines d.ends) is.from is.to is.ends));
  }

  -- a least thread, where each thread over the moved drawing is one over the drawing
  pub least_moved : (d : DrawingValue) (lines : List ℕ) (cert : PieceCert)
      → ((other : List Pass) → IsThreadOver (moved_drawing f d) lines other → IsThreadOver d lines other)
      → IsLeastThread d lines cert → IsLeastThread (moved_drawing f d) lines cert
  least_moved d lines cert back is = record {
    thread = thread_moved d lines cert.walk is.thread;
    least = λ other over. subst (λ (n : ℕ). n ≤ length (needles_of_walk (moved_drawing f d) other))
        (sym (walk_length_moved f needles d cert.walk))
        (subst (λ (n : ℕ). length (needles_of_walk d cert.walk) ≤ n) (sym (walk_length_moved f needles d other))
        (is.least other (back other over)));
    penetrations = walk_length_moved f needles d cert.walk ∙ (is.penetrations
        ∙ ap (λ (cost : ℕ → ℕ). sum_by cost lines + cert.retraced + 1)
        (same_function (cost_of_line d) (cost_of_line (moved_drawing f d)) (λ line. sym (cost_moved f needles d line))));
    packing = packing_moved f same d lines cert.cuts (cost_moved f needles d) is.packing;
    total = is.total;
  }

  pub threads_moved : (d : DrawingValue) (pieces : List (List ℕ)) (certs : List PieceCert)
      → ((lines : List ℕ) (other : List Pass) → IsThreadOver (moved_drawing f d) lines other → IsThreadOver d lines other)
      → AllZip (IsLeastThread d) pieces certs → AllZip (IsLeastThread (moved_drawing f d)) pieces certs
  threads_moved d [] [] back all = all
  threads_moved d [] (cert ∷ certs) back all = all
  threads_moved d (piece ∷ pieces) [] back all = all
  threads_moved d (piece ∷ pieces) (cert ∷ certs) back (one, others) =
      (least_moved d piece cert (back piece) one, threads_moved d pieces certs back others)
