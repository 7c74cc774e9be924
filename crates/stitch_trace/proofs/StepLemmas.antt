-- Each segment of a traced drawing is one step.
use Rattle.std.proofs.Common.{◌≡◌, ℕ, ◌+◌, ◌/◌, ◌%◌, ◌==◌, ◌≤◌, min, Bool, true, false, ◌&&◌, List, [], ◌∷◌, None, Result, Ok, Err, ap, sym, subst, ◌∙◌, refl, arith}
use Rattle.stitch_trace.proofs.Names.{mul-le-mul_right, nat_tests, div_ceil_times, list_all-append, list_all, NumberedAct, Point, acts_of, blocks_of, SectionsKeepSegments, DrawKind, DrawingValue, block_added, line_added, steps_of, Link, NeedleMove, Stay, Gap, Sewn, Strand, TraceFault, new_links_of, new_moves_of, drawn_block_count, in_block, is_one_step, sewn_links, first_too_long, link_size, links_in, needle_moves_of, chains_added, drawing_with_strands, with_limit_fault, and_then_trace, trace_step, strand_added, strands_added, strands_of, LinksAreSteps}
use Rattle.stitch_trace.proofs.CountLemmas.{least_step, step_parts}
use Rattle.stitch_trace.proofs.DrawnLemmas.{block_is, finished_is, goes_on, line_is, links_drawn, ok_same}
use Rattle.stitch_trace.proofs.FitLemmas.{AreSteps, BlockSteps, IsStep, acts_in_range, each_block_steps, moves_are_steps, new_are_steps, one_step}
use Rattle.stitch_trace.proofs.MeasureLemmas.{first_has_size, size_apart}

-- a link of no more than the step, which has a size, is one step
one_exactly : (step : ℕ) (link : Link) → 1 ≤ step → IsStep step link → (steps_of link.from link.to step == 1) ≡ true
one_exactly step link some is =
    let steps : ℕ = link_size link / step + min 1 (link_size link % step) in
    let bounds = div_ceil_times (link_size link) step (omega (arith, some)) in
    let size : 1 ≤ link_size link = size_apart link.from link.to is.apart in
    let least : steps ≤ 0 → ⊥ = λ none. omega (arith, bounds.0, mul-le-mul_right step none, size) in
    let most : steps ≤ 1 = one_step (link_size link) step some is.short in
    exactly steps (omega (arith, least, most))
  where
    exactly : (n : ℕ) → n ≡ 1 → (n == 1) ≡ true
    exactly n is = grind (arith, nat_tests)

steps_in_block : (step : ℕ) → 1 ≤ step → (block : ℕ) (moves : List NeedleMove) → AreSteps step moves
    → list_all (is_one_step step) (in_block block (links_in moves)) ≡ true
steps_in_block step some block [] are = refl
steps_in_block step some block (Stay ∷ rest) are = steps_in_block step some block rest are
steps_in_block step some block (Gap ∷ rest) are = steps_in_block step some block rest are
steps_in_block step some block (Sewn number link ∷ rest) are =
    rw (one_exactly step link some are.0, steps_in_block step some block rest are.1) refl

sewn_steps : (step : ℕ) → 1 ≤ step → (block : ℕ) (blocks : List (List NumberedAct)) → BlockSteps step blocks
    → list_all (is_one_step step) (sewn_links block blocks) ≡ true
sewn_steps step some block [] are = refl
sewn_steps step some block (acts ∷ later) are =
    let next : ℕ = block + drawn_block_count (new_links_of acts) in
    list_all-append (is_one_step step) (in_block block (new_links_of acts)) (sewn_links next later)
    ∙ both (list_all (is_one_step step) (in_block block (new_links_of acts))) (list_all (is_one_step step) (sewn_links next later))
    (steps_in_block step some block (new_moves_of acts) (new_are_steps step [] (needle_moves_of acts) are.0))
    (sewn_steps step some next later are.1)
  where
    both : (a b : Bool) → a ≡ true → b ≡ true → (a && b) ≡ true
    both a b one two = rw (one, two) refl

-- what grows keeps its step
chains_step : (d e : DrawingValue) (chains : List (List Point)) → chains_added d chains ≡ Ok e → e.step ≡ d.step
chains_step d e [] is = ap (λ (f : DrawingValue). f.step) (sym (ok_same d e is))
chains_step d e (chain ∷ rest) is =
    let steps = goes_on (line_added d chain) (λ more. chains_added more rest) e is in
    chains_step steps.mid e rest steps.then ∙ ap (λ (f : DrawingValue). f.step) (line_is d steps.mid chain steps.first)

strands_step : (d e : DrawingValue) (strands : List Strand) → strands_added d strands ≡ Ok e → e.step ≡ d.step
strands_step d e [] is = ap (λ (f : DrawingValue). f.step) (sym (ok_same d e is))
strands_step d e (strand ∷ rest) is =
    let outer = goes_on (strand_added d strand) (λ more. strands_added more rest) e is in
    let inner = goes_on (block_added d strand.thread) (λ more. chains_added more strand.chains) outer.mid outer.first in
    strands_step outer.mid e rest outer.then
    ∙ (chains_step inner.mid outer.mid strand.chains inner.then
    ∙ ap (λ (f : DrawingValue). f.step) (block_is d inner.mid strand.thread inner.first))

pub links_steps : SectionsKeepSegments → LinksAreSteps
links_steps keep d drawing keeps is =
    rw (links_drawn keep d drawing is) (by_step (trace_step (needle_moves_of (acts_of d))) refl is)
  where
    unlimited : (step : ℕ) (said : Result DrawingValue DrawKind) → drawing_with_strands d.label step (strands_of d) ≡ said
        → with_limit_fault said ≡ Ok drawing → drawing.step ≡ step
    unlimited step (Ok e) through is =
        subst (λ (f : DrawingValue). f.step ≡ step) (ok_same e drawing is) (grind (arith, nat_tests, ok_same, finished_is, strands_step))
    unlimited step (Err why) through is = absurd cc

    by_step : (said : Result ℕ TraceFault) → trace_step (needle_moves_of (acts_of d)) ≡ said
        → and_then_trace said (λ step. with_limit_fault (drawing_with_strands d.label step (strands_of d))) ≡ Ok drawing
        → list_all (is_one_step drawing.step) (sewn_links 0 (blocks_of (acts_of d))) ≡ true
    by_step (Ok step) measured is =
        let links : List Link = links_in (needle_moves_of (acts_of d)) in
        let parts = step_parts (first_too_long (needle_moves_of (acts_of d))) links step measured in
        let least : 1 ≤ step = omega (arith, parts.1, least_step links (first_has_size None (acts_of d)) parts.0) in
        let steps = moves_are_steps step 0 None (acts_of d) tt (acts_in_range 1 true false d.commands keeps.in_range)
        (omega (arith, parts.1)) in
        let all = sewn_steps step least 0 (blocks_of (acts_of d)) (each_block_steps step (acts_of d) steps) in
        subst (λ (s : ℕ). list_all (is_one_step s) (sewn_links 0 (blocks_of (acts_of d))) ≡ true)
        (sym (unlimited step (drawing_with_strands d.label step (strands_of d)) refl is)) all
    by_step (Err why) measured is = absurd cc
