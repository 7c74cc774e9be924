-- The strands of a design that sews a link make a drawing, or exceed one of its counts.
use Rattle.std.proofs.Common.{◌≡◌, ℕ, ◌+◌, ◌==◌, ◌≤◌, max, Bool, true, false, cond, List, [], ◌∷◌, ◌++◌, length, Option, Some, None, Result, Ok, Err, ap, sym, subst, ◌∙◌, refl, append_assoc, arith}
use Rattle.stitch_trace.proofs.Names.{le-max_right, ap₂, nat_tests, list_all, Act, NumberedAct, Point, is_stop, needle_point, is_bare_stop, acts_of, blocks_of, with_act_in_first_block, DesignValue, thread_of, DrawKind, DrawingValue, and_then, empty_drawing, finished_drawing, is_last_empty, joined_drawing, Link, NeedleMove, Stay, Gap, Sewn, Strand, TraceFault, chains_of, has_links, is_sewn, new_links_of, IsCountLimit, first_too_long, link_size, links_in, longest, move_to_act, needle_moves_of, needle_moves_from, drawing_with_strands, label_first_word, with_limit_fault, and_then_trace, trace_step, step_or_fault, strand_of, strands_added, strands_from, strands_of, CountsAreLimits}
use Rattle.design_model.specs.declared.act.Act.TheVariants as act
use Rattle.stitch_trace.specs.declared.trace_fault.TraceFault.TheVariants as fault
use Rattle.stitch_trace.proofs.DistinctLemmas.{distinct_links}
use Rattle.stitch_trace.proofs.DrawnLemmas.{ok_same}
use Rattle.stitch_trace.proofs.FitLemmas.{AllFit, BlockSteps, acts_in_range, block_fits, each_block_steps, moves_are_steps, no_needle}
use Rattle.stitch_trace.proofs.LimitLemmas.{IsReady, StrandsFit, counted, strands_end, strands_refused}
use Rattle.stitch_trace.proofs.LinkedLemmas.{chains_where_links, has_chains}
use Rattle.stitch_trace.proofs.MeasureLemmas.{FirstHasSize, first_has_size, greatest_more}

-- the strands of blocks fit
one_fits : (step thread : ℕ) (chains : List (List Point)) (later : List Strand) → AllFit step chains → StrandsFit step later
    → StrandsFit step (strand_of thread chains ++ later)
one_fits step thread [] later fit more = more
one_fits step thread (chain ∷ chains) later fit more = (refl, fit, more)

strands_fit : (step : ℕ) → 1 ≤ step → (d : DesignValue) (n : ℕ) (blocks : List (List NumberedAct)) → BlockSteps step blocks
    → StrandsFit step (strands_from d n blocks)
strands_fit step some d n [] are = tt
strands_fit step some d n (acts ∷ later) are =
    one_fits step (thread_of d n) (chains_of acts) (strands_from d (n + 1) later) (block_fits step some acts are.0)
    (strands_fit step some d (n + 1) later are.1)

-- the links of blocks
abbrev later_links : List (List NumberedAct) → List Link
later_links [] = []
later_links (acts ∷ rest) = links_in (needle_moves_of acts) ++ later_links rest

-- those of the first after such an act
abbrev first_links : Option Point → List (List NumberedAct) → List Link
first_links before [] = []
first_links before (acts ∷ rest) = links_in (needle_moves_from before acts) ++ later_links rest

first_none : (blocks : List (List NumberedAct)) → first_links None blocks ≡ later_links blocks
first_none [] = refl
first_none (acts ∷ rest) = refl

links_cons : (move : NeedleMove) (rest : List NeedleMove) → links_in (move ∷ rest) ≡ links_in (move ∷ []) ++ links_in rest
links_cons Stay rest = refl
links_cons Gap rest = refl
links_cons (Sewn number link) rest = refl

stop_sews_nothing : (before : Option Point) (number : ℕ) (what : Act) → is_bare_stop what ≡ true
    → links_in (move_to_act before number what ∷ []) ≡ []
stop_sews_nothing None number what stop = refl
stop_sews_nothing (Some p) number act.Trim stop = refl
stop_sews_nothing (Some p) number act.Stop stop = refl
stop_sews_nothing (Some p) number (act.Needle q float) stop = absurd cc

first_more : (before : Option Point) (a : NumberedAct) (blocks : List (List NumberedAct))
    → links_in (move_to_act before a.number a.act ∷ []) ++ first_links (needle_point a) blocks
    ≡ first_links before (with_act_in_first_block a blocks)
first_more before a [] = refl
first_more before a (first ∷ rest) = grind (arith, nat_tests, append_assoc, links_cons)

flat_links : (before : Option Point) (acts : List NumberedAct)
    → links_in (needle_moves_from before acts) ≡ first_links before (blocks_of acts)
flat_links before [] = refl
flat_links before (a ∷ rest) =
    links_cons (move_to_act before a.number a.act) (needle_moves_from (needle_point a) rest)
    ∙ by_test (is_stop a) refl (flat_links (needle_point a) rest)
  where
    by_test : (t : Bool) → is_stop a ≡ t
        → links_in (needle_moves_from (needle_point a) rest) ≡ first_links (needle_point a) (blocks_of rest)
        → links_in (move_to_act before a.number a.act ∷ []) ++ links_in (needle_moves_from (needle_point a) rest)
        ≡ first_links before (cond t ([] ∷ blocks_of rest) (with_act_in_first_block a (blocks_of rest)))
    by_test true stop later =
        ap₂ (λ (first others : List Link). first ++ others) (stop_sews_nothing before a.number a.act stop)
        (later ∙ (ap (λ (place : Option Point). first_links place (blocks_of rest)) (no_needle a.act stop) ∙ first_none (blocks_of rest)))
    by_test false stop later =
        ap (λ (others : List Link). links_in (move_to_act before a.number a.act ∷ []) ++ others) later
        ∙ first_more before a (blocks_of rest)

-- where there is no strand, there is no link
abbrev has_strands : List Strand → Bool
has_strands [] = false
has_strands (strand ∷ rest) = true

none_new : (links new : List Link) → list_all (is_sewn new) links ≡ true → has_links new ≡ false → has_links links ≡ false
none_new [] new all none = refl
none_new (link ∷ rest) [] all none = absurd cc
none_new (link ∷ rest) (one ∷ more) all none = absurd cc

none_both : (xs ys : List Link) → has_links xs ≡ false → has_links ys ≡ false → has_links (xs ++ ys) ≡ false
none_both [] ys none others = others
none_both (x ∷ xs) ys none others = absurd cc

no_links : (d : DesignValue) (n : ℕ) (blocks : List (List NumberedAct)) → has_strands (strands_from d n blocks) ≡ false
    → has_links (later_links blocks) ≡ false
no_links d n [] none = refl
no_links d n (acts ∷ later) none = by_chains (chains_of acts) (chains_where_links acts) none (λ rest. no_links d (n + 1) later rest)
  where
    by_chains : (chains : List (List Point)) → has_chains chains ≡ has_links (new_links_of acts)
        → has_strands (strand_of (thread_of d n) chains ++ strands_from d (n + 1) later) ≡ false
        → (has_strands (strands_from d (n + 1) later) ≡ false → has_links (later_links later) ≡ false)
        → has_links (links_in (needle_moves_of acts) ++ later_links later) ≡ false
    by_chains [] some none rest =
        none_both (links_in (needle_moves_of acts)) (later_links later)
        (none_new (links_in (needle_moves_of acts)) (new_links_of acts) (distinct_links acts).all (sym some)) (rest none)
    by_chains (chain ∷ chains) some none rest = absurd cc

some_strand : (strands : List Strand) → (t : Bool) → has_strands strands ≡ t → (has_strands strands ≡ false → ⊥) → 1 ≤ length strands
some_strand [] t is never = absurd (never refl)
some_strand (strand ∷ rest) t is never = omega arith

strands_there : (d : DesignValue) → has_links (links_in (needle_moves_of (acts_of d))) ≡ true → 1 ≤ length (strands_of d)
strands_there d some =
    some_strand (strands_of d) (has_strands (strands_of d)) refl (λ none. both
    (sym some ∙ (ap has_links (flat_links None (acts_of d) ∙ first_none (blocks_of (acts_of d))) ∙ no_links d 0 (blocks_of
    (acts_of d)) none)))
  where
    both : true ≡ false → ⊥
    both is = cc

-- the step is the greatest size of a link, of which there is one
pub step_parts : (found : Option ℕ) (links : List Link) (step : ℕ) → step_or_fault found links ≡ Ok step
    → (has_links links ≡ true) × (longest links ≡ step)
step_parts (Some number) links step is = absurd cc
step_parts None [] step is = absurd cc
step_parts None (link ∷ rest) step is = (refl, ok_same (longest (link ∷ rest)) step is)

pub least_step : (links : List Link) → FirstHasSize links → has_links links ≡ true → 1 ≤ longest links
least_step [] first some = absurd cc
least_step (link ∷ rest) first some = grind (arith, nat_tests, le-max_right 0 (link_size link), greatest_more (max 0 (link_size link)) rest)

never_limit : (found : Option ℕ) (links : List Link) (why : DrawKind) → step_or_fault found links ≡ Err (fault.Limit why) → ⊥
never_limit (Some number) links why is = cc
never_limit None [] why is = cc
never_limit None (link ∷ rest) why is = cc

-- sections are refused for a count alone
joined_refused : (d : DrawingValue) (why : DrawKind) → joined_drawing d ≡ Err why → IsCountLimit why
joined_refused d why is = grind (arith, nat_tests)

abbrev begun_with : DesignValue → ℕ → DrawingValue
begun_with d step = empty_drawing (label_first_word d.label) step

begun_ready : (d : DesignValue) (step : ℕ) → IsReady step (begun_with d step)
begun_ready d step = record { stepped = refl; cost = omega arith }

begun_unused : (d : DesignValue) (step : ℕ) → is_last_empty (begun_with d step) ≡ false
begun_unused d step = refl

through_refused : (d : DesignValue) (step : ℕ) (why : DrawKind) → StrandsFit step (strands_of d) → 1 ≤ length (strands_of d)
    → drawing_with_strands d.label step (strands_of d) ≡ Err why → IsCountLimit why
through_refused d step why fit some is = by_added (strands_added (begun_with d step) (strands_of d)) refl is
  where
    by_added : (said : Result DrawingValue DrawKind) → strands_added (begun_with d step) (strands_of d) ≡ said
        → and_then (and_then said finished_drawing) joined_drawing ≡ Err why → IsCountLimit why
    by_added (Ok mid) added is =
        let end = strands_end step (begun_with d step) mid (strands_of d) (begun_unused d step) (begun_ready d step) fit added in
        let there : (length mid.threads == 0) ≡ false = grind (arith, nat_tests, end.some (omega (arith, some))) in
        let whole : finished_drawing mid ≡ Ok mid = rw (end.used, there) refl in
        joined_refused mid why (sym (ap (λ (said : Result DrawingValue DrawKind). and_then said joined_drawing) whole) ∙ is)
    by_added (Err other) added is = counted other why (strands_refused step (begun_with d step) (strands_of d) other
        (begun_unused d step) (begun_ready d step) fit added) is

pub counts_limit : CountsAreLimits
counts_limit d why keeps is = by_step (trace_step (needle_moves_of (acts_of d))) refl is
  where
    moves : List NeedleMove
    moves = needle_moves_of (acts_of d)

    limit_same : (a b : DrawKind) → ◌≡◌ {A = Result DrawingValue TraceFault} (Err (fault.Limit a)) (Err (fault.Limit b)) → a ≡ b
    limit_same a b is = cc

    unlimited : (step : ℕ) (said : Result DrawingValue DrawKind) → drawing_with_strands d.label step (strands_of d) ≡ said
        → ((other : DrawKind) → drawing_with_strands d.label step (strands_of d) ≡ Err other → IsCountLimit other)
        → with_limit_fault said ≡ Err (fault.Limit why) → IsCountLimit why
    unlimited step (Ok e) through refused is = absurd cc
    unlimited step (Err other) through refused is = subst IsCountLimit (limit_same other why is) (refused other through)

    by_step : (said : Result ℕ TraceFault) → trace_step (needle_moves_of (acts_of d)) ≡ said
        → and_then_trace said (λ step. with_limit_fault (drawing_with_strands d.label step (strands_of d))) ≡ Err (fault.Limit why)
        → IsCountLimit why
    by_step (Ok step) measured is =
        let links : List Link = links_in (needle_moves_of (acts_of d)) in
        let parts = step_parts (first_too_long (needle_moves_of (acts_of d))) links step measured in
        let least : 1 ≤ step = omega (arith, parts.1, least_step links (first_has_size None (acts_of d)) parts.0) in
        let steps = moves_are_steps step 0 None (acts_of d) tt (acts_in_range 1 true false d.commands keeps.in_range)
        (omega (arith, parts.1)) in
        let fit = strands_fit step least d 0 (blocks_of (acts_of d)) (each_block_steps step (acts_of d) steps) in
        unlimited step (drawing_with_strands d.label step (strands_of d)) refl
        (λ other through. through_refused d step other fit (strands_there d parts.0) through) is
    by_step (Err other) measured is =
        absurd (never_limit (first_too_long (needle_moves_of (acts_of d))) (links_in (needle_moves_of (acts_of d))) why
        (measured ∙ ap Err (fault_same other is)))
      where
        fault_same : (a : TraceFault) → ◌≡◌ {A = Result DrawingValue TraceFault} (Err a) (Err (fault.Limit why)) → a ≡ fault.Limit why
        fault_same a is = cc
