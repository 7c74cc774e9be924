-- The chains of a design can be lines of a drawing whose step is its greatest link.
use Rattle.std.proofs.Common.{◌≡◌, ℕ, ◌+◌, ◌/◌, ◌%◌, ◌≤◌, min, Bool, true, false, cond, List, [], ◌∷◌, ◌++◌, length, Option, Some, None, sym, subst, ◌∙◌, refl, arith, length-append}
use Rattle.stitch_trace.proofs.Names.{nat_tests, le-max_right, mul-le-mul_right, and_parts, or_parts, div_ceil_times, list_all-append, list_all, Act, NumberedAct, Command, Point, is_stop, needle_point, act_point, is_bare_stop, blocks_of, with_act_in_first_block, is_same_point, last_point, all_in_needle_range, steps_of_line, last_point_or, steps_of, Link, NeedleMove, Stay, Gap, Sewn, chains_of, new_moves, new_moves_of, link_size, links_in, move_to_act, needle_moves_of, needle_moves_from, chain_if_any, chains_after, extended_chain, some_same, acts_from, is_point_within, has_repeated_point, repeats_after, segment_steps}
use Rattle.design_model.specs.declared.act.Act.TheVariants as act
use Rattle.design_model.specs.declared.command.Command.TheVariants.{Stitch, Jump, Trim, Stop}
use Rattle.design_model.specs.ActPositions.{is_act_in_range}
use Rattle.design_model.specs.Commands.{is_command_in_range}
use Rattle.stitch_trace.proofs.LinkedLemmas.{Follows, Linked, led_ends, moves_linked, new_linked}
use Rattle.stitch_trace.proofs.MeasureLemmas.{greatest, greatest_more}
use Rattle.stitch_trace.proofs.MoveLemmas.{chains_are}

-- a link that is one step of that length at most
pub record IsStep (step : ℕ) (link : Link) : Type 0 where
  pub apart : is_same_point link.from link.to ≡ false
  pub from : is_point_within 30000 link.from ≡ true
  pub to : is_point_within 30000 link.to ≡ true
  pub short : link_size link ≤ step

-- the links of moves are such
abbrev pub AreSteps : ℕ → List NeedleMove → Type 0
AreSteps step [] = Unit {0}
AreSteps step (Stay ∷ rest) = AreSteps step rest
AreSteps step (Gap ∷ rest) = AreSteps step rest
AreSteps step (Sewn number link ∷ rest) = IsStep step link × AreSteps step rest

-- the needles of acts are in range
abbrev pub InRange : List NumberedAct → Type 0
InRange [] = Unit {0}
InRange (a ∷ rest) = (is_act_in_range a.act ≡ true) × InRange rest

pub acts_in_range : (n : ℕ) (loose jumped : Bool) (commands : List Command) → list_all is_command_in_range commands ≡ true
    → InRange (acts_from n loose jumped commands)
acts_in_range n loose jumped [] all = tt
acts_in_range n loose jumped (Stitch p ∷ rest) all =
    let both = and_parts (is_point_within 30000 p) (list_all is_command_in_range rest)
    all in (both.0, acts_in_range (n + 1) false false rest both.1)
acts_in_range n loose jumped (Jump p ∷ rest) all =
    let both = and_parts (is_command_in_range (Jump p)) (list_all is_command_in_range rest) all in acts_in_range (n + 1) loose true rest
    both.1
acts_in_range n true jumped (Trim ∷ rest) all = acts_in_range (n + 1) true jumped rest all
acts_in_range n false jumped (Trim ∷ rest) all = (refl, acts_in_range (n + 1) true false rest all)
acts_in_range n loose jumped (Stop ∷ rest) all = (refl, acts_in_range (n + 1) true false rest all)

-- so is the one before
abbrev pub BeforeInRange : Option Point → Type 0
BeforeInRange None = Unit {0}
BeforeInRange (Some p) = is_point_within 30000 p ≡ true

point_in_range : (what : Act) → is_act_in_range what ≡ true → BeforeInRange (act_point what)
point_in_range act.Trim within = tt
point_in_range act.Stop within = tt
point_in_range (act.Needle p float) within = within

-- no link is greater than the greatest
after_needle : (step least : ℕ) (p q : Point) (number : ℕ) (later : List NeedleMove) → is_point_within 30000 p ≡ true
    → is_point_within 30000 q ≡ true → (t : Bool) → is_same_point p q ≡ t → (float : Bool)
    → greatest least (links_in (cond t Stay (cond float Gap (Sewn number (record { from = p; to = q }))) ∷ later)) ≤ step
    → ((m : ℕ) → greatest m (links_in later) ≤ step → AreSteps step later)
    → AreSteps step (cond t Stay (cond float Gap (Sewn number (record { from = p; to = q }))) ∷ later)
after_needle step least p q number later from to true same float most rest = rest least most
after_needle step least p q number later from to false same true most rest = rest least most
after_needle step least p q number later from to false same false most rest = grind (arith, nat_tests, greatest_more, le-max_right least)

after_act : (step least : ℕ) (p : Point) (number : ℕ) (what : Act) (later : List NeedleMove) → is_point_within 30000 p ≡ true
    → is_act_in_range what ≡ true → greatest least (links_in (move_to_act (Some p) number what ∷ later)) ≤ step
    → ((m : ℕ) → greatest m (links_in later) ≤ step → AreSteps step later) → AreSteps step (move_to_act (Some p) number what ∷ later)
after_act step least p number act.Trim later from within most rest = rest least most
after_act step least p number act.Stop later from within most rest = rest least most
after_act step least p number (act.Needle q float) later from within most rest =
    after_needle step least p q number later from within (is_same_point p q) refl float most rest

pub moves_are_steps : (step least : ℕ) (before : Option Point) (acts : List NumberedAct) → BeforeInRange before → InRange acts
    → greatest least (links_in (needle_moves_from before acts)) ≤ step → AreSteps step (needle_moves_from before acts)
moves_are_steps step least before [] from within most = tt
moves_are_steps step least None (a ∷ rest) from within most =
    moves_are_steps step least (needle_point a) rest (point_in_range a.act within.0) within.1 most
moves_are_steps step least (Some p) (a ∷ rest) from within most =
    after_act step least p a.number a.act (needle_moves_from (needle_point a) rest) from within.0 most
    (λ m more. moves_are_steps step m (needle_point a) rest (point_in_range a.act within.0) within.1 more)

-- the first move, and the others
steps_later : (step : ℕ) (move : NeedleMove) (rest : List NeedleMove) → AreSteps step (move ∷ rest) → AreSteps step rest
steps_later step Stay rest are = are
steps_later step Gap rest are = are
steps_later step (Sewn number link) rest are = are.1

steps_first : (step : ℕ) (move : NeedleMove) (rest others : List NeedleMove) → AreSteps step (move ∷ rest) → AreSteps step others
    → AreSteps step (move ∷ others)
steps_first step Stay rest others are more = more
steps_first step Gap rest others are more = more
steps_first step (Sewn number link) rest others are more = (are.0, more)

pub new_are_steps : (step : ℕ) (before : List Link) (moves : List NeedleMove) → AreSteps step moves → AreSteps step (new_moves before moves)
new_are_steps step before [] are = tt
new_are_steps step before (Stay ∷ rest) are = new_are_steps step before rest are
new_are_steps step before (Gap ∷ rest) are = new_are_steps step before rest are
new_are_steps step before (Sewn number link ∷ rest) are = grind (arith, nat_tests, new_are_steps step (link ∷ before) rest are.1)

-- the links of each block are such, those of the first where it comes after such an act
abbrev pub BlockSteps : ℕ → List (List NumberedAct) → Type 0
BlockSteps step [] = Unit {0}
BlockSteps step (acts ∷ later) = AreSteps step (needle_moves_of acts) × BlockSteps step later

abbrev FirstSteps : ℕ → Option Point → List (List NumberedAct) → Type 0
FirstSteps step before [] = Unit {0}
FirstSteps step before (acts ∷ later) = AreSteps step (needle_moves_from before acts) × BlockSteps step later

none_before : (step : ℕ) (blocks : List (List NumberedAct)) → FirstSteps step None blocks → BlockSteps step blocks
none_before step [] are = tt
none_before step (acts ∷ later) are = are

pub no_needle : (what : Act) → is_bare_stop what ≡ true → act_point what ≡ None
no_needle act.Trim stop = refl
no_needle act.Stop stop = refl
no_needle (act.Needle p float) stop = absurd cc

joined_first : (step : ℕ) (before : Option Point) (a : NumberedAct) (rest : List NumberedAct) (blocks : List (List NumberedAct))
    → AreSteps step (needle_moves_from before (a ∷ rest)) → FirstSteps step (needle_point a) blocks
    → FirstSteps step before (with_act_in_first_block a blocks)
joined_first step before a rest [] are blocks =
    (steps_first step (move_to_act before a.number a.act) (needle_moves_from (needle_point a) rest) [] are tt, tt)
joined_first step before a rest (first ∷ later) are blocks = (
  steps_first step (move_to_act before a.number a.act) (needle_moves_from (needle_point a) rest) (needle_moves_from (needle_point a) first)
      are blocks.0,
  blocks.1,
)

blocks_are_steps : (step : ℕ) (before : Option Point) (acts : List NumberedAct) → AreSteps step (needle_moves_from before acts)
    → FirstSteps step before (blocks_of acts)
blocks_are_steps step before [] are = (tt, tt)
blocks_are_steps step before (a ∷ rest) are =
    by_test (is_stop a) refl (blocks_are_steps step (needle_point a) rest
    (steps_later step (move_to_act before a.number a.act) (needle_moves_from (needle_point a) rest) are))
  where
    by_test : (t : Bool) → is_stop a ≡ t → FirstSteps step (needle_point a) (blocks_of rest)
        → FirstSteps step before (cond t ([] ∷ blocks_of rest) (with_act_in_first_block a (blocks_of rest)))
    by_test true stop later = (
      tt,
      none_before step (blocks_of rest)
          (subst (λ (place : Option Point). FirstSteps step place (blocks_of rest)) (no_needle a.act stop) later),
    )
    by_test false stop later = joined_first step before a rest (blocks_of rest) are later

pub each_block_steps : (step : ℕ) (acts : List NumberedAct) → AreSteps step (needle_moves_of acts) → BlockSteps step (blocks_of acts)
each_block_steps step acts are = none_before step (blocks_of acts) (blocks_are_steps step None acts are)

-- points that a drawing of that step takes for a line, with no more steps than points
pub record Fits (step : ℕ) (points : List Point) : Type 0 where
  pub long : 2 ≤ length points
  pub still : has_repeated_point points ≡ false
  pub in_range : all_in_needle_range points ≡ true
  pub cost : steps_of_line step points ≤ length points

-- a link of no more than the step is one step
pub one_step : (size step : ℕ) → 1 ≤ step → size ≤ step → size / step + min 1 (size % step) ≤ 1
one_step size step some short =
    let steps : ℕ = size / step + min 1 (size % step) in
    let bounds = div_ceil_times size step (omega (arith, some)) in
    let few : 2 ≤ steps → ⊥ = λ two. omega (arith, bounds.1, mul-le-mul_right step two, short) in
    omega (arith, few)

repeats_led : (p : Point) (rest : List Point) (q : Point) → repeats_after p rest ≡ false → is_same_point (last_point_or p rest) q ≡ false
    → repeats_after p (rest ++ q ∷ []) ≡ false
repeats_led p [] q still apart = rw apart refl
repeats_led p (r ∷ rest) q still apart =
    let both = or_parts (is_same_point p r) (repeats_after r rest) still in rw (both.0, repeats_led r rest q both.1 apart) refl

steps_led : (step : ℕ) (p : Point) (rest : List Point) (q : Point)
    → segment_steps step p (rest ++ q ∷ []) ≡ segment_steps step p rest + steps_of (last_point_or p rest) q step
steps_led step p [] q = omega arith
steps_led step p (r ∷ rest) q = omega (arith, steps_led step r rest q)

-- points so far
abbrev FitSoFar : ℕ → List Point → Type 0
FitSoFar step [] = Unit {0}
FitSoFar step (p ∷ rest) = Fits step (p ∷ rest)

led_fits : (step : ℕ) (begun : List Point) (place : Option Point) (link : Link) → 1 ≤ step → FitSoFar step begun
    → last_point begun ≡ place → Follows place link → IsStep step link → Fits step (extended_chain begun link)
led_fits step [] place link some so_far ends follows is = grind (arith, nat_tests, one_step (link_size link) step some is.short)
led_fits step (p ∷ rest) None link some so_far ends follows is = absurd cc
led_fits step (p ∷ rest) (Some q) link some so_far ends follows is =
    let from : link.from ≡ last_point_or p rest = follows ∙ sym (some_same (last_point_or p rest) q ends) in
    let apart : is_same_point (last_point_or p rest) link.to ≡ false =
    subst (λ (r : Point). is_same_point r link.to ≡ false) from is.apart in
    let one : steps_of (last_point_or p rest) link.to step ≤ 1 =
    subst (λ (r : Point). steps_of r link.to step ≤ 1) from (one_step (link_size link) step some is.short) in
    record {
      long = omega (arith, so_far.long, length-append (p ∷ rest) (link.to ∷ []));
      still = repeats_led p rest link.to so_far.still apart;
      in_range = list_all-append (is_point_within 30000) (p ∷ rest) (link.to ∷ []) ∙ rw (so_far.in_range, is.to) refl;
      cost = omega (arith, so_far.cost, steps_led step p rest link.to, one, length-append rest (link.to ∷ []));
    }

-- each chain is so
abbrev pub AllFit : ℕ → List (List Point) → Type 0
AllFit step [] = Unit {0}
AllFit step (chain ∷ rest) = Fits step chain × AllFit step rest

begun_fit : (step : ℕ) (begun : List Point) (later : List (List Point)) → FitSoFar step begun → AllFit step later
    → AllFit step (chain_if_any begun ++ later)
begun_fit step [] later so_far fit = fit
begun_fit step (p ∷ rest) later so_far fit = (so_far, fit)

so_far_led : (step : ℕ) (begun : List Point) (link : Link) → Fits step (extended_chain begun link)
    → FitSoFar step (extended_chain begun link)
so_far_led step [] link fit = fit
so_far_led step (p ∷ rest) link fit = fit

chains_fit : (step : ℕ) → 1 ≤ step → (begun : List Point) (place : Option Point) (moves : List NeedleMove) → FitSoFar step begun
    → last_point begun ≡ place → Linked place moves → AreSteps step moves → AllFit step (chains_after begun moves)
chains_fit step some [] place [] so_far ends linked are = tt
chains_fit step some (p ∷ rest) place [] so_far ends linked are = (so_far, tt)
chains_fit step some begun place (Stay ∷ rest) so_far ends linked are = chains_fit step some begun place rest so_far ends linked are
chains_fit step some begun place (Gap ∷ rest) so_far ends linked are =
    begun_fit step begun (chains_after [] rest) so_far (chains_fit step some [] None rest tt refl linked are)
chains_fit step some begun place (Sewn number link ∷ rest) so_far ends linked are =
    chains_fit step some (extended_chain begun link) (Some link.to) rest
    (so_far_led step begun link (led_fits step begun place link some so_far ends linked.0 are.0)) (led_ends begun link) linked.1 are.1

pub block_fits : (step : ℕ) → 1 ≤ step → (acts : List NumberedAct) → AreSteps step (needle_moves_of acts) → AllFit step (chains_of acts)
block_fits step some acts are =
    subst (AllFit step) (chains_are acts)
    (chains_fit step some [] None (new_moves_of acts) tt refl (new_linked [] None (needle_moves_of acts) (moves_linked None acts))
    (new_are_steps step [] (needle_moves_of acts) are))
