-- Blocks without a needle, which go.
use Rattle.std.proofs.Common.{◌≡◌, Bool, true, false, not, ◌||◌, List, [], ◌∷◌, ◌++◌, Result, Ok, Err, filter, cond, refl, sym, ap, subst, ◌∙◌}
use Rattle.std.specs.List.{list_all}
use Rattle.design_model.specs.declared.act.Act.TheVariants as act
use Rattle.design_model.specs.ActKinds.{is_bare_stop}
use Rattle.sewing_edits.specs.EmptyBlocks.{act_blocks, acts_after_stops, acts_of_blocks, has_needle, needled_acts, needled_blocks, with_first_act, with_needled_threads}
use Rattle.sewing_edits.specs.EmptyBlockSteps.{needled_from, stop_if}
use Rattle.design_model.specs.Designs.{DesignValue, without_commands}
use Rattle.design_rewrites.specs.Rewrites.{IsRewritten}
use Rattle.design_rewrites.specs.declared.rewrite_fault.RewriteFault.{RewriteFault}
use Rattle.design_rewrites.specs.declared.rewrite_fault.RewriteFault.TheVariants as fault
use Rattle.sewing_edits.proofs.Names.{Act, Point, acts_of, acts_without_numbers, are_in_order, in_order}
use Rattle.design_model.proofs.ListLemmas.{false_true, first_true, second_true}
use Rattle.design_model.specs.ActPositions.{leaves_thread_loose}
use Rattle.design_rewrites.specs.OrderedActs.{can_follow_loose_thread}

-- what acts make of their blocks, where the first one has a needle
abbrev first_kept : List (List Act) → List Act
first_kept [] = []
first_kept (block ∷ later) = block ++ acts_after_stops (filter has_needle later)

-- what acts make of their blocks, where a stop waits or not
abbrev waiting : Bool → List (List Act) → List Act
waiting true blocks = acts_after_stops (filter has_needle blocks)
waiting false blocks = acts_of_blocks (filter has_needle blocks)

first_with : (a : Act) (blocks : List (List Act)) → first_kept (with_first_act a blocks) ≡ a ∷ first_kept blocks
first_with a [] = refl
first_with a (block ∷ later) = refl

waiting_needle : (waits : Bool) (p : Point) (float : Bool) (blocks : List (List Act))
    → waiting waits (with_first_act (act.Needle p float) blocks) ≡ stop_if waits ++ (act.Needle p float ∷ first_kept blocks)
waiting_needle true p float [] = refl
waiting_needle true p float (block ∷ later) = refl
waiting_needle false p float [] = refl
waiting_needle false p float (block ∷ later) = refl

waiting_empty : (waits : Bool) (blocks : List (List Act)) → waiting waits ([] ∷ blocks) ≡ waiting waits blocks
waiting_empty true blocks = refl
waiting_empty false blocks = refl

-- the acts that are left, by whether their block has had a needle
abbrev meant : (waits needled : Bool) → List (List Act) → List Act
meant waits true blocks = first_kept blocks
meant waits false blocks = waiting waits blocks

-- where the block has had no needle, the thread is loose
abbrev IsLooseBefore : Bool → Bool → Type 0
IsLooseBefore needled loose = needled ≡ false → loose ≡ true

loose_first : (loose : Bool) → loose ≡ true → (rest : List Act) → are_in_order loose (act.Trim ∷ rest) ≡ true → ⊥
loose_first true is rest ordered = cc
loose_first false is rest ordered = cc

later_ordered : (loose : Bool) (a : Act) (rest : List Act) → are_in_order loose (a ∷ rest) ≡ true
    → are_in_order (leaves_thread_loose a) rest ≡ true
later_ordered loose a rest ordered =
    second_true (not loose || can_follow_loose_thread a) (are_in_order (leaves_thread_loose a) rest) ordered

pub needled_is : (waits needled loose : Bool) (acts : List Act) → (needled ≡ true → waits ≡ false) → IsLooseBefore needled loose
    → are_in_order loose acts ≡ true → needled_from waits needled acts ≡ meant waits needled (act_blocks acts)
needled_is waits true loose [] sewn before ordered = refl
needled_is true false loose [] sewn before ordered = refl
needled_is false false loose [] sewn before ordered = refl
needled_is waits true loose (act.Needle p float ∷ rest) sewn before ordered =
    rw (sewn refl) (ap (λ xs. act.Needle p float ∷ xs)
    (needled_is false true false rest (λ is. refl) (λ is. absurd (false_true (sym is)))
    (later_ordered loose (act.Needle p float) rest ordered))
    ∙ sym (first_with (act.Needle p float) (act_blocks rest)))
needled_is waits false loose (act.Needle p float ∷ rest) sewn before ordered =
    ap (λ xs. stop_if waits ++ (act.Needle p float ∷ xs))
    (needled_is false true false rest (λ is. refl) (λ is. absurd (false_true (sym is)))
    (later_ordered loose (act.Needle p float) rest ordered))
    ∙ sym (waiting_needle waits p float (act_blocks rest))
needled_is waits true loose (act.Trim ∷ rest) sewn before ordered =
    ap (λ xs. act.Trim ∷ xs)
    (needled_is waits true true rest sewn (λ is. refl) (later_ordered loose act.Trim rest ordered))
    ∙ sym (first_with act.Trim (act_blocks rest))
needled_is waits false loose (act.Trim ∷ rest) sewn before ordered = absurd (loose_first loose (before refl) rest ordered)
needled_is waits true loose (act.Stop ∷ rest) sewn before ordered =
    rw (sewn refl) (needled_is true false true rest (λ is. absurd (false_true is)) (λ is. refl) (later_ordered loose act.Stop rest ordered))
needled_is true false loose (act.Stop ∷ rest) sewn before ordered =
    needled_is true false true rest (λ is. absurd (false_true is)) (λ is. refl) (later_ordered loose act.Stop rest ordered)
    ∙ sym (waiting_empty true (act_blocks rest))
needled_is false false loose (act.Stop ∷ rest) sewn before ordered =
    needled_is false false true rest (λ is. absurd (false_true is)) (λ is. refl) (later_ordered loose act.Stop rest ordered)
    ∙ sym (waiting_empty false (act_blocks rest))

-- the acts of a design, without empty blocks
pub needled_of : (acts : List Act) → are_in_order true acts ≡ true → needled_from false false acts ≡ needled_acts acts
needled_of acts ordered = needled_is false false true acts (λ is. refl) (λ is. refl) ordered

-- blocks without a stop
abbrev pub AreStopless : List (List Act) → Bool
AreStopless blocks = list_all (λ block. list_all (λ a. not (is_bare_stop a)) block) blocks

stopless_with : (a : Act) (blocks : List (List Act)) → is_bare_stop a ≡ false → AreStopless blocks ≡ true
    → AreStopless (with_first_act a blocks) ≡ true
stopless_with a [] is stopless = rw is refl
stopless_with a (block ∷ later) is stopless = rw is stopless

stopless_blocks : (acts : List Act) → AreStopless (act_blocks acts) ≡ true
stopless_blocks [] = refl
stopless_blocks (act.Needle p float ∷ rest) = stopless_with (act.Needle p float) (act_blocks rest) refl (stopless_blocks rest)
stopless_blocks (act.Trim ∷ rest) = stopless_with act.Trim (act_blocks rest) refl (stopless_blocks rest)
stopless_blocks (act.Stop ∷ rest) = stopless_blocks rest

stopless_filter : (blocks : List (List Act)) → AreStopless blocks ≡ true → AreStopless (filter has_needle blocks) ≡ true
stopless_filter [] stopless = refl
stopless_filter (block ∷ later) stopless = by_test (has_needle block)
    (first_true here (AreStopless later) stopless) (stopless_filter later (second_true here (AreStopless later) stopless))
  where
    here : Bool
    here = list_all (λ a. not (is_bare_stop a)) block

    by_test : (test : Bool) → here ≡ true → AreStopless (filter has_needle later) ≡ true
        → AreStopless (cond test (block ∷ filter has_needle later) (filter has_needle later)) ≡ true
    by_test true is rest = rw is rest
    by_test false is rest = rest

-- blocks with stops between them have these blocks again
blocks_again : (block : List Act) (later : List (List Act)) → AreStopless (block ∷ later) ≡ true
    → act_blocks (block ++ acts_after_stops later) ≡ block ∷ later
blocks_again [] [] stopless = refl
blocks_again [] (next ∷ later) stopless = ap (λ bs. [] ∷ bs) (blocks_again next later stopless)
blocks_again (act.Needle p float ∷ rest) later stopless = rw (blocks_again rest later stopless) refl
blocks_again (act.Trim ∷ rest) later stopless = rw (blocks_again rest later stopless) refl
blocks_again (act.Stop ∷ rest) later stopless = cc

pub blocks_stay : (acts : List Act) (first : List Act) (later : List (List Act)) → needled_blocks acts ≡ first ∷ later
    → act_blocks (needled_acts acts) ≡ first ∷ later
blocks_stay acts first later is =
    rw is (blocks_again first later (subst (λ bs. AreStopless bs ≡ true) is (stopless_filter (act_blocks acts) (stopless_blocks acts))))

-- the acts of a design, given to the threads of its blocks that have a needle
pub needled_result : (d base : DesignValue) (r : Result DesignValue RewriteFault) → base ≡ without_commands (with_needled_threads d)
    → IsRewritten base (needled_from false false (acts_without_numbers (acts_of d))) r
    → IsRewritten (with_needled_threads d) (needled_acts (acts_without_numbers (acts_of d))) r
needled_result d base (Ok new) is rewritten =
    let same = needled_of (acts_without_numbers (acts_of d)) (in_order d) in
    rw (same, is) at rewritten
needled_result d base (Err fault.TooMany) is rewritten =
    rw (needled_of (acts_without_numbers (acts_of d)) (in_order d)) at rewritten
needled_result d base (Err fault.Memory) is rewritten = tt

-- the thread before the acts that are left, in the design and in its new acts
abbrev pub Threads : (waits needled loose out : Bool) → Type 0
Threads true true loose out = ⊥
Threads true false loose out = loose ≡ true
Threads false true loose out = loose ≡ out
Threads false false loose out = (loose ≡ true) × (out ≡ true)

-- a needle act that is in order stays in order before other acts
needle_first : (loose : Bool) (p : Point) (float : Bool) (rest new : List Act) → are_in_order loose (act.Needle p float ∷ rest) ≡ true
    → are_in_order false new ≡ true → are_in_order loose (act.Needle p float ∷ new) ≡ true
needle_first true p true rest new ordered later = cc
needle_first true p false rest new ordered later = later
needle_first false p float rest new ordered later = later

pub needled_order : (waits needled loose out : Bool) (acts : List Act) → Threads waits needled loose out
    → are_in_order loose acts ≡ true → are_in_order out (needled_from waits needled acts) ≡ true
needled_order true true loose out acts threads ordered = absurd threads
needled_order true false loose out [] threads ordered = refl
needled_order false true loose out [] threads ordered = refl
needled_order false false loose out [] threads ordered = refl
needled_order true false loose true (act.Needle p float ∷ rest) threads ordered =
    needle_first true p float rest (needled_from false true rest) (rw threads at ordered)
    (needled_order false true false false rest refl (later_ordered loose (act.Needle p float) rest ordered))
needled_order true false loose false (act.Needle p float ∷ rest) threads ordered =
    needle_first true p float rest (needled_from false true rest) (rw threads at ordered)
    (needled_order false true false false rest refl (later_ordered loose (act.Needle p float) rest ordered))
needled_order false true loose out (act.Needle p float ∷ rest) threads ordered =
    needle_first out p float rest (needled_from false true rest) (rw threads at ordered)
    (needled_order false true false false rest refl (later_ordered loose (act.Needle p float) rest ordered))
needled_order false false loose false (act.Needle p float ∷ rest) threads ordered = absurd (false_true threads.1)
needled_order false false loose true (act.Needle p float ∷ rest) threads ordered =
    needle_first true p float rest (needled_from false true rest) (rw threads.0 at ordered)
    (needled_order false true false false rest refl (later_ordered loose (act.Needle p float) rest ordered))
needled_order true false loose out (act.Trim ∷ rest) threads ordered = absurd (loose_first loose threads rest ordered)
needled_order false true true out (act.Trim ∷ rest) threads ordered = cc
needled_order false true false true (act.Trim ∷ rest) threads ordered = cc
needled_order false true false false (act.Trim ∷ rest) threads ordered = needled_order false true true true rest refl ordered
needled_order false false loose out (act.Trim ∷ rest) threads ordered = absurd (loose_first loose threads.0 rest ordered)
needled_order true false loose out (act.Stop ∷ rest) threads ordered =
    needled_order true false true out rest refl (later_ordered loose act.Stop rest ordered)
needled_order false true loose out (act.Stop ∷ rest) threads ordered =
    needled_order true false true out rest refl (later_ordered loose act.Stop rest ordered)
needled_order false false loose out (act.Stop ∷ rest) threads ordered =
    needled_order false false true out rest (refl, threads.1) (later_ordered loose act.Stop rest ordered)

-- acts without empty blocks are in order
pub needled_in_order : (acts : List Act) → are_in_order true acts ≡ true → are_in_order true (needled_acts acts) ≡ true
needled_in_order acts ordered =
    ap (are_in_order true) (sym (needled_of acts ordered)) ∙ needled_order false false true true acts (refl, refl) ordered
