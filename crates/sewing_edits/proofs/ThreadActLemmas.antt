-- Acts whose threads are edited.
use Rattle.std.proofs.Common.{◌≡◌, ℕ, zero, suc, ◌+◌, ◌-◌, ◌≤◌, ◌<◌, Bool, true, false, List, [], ◌∷◌, ◌++◌, length, take, refl, sym, ap, subst, ◌∙◌, append-nil, append_assoc, arith, Ok, Err, IsErrAnd, Result}
use Rattle.std.proofs.lemmas.List.{length-append, length-reverse}
use Rattle.design_model.specs.declared.act.Act.TheVariants as act
use Rattle.design_model.specs.declared.command.Command.{Command}
use Rattle.design_model.specs.declared.design.TheConstants.{MAX_COMMANDS}
use Rattle.design_model.specs.Designs.{DesignValue}
use Rattle.design_review.specs.declared.thread_needles.ThreadNeedle.{ThreadNeedle}
use Rattle.design_review.specs.Ties.{backwards, is_floated_to, is_tied, with_next_floats}
use Rattle.sewing_edits.specs.declared.thread_edits.ThreadEdit.{ThreadEdit}
use Rattle.sewing_edits.specs.declared.thread_edits.ThreadEdit.TheVariants as edit
use Rattle.sewing_edits.specs.ThreadTies.{acts_of_needles, bared_end, bared_start, edited_thread, edited_threads, has_own_tie, tied_thread}
use Rattle.sewing_edits.specs.TieTheorems.{IsTieLength, are_threads_tied, is_tied_at_both}
use Rattle.design_rewrites.specs.WrittenActs.{WritesActs, design_after_acts}
use Rattle.design_rewrites.specs.declared.rewrite_fault.RewriteFault.{RewriteFault}
use Rattle.design_rewrites.specs.declared.rewrite_fault.RewriteFault.TheVariants as fault
use Rattle.sewing_edits.proofs.Names.{Act, are_in_order, if◌then◌else◌}
use Rattle.step_splitter.specs.Refits.{commands_of_act, commands_of_acts}
use Rattle.sewing_edits.proofs.OwnTieLemmas.{tie_parts}
use Rattle.sewing_edits.proofs.ThreadTieLemmas.{ends_tied}

-- the acts of needles are needles of the thread
needles_first : (e : ThreadEdit) (thread needles : List ThreadNeedle) (rest : List Act)
    → edited_threads e thread (acts_of_needles needles ++ rest) ≡ edited_threads e (thread ++ needles) rest
needles_first e thread [] rest = ap (λ ns. edited_threads e ns rest) (sym (append-nil thread))
needles_first e thread (n ∷ needles) rest = needles_first e (thread ++ n ∷ []) needles rest
    ∙ ap (λ ns. edited_threads e ns rest) (append_assoc thread (n ∷ []) needles)

needles_only : (e : ThreadEdit) (needles : List ThreadNeedle)
    → edited_threads e [] (acts_of_needles needles) ≡ acts_of_needles (edited_thread e needles)
needles_only e needles =
    ap (edited_threads e []) (sym (append-nil (acts_of_needles needles))) ∙ needles_first e [] needles []

-- The test whether there is no needle.
abbrev pub is_empty : List ThreadNeedle → Bool
is_empty [] = true
is_empty (n ∷ rest) = false

-- one more needle
longer : (thread : List ThreadNeedle) (n : ThreadNeedle) → is_empty (thread ++ n ∷ []) ≡ false
longer [] n = refl
longer (m ∷ thread) n = refl

sewn_longer : (thread : List ThreadNeedle) (n : ThreadNeedle) → is_floated_to thread ≡ false
    → (is_empty thread ≡ true → n.float ≡ false) → is_floated_to (thread ++ n ∷ []) ≡ false
sewn_longer [] n sewn first = first refl
sewn_longer (m ∷ thread) n sewn first = sewn

-- What is known of acts in order after a needle.
pub record NeedleInOrder (thread : List ThreadNeedle) (n : ThreadNeedle) (rest : List Act) : Type 0 where
  pub sewn : is_floated_to (thread ++ n ∷ []) ≡ false
  pub ordered : are_in_order (is_empty (thread ++ n ∷ [])) rest ≡ true

needle_in_order : (thread : List ThreadNeedle) (n : ThreadNeedle) (rest : List Act) → is_floated_to thread ≡ false
    → are_in_order (is_empty thread) (act.Needle n.at n.float ∷ rest) ≡ true → NeedleInOrder thread n rest
needle_in_order thread n rest sewn ordered = record {
  sewn = sewn_longer thread n sewn (λ none. first n.float (ap (λ (loose : Bool). are_in_order loose (act.Needle n.at n.float ∷ rest))
      (sym none) ∙ ordered));
  ordered = rw (longer thread n) (later (is_empty thread) n.float ordered);
}
  where
    first : (float : Bool) → are_in_order true (act.Needle n.at float ∷ rest) ≡ true → float ≡ false
    first true is = cc
    first false is = refl

    later : (loose float : Bool) → are_in_order loose (act.Needle n.at float ∷ rest) ≡ true → are_in_order false rest ≡ true
    later true true is = cc
    later true false is = is
    later false float is = is

stop_in_order : (loose : Bool) (rest : List Act) → are_in_order loose (act.Stop ∷ rest) ≡ true → are_in_order true rest ≡ true
stop_in_order true rest is = is
stop_in_order false rest is = is

trim_in_order : (loose : Bool) (rest : List Act) → are_in_order loose (act.Trim ∷ rest) ≡ true
    → (loose ≡ false) × (are_in_order true rest ≡ true)
trim_in_order true rest is = cc
trim_in_order false rest is = (refl, is)

-- an edit after another one is a third, if it is so for each thread
pub edited_twice : (f g h : ThreadEdit) (thread : List ThreadNeedle) (acts : List Act)
    → ((t : List ThreadNeedle) → is_floated_to t ≡ false → edited_thread f (edited_thread g t) ≡ edited_thread h t)
    → is_floated_to thread ≡ false → are_in_order (is_empty thread) acts ≡ true
    → edited_threads f [] (edited_threads g thread acts) ≡ edited_threads h thread acts
edited_twice f g h thread [] same sewn ordered =
    needles_only f (edited_thread g thread) ∙ ap acts_of_needles (same thread sewn)
edited_twice f g h thread (act.Needle p float ∷ rest) same sewn ordered =
    let n : ThreadNeedle = record { at = p; float = float } in
    let next = needle_in_order thread n rest sewn ordered in
    edited_twice f g h (thread ++ n ∷ []) rest same next.sewn next.ordered
edited_twice f g h thread (act.Trim ∷ rest) same sewn ordered =
    needles_first f [] (edited_thread g thread) (act.Trim ∷ edited_threads g [] rest)
    ∙ ap (λ ns. acts_of_needles ns ++ act.Trim ∷ edited_threads f [] (edited_threads g [] rest)) (same thread sewn)
    ∙ ap (λ left. acts_of_needles (edited_thread h thread) ++ act.Trim ∷ left)
    (edited_twice f g h [] rest same refl (trim_in_order (is_empty thread) rest ordered).1)
edited_twice f g h thread (act.Stop ∷ rest) same sewn ordered =
    needles_first f [] (edited_thread g thread) (act.Stop ∷ edited_threads g [] rest)
    ∙ ap (λ ns. acts_of_needles ns ++ act.Stop ∷ edited_threads f [] (edited_threads g [] rest)) (same thread sewn)
    ∙ ap (λ left. acts_of_needles (edited_thread h thread) ++ act.Stop ∷ left)
    (edited_twice f g h [] rest same refl (stop_in_order (is_empty thread) rest ordered))

-- the needles of a thread are in order, and leave the thread as it was or sewn
needles_order : (needles : List ThreadNeedle) (rest : List Act)
    → are_in_order false (acts_of_needles needles ++ rest) ≡ are_in_order false rest
needles_order [] rest = refl
needles_order (n ∷ needles) rest = needles_order needles rest

thread_order : (thread : List ThreadNeedle) (rest : List Act) → is_floated_to thread ≡ false
    → are_in_order true (acts_of_needles thread ++ rest) ≡ are_in_order (is_empty thread) rest
thread_order [] rest sewn = refl
thread_order (n ∷ thread) rest sewn = rw sewn (needles_order thread rest)

-- An edit keeps whether a thread has needles, and that it begins with one that is sewn to.
pub record KeepsStart (e : ThreadEdit) (thread : List ThreadNeedle) : Type 0 where
  pub sewn : is_floated_to (edited_thread e thread) ≡ false
  pub empty : is_empty (edited_thread e thread) ≡ is_empty thread

tied_start : (len : ℕ) (thread : List ThreadNeedle) → is_floated_to thread ≡ false → KeepsStart (edit.Tie len) thread
tied_start len [] sewn = record { sewn = refl; empty = refl }
tied_start len (n ∷ rest) sewn = by_tied (is_tied 20 (n ∷ rest)) refl
  where
    by_tied : (tied : Bool) → is_tied 20 (n ∷ rest) ≡ tied → KeepsStart (edit.Tie len) (n ∷ rest)
    by_tied true is = record { sewn = rw is sewn; empty = rw is refl }
    by_tied false is = record { sewn = rw is refl; empty = rw is refl }

bared_first : (thread : List ThreadNeedle) → is_floated_to thread ≡ false
    → (is_floated_to (bared_start thread) ≡ false) × (is_empty (bared_start thread) ≡ is_empty thread)
bared_first (a ∷ b ∷ c ∷ d ∷ e ∷ rest) sewn = by_own (has_own_tie (a ∷ b ∷ c ∷ d ∷ e ∷ rest)) refl
  where
    by_own : (own : Bool) → has_own_tie (a ∷ b ∷ c ∷ d ∷ e ∷ rest) ≡ own
        → (is_floated_to (if own then e ∷ rest else a ∷ b ∷ c ∷ d ∷ e ∷ rest) ≡ false)
        × (is_empty (if own then e ∷ rest else a ∷ b ∷ c ∷ d ∷ e ∷ rest) ≡ false)
    by_own true is = ((tie_parts a b c d e is).sewn_e, refl)
    by_own false is = (sewn, refl)
bared_first (a ∷ b ∷ c ∷ d ∷ []) sewn = (sewn, refl)
bared_first (a ∷ b ∷ c ∷ []) sewn = (sewn, refl)
bared_first (a ∷ b ∷ []) sewn = (sewn, refl)
bared_first (a ∷ []) sewn = (sewn, refl)
bared_first [] sewn = (refl, refl)

-- a thread has as many needles backwards
next_length : (thread : List ThreadNeedle) → length (with_next_floats thread) ≡ length thread
next_length [] = refl
next_length (n ∷ rest) = ap (λ (i : ℕ). suc i) (next_length rest)

pub backwards_length : (thread : List ThreadNeedle) → length (backwards thread) ≡ length thread
backwards_length thread = length-reverse (with_next_floats thread) ∙ next_length thread

own_five : (thread : List ThreadNeedle) → has_own_tie thread ≡ true → 5 ≤ length thread
own_five (a ∷ b ∷ c ∷ d ∷ e ∷ rest) is = omega arith
own_five (a ∷ b ∷ c ∷ d ∷ []) is = cc
own_five (a ∷ b ∷ c ∷ []) is = cc
own_five (a ∷ b ∷ []) is = cc
own_five (a ∷ []) is = cc
own_five [] is = cc

taken_first : (n : ThreadNeedle) (rest : List ThreadNeedle) (i : ℕ) → 1 ≤ i
    → (is_floated_to (take i (n ∷ rest)) ≡ n.float) × (is_empty (take i (n ∷ rest)) ≡ false)
taken_first n rest zero some = absurd (omega (arith, some))
taken_first n rest (suc i) some = (refl, refl)

bared_last : (thread : List ThreadNeedle)
    → (is_floated_to (bared_end thread) ≡ is_floated_to thread) × (is_empty (bared_end thread) ≡ is_empty thread)
bared_last [] = (refl, refl)
bared_last (n ∷ rest) = by_own (has_own_tie (backwards (n ∷ rest))) refl
  where
    by_own : (own : Bool) → has_own_tie (backwards (n ∷ rest)) ≡ own
        → (is_floated_to (if own then take (length (n ∷ rest) - 4) (n ∷ rest) else n ∷ rest) ≡ n.float)
        × (is_empty (if own then take (length (n ∷ rest) - 4) (n ∷ rest) else n ∷ rest) ≡ false)
    by_own true is = taken_first n rest (length (n ∷ rest) - 4)
        (omega (arith, own_five (backwards (n ∷ rest)) is, backwards_length (n ∷ rest)))
    by_own false is = (refl, refl)

bared_start_kept : (thread : List ThreadNeedle) → is_floated_to thread ≡ false → KeepsStart edit.Bare thread
bared_start_kept thread sewn =
    let first = bared_first thread sewn in
    let last = bared_last (bared_start thread) in
    record { sewn = last.0 ∙ first.0; empty = last.1 ∙ first.1 }

pub keeps_start : (e : ThreadEdit) (thread : List ThreadNeedle) → is_floated_to thread ≡ false → KeepsStart e thread
keeps_start (edit.Tie len) thread sewn = tied_start len thread sewn
keeps_start edit.Bare thread sewn = bared_start_kept thread sewn

-- acts in order stay in order when their threads are edited
pub order_edited : (e : ThreadEdit) (thread : List ThreadNeedle) (acts : List Act) → is_floated_to thread ≡ false
    → are_in_order (is_empty thread) acts ≡ true → are_in_order true (edited_threads e thread acts) ≡ true
order_edited e thread [] sewn ordered =
    ap (are_in_order true) (sym (append-nil (acts_of_needles (edited_thread e thread))))
    ∙ thread_order (edited_thread e thread) [] (keeps_start e thread sewn).sewn ∙ refl
order_edited e thread (act.Needle p float ∷ rest) sewn ordered =
    let n : ThreadNeedle = record { at = p; float = float } in
    let next = needle_in_order thread n rest sewn ordered in
    order_edited e (thread ++ n ∷ []) rest next.sewn next.ordered
order_edited e thread (act.Trim ∷ rest) sewn ordered =
    let kept = keeps_start e thread sewn in
    let trim = trim_in_order (is_empty thread) rest ordered in
    thread_order (edited_thread e thread) (act.Trim ∷ edited_threads e [] rest) kept.sewn
    ∙ ap (λ (loose : Bool). are_in_order loose (act.Trim ∷ edited_threads e [] rest)) (kept.empty ∙ trim.0)
    ∙ order_edited e [] rest refl trim.1
order_edited e thread (act.Stop ∷ rest) sewn ordered =
    let kept = keeps_start e thread sewn in
    thread_order (edited_thread e thread) (act.Stop ∷ edited_threads e [] rest) kept.sewn
    ∙ after_stop (is_empty (edited_thread e thread)) (edited_threads e [] rest)
    ∙ order_edited e [] rest refl (stop_in_order (is_empty thread) rest ordered)
  where
    after_stop : (loose : Bool) (acts : List Act) → are_in_order loose (act.Stop ∷ acts) ≡ are_in_order true acts
    after_stop true acts = refl
    after_stop false acts = refl

-- the acts of needles are needles of the thread whose ends are tied
tied_first : (thread needles : List ThreadNeedle) (rest : List Act)
    → are_threads_tied thread (acts_of_needles needles ++ rest) ≡ are_threads_tied (thread ++ needles) rest
tied_first thread [] rest = ap (λ ns. are_threads_tied ns rest) (sym (append-nil thread))
tied_first thread (n ∷ needles) rest = tied_first (thread ++ n ∷ []) needles rest
    ∙ ap (λ ns. are_threads_tied ns rest) (append_assoc thread (n ∷ []) needles)

tied_only : (needles : List ThreadNeedle) → are_threads_tied [] (acts_of_needles needles) ≡ is_tied_at_both needles
tied_only needles = ap (are_threads_tied []) (sym (append-nil (acts_of_needles needles))) ∙ tied_first [] needles []

both_tied : (len : ℕ) (thread : List ThreadNeedle) → IsTieLength len → is_floated_to thread ≡ false
    → is_tied_at_both (tied_thread len thread) ≡ true
both_tied len [] is sewn = refl
both_tied len (n ∷ rest) is sewn = by_list (tied_thread len (n ∷ rest)) (ends_tied len (n ∷ rest) is sewn (omega arith))
  where
    by_list : (tied : List ThreadNeedle) → (is_tied 20 tied ≡ true) × (is_tied 20 (backwards tied) ≡ true) → is_tied_at_both tied ≡ true
    by_list [] both = refl
    by_list (m ∷ more) both = rw (both.0, both.1) refl

pub all_tied : (len : ℕ) (thread : List ThreadNeedle) (acts : List Act) → IsTieLength len → is_floated_to thread ≡ false
    → are_in_order (is_empty thread) acts ≡ true → are_threads_tied [] (edited_threads (edit.Tie len) thread acts) ≡ true
all_tied len thread [] is sewn ordered = tied_only (tied_thread len thread) ∙ both_tied len thread is sewn
all_tied len thread (act.Needle p float ∷ rest) is sewn ordered =
    let n : ThreadNeedle = record { at = p; float = float } in
    let next = needle_in_order thread n rest sewn ordered in
    all_tied len (thread ++ n ∷ []) rest is next.sewn next.ordered
all_tied len thread (act.Trim ∷ rest) is sewn ordered =
    tied_first [] (tied_thread len thread) (act.Trim ∷ edited_threads (edit.Tie len) [] rest)
    ∙ rw (both_tied len thread is sewn) (all_tied len [] rest is refl (trim_in_order (is_empty thread) rest ordered).1)
all_tied len thread (act.Stop ∷ rest) is sewn ordered =
    tied_first [] (tied_thread len thread) (act.Stop ∷ edited_threads (edit.Tie len) [] rest)
    ∙ rw (both_tied len thread is sewn) (all_tied len [] rest is refl (stop_in_order (is_empty thread) rest ordered))

-- the commands of acts come before those of further ones
commands_before : (acts rest : List Act) (commands : List Command)
    → commands ++ commands_of_acts (acts ++ rest) ≡ (commands ++ commands_of_acts acts) ++ commands_of_acts rest
commands_before [] rest commands = ap (λ cs. cs ++ commands_of_acts rest) (sym (append-nil commands))
commands_before (a ∷ acts) rest commands = sym (append_assoc commands (commands_of_act a) (commands_of_acts (acts ++ rest)))
    ∙ commands_before acts rest (commands ++ commands_of_act a)
    ∙ ap (λ cs. cs ++ commands_of_acts rest) (append_assoc commands (commands_of_act a) (commands_of_acts acts))

-- what adds acts adds them before further ones
pub writes_before : {T : Type 0} (acts rest : List Act) (old new : DesignValue) (r : Result T RewriteFault)
    → WritesActs acts [] old r new → WritesActs (acts ++ rest) rest old r new
unfolding design_after_acts
writes_before acts rest old new (Ok x) writes =
    ap (λ cs. record old { commands = cs }) (commands_before acts rest old.commands)
    ∙ ap (λ (d : DesignValue). record d { commands = d.commands ++ commands_of_acts rest })
    (writes ∙ ap (λ cs. record new { commands = cs }) (append-nil new.commands))
writes_before acts rest old new (Err fault.TooMany) many = longer MAX_COMMANDS _ _ _ many
    (ap (λ (cs : List Command). length cs) (commands_before acts rest old.commands)
    ∙ length-append (old.commands ++ commands_of_acts acts) (commands_of_acts rest))
  where
    longer : (limit a b c : ℕ) → limit < a → c ≡ a + b → limit < c
    longer limit a b c less is = omega (arith, less, is)
writes_before acts rest old new (Err fault.Memory) many = tt

-- an act that isn't added after others were
pub not_added : (before first after rest : List Act) (old mid new : DesignValue) (e : RewriteFault) (r : Result (Unit {0}) RewriteFault)
    → IsErrAnd r (λ (f : RewriteFault). f ≡ e) → design_after_acts old before ≡ design_after_acts mid first
    → WritesActs {T = Unit {0}} after rest mid (Err e) new → first ≡ after → WritesActs {T = Unit {0}} before [] old r new
not_added before first after rest old mid new e (Ok x) never written writes same = absurd never
not_added before first after rest old mid new e (Err f) is written writes same =
    subst (λ (g : RewriteFault). WritesActs {T = Unit {0}} before [] old (Err g) new) (sym is) (by_fault e writes)
  where
    by_fault : (e : RewriteFault) → WritesActs {T = Unit {0}} after rest mid (Err e) new
        → WritesActs {T = Unit {0}} before [] old (Err e) new
    by_fault fault.TooMany many =
        subst (λ (d : DesignValue). MAX_COMMANDS < length d.commands) (sym (written ∙ ap (design_after_acts mid) same)) many
    by_fault fault.Memory many = tt
