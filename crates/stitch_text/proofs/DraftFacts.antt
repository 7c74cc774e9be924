-- Drafts of a list: what is sound, what judging answers, and the states of a reader; and what is taken and put at once.
use Rattle.std.proofs.Common.{◌≡◌, ◌++◌, ◌+◌, ℕ, pos, true, false, List, [], ◌∷◌, None, Some, Result, Ok, Err, codes, refl, ap, arith, sym, true≢false}
use Rattle.std.specs.Fmt.{digits}
use Rattle.design_model.specs.declared.act.Act.TheVariants as act
use Rattle.format_traits.specs.declared.fault.ReadFault.{ReadFault}
use Rattle.format_traits.specs.declared.fault.ReadFault.TheVariants as fault
use Rattle.format_traits.specs.declared.fault.WriteFault.TheVariants as write
use Rattle.stitch_text.specs.Drafts.{IsSoundDraft, JudgesAct, missing_threads_after}
use Rattle.stitch_text.specs.Judging.{JudgesLine}
use Rattle.stitch_text.specs.ListStages.{IsUnbegunDraft, list_so_far_at, list_start_state}
use Rattle.stitch_text.specs.Readings.{ParsedList}
use Rattle.stitch_text.specs.Steps.{PutsLines}
use Rattle.stitch_text.specs.declared.list_line.ListLine.TheVariants as line
use Rattle.stitch_text.specs.declared.list_stage.ListStage.TheVariants as stage
use Rattle.stitch_text.proofs.ListFacts.{lines, point}
use Rattle.stitch_text.proofs.Names.{DecoderState, DesignValue, EncoderState, ListDraft, NumberedAct, Stitch, TakesLine, TakesLines, Trim, blank_draft, needle_word, numbered, origin, Stop}

pub known_words : (needle_word true ≡ codes "float") × (needle_word false ≡ codes "needle")
known_words = (refl, refl)

-- a design of one needle in a block of thread 9, and the state after it
abbrev design : DesignValue
design = record { label = []; threads = 9 ∷ []; commands = Stitch origin ∷ [] }

abbrev state : EncoderState
state = record { loose = false; place = origin; stops = 0; room = 1 }

abbrev begun : ListDraft
begun = record { design = design; state = state }

pub known_sound : IsSoundDraft begun
known_sound = record { place = refl; room = omega arith; count = omega arith; stops = omega arith; threads = refl }

-- a needle out of range, room for more than a million commands, too many commands or stops, and a block without a thread
pub known_place : IsSoundDraft (record { design = design; state = record state { place = point (pos 30001) (pos 0) } }) → ⊥
known_place is = true≢false (sym is.place)

pub known_room : IsSoundDraft (record { design = design; state = record state { room = 1000001 } }) → ⊥
known_room is = omega (arith, is.room)

pub known_count : IsSoundDraft (record { design = record design { commands = Stitch origin ∷ Trim ∷ [] }; state = state }) → ⊥
known_count is = omega (arith, is.count)

pub known_stops : IsSoundDraft (record { design = design; state = record state { stops = 255 } }) → ⊥
known_stops is = omega (arith, is.stops)

pub known_threads : IsSoundDraft (record { design = record design { threads = [] }; state = state }) → ⊥
known_threads is = omega (arith, is.threads)

-- an added stop begins a block without a thread
pub known_missing : (missing_threads_after act.Stop None ≡ 1) × (missing_threads_after act.Trim None ≡ 0)
    × (missing_threads_after act.Stop (Some (fault.Control 7)) ≡ 0)
known_missing = (refl, refl, refl)

-- a trim is added, and one of a loose thread is refused and changes nothing
abbrev loose : ListDraft
loose = record { design = design; state = record state { loose = true } }

pub known_judged : (new : ListDraft) (f : ReadFault)
    → (JudgesAct 7 begun act.Trim None new → new ≡ record {
      design = record design { commands = Stitch origin ∷ Trim ∷ [] };
      state = record { loose = true; place = origin; stops = 0; room = 5 };
    })
    × (JudgesAct 7 begun act.Trim (Some f) new → ⊥) × (JudgesAct 7 loose act.Trim None new → ⊥)
    × (JudgesAct 7 loose act.Trim (Some f) new → new ≡ loose)
known_judged new f = (λ judges. judges.1, λ judges. no_fault judges.0, λ judges. some judges.0, λ judges. judges.1)
  where
    no_fault : {d : ListDraft} → ◌≡◌ {A = Result ListDraft ReadFault} (Ok d) (Err f) → ⊥
    no_fault is = cc

    some : Some (fault.Control 7) ≡ None → ⊥
    some none = cc

-- a line that is far is refused, and the end is no line here
pub known_line : (new : ListDraft) (f : ReadFault)
    → (JudgesLine 7 begun (Some line.Far) None new → ⊥)
    × (JudgesLine 7 begun (Some line.Far) (Some f) new → ◌≡◌ {A = Result ListDraft ReadFault} (Err (fault.Range 7)) (Err f) × (new ≡ begun))
    × (JudgesLine 7 begun (Some (line.Block 5)) None new → ◌≡◌ {A = Result ListDraft ReadFault} (Ok (record {
      design = record { label = []; threads = 9 ∷ 5 ∷ []; commands = Stitch origin ∷ Stop ∷ [] };
      state = record { loose = true; place = origin; stops = 1; room = 2 };
    })) (Ok new))
known_line new f = (λ judges. no_draft judges, λ judges. judges, λ judges. judges)
  where
    no_draft : ◌≡◌ {A = Result ListDraft ReadFault} (Err (fault.Range 7)) (Ok new) → ⊥
    no_draft is = cc

-- a list that ends at 9 is short, but for its end line
pub known_so_far : (list_so_far_at begun 9 stage.Acts ≡ record { answer = Err (fault.Short 9); commands = Stitch origin ∷ [] })
    × (list_so_far_at begun 9 stage.Ended
    ≡ record { answer = Ok (record { design = design; ended = true }); commands = Stitch origin ∷ [] })
known_so_far = (refl, refl)

pub known_start : (list_start_state.rest 5 (codes "stitch") ≡ Err (fault.Short 11))
    × (list_start_state.rest 5 (lines (codes "stitches" ∷ [])) ≡ Err (fault.Signature 5))
    × (list_start_state.decoded 5 (lines (codes "stitch-list 1" ∷ codes "label []" ∷ codes "block 5" ∷ codes "needle 0 0" ∷ []))
    ≡ Stitch origin ∷ [])
known_start = (refl, refl, refl)

-- nothing but a label is in a draft that isn't begun
pub known_unbegun : (IsUnbegunDraft begun → ⊥)
    × (IsUnbegunDraft (record { design = record design { commands = [] }; state = blank_draft.state }) → ⊥)
    × (IsUnbegunDraft (record { design = record design { threads = [] }; state = blank_draft.state }) → ⊥)
known_unbegun = (λ is. one (ap (λ (s : EncoderState). s.room) is.state), λ is. no_threads is.threads, λ is. no_commands is.commands)
  where
    one : ◌≡◌ {A = ℕ} 1 0 → ⊥
    one is = cc

    no_threads : ◌≡◌ {A = List ℕ} (9 ∷ []) [] → ⊥
    no_threads is = cc

    no_commands : Stitch origin ∷ [] ≡ [] → ⊥
    no_commands is = cc

-- a line of two bytes at 100 is taken, and the next begins at 103
pub known_taken : (old new : ℕ → List (List ℕ) → ParsedList) (next : List ℕ) (more : List (List ℕ))
    → TakesLine old new 100 (1 ∷ 2 ∷ []) → old 100 ((1 ∷ 2 ∷ []) ∷ next ∷ more) ≡ new 103 (next ∷ more)
known_taken old new next more takes = takes.on next more

-- the line `a` of three bytes is taken, and `b` isn't complete
pub known_all_taken : (old new : DecoderState) (more : List ℕ) → TakesLines old new 100 (97 ∷ 10 ∷ 98 ∷ []) 2
    → (old.rest 100 (97 ∷ 10 ∷ 98 ∷ more) ≡ new.rest 102 (98 ∷ more))
    × (old.decoded 100 (97 ∷ 10 ∷ 98 ∷ more) ≡ new.decoded 102 (98 ∷ more))
known_all_taken old new more takes = (takes.on.rest more, takes.on.decoded more)

pub known_not_all_taken : (old new : DecoderState) → (TakesLines old new 100 (97 ∷ 10 ∷ 98 ∷ []) 4 → ⊥)
    × (TakesLines old new 100 (97 ∷ 10 ∷ 98 ∷ []) 1 → ⊥)
known_not_all_taken old new = (λ takes. omega (arith, takes.there), λ takes. two takes.left)
  where
    two : ◌≡◌ {A = List (List ℕ)} ([] ∷ (98 ∷ []) ∷ []) ((10 ∷ 98 ∷ []) ∷ []) → ⊥
    two is = cc

-- the lines of a needle, a stop and the end, where the second block has thread 6
abbrev acts : List NumberedAct
acts = numbered 1 (act.Needle origin false) ∷ numbered 2 act.Stop ∷ []

pub known_put : (old new : List ℕ) (n : ℕ) → PutsLines {T = ℕ} (λ block. block + 5) acts old (Ok n) new
    → new ≡ old ++ lines (codes "needle 0 0" ∷ codes "block 6" ∷ codes "end" ∷ [])
unfolding digits
known_put old new n puts = puts.1

pub known_not_put : (old new : List ℕ) (n : ℕ)
    → (PutsLines {T = ℕ} (λ block. block) (numbered 1 (act.Needle origin false)
    ∷ numbered 2 (act.Needle (point (pos 2048) (pos 0)) false) ∷ []) old (Ok n) new → ⊥)
    × (PutsLines {T = ℕ} (λ block. block) acts old (Err (write.TooLong 2)) new → ⊥)
known_not_put old new n = (λ puts. some puts.0, λ is. cc)
  where
    some : Some (write.StitchTooLong 2) ≡ None → ⊥
    some none = cc
