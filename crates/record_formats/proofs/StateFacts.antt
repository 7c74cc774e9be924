-- Worked states of a reader at each stage, and what its steps and those of a writer exclude.
use Rattle.std.proofs.Common.{◌≡◌, ◌++◌, ℕ, pos, true, false, List, [], ◌∷◌, None, Some, Result, Ok, Err, map, length, refl, arith, sym, true≢false}
use Rattle.design_model.specs.Designs.{DesignValue}
use Rattle.design_model.specs.declared.act.Act.TheVariants.{Needle, Stop as StopAct}
use Rattle.design_model.specs.declared.command.Command.{Command}
use Rattle.design_model.specs.declared.command.Command.TheVariants.{Trim, Stop}
use Rattle.format_traits.specs.declared.fault.ReadFault.TheVariants as fault
use Rattle.format_traits.specs.declared.fault.WriteFault.TheVariants as write
use Rattle.format_traits.specs.declared.fault.ReadFault.{ReadFault}
use Rattle.record_formats.specs.CommandAdding.{AddsCommands, SameButCommands}
use Rattle.record_formats.specs.Layouts.{layout_reads, layout_state}
use Rattle.record_formats.specs.Readings.{FileCommands, checked_commands}
use Rattle.record_formats.specs.RecordDecoding.{DecodesRecord}
use Rattle.record_formats.specs.RecordStates.{record_so_far_at, record_state_at}
use Rattle.record_formats.specs.declared.event.Event.TheVariants as event
use Rattle.record_formats.specs.declared.record_reader.NextRecord.TheVariants as cut
use Rattle.record_formats.specs.declared.record_stage.RecordStage.TheVariants as stage
use Rattle.record_formats.proofs.RecordFacts.{plain_spelling, point, two_bytes, with_most}
use Rattle.record_formats.proofs.Names.{AppendsRecords, EncoderState, NumberedAct, Records, Stitch, next, numbered, over, refused}

-- a design that was read up to (3, 4), and records of one stitch at each offset
abbrev design : DesignValue
design = record { label = 65 ∷ []; threads = 9 ∷ []; commands = Stitch (point (pos 3) (pos 4)) ∷ [] }

abbrev stitches : ℕ → List ℕ → Records
stitches at bytes = next at (event.Stitch (point (pos at) (pos 0))) (over false)

-- At the header the result is that of the layout, between records the design goes on, and after the end or a refusal nothing is read.
pub known_rest : ((record_state_at two_bytes stitches design (point (pos 3) (pos 4)) (stage.Header 1)).rest 5 (65 ∷ 8 ∷ 1 ∷ [])
    ≡ layout_reads two_bytes 5 (65 ∷ 8 ∷ 1 ∷ []))
    × ((record_state_at two_bytes stitches design (point (pos 3) (pos 4)) (stage.Records true)).rest 5 (7 ∷ [])
    ≡ Ok (record {
      design = record design {
        commands = Stitch (point (pos 3) (pos 4)) ∷ Stitch
            (point (pos 8) (pos 4)) ∷ [];
      };
      ended = false;
    }))
    × ((record_state_at two_bytes stitches design (point (pos 3) (pos 4)) stage.Over).rest 5 (7 ∷ [])
    ≡ Ok (record { design = design; ended = true }))
    × ((record_state_at two_bytes stitches design (point (pos 3) (pos 4)) (stage.Refused (fault.Control 7))).rest 5 (7 ∷ [])
    ≡ Err (fault.Control 7))
known_rest = (refl, refl, refl, refl)

pub known_decoded : ((record_state_at two_bytes stitches design (point (pos 3) (pos 4)) (stage.Header 1)).decoded 5 (65 ∷ 8 ∷ 1 ∷ [])
    ≡ Stitch (point (pos 1) (pos 7)) ∷ [])
    × ((record_state_at two_bytes stitches design (point (pos 3) (pos 4)) (stage.Records true)).decoded 5 (7 ∷ [])
    ≡ Stitch (point (pos 3) (pos 4)) ∷ Stitch (point (pos 8) (pos 4)) ∷ [])
    × ((record_state_at two_bytes stitches design (point (pos 3) (pos 4)) stage.Over).decoded 5 (7 ∷ []) ≡ design.commands)
    × ((record_state_at two_bytes stitches design (point (pos 3) (pos 4)) (stage.Refused (fault.Control 7))).decoded 5 (7 ∷ [])
    ≡ design.commands)
known_decoded = (refl, refl, refl, refl)

-- a file that ends in its header is short, between records it may have an end, and after the end it has one
pub known_so_far : map (record_so_far_at design)
    (stage.Header 1 ∷ stage.Records false ∷ stage.Over ∷ stage.Refused (fault.Control 7) ∷ [])
    ≡ record { answer = Err (fault.Short 1); commands = [] }
    ∷ record { answer = Ok (record { design = design; ended = false }); commands = design.commands }
    ∷ record { answer = Ok (record { design = design; ended = true }); commands = design.commands }
    ∷ record { answer = Err (fault.Control 7); commands = design.commands } ∷ []
known_so_far = refl

pub known_layout_state : ((layout_state two_bytes).rest 5 (65 ∷ []) ≡ Err (fault.Short 6))
    × ((layout_state two_bytes).decoded 5 (65 ∷ 9 ∷ 1 ∷ []) ≡ Stitch (point (pos 1) (pos 7)) ∷ [])
known_layout_state = (refl, refl)

-- Of three bytes at 100 a record takes two, and the reader goes on at 102. A record has a byte, and no more than there are.
pub known_record : (before after : ℕ → List ℕ → Records) (more : List ℕ)
    → DecodesRecord before after 100 (7 ∷ 8 ∷ 9 ∷ []) (cut.Record event.Trim 2)
    → before 100 (7 ∷ 8 ∷ 9 ∷ more) ≡ next 100 event.Trim (after 102 (9 ∷ more))
known_record before after more decodes = decodes.is more

pub known_bad_record : (before after : ℕ → List ℕ → Records)
    → (DecodesRecord before after 100 (7 ∷ 8 ∷ 9 ∷ []) (cut.Record event.Trim 0) → ⊥)
    × (DecodesRecord before after 100 (7 ∷ 8 ∷ 9 ∷ []) (cut.Record event.Trim 4) → ⊥)
    × (DecodesRecord before after 100 (7 ∷ 8 ∷ 9 ∷ []) (cut.Record (event.Jump (point (pos 2049) (pos 0))) 2) → ⊥)
known_bad_record before after = (
  λ decodes. omega (arith, decodes.some),
  λ decodes. omega (arith, decodes.there),
  λ decodes. true≢false (sym decodes.small),
)

-- the end and a refusal hold whatever follows; with too few bytes the file may end there
pub known_others : (before after : ℕ → List ℕ → Records) (more : List ℕ)
    → (DecodesRecord before after 100 (7 ∷ []) cut.End → before 100 (7 ∷ more) ≡ over true)
    × (DecodesRecord before after 100 (7 ∷ []) (cut.Refused (fault.Control 100)) → before 100 (7 ∷ more) ≡ refused (fault.Control 100))
    × (DecodesRecord before after 100 (7 ∷ []) (cut.Incomplete false) → (before 100 (7 ∷ []) ≡ over false) × (before 5 more ≡ after 5 more))
known_others before after more = (λ ends. ends more, λ refuses. refuses more, λ few. (few.is, few.same 5 more))

-- five bytes are enough for a record
pub known_enough : (before after : ℕ → List ℕ → Records) (bytes : List ℕ) → length bytes ≡ 5
    → DecodesRecord before after 100 bytes (cut.Incomplete false) → ⊥
known_enough before after bytes enough few = omega (arith, enough, few.few)

-- the same label and the same threads
pub known_same : (commands : List Command) → (SameButCommands design (record design { label = []; commands = commands }) → ⊥)
    × (SameButCommands design (record design { threads = []; commands = commands }) → ⊥)
known_same commands = (λ same. no_label same.label, λ same. no_threads same.threads)
  where
    no_label : ◌≡◌ {A = List ℕ} [] (65 ∷ []) → ⊥
    no_label is = cc

    no_threads : ◌≡◌ {A = List ℕ} [] (9 ∷ []) → ⊥
    no_threads is = cc

-- commands are added in range and up to a million, or the first that isn't is refused and those before it are added
pub known_added : (old new : DesignValue) (n : ℕ) → AddsCommands {T = ℕ} 7 (Trim ∷ Stop ∷ []) old (Ok n) new
    → (new ≡ record old { commands = old.commands ++ Trim ∷ Stop ∷ [] }) × (length old.commands ≡ 999999 → ⊥)
known_added old new n adds = (adds.1, λ full. omega (arith, full, adds.0.1))

pub known_added_out_of_range : (old new : DesignValue) (n : ℕ)
    → AddsCommands {T = ℕ} 7 (Trim ∷ Stitch (point (pos 30001) (pos 0)) ∷ []) old (Ok n) new → ⊥
known_added_out_of_range old new n adds = true≢false (sym adds.0.0)

pub known_not_added : (new : DesignValue) (rest : Result FileCommands ReadFault)
    → AddsCommands {T = ℕ} 7 (Trim ∷ Stitch (point (pos 30001) (pos 0)) ∷ []) design (Err (fault.Range 7)) new
    → (checked_commands 7 1 (Trim ∷ Stitch (point (pos 30001) (pos 0)) ∷ []) rest ≡ Err (fault.Range 7))
    × (new.commands ≡ design.commands ++ Trim ∷ [])
known_not_added new rest adds = (adds.is rest, adds.kept (Stop ∷ []))

pub known_wrongly_refused : (new : DesignValue)
    → AddsCommands {T = ℕ} 7 (Trim ∷ Stitch (point (pos 30001) (pos 0)) ∷ []) design (Err (fault.TooMany 7)) new → ⊥
known_wrongly_refused new adds = never (adds.is (Err fault.Memory))
  where
    never : ◌≡◌ {A = Result FileCommands ReadFault} (Err (fault.Range 7)) (Err (fault.TooMany 7)) → ⊥
    never is = cc

-- the records of a loose needle in one hop and of a stop
abbrev acts : List NumberedAct
acts = numbered 1 (Needle (point (pos 50) (pos 0)) false) ∷ numbered 2 StopAct ∷ []

pub known_written : (old new : List ℕ) (state : EncoderState) → AppendsRecords plain_spelling (with_most 4) acts old (Ok state) new
    → (new ≡ old ++ 2 ∷ 1 ∷ 4 ∷ 0 ∷ []) × (state ≡ record { loose = true; place = point (pos 50) (pos 0); stops = 1; room = 3 })
known_written old new state appends = (appends.1, appends.2)

pub known_not_written : (old new : List ℕ) (state : EncoderState)
    → (AppendsRecords plain_spelling (with_most 4) (numbered 1 (Needle (point (pos 5) (pos 0)) false)
    ∷ numbered 2 (Needle (point (pos 127) (pos 0)) false) ∷ []) old (Ok state) new → ⊥)
    × (AppendsRecords plain_spelling (with_most 4) acts old (Err (write.TooManyStops 2)) new → ⊥)
known_not_written old new state = (λ appends. some appends.0, λ is. cc)
  where
    some : Some (write.StitchTooLong 2) ≡ None → ⊥
    some none = cc
