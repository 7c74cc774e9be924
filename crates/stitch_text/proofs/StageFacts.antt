-- Worked values of what is still to come of a list.
use Rattle.std.proofs.Common.{◌≡◌, pos, true, false, List, [], ◌∷◌, Option, None, Some, codes, refl}
use Rattle.stitch_text.proofs.Names.{Command, Stitch, Trim, Point, DesignValue, ReadFault, ListDraft, stage_after_long_line, fault_at_end, max_waiting_in, parsed_parts, ParsedList, blank_draft, is_at_acts, is_before_acts}
use Rattle.format_traits.specs.declared.fault.ReadFault.TheVariants as fault
use Rattle.stitch_text.specs.declared.list_stage.ListStage.TheVariants as stage

abbrev pub place : Point
place = record { x = pos 3; y = pos 4 }

abbrev pub design : List Command → DesignValue
design commands = record { label = codes "a"; threads = 5 ∷ []; commands = commands }

-- a needle was read
abbrev pub begun : ListDraft
begun = record { design = design (Stitch place ∷ []); state = record { loose = false; place = place; stops = 0; room = 2 } }

abbrev pub parsed : List Command → Option ReadFault → ParsedList
parsed commands f = record { design = design commands; fault = f }

-- a list that begins at the offset 5, and one whose first line is another
pub known_parsed_parts : ((parsed_parts blank_draft stage.First 5 (codes "stitch-list 1" ∷ codes "lab" ∷ [])).fault ≡ Some (fault.Short 22))
    × ((parsed_parts blank_draft stage.First 5 (codes "stitch-list 2" ∷ codes "lab" ∷ [])).fault ≡ Some (fault.Signature 5))
    -- the label and the first block
    × ((parsed_parts blank_draft stage.Label 19 (codes "label [a]" ∷ codes "block 5" ∷ codes "end" ∷ [] ∷ [])) ≡ parsed [] None)
    × ((parsed_parts blank_draft stage.Block 29 (codes "block 256" ∷ [] ∷ [])).fault ≡ Some (fault.Control 29))
    -- acts after the needle
    × (parsed_parts begun stage.Acts 50 (codes "trim" ∷ codes "trim" ∷ [] ∷ [])
    ≡ parsed (Stitch place ∷ Trim ∷ []) (Some (fault.Control 55)))
    -- in a line that is too long, which ends or doesn't
    × (parsed_parts begun (stage.Long (fault.Control 50)) 90 (codes "12" ∷ codes "end" ∷ [] ∷ [])
    ≡ parsed (Stitch place ∷ []) (Some (fault.Control 50)))
    × (parsed_parts begun (stage.Long (fault.Control 50)) 90 (codes "12" ∷ [])
    ≡ parsed (Stitch place ∷ []) (Some (fault.Short 92)))
    -- after the last line, and after a refusal
    × (parsed_parts begun stage.Ended 54 ([] ∷ []) ≡ parsed (Stitch place ∷ []) None)
    × (parsed_parts begun stage.Ended 54 ([] ∷ [] ∷ []) ≡ parsed (Stitch place ∷ []) (Some (fault.Control 54)))
    × (parsed_parts begun (stage.Refused (fault.Range 31)) 54 (codes "end" ∷ [] ∷ [])
    ≡ parsed (Stitch place ∷ []) (Some (fault.Range 31)))
known_parsed_parts = (refl, refl, refl, refl, refl, refl, refl, refl, refl, refl)

-- a list that ends at the offset 54
pub known_faults : fault_at_end 54 stage.First ∷ fault_at_end 54 stage.Label ∷ fault_at_end 54 stage.Block ∷ fault_at_end 54 stage.Acts
    ∷ fault_at_end 54 (stage.Long (fault.Control 20)) ∷ fault_at_end 54 stage.Ended ∷ fault_at_end 54 (stage.Refused (fault.Range 31)) ∷ []
    ≡ Some (fault.Short 54) ∷ Some (fault.Short 54) ∷ Some (fault.Short 54) ∷ Some (fault.Short 54)
    ∷ Some (fault.Short 54) ∷ None ∷ Some (fault.Range 31) ∷ []
known_faults = refl

-- the bytes of a line that are kept
pub known_waiting : max_waiting_in stage.First ∷ max_waiting_in stage.Label ∷ max_waiting_in stage.Block ∷ max_waiting_in stage.Acts
    ∷ max_waiting_in (stage.Long (fault.Control 20)) ∷ max_waiting_in stage.Ended ∷ max_waiting_in (stage.Refused (fault.Range 31)) ∷ []
    ≡ 32 ∷ 32 ∷ 32 ∷ 32 ∷ 0 ∷ 0 ∷ 0 ∷ []
known_waiting = refl

-- after more bytes than these of a line at the offset 20
pub known_beyond : stage_after_long_line 20 stage.First ∷ stage_after_long_line 20 stage.Label ∷ stage_after_long_line 20 stage.Block
    ∷ stage_after_long_line 20 stage.Acts
    ∷ stage_after_long_line 20 (stage.Long (fault.Control 7)) ∷ stage_after_long_line 20 stage.Ended
    ∷ stage_after_long_line 20 (stage.Refused (fault.Range 7)) ∷ []
    ≡ stage.Long (fault.Signature 20) ∷ stage.Long (fault.Control 20) ∷ stage.Long (fault.Control 20) ∷ stage.Long (fault.Control 20)
    ∷ stage.Long (fault.Control 7) ∷ stage.Refused (fault.Control 20) ∷ stage.Refused (fault.Range 7) ∷ []
known_beyond = refl

-- which lines are due
pub known_due : is_before_acts stage.First ∷ is_before_acts stage.Label ∷ is_before_acts stage.Block ∷ is_before_acts stage.Acts
    ∷ is_before_acts stage.Ended ∷ is_at_acts stage.Block ∷ is_at_acts stage.Acts ∷ is_at_acts stage.Ended ∷ []
    ≡ true ∷ true ∷ true ∷ false ∷ false ∷ false ∷ true ∷ false ∷ []
known_due = refl
