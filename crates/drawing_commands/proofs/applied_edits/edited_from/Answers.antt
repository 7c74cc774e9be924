use Rattle.std.proofs.Common.{map, string_bytes}
use Rattle.drawing_commands.proofs.Names.{parsed_drawing_edit, parsed_drawing_edits, first_parsed, later_parsed}
use Rattle.drawing_commands.proofs.DrawingEditLemmas.{edits_from, first_refused}
use Rattle.drawing_commands.proofs.applied_edits.edited_from.Goals as goal

pub apply_word-requires-clause-edit : goal.apply_word-requires-clause-edit
apply_word-requires-clause-edit c = first_parsed (parsed_drawing_edit c.args.first.now)
    (parsed_drawing_edits (map (λ word. string_bytes word) c.args.rest.now)) c.requires.edits

pub edited_on-requires-clause-edits : goal.edited_on-requires-clause-edits
edited_on-requires-clause-edits c = later_parsed (parsed_drawing_edit c.args.first.now)
    (parsed_drawing_edits (map (λ word. string_bytes word) c.args.rest.now)) c.requires.edits

pub returns-in-Ok-clause-answer : goal.returns-in-Ok-clause-answer
returns-in-Ok-clause-answer c = edits_from c.args.first.now (map (λ word. string_bytes word) c.args.rest.now)
    c.args.drawing.now c.in-Ok.once c.edited_on.result c.requires.edits c.in-Ok.ensures.answer c.edited_on.ensures.answer

pub returns-in-Err-clause-answer : goal.returns-in-Err-clause-answer
returns-in-Err-clause-answer c = first_refused c.args.first.now (map (λ word. string_bytes word) c.args.rest.now)
    c.args.drawing.now c.in-Err.fault c.requires.edits c.in-Err.ensures.answer
