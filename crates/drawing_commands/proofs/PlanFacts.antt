-- What the plans of the commands accept and refuse, and the orders of requests.
use Rattle.std.proofs.Common.{[], Bool, codes, Err, false, IsSome, length, List, map, None, Ok, refl, true, ℕ, ◌++◌, ◌∷◌, ◌≡◌, ◌≤◌}
use Rattle.std.specs.Fmt.{digits}
use Rattle.command_words.specs.ValidNames.{AreFileNames}
use Rattle.command_words.specs.declared.names.FileNames.{FileNames}
use Rattle.drawing_commands.proofs.Names.{bad_edit_is_out_of_memory, drawing_outputs_of, drawing_plan_of, edit_kept, editing, free_kept, free_made, free_order, freeing, IsNearProduct, look_order, look_read, looking, meet_kept, meeting, near_file_order, near_kept, nearing, plan_of_text, snap_order, space_kept, space_order, stitch_drawing_after, telling}
use Rattle.drawing_commands.specs.DrawingEditing.{drawing_edit_order, drawing_edit_plan}
use Rattle.drawing_commands.specs.DrawingEditWords.{parsed_drawing_edits}
use Rattle.drawing_commands.specs.MeetFaults.{meet_fault_text}
use Rattle.drawing_commands.specs.FreeOrders.{free_plan}
use Rattle.drawing_commands.specs.MeetOrders.{cross_order, meet_plan}
use Rattle.drawing_commands.specs.Names.{named_words}
use Rattle.drawing_commands.specs.NearFiles.{near_plan, near_report}
use Rattle.drawing_commands.specs.Requests.{HasFileNames, IsEditRequest, order_of_request}
use Rattle.drawing_commands.specs.SpaceOrders.{space_plan}
use Rattle.drawing_commands.specs.TextCommands.{AreEdits, HasSoundParts}
use Rattle.drawing_commands.specs.TextPlans.{text_plan}
use Rattle.drawing_commands.specs.TextsRead.{text_read}
use Rattle.drawing_commands.specs.Usage.{drawing_usage_text}
use Rattle.drawing_commands.specs.VersionOne.{plan_if_joined, plan_if_kept}
use Rattle.drawing_commands.specs.declared.meeting.MeetReport.TheVariants as report
use Rattle.drawing_commands.specs.declared.requests.DrawingRequest.TheVariants as request
use Rattle.drawing_commands.specs.declared.text_commands.TextCommand.TheVariants as command
use Rattle.drawing_commands.specs.declared.text_reading.TextRead.{TextRead}
use Rattle.drawing_comments.specs.declared.text_comments.TextComments.{TextComments}
use Rattle.drawing_edits.specs.declared.drawing_edit.DrawingEdit.{DrawingEdit}
use Rattle.drawing_edits.specs.declared.edit_fault.EditFault.TheVariants as fault
use Rattle.drawing_text.specs.declared.draw_fault.DrawFault.{DrawFault}
use Rattle.line_graph.specs.declared.draw_kind.DrawKind.TheVariants as kind
use Rattle.met_drawings.specs.declared.meet_fault.MeetFault.TheVariants as meet_fault
use Rattle.program_shell.specs.Plans.{Plan, accepts, refuses}
use Rattle.program_texts.specs.DrawingTexts.{draw_fault_text}
use Rattle.spaced_lines.specs.declared.spacing_rule.SpacingLimits.{SpacingLimits}

-- A drawing of version 1 in which a line would be cut is refused, and any other goes on.
pub known_version_one : (next : Plan) → (plan_if_joined (codes "a.rw") next true ≡ next)
    × (plan_if_joined (codes "a.rw") next false ≡ refuses (codes "a.rw: redwork 1 can't be kept: migrate it first"))
known_version_one next = (refl, refl)

-- The first fault of a text is refused by each command that reads one.
pub known_faults : (why : DrawFault) (next : TextRead → Plan)
    → (look_read (look_order (codes "a") 2) (Err why) ≡ refuses (draw_fault_text (codes "a") why))
    × (plan_of_text (codes "a") next (Err why) ≡ refuses (draw_fault_text (codes "a") why))
known_faults why next = (refl, refl)

-- Each of these commands reads the text of its input, and goes on if no line would be cut.
pub known_texts : (limits : SpacingLimits) (text : TextRead)
    → (meet_plan (snap_order 2 true (codes "a") (codes "b")) ≡ text_plan (codes "a")
    (meet_kept (snap_order 2 true (codes "a") (codes "b"))))
    × (space_plan (space_order limits (codes "a") (codes "b")) ≡ text_plan (codes "a")
    (space_kept (space_order limits (codes "a") (codes "b"))))
    × (free_plan (free_order (codes "a") (codes "b")) ≡ text_plan (codes "a") (free_kept (free_order (codes "a") (codes "b"))))
    × (near_plan (near_file_order (codes "a") (codes "b")) ≡ text_plan (codes "a") (near_kept (near_file_order (codes "a") (codes "b"))))
    × (drawing_edit_plan (drawing_edit_order (codes "a") (codes "b") [])
    ≡ text_plan (codes "a") (edit_kept (drawing_edit_order (codes "a") (codes "b") [])))
    × (plan_of_text (codes "a") (near_kept (near_file_order (codes "a") (codes "b"))) (Ok text)
    ≡ plan_if_kept (codes "a") text.lines.drawing (accepts (IsNearProduct (codes "b") text)))
known_texts limits text = (refl, refl, refl, refl, refl, refl)

pub known_read : text_read (codes "redwork 9") ≡ Err (record { number = 1; kind = kind.BadHeader })
known_read = refl

-- What can't be joined, and what can't be made to meet.
pub known_refusals : (c : TextComments) → (free_made (free_order (codes "a") (codes "b")) c (Err kind.TooManyLines)
    ≡ refuses (codes "a: more than 1024 lines"))
    × (meet_fault_text (codes "a") (meet_fault.Limit kind.TooManyLines) ≡ codes "a: more than 1024 lines after cutting: split the drawing")
    × (meet_fault_text (codes "a") (meet_fault.Limit kind.NoJunction) ≡ codes "a: not a junction")
    × (meet_fault_text (codes "a") (meet_fault.Vanished (record { block = 0; line = 6 })) ≡ codes "a: block 1 line 7: would vanish")
unfolding digits
known_refusals c = (refl, refl, refl, refl)

-- A bad edit is a lack of memory, or it is refused.
pub known_memory : (bad_edit_is_out_of_memory (record { number = 3; fault = fault.Draw kind.Memory }) ≡ true)
    × (bad_edit_is_out_of_memory (record { number = 3; fault = fault.SamePiece }) ≡ false)
known_memory = (refl, refl)

-- Lengths are in thousandths of a millimetre, and the report of `near` has tenths.
pub known_near_report : near_report 12345 1000 16 ≡ codes "travel 123 to 10 pieces 16" ++ 10 ∷ []
unfolding digits
known_near_report = refl

-- What each order writes.
pub known_outputs : map drawing_outputs_of (looking (look_order (codes "a") 2) ∷ meeting (snap_order 2 true (codes "a") (codes "b"))
    ∷ freeing (free_order (codes "a") (codes "b")) ∷ nearing (near_file_order (codes "a") (codes "b"))
    ∷ editing (drawing_edit_order (codes "a") (codes "b") []) ∷ telling (codes "x") ∷ [])
    ≡ [] ∷ (codes "b" ∷ []) ∷ (codes "b" ∷ []) ∷ (codes "b" ∷ []) ∷ (codes "b" ∷ []) ∷ [] ∷ []
known_outputs = refl

pub known_program : ((stitch_drawing_after None).outputs ≡ drawing_outputs_of) × ((stitch_drawing_after None).plan ≡ drawing_plan_of)
    × ((stitch_drawing_after None).name ≡ codes "stitch_drawing") × ((stitch_drawing_after None).usage ≡ drawing_usage_text)
known_program = (refl, refl, refl, refl)

-- The order of each request.
pub known_orders : (names : FileNames) → (order_of_request (request.Snap 7 true names)
    ≡ meeting (snap_order 7 true names.input.now names.output.now))
    × (order_of_request (request.Free names) ≡ freeing (free_order names.input.now names.output.now))
    × (order_of_request (request.Near names) ≡ nearing (near_file_order names.input.now names.output.now))
    × (order_of_request request.Help ≡ telling drawing_usage_text)
    × (order_of_request request.Version ≡ telling (codes "stitch_drawing 0.4.0" ++ 10 ∷ []))
known_orders names = (refl, refl, refl, refl, refl)

-- What is known of the names and numbers of a request.
pub known_snap : (names : FileNames) (gap : ℕ) (keeps : Bool) → HasFileNames (request.Snap gap keeps names)
    → AreFileNames names × (gap ≤ 100)
known_snap names gap keeps has = (has.named, has.small)

pub known_names : (names : FileNames) → HasFileNames (request.Near names) → AreFileNames names
known_names names has = has

pub known_words : (names : FileNames) (rest : List (List ℕ)) → ((named_words names rest).input ≡ names.input.now)
    × ((named_words names rest).output ≡ names.output.now) × ((named_words names rest).rest ≡ rest)
known_words names rest = (refl, refl, refl)

-- What each order asks for.
pub known_order_parts : (edits : List DrawingEdit) (limits : SpacingLimits)
    → ((look_order (codes "a") 7).file ≡ codes "a") × ((look_order (codes "a") 7).gap ≡ 7)
    × ((snap_order 7 true (codes "a") (codes "b")).rule ≡ record { gap = 7; lists_crossings = false; keeps_copies = true })
    × ((snap_order 7 true (codes "a") (codes "b")).report ≡ report.Snap)
    × ((cross_order false (codes "a") (codes "b")).rule ≡ record { gap = 0; lists_crossings = true; keeps_copies = false })
    × ((cross_order false (codes "a") (codes "b")).report ≡ report.Cross)
    × ((space_order limits (codes "a") (codes "b")).limits ≡ limits)
    × ((drawing_edit_order (codes "a") (codes "b") edits).edits ≡ edits)
known_order_parts edits limits = (refl, refl, refl, refl, refl, refl, refl, refl)

-- A request of edits has some, and each is one.
pub known_edit_request : (names : FileNames) (edits : List (List ℕ)) → IsEditRequest names edits
    → AreFileNames names × IsSome (parsed_drawing_edits edits) × (1 ≤ length edits)
known_edit_request names edits is = (is.named, is.parsed, is.some)

-- The gap of a command that snaps is in range; arguments of a command that edits are edits, and there are some.
pub known_gap : (gap : ℕ) (keeps : Bool) → HasSoundParts (command.Snap gap keeps) → gap ≤ 100
known_gap gap keeps small = small

pub known_are_edits : (words : List (List ℕ)) → AreEdits words → IsSome (parsed_drawing_edits words) × (1 ≤ length words)
known_are_edits words are = (are.parsed, are.some)
