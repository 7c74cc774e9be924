-- The drawing that a text describes, or the first fault of the text. Own format: lines of words,
-- each of which is read in the light of the lines before it. Lines of the text are numbered from 1.
use Rattle.std.specs.Prelude.{◌≡◌, ℕ, ◌+◌, ◌==◌, ◌&&◌, Bool, true, List, [], ◌∷◌, Option, Some, None, Result, Ok, Err, bytes_eq, codes, if◌then◌else◌}
use Rattle.design_model.specs.OutOfMemory.{IsSpecified}
use Rattle.line_graph.specs.declared.draw_kind.DrawKind.{DrawKind}
use Rattle.line_graph.specs.declared.draw_kind.DrawKind.TheVariants as kind
use Rattle.line_graph.specs.Drawings.{DrawingValue}
use Rattle.line_graph.specs.GrowingDrawings.{and_then, finished_drawing, draw_is_out_of_memory}
use Rattle.line_graph.specs.JoinedDrawings.{is_joined, joined_drawing}
use Rattle.line_graph.specs.WalkEnds.{HasNoEnds, walk_end_added}
use Rattle.drawing_text.specs.declared.draft.DrawingDraft.{DrawingDraft}
use Rattle.drawing_text.specs.declared.draw_fault.DrawFault.{DrawFault}
use Rattle.drawing_text.specs.declared.version.Version.{Version}
use Rattle.drawing_text.specs.declared.walk_end.WalkEnd.{WalkEnd}
use Rattle.drawing_text.specs.declared.version.Version.TheVariants as version
use Rattle.drawing_text.specs.TextLines.{empty_draft, draft_after_words}
use Rattle.drawing_text.specs.Words.{is_ignored_line, words_by_line}

-- The number of the text line at which a fault is reported. An empty block is reported at the line
-- that opened it, out of memory at 0, and any other fault at the line that has it.
abbrev pub line_of_fault : (number opened : ℕ) → DrawKind → ℕ
line_of_fault number opened kind.EmptyBlock = opened
line_of_fault number opened kind.Memory = 0
line_of_fault number opened other = number

-- A fault with the number of the text line at which it is reported.
abbrev pub located_fault : (number opened : ℕ) → DrawKind → DrawFault
located_fault number opened why = record { number = line_of_fault number opened why; kind = why }

-- A result whose fault gets the number of its text line.
abbrev pub at_line : {A : Type 0} → (number opened : ℕ) → Result A DrawKind → Result A DrawFault
at_line number opened (Ok a) = Ok a
at_line number opened (Err why) = Err (located_fault number opened why)

-- The joined drawing of a draft, or its fault, where the text ends before line `number`.
abbrev pub joined_at : ℕ → DrawingDraft → Result DrawingValue DrawFault
joined_at number draft =
    at_line number draft.opened (and_then (finished_drawing draft.drawing) joined_drawing)

-- The drawing with the given starts and ends, or the first fault of one, at its text line.
abbrev pub drawing_with_ends : DrawingValue → List WalkEnd → Result DrawingValue DrawFault
drawing_with_ends d [] = Ok d
drawing_with_ends d (end ∷ rest) =
    and_then (at_line end.number 0 (walk_end_added end.is_start d end.spot)) (λ next.
    drawing_with_ends next rest)

-- The drawing of a complete draft, by the version of the text, which ends before line `number`.
-- Faults of starts and ends come after all others.
abbrev pub drawing_of_draft : Version → ℕ → DrawingDraft → Result DrawingValue DrawFault
drawing_of_draft version.One number draft =
    at_line number draft.opened (finished_drawing draft.drawing)
drawing_of_draft version.Two number draft = joined_at number draft
drawing_of_draft version.Three number draft =
    and_then (joined_at number draft) (λ d. drawing_with_ends d draft.ends)

-- The drawing of a draft and the remaining text lines, from line `number` on, or the first fault.
abbrev pub drawing_after_lines : Version → ℕ → DrawingDraft → List (List (List ℕ))
    → Result DrawingValue DrawFault
drawing_after_lines version number draft [] = drawing_of_draft version number draft
drawing_after_lines version number draft (words ∷ rest) =
    and_then (at_line number draft.opened (draft_after_words version number draft words)) (λ next.
    drawing_after_lines version (number + 1) next rest)

-- The version that a word names, if it names one.
abbrev pub parsed_version : List ℕ → Option Version
parsed_version word =
    if bytes_eq word (codes "1") then Some version.One
    else if bytes_eq word (codes "2") then Some version.Two
    else if bytes_eq word (codes "3") then Some version.Three
    else None

-- The version of a drawing text, if the words are its header.
abbrev pub parsed_header : List (List ℕ) → Option Version
parsed_header (first ∷ second ∷ []) =
    if bytes_eq first (codes "redwork") then parsed_version second else None
parsed_header words = None

-- The fault that the line of the given number is no header.
abbrev pub bad_header : ℕ → DrawFault
bad_header number = record { number = number; kind = kind.BadHeader }

-- A text after its header: its version, the number of the header's line, and the words after it.
pub record Body : Type 0 where
  pub version : Version
  pub header : ℕ
  pub lines : List (List (List ℕ))

-- The text after the header in line `number`, or the fault that the line is no header.
abbrev pub body_after_header : ℕ → Option Version → List (List (List ℕ)) → Result Body DrawFault
body_after_header number None rest = Err (bad_header number)
body_after_header number (Some version) rest =
    Ok (record { version = version; header = number; lines = rest })

-- The header and the text after it, where all lines before the given number are empty or comments.
abbrev pub body_from : ℕ → List (List (List ℕ)) → Result Body DrawFault
body_from number [] = Err (bad_header number)
body_from number (words ∷ rest) =
    if is_ignored_line words then body_from (number + 1) rest
    else body_after_header number (parsed_header words) rest

-- The drawing that a text describes in a version, or its first fault.
abbrev pub drawing_in_version : Version → Body → Result DrawingValue DrawFault
drawing_in_version version body = drawing_after_lines version (body.header + 1) empty_draft
    body.lines

-- The header of a text and the lines after it, or the fault that there is no header.
abbrev pub body_of_text : List ℕ → Result Body DrawFault
body_of_text text = body_from 1 (words_by_line text)

-- The drawing that a text describes, in the version that its header names, or its first fault.
abbrev pub drawing_of : List ℕ → Result DrawingValue DrawFault
drawing_of text = and_then (body_of_text text) (λ body. drawing_in_version body.version body)

-- The drawing that a text of version 1 or 2 describes in version 2. Version 3 is a fault.
abbrev pub drawing_of_body_as2 : Version → Body → Result DrawingValue DrawFault
drawing_of_body_as2 version.Three body = Err (bad_header body.header)
drawing_of_body_as2 earlier body = drawing_in_version version.Two body

-- The drawing that a text of version 1 or 2 describes as version 2, or its first fault.
abbrev pub drawing_as2 : List ℕ → Result DrawingValue DrawFault
drawing_as2 text = and_then (body_of_text text) (λ body. drawing_of_body_as2 body.version body)

-- A fault is out of memory, which is reported at line 0.
abbrev pub draw_fault_is_out_of_memory : DrawFault → Bool
draw_fault_is_out_of_memory fault = draw_is_out_of_memory fault.kind && fault.number == 0

-- The result of a reader equals the specified one, or is out of memory.
abbrev pub ReadsDrawing : Result DrawingValue DrawFault → Result DrawingValue DrawFault → Type 0
ReadsDrawing said result = IsSpecified draw_fault_is_out_of_memory said result

-- A joined drawing without starts and ends.
pub record IsJoinedWithoutEnds (d : DrawingValue) : Type 0 where
  pub joined : is_joined d ≡ true
  pub no_ends : HasNoEnds d

-- A drawing that is read from a text of version 2 is joined and has no starts and ends.
abbrev pub IsDrawingOfVersion : Version → DrawingValue → Type 0
IsDrawingOfVersion version.Two d = IsJoinedWithoutEnds d
IsDrawingOfVersion other d = Unit {0}
