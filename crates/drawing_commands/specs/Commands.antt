-- The commands of stitch_drawing: the plan of each order, the files that it writes, and the
-- program.
use Rattle.std.specs.Prelude.{◌≡◌, ℕ, List, [], ◌∷◌, Option, Some, None, Result, Ok, Err}
use Rattle.program_texts.specs.MistakenWords.{MistakenWord}
use Rattle.program_texts.specs.CompanionUsage.{usage_with}
use Rattle.program_shell.specs.Plans.{Plan, accepts}
use Rattle.program_shell.specs.Products.{report_product}
use Rattle.program_shell.specs.Programs.{Program}
use Rattle.drawing_commands.specs.DrawingEditing.{drawing_edit_plan}
use Rattle.drawing_commands.specs.FreeOrders.{free_plan}
use Rattle.drawing_commands.specs.Looks.{look_plan}
use Rattle.drawing_commands.specs.MeetOrders.{meet_plan}
use Rattle.drawing_commands.specs.NearFiles.{near_plan}
use Rattle.drawing_commands.specs.Requests.{DrawingOrder, editing, freeing, looking, meeting, nearing, parsed_drawing_words, spacing, telling}
use Rattle.drawing_commands.specs.SpaceOrders.{space_plan}
use Rattle.drawing_commands.specs.Usage.{drawing_program_name, drawing_usage_text}

-- The order of parsed arguments.
abbrev pub order_of_parsed : Result DrawingOrder (Option MistakenWord) → Option DrawingOrder
order_of_parsed (Ok order) = Some order
order_of_parsed (Err mistake) = None

-- The mistake of parsed arguments.
abbrev pub mistake_of_parsed : Result DrawingOrder (Option MistakenWord) → Option MistakenWord
mistake_of_parsed (Ok order) = None
mistake_of_parsed (Err mistake) = mistake

-- The order that the arguments request, or none.
abbrev pub drawing_order_of : List (List ℕ) → Option DrawingOrder
drawing_order_of words = order_of_parsed (parsed_drawing_words words)

-- The first argument that isn't understood, if there is one.
abbrev pub drawing_mistake : List (List ℕ) → Option MistakenWord
drawing_mistake words = mistake_of_parsed (parsed_drawing_words words)

-- The plan of an order: which files it reads, and what it accepts or refuses.
abbrev pub drawing_plan_of : DrawingOrder → Plan
drawing_plan_of (looking order) = look_plan order
drawing_plan_of (meeting order) = meet_plan order
drawing_plan_of (spacing order) = space_plan order
drawing_plan_of (freeing order) = free_plan order
drawing_plan_of (nearing order) = near_plan order
drawing_plan_of (editing order) = drawing_edit_plan order
drawing_plan_of (telling text) = accepts (λ product. product ≡ report_product text)

-- The names of the files that an order writes, in the order of writing.
abbrev pub drawing_outputs_of : DrawingOrder → List (List ℕ)
drawing_outputs_of (looking order) = []
drawing_outputs_of (meeting order) = order.output ∷ []
drawing_outputs_of (spacing order) = order.output ∷ []
drawing_outputs_of (freeing order) = order.output ∷ []
drawing_outputs_of (nearing order) = order.output ∷ []
drawing_outputs_of (editing order) = order.output ∷ []
drawing_outputs_of (telling text) = []

-- The program, with the usage text after a mistake in the arguments, if there is one.
abbrev pub stitch_drawing_after : Option MistakenWord → Program DrawingOrder
stitch_drawing_after mistake = record {
  name = drawing_program_name;
  usage = usage_with drawing_program_name drawing_usage_text mistake;
  plan = drawing_plan_of;
  outputs = drawing_outputs_of;
}
