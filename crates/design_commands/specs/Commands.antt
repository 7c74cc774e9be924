-- The commands of stitch_design: the order that the arguments request, its plan, and the program.
use Rattle.std.specs.Prelude.{◌≡◌, ℕ, List, [], ◌∷◌, Option, Some, None, Result, Ok, Err, option_map}
use Rattle.program_texts.specs.MistakenWords.{MistakenWord}
use Rattle.program_texts.specs.CompanionUsage.{usage_with, version_line}
use Rattle.format_traits.specs.Endings.{format_of}
use Rattle.format_traits.specs.Meanings.{Meaning}
use Rattle.program_shell.specs.Plans.{Plan, accepts}
use Rattle.program_shell.specs.Products.{report_product}
use Rattle.program_shell.specs.Programs.{Program}
use Rattle.design_commands.specs.declared.mistake.Misfit.TheVariants as misfit
use Rattle.design_commands.specs.CompareOrders.{CompareOrder, compare_order, compare_plan}
use Rattle.design_commands.specs.EditOrders.{DesignEditOrder, design_edit_order, design_edit_plan}
use Rattle.design_commands.specs.Mistakes.{mistake_at}
use Rattle.design_commands.specs.EditRequests.{RequestedDesign, compare, edit, help, list, look, palette, pass, version}
use Rattle.design_commands.specs.Requests.{parsed_design_words}
use Rattle.design_commands.specs.ReviewOrders.{ReviewOrder, design_look_plan, pass_plan, review_order}
use Rattle.design_commands.specs.ThreadOrders.{ThreadsOrder, threads_order, threads_plan}
use Rattle.design_commands.specs.ThreadTexts.{palette_report}
use Rattle.design_commands.specs.Usage.{design_program_name, design_usage_text}

-- An order, with a case for each command. The last prints a text that depends on no file.
pub data DesignOrder : Type 0 where
  looking : ReviewOrder → DesignOrder
  passing : ReviewOrder → DesignOrder
  editing : DesignEditOrder → DesignOrder
  comparing : CompareOrder → DesignOrder
  listing : ThreadsOrder → DesignOrder
  telling : (text : List ℕ) → DesignOrder

-- The order of two files, if both formats are known.
abbrev pub if_both_known : (Meaning → Meaning → DesignOrder) → (m n : Option Meaning)
    → Option DesignOrder
if_both_known made (Some m) (Some n) = Some (made m n)
if_both_known made None n = None
if_both_known made (Some m) None = None

-- The order of a request, if the formats of its files are known.
abbrev pub order_of_design : List Meaning → RequestedDesign → Option DesignOrder
order_of_design formats (look file limits) =
    option_map (λ m. looking (review_order file limits m)) (format_of formats file)
order_of_design formats (pass file limits) =
    option_map (λ m. passing (review_order file limits m)) (format_of formats file)
order_of_design formats (edit input output changes) =
    if_both_known (λ m n. editing (design_edit_order input output changes m n))
    (format_of formats input) (format_of formats output)
order_of_design formats (compare first second threads) =
    if_both_known (λ m n. comparing (compare_order first second threads m n))
    (format_of formats first) (format_of formats second)
order_of_design formats (list file) =
    option_map (λ m. listing (threads_order file m)) (format_of formats file)
order_of_design formats palette = Some (telling palette_report)
order_of_design formats help = Some (telling design_usage_text)
order_of_design formats version = Some (telling (version_line design_program_name))

-- The order of parsed arguments.
abbrev pub order_of_parsed : List Meaning → Result RequestedDesign (Option MistakenWord)
    → Option DesignOrder
order_of_parsed formats (Ok requested) = order_of_design formats requested
order_of_parsed formats (Err mistake) = None

-- The order that the arguments request, or none.
abbrev pub design_order : List Meaning → List (List ℕ) → Option DesignOrder
design_order formats words = order_of_parsed formats (parsed_design_words words)

-- The mistake of a file, if its format isn't known.
abbrev pub format_mistake : List ℕ → Option Meaning → Option MistakenWord
format_mistake file (Some m) = None
format_mistake file None = Some (mistake_at file misfit.NoFormat)

-- The mistake of the first of two files whose format isn't known.
abbrev pub first_format_mistake : (first second : List ℕ) → (m n : Option Meaning)
    → Option MistakenWord
first_format_mistake first second None n = Some (mistake_at first misfit.NoFormat)
first_format_mistake first second (Some m) n = format_mistake second n

-- The mistake of a request: a file whose format isn't known.
abbrev pub mistake_of_design : List Meaning → RequestedDesign → Option MistakenWord
mistake_of_design formats (look file limits) = format_mistake file (format_of formats file)
mistake_of_design formats (pass file limits) = format_mistake file (format_of formats file)
mistake_of_design formats (edit input output changes) =
    first_format_mistake input output (format_of formats input) (format_of formats output)
mistake_of_design formats (compare first second threads) =
    first_format_mistake first second (format_of formats first) (format_of formats second)
mistake_of_design formats (list file) = format_mistake file (format_of formats file)
mistake_of_design formats palette = None
mistake_of_design formats help = None
mistake_of_design formats version = None

-- The mistake of parsed arguments.
abbrev pub mistake_of_parsed : List Meaning → Result RequestedDesign (Option MistakenWord)
    → Option MistakenWord
mistake_of_parsed formats (Ok requested) = mistake_of_design formats requested
mistake_of_parsed formats (Err mistake) = mistake

-- The first argument that isn't understood, if there is one.
abbrev pub design_mistake : List Meaning → List (List ℕ) → Option MistakenWord
design_mistake formats words = mistake_of_parsed formats (parsed_design_words words)

-- The plan of an order: which files it reads, and what it accepts or refuses.
abbrev pub design_plan_of : DesignOrder → Plan
design_plan_of (looking order) = design_look_plan order
design_plan_of (passing order) = pass_plan order
design_plan_of (editing order) = design_edit_plan order
design_plan_of (comparing order) = compare_plan order
design_plan_of (listing order) = threads_plan order
design_plan_of (telling text) = accepts (λ product. product ≡ report_product text)

-- The names of the files that an order writes.
abbrev pub design_outputs_of : DesignOrder → List (List ℕ)
design_outputs_of (looking order) = []
design_outputs_of (passing order) = []
design_outputs_of (editing order) = order.output ∷ []
design_outputs_of (comparing order) = []
design_outputs_of (listing order) = []
design_outputs_of (telling text) = []

-- The program, with the usage text after a mistake in the arguments, if there is one.
abbrev pub stitch_design_after : Option MistakenWord → Program DesignOrder
stitch_design_after mistake = record {
  name = design_program_name;
  usage = usage_with design_program_name design_usage_text mistake;
  plan = design_plan_of;
  outputs = design_outputs_of;
}
