-- What runs of the programs beside `stitch` guarantee of their arguments, with the five formats.
use Rattle.std.proofs.Common.{◌≡◌, List, [], ℕ, Option, Some, None, codes, refl}
use Rattle.all_formats.specs.StitchFormats.{stitch_formats}
use Rattle.design_commands.specs.Commands.{DesignOrder, design_mistake, design_order, design_plan_of, stitch_design_after}
use Rattle.drawing_commands.specs.Commands.{drawing_mistake, drawing_order_of, drawing_plan_of, stitch_drawing_after}
use Rattle.drawing_commands.specs.Requests.{DrawingOrder}
use Rattle.picture_commands.specs.Orders.{PictureOrder, picture_mistake, picture_order, picture_plan, picture_program_after}
use Rattle.program_shell.specs.Messages.{message_line}
use Rattle.program_shell.specs.Plans.{Makes, Plan, Refuses}
use Rattle.program_shell.specs.Products.{ProductValue, WroteAll}
use Rattle.program_shell.specs.ProgramRuns.{IsDone, IsRefused}
use Rattle.program_shell.specs.Programs.{Program}
use Rattle.program_shell.specs.Puts.{with_bytes_put}
use Rattle.program_shell.specs.RunViews.{Views}
use Rattle.program_shell.specs.declared.status.Status.TheVariants as status
use Rattle.stitch_c.specs.ProgramClauses.{IsDesignRun, IsDrawingRun, IsPictureRun}

-- a run that is done: its arguments requested an order, the product of its plan is written, and its report printed
abbrev Done : {Order : Type 0} → (Order → Plan) → Option Order → Views → Views → Type 0
Done {Order} plan requested before after = (order : Order) × (product : ProductValue) × (requested ≡ Some order)
    × Makes (plan order) before.store.files product × WroteAll product.outputs before.store after.store
    × (after.out ≡ with_bytes_put before.out product.report) × (after.err ≡ before.err)

-- a run that is refused: the plan of its order refuses with a text, which is reported, and nothing is printed
abbrev Refused : {Order : Type 0} → List ℕ → (Order → Plan) → Option Order → Views → Views → Type 0
Refused {Order} name plan requested before after = (order : Order) × (why : List ℕ) × (requested ≡ Some order)
    × Refuses (plan order) before.store.files why × (after.store ≡ before.store) × (after.out ≡ before.out)
    × (after.err ≡ with_bytes_put before.err (message_line name why))

is_done : {Order : Type 0} (program : Program Order) (requested : Option Order) (before after : Views)
    → IsDone program requested before after → Done program.plan requested before after
is_done program requested before after is =
    (is.order, is.product, is.is_requested, is.made, is.wrote, is.report, is.err)

is_refused : {Order : Type 0} (program : Program Order) (requested : Option Order) (before after : Views)
    → IsRefused program requested before after → Refused program.name program.plan requested before after
is_refused program requested before after is =
    (is.order, is.why, is.is_requested, is.cause, is.untouched.store, is.untouched.out, is.message)

-- a run of `stitch_drawing`
pub known_drawing_done : (words : List (List ℕ)) (before after : Views) → IsDrawingRun words before after status.Done
    → Done drawing_plan_of (drawing_order_of words) before after
known_drawing_done words before after runs =
    is_done (stitch_drawing_after (drawing_mistake words)) (drawing_order_of words) before after (runs.done refl)

pub known_drawing_refused : (words : List (List ℕ)) (before after : Views) → IsDrawingRun words before after status.Refused
    → Refused (codes "stitch_drawing") drawing_plan_of (drawing_order_of words) before after
known_drawing_refused words before after runs =
    is_refused (stitch_drawing_after (drawing_mistake words)) (drawing_order_of words) before after (runs.refused refl)

pub known_drawing_usage : (before after : Views) → (IsDrawingRun [] before after status.Done → ⊥)
    × (IsDrawingRun [] before after status.Usage → after.err ≡ with_bytes_put before.err (stitch_drawing_after None).usage)
known_drawing_usage before after = (λ runs. none (runs.done refl).is_requested, λ runs. (runs.usage refl).message)
  where
    none : {order : DrawingOrder} → ◌≡◌ {A = Option DrawingOrder} None (Some order) → ⊥
    none is = cc

-- a run of `stitch_picture`
pub known_picture_done : (words : List (List ℕ)) (before after : Views) → IsPictureRun words before after status.Done
    → Done picture_plan (picture_order stitch_formats words) before after
known_picture_done words before after runs = is_done (picture_program_after (picture_mistake stitch_formats words))
    (picture_order stitch_formats words) before after (runs.done refl)

pub known_picture_refused : (words : List (List ℕ)) (before after : Views) → IsPictureRun words before after status.Refused
    → Refused (codes "stitch_picture") picture_plan (picture_order stitch_formats words) before after
known_picture_refused words before after runs = is_refused (picture_program_after (picture_mistake stitch_formats words))
    (picture_order stitch_formats words) before after (runs.refused refl)

pub known_picture_usage : (before after : Views) → (IsPictureRun [] before after status.Done → ⊥)
    × (IsPictureRun [] before after status.Usage → after.err ≡ with_bytes_put before.err (picture_program_after None).usage)
known_picture_usage before after = (λ runs. none (runs.done refl).is_requested, λ runs. (runs.usage refl).message)
  where
    none : {order : PictureOrder} → ◌≡◌ {A = Option PictureOrder} None (Some order) → ⊥
    none is = cc

-- a run of `stitch_design`
pub known_design_done : (words : List (List ℕ)) (before after : Views) → IsDesignRun words before after status.Done
    → Done design_plan_of (design_order stitch_formats words) before after
known_design_done words before after runs = is_done (stitch_design_after (design_mistake stitch_formats words))
    (design_order stitch_formats words) before after (runs.done refl)

pub known_design_refused : (words : List (List ℕ)) (before after : Views) → IsDesignRun words before after status.Refused
    → Refused (codes "stitch_design") design_plan_of (design_order stitch_formats words) before after
known_design_refused words before after runs = is_refused (stitch_design_after (design_mistake stitch_formats words))
    (design_order stitch_formats words) before after (runs.refused refl)

pub known_design_usage : (before after : Views) → (IsDesignRun [] before after status.Done → ⊥)
    × (IsDesignRun [] before after status.Usage → after.err ≡ with_bytes_put before.err (stitch_design_after None).usage)
known_design_usage before after = (λ runs. none (runs.done refl).is_requested, λ runs. (runs.usage refl).message)
  where
    none : {order : DesignOrder} → ◌≡◌ {A = Option DesignOrder} None (Some order) → ⊥
    none is = cc
