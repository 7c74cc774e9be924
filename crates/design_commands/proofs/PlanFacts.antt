-- The plans of stitch_design: what each order reads, makes and refuses.
use Rattle.std.proofs.Common.{◌≡◌, ℕ, Option, pos, true, false, List, [], ◌∷◌, None, Ok, Err, codes, refl}
use Rattle.std.specs.Fmt.{digits}
use Rattle.design_model.specs.Designs.{DesignValue}
use Rattle.design_model.specs.declared.command.Command.TheVariants.{Stitch, Stop, Trim}
use Rattle.design_review.specs.declared.place.DesignPlace.TheVariants as place
use Rattle.design_commands.specs.Commands.{comparing, editing, listing, looking, passing, stitch_design_after, telling}
use Rattle.design_commands.specs.CompareOrders.{CompareOrder, compare_first, compare_second, compared}
use Rattle.design_commands.specs.DesignOutputs.{IsDesignOutput, IsPicturedOutput}
use Rattle.design_commands.specs.EditOrders.{edited_design_plan, pictured_by}
use Rattle.design_commands.specs.LookTexts.{design_look_report}
use Rattle.design_commands.specs.ReviewOrders.{ReviewOrder, design_look_read, pass_read, passed_by_places}
use Rattle.design_commands.specs.ThreadOrders.{ThreadsOrder, threads_read}
use Rattle.design_commands.specs.ThreadTexts.{threads_report}
use Rattle.edited_designs.specs.DesignChanges.{tied}
use Rattle.edited_designs.specs.declared.design_fault.DesignFault.TheVariants as bad
use Rattle.format_traits.specs.declared.fault.ReadFault.TheVariants as fault
use Rattle.format_traits.specs.declared.loaded.Loaded.{Loaded}
use Rattle.outside_io.specs.Files.{Files}
use Rattle.program_shell.specs.Plans.{Makes, Plan, Refuses, reads}
use Rattle.program_shell.specs.Products.{ProductValue}
use Rattle.design_commands.proofs.Names.{DesignEditOrder, design_edit_read, edited_in_order}

-- What a plan makes is that report alone, and what it refuses has that text.
abbrev Reports : Plan → List ℕ → Type 0
Reports plan report = (files : Option Files) (product : ProductValue) → Makes plan files product
    → product ≡ record { outputs = []; report = report }

abbrev Says : Plan → List ℕ → Type 0
Says plan text = (files : Option Files) (why : List ℕ) → Refuses plan files why → why ≡ text

-- each order has its plan, which begins with its input
pub known_plans : (r : ReviewOrder) (e : DesignEditOrder) (c : CompareOrder) (t : ThreadsOrder)
    → ((stitch_design_after None).plan (looking r) ≡ reads r.file (λ bytes. design_look_read r (r.format.reads bytes)))
    × ((stitch_design_after None).plan (passing r) ≡ reads r.file (λ bytes. pass_read r (r.format.reads bytes)))
    × ((stitch_design_after None).plan (editing e) ≡ reads e.input (λ bytes. design_edit_read e (e.source.reads bytes)))
    × ((stitch_design_after None).plan (comparing c) ≡ reads c.first (λ bytes. compare_first c (c.first_format.reads bytes)))
    × ((stitch_design_after None).plan (listing t) ≡ reads t.file (λ bytes. threads_read t (t.format.reads bytes)))
known_plans r e c t = (refl, refl, refl, refl, refl)

pub known_told : (text : List ℕ) → Reports ((stitch_design_after None).plan (telling text)) text
known_told text files product makes = makes

-- of all orders `edit` alone writes a file
pub known_outputs : (r : ReviewOrder) (e : DesignEditOrder) (c : CompareOrder) (t : ThreadsOrder) (text : List ℕ)
    → ((stitch_design_after None).outputs (editing e) ≡ e.output ∷ [])
    × ((stitch_design_after None).outputs (looking r) ≡ []) × ((stitch_design_after None).outputs (passing r) ≡ [])
    × ((stitch_design_after None).outputs (comparing c) ≡ []) × ((stitch_design_after None).outputs (listing t) ≡ [])
    × ((stitch_design_after None).outputs (telling text) ≡ [])
known_outputs r e c t text = (refl, refl, refl, refl, refl, refl)

pub known_name : (stitch_design_after None).name ≡ codes "stitch_design"
known_name = refl

-- `look` reports, `pass` reports nothing or refuses the first place, and a file that can't be read is refused
abbrev named : ReviewOrder → ReviewOrder
named r = record r { file = codes "a.dst" }

pub known_look : (r : ReviewOrder) (loaded : Loaded)
    → Reports (design_look_read r (Ok loaded)) (design_look_report r.limits loaded.design)
    × Says (design_look_read (named r) (Err (fault.Control 7))) (codes "a.dst: byte 7: control code not known")
unfolding digits
known_look r loaded = (λ files product makes. makes, λ files why refuses. refuses)

pub known_pass : (r : ReviewOrder) → Reports (passed_by_places r []) []
    × Says (passed_by_places (named r) (place.EmptyBlock 2 ∷ place.NoNeedle ∷ [])) (codes "a.dst: block 2: no needle")
    × Says (pass_read (named r) (Err (fault.Short 9))) (codes "a.dst: byte 9: file too short")
unfolding digits
known_pass r = (λ files product makes. makes, λ files why refuses. refuses, λ files why refuses. refuses)

pub known_threads : (t : ThreadsOrder) (loaded : Loaded) → Reports (threads_read t (Ok loaded)) (threads_report loaded.design)
    × Says (threads_read (record t { file = codes "a.dst" }) (Err (fault.Sequin 9))) (codes "a.dst: byte 9: sequin")
unfolding digits
known_threads t loaded = (λ files product makes. makes, λ files why refuses. refuses)

-- two designs with the same acts in other threads, and one with a trim
abbrev sewn : List ℕ → DesignValue
sewn threads = record { label = []; threads = threads; commands = Stitch (record { x = pos 1; y = pos 2 }) ∷ Stop ∷ [] }

abbrev cut : DesignValue
cut = record { label = []; threads = []; commands = Stitch (record { x = pos 1; y = pos 2 }) ∷ Trim ∷ [] }

pub known_compared : Reports (compared false (sewn (5 ∷ [])) (sewn (9 ∷ []))) [] × Reports (compared true (sewn (1 ∷ 2 ∷ [])) (sewn [])) []
    × Says (compared true (sewn (5 ∷ [])) (sewn (9 ∷ []))) (codes "block 1: thread 5, 9")
    × Says (compared false (sewn []) cut) (codes "act 2: stop, trim")
unfolding digits
known_compared = (
  λ files product makes. makes,
  λ files product makes. makes,
  λ files why refuses. refuses,
  λ files why refuses. refuses,
)

-- the second file is read after the first, and a fault is about the one that has it
abbrev pair : CompareOrder → CompareOrder
pair c = record c { first = codes "a.dst"; second = codes "b.exp" }

pub known_second : (c : CompareOrder) (first second : Loaded)
    → (compare_first c (Ok first) ≡ reads c.second (λ bytes. compare_second c first.design (c.second_format.reads bytes)))
    × (compare_second c first.design (Ok second) ≡ compared c.threads first.design second.design)
    × Says (compare_first (pair c) (Err (fault.Short 9))) (codes "a.dst: byte 9: file too short")
    × Says (compare_second (pair c) first.design (Err (fault.Short 9))) (codes "b.exp: byte 9: file too short")
unfolding digits
known_second c first second = (refl, refl, λ files why refuses. refuses, λ files why refuses. refuses)

-- a bad edit and a file that can't be read are refused
pub known_bad_edit : (e : DesignEditOrder)
    → Says (edited_design_plan (record e { input = codes "a.dst" }) (Err (record { number = 2; fault = bad.NoPlace 4 3 })))
    (codes "a.dst: edit 2: no block 4, there are 3")
    × Says (design_edit_read (record e { input = codes "a.dst" }) (Err (fault.Short 9))) (codes "a.dst: byte 9: file too short")
unfolding digits
known_bad_edit e = (λ files why refuses. refuses, λ files why refuses. refuses)

-- an edited design is written as the output in its format, with thumbnails where the edit is among them and the format has some
abbrev to_file : DesignEditOrder → DesignEditOrder
to_file e = record e { output = codes "b.dst"; changes = tied 10 ∷ [] }

pub known_written : (e : DesignEditOrder) (d : DesignValue) (loaded : Loaded) (files : Option Files) (product : ProductValue)
    → (design_edit_read e (Ok loaded) ≡ edited_design_plan e (edited_in_order 1 e.changes loaded.design))
    × (Makes (edited_design_plan (to_file e) (Ok d)) files product → IsDesignOutput (codes "b.dst") e.target d product)
    × (Makes (pictured_by true (codes "b.pes") e.target d) files product → IsPicturedOutput (codes "b.pes") e.target d product)
    × Says (pictured_by false (codes "b.dst") e.target d) (codes "b.dst: no thumbnails in this format")
known_written e d loaded files product = (refl, λ makes. makes, λ makes. makes, λ files why refuses. refuses)
