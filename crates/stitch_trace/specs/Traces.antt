-- The traced drawing of a design: the chains of each block that has a link, cut into sections.
-- Blocks of a design count from 0.
use Rattle.std.specs.Prelude.{◌≡◌, ℕ, ◌+◌, ◌==◌, Bool, true, false, List, [], ◌∷◌, ◌++◌, Option, Some, None, Result, Ok, Err}
use Rattle.std.specs.List.{before_first}
use Rattle.design_model.specs.declared.act.NumberedAct.{NumberedAct}
use Rattle.design_model.specs.declared.point.Point.{Point}
use Rattle.design_model.specs.Acts.{acts_of}
use Rattle.design_model.specs.Blocks.{blocks_of}
use Rattle.design_model.specs.Designs.{DesignValue, thread_of}
use Rattle.line_graph.specs.declared.draw_kind.DrawKind.{DrawKind}
use Rattle.line_graph.specs.declared.draw_kind.DrawKind.TheVariants as kind
use Rattle.line_graph.specs.Drawings.{DrawingValue}
use Rattle.line_graph.specs.GrowingDrawings.{and_then, block_added, empty_drawing, finished_drawing, line_added}
use Rattle.line_graph.specs.JoinedDrawings.{joined_drawing}
use Rattle.stitch_trace.specs.declared.needle_moves.NeedleMove.{NeedleMove}
use Rattle.stitch_trace.specs.declared.links.Link.{Link}
use Rattle.stitch_trace.specs.declared.strands.Strand.{Strand}
use Rattle.stitch_trace.specs.declared.trace_fault.TraceFault.{TraceFault}
use Rattle.stitch_trace.specs.declared.trace_fault.TraceFault.TheVariants as fault
use Rattle.stitch_trace.specs.Links.{first_too_long, links_in, longest, needle_moves_of}
use Rattle.stitch_trace.specs.Chains.{chains_of}

-- The strand of a block: its thread and its chains, if it has any.
abbrev pub strand_of : ℕ → List (List Point) → List Strand
strand_of thread [] = []
strand_of thread (chain ∷ rest) = record { thread = thread; chains = chain ∷ rest } ∷ []

-- The strands of the blocks of a design, from the given index on.
abbrev pub strands_from : DesignValue → ℕ → List (List NumberedAct) → List Strand
strands_from d block [] = []
strands_from d block (acts ∷ later) =
    strand_of (thread_of d block) (chains_of acts) ++ strands_from d (block + 1) later

-- The strands of a design: one for each block that has a link.
abbrev pub strands_of : DesignValue → List Strand
strands_of d = strands_from d 0 (blocks_of (acts_of d))

-- A byte is a space.
abbrev pub is_space : ℕ → Bool
is_space byte = byte == 32

-- A label up to its first space.
abbrev pub label_first_word : List ℕ → List ℕ
label_first_word label = before_first is_space label

-- The drawing with chains as more lines of its last block, or the first fault.
abbrev pub chains_added : DrawingValue → List (List Point) → Result DrawingValue DrawKind
chains_added d [] = Ok d
chains_added d (chain ∷ rest) = and_then (line_added d chain) (λ more. chains_added more rest)

-- The drawing with one more block, of a strand's thread and chains, or the first fault.
abbrev pub strand_added : DrawingValue → Strand → Result DrawingValue DrawKind
strand_added d strand =
    and_then (block_added d strand.thread) (λ more. chains_added more strand.chains)

-- The drawing with one more block for each strand, or the first fault.
abbrev pub strands_added : DrawingValue → List Strand → Result DrawingValue DrawKind
strands_added d [] = Ok d
strands_added d (strand ∷ rest) =
    and_then (strand_added d strand) (λ more. strands_added more rest)

-- The joined drawing of strands, with the first word of a label and the given longest step, or the
-- first fault.
abbrev pub drawing_with_strands : List ℕ → ℕ → List Strand → Result DrawingValue DrawKind
drawing_with_strands label step strands =
    and_then (and_then (strands_added (empty_drawing (label_first_word label) step) strands)
    finished_drawing)
    joined_drawing

-- The longest step of a traced drawing: the size of its longest link. The fault is `LinkTooLong` at
-- the given number if there is one, or `NoLinks` without links.
abbrev pub step_or_fault : Option ℕ → List Link → Result ℕ TraceFault
step_or_fault (Some number) links = Err (fault.LinkTooLong number)
step_or_fault None [] = Err fault.NoLinks
step_or_fault None (link ∷ rest) = Ok (longest (link ∷ rest))

-- The longest step of the drawing traced from moves, or the fault.
abbrev pub trace_step : List NeedleMove → Result ℕ TraceFault
trace_step moves = step_or_fault (first_too_long moves) (links_in moves)

-- A result whose fault becomes the fault `Limit` of a trace.
abbrev pub with_limit_fault : {A : Type 0} → Result A DrawKind → Result A TraceFault
with_limit_fault (Ok a) = Ok a
with_limit_fault (Err why) = Err (fault.Limit why)

-- The result of a second step on the value of a first one, or the fault of the first.
abbrev pub and_then_trace : {A B : Type 0} → Result A TraceFault → (A → Result B TraceFault)
    → Result B TraceFault
and_then_trace (Ok a) next = next a
and_then_trace (Err why) next = Err why

-- The traced drawing of a design, or its fault.
abbrev pub traced : DesignValue → Result DrawingValue TraceFault
traced d = and_then_trace (trace_step (needle_moves_of (acts_of d)))
    (λ step. with_limit_fault (drawing_with_strands d.label step (strands_of d)))

-- The fault of a trace for a fault of its drawing.
abbrev pub IsRefusalOf : DrawKind → TraceFault → Type 0
IsRefusalOf kind.Memory why = why ≡ fault.Memory
IsRefusalOf other why = why ≡ fault.Limit other

-- A fault is `Memory`: memory could not be allocated.
abbrev pub trace_is_out_of_memory : TraceFault → Bool
trace_is_out_of_memory fault.Memory = true
trace_is_out_of_memory other = false
