-- Tracing move by move, as the code does it. No public clause cites this file.
use Rattle.std.specs.Prelude.{◌≡◌, ℕ, ◌==◌, Bool, ◌||◌, max, List, [], ◌∷◌, ◌++◌, Result, Ok, Err, if◌then◌else◌}
use Rattle.design_model.specs.declared.point.Point.{Point}
use Rattle.design_model.specs.OutOfMemory.{IsSpecified}
use Rattle.line_graph.specs.declared.draw_kind.DrawKind.{DrawKind}
use Rattle.line_graph.specs.GrowingDrawings.{draw_is_out_of_memory}
use Rattle.stitch_trace.specs.declared.links.Link.{Link}
use Rattle.stitch_trace.specs.declared.needle_moves.NeedleMove.{NeedleMove}
use Rattle.stitch_trace.specs.declared.needle_moves.NeedleMove.TheVariants.{Stay, Gap, Sewn}
use Rattle.stitch_trace.specs.declared.trace_fault.TraceFault.{TraceFault}
use Rattle.stitch_trace.specs.declared.trace_fault.TraceFault.TheVariants as fault
use Rattle.stitch_trace.specs.Links.{is_too_long, is_same_link, link_size}

-- The moves, where a gap replaces each link that was sewn before. The test holds of the links sewn
-- before the first move.
abbrev pub new_moves_by : (Link → Bool) → List NeedleMove → List NeedleMove
new_moves_by was [] = []
new_moves_by was (Stay ∷ rest) = Stay ∷ new_moves_by was rest
new_moves_by was (Gap ∷ rest) = Gap ∷ new_moves_by was rest
new_moves_by was (Sewn number link ∷ rest) =
    (if was link then Gap else Sewn number link)
    ∷ new_moves_by (λ other. is_same_link link other || was other) rest

-- The chain with the given points, if there are any.
abbrev pub chain_if_any : List Point → List (List Point)
chain_if_any [] = []
chain_if_any (p ∷ rest) = (p ∷ rest) ∷ []

-- The points of a chain with one more link.
abbrev pub extended_chain : List Point → Link → List Point
extended_chain [] link = link.from ∷ link.to ∷ []
extended_chain (p ∷ rest) link = (p ∷ rest) ++ link.to ∷ []

-- The chains of moves, where the points `begun` are already in the first chain.
abbrev pub chains_after : List Point → List NeedleMove → List (List Point)
chains_after begun [] = chain_if_any begun
chains_after begun (Stay ∷ rest) = chains_after begun rest
chains_after begun (Gap ∷ rest) = chain_if_any begun ++ chains_after [] rest
chains_after begun (Sewn number link ∷ rest) = chains_after (extended_chain begun link) rest

-- The size of the longest link of moves and of the links before them, or the fault of the first
-- link that is too long.
abbrev pub max_size_after : ℕ → List NeedleMove → Result ℕ TraceFault
max_size_after longest [] = if longest == 0 then Err fault.NoLinks else Ok longest
max_size_after longest (Stay ∷ rest) = max_size_after longest rest
max_size_after longest (Gap ∷ rest) = max_size_after longest rest
max_size_after longest (Sewn number link ∷ rest) =
    if is_too_long link then Err (fault.LinkTooLong number)
    else max_size_after (max longest (link_size link)) rest

-- The size of the longest link after one more move, or the fault of that move.
abbrev pub MeasuresMove : ℕ → NeedleMove → Result ℕ TraceFault → Type 0
MeasuresMove longest step (Ok more) = (rest : List NeedleMove)
    → max_size_after longest (step ∷ rest) ≡ max_size_after more rest
MeasuresMove longest step (Err why) = (rest : List NeedleMove)
    → max_size_after longest (step ∷ rest) ≡ Err why

-- A call makes a drawing grow as specified, or fails as specified or is out of memory.
abbrev pub GrowsAsSpecified : {A T : Type 0} → Result A DrawKind → Result T DrawKind → A → Type 0
GrowsAsSpecified said (Ok _) new = said ≡ Ok new
GrowsAsSpecified said (Err why) new = IsSpecified draw_is_out_of_memory said (Err why)
