-- Theorems about traced drawings: each block has the new links of a block of the design, each once.
-- Blocks count from 0.
use Rattle.std.specs.Prelude.{◌≡◌, ℕ, ◌+◌, ◌==◌, Bool, true, not, ◌&&◌, List, [], ◌∷◌, ◌++◌, map, Ok, Err, if◌then◌else◌}
use Rattle.std.specs.List.{flat_map, list_all, list_any}
use Rattle.design_model.specs.declared.act.NumberedAct.{NumberedAct}
use Rattle.design_model.specs.declared.point.Point.{Point}
use Rattle.design_model.specs.Acts.{acts_of}
use Rattle.design_model.specs.Blocks.{blocks_of}
use Rattle.design_model.specs.Designs.{DesignValue, KeepsLimits}
use Rattle.line_sections.specs.Lines.{LineValue}
use Rattle.line_sections.specs.Sections.{segments_of}
use Rattle.line_graph.specs.declared.draw_kind.DrawKind.{DrawKind}
use Rattle.line_graph.specs.declared.draw_kind.DrawKind.TheVariants as kind
use Rattle.line_graph.specs.Drawings.{DrawingValue}
use Rattle.step_splitter.specs.Steps.{steps_of}
use Rattle.stitch_trace.specs.declared.links.Link.{Link}
use Rattle.stitch_trace.specs.declared.trace_fault.TraceFault.TheVariants as fault
use Rattle.stitch_trace.specs.Chains.{has_links, is_sewn, new_links_of}
use Rattle.stitch_trace.specs.Links.{is_same_link, links_in, needle_moves_of}
use Rattle.stitch_trace.specs.Traces.{traced}

-- A link in a block.
pub record BlockLink : Type 0 where
  pub block : ℕ
  pub link : Link

-- Links of one block.
abbrev pub in_block : ℕ → List Link → List BlockLink
in_block block links = map (λ link. record { block = block; link = link }) links

-- The link between the two endpoints of a segment.
abbrev pub link_between : Point × Point → Link
link_between ends = record { from = ends.0; to = ends.1 }

-- The links along the segments through the given points.
abbrev pub links_along : List Point → List Link
links_along points = map link_between (segments_of points)

-- The links along the segments of lines, each in its line's block.
abbrev pub drawn_links : List LineValue → List BlockLink
drawn_links lines = flat_map (λ line. in_block line.block (links_along line.points)) lines

-- The number of blocks that a drawing has for a block of a design with the given links: 1, or 0
-- without links.
abbrev pub drawn_block_count : List Link → ℕ
drawn_block_count links = if has_links links then 1 else 0

-- The new links of a design's blocks. The first block with links becomes the block of the given
-- index in the drawing.
abbrev pub sewn_links : ℕ → List (List NumberedAct) → List BlockLink
sewn_links block [] = []
sewn_links block (acts ∷ later) =
    in_block block (new_links_of acts) ++ sewn_links (block + drawn_block_count (new_links_of acts))
    later

-- The segments of a traced drawing are the new links of the design, block by block, each once.
abbrev pub LinksAreDrawn : Type 0
LinksAreDrawn = (d : DesignValue) (drawing : DrawingValue) → traced d ≡ Ok drawing
    → drawn_links drawing.lines ≡ sewn_links 0 (blocks_of (acts_of d))

-- A link is one step of a drawing with the given longest step.
abbrev pub is_one_step : ℕ → BlockLink → Bool
is_one_step step one = steps_of one.link.from one.link.to step == 1

-- Each segment of a traced drawing is one step.
abbrev pub LinksAreSteps : Type 0
LinksAreSteps = (d : DesignValue) (drawing : DrawingValue) → KeepsLimits d → traced d ≡ Ok drawing
    → list_all (is_one_step drawing.step) (drawn_links drawing.lines) ≡ true

-- No two of the links are equal.
abbrev pub are_distinct : List Link → Bool
are_distinct [] = true
are_distinct (link ∷ rest) = not (list_any (is_same_link link) rest) && are_distinct rest

-- The new links of a block are distinct, and each link of the block equals one of them.
pub record AreDistinctLinks (acts : List NumberedAct) : Type 0 where
  pub distinct : are_distinct (new_links_of acts) ≡ true
  pub all : list_all (is_sewn (new_links_of acts)) (links_in (needle_moves_of acts)) ≡ true

-- In each block the new links are its distinct links.
abbrev pub NewLinksAreDistinct : Type 0
NewLinksAreDistinct = (acts : List NumberedAct) → AreDistinctLinks acts

-- A fault of too many blocks, too many lines or too many points.
abbrev pub IsCountLimit : DrawKind → Type 0
IsCountLimit kind.TooManyBlocks = Unit {0}
IsCountLimit kind.TooManyLines = Unit {0}
IsCountLimit kind.TooManyPoints = Unit {0}
IsCountLimit other = ⊥

-- A design has no traced drawing because of a limit only where there are too many blocks, lines or
-- points.
abbrev pub CountsAreLimits : Type 0
CountsAreLimits = (d : DesignValue) (why : DrawKind) → KeepsLimits d
    → traced d ≡ Err (fault.Limit why) → IsCountLimit why
