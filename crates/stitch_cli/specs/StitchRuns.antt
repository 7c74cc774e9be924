-- The closed statement of the program: what a run of `stitch` guarantees with the five formats of
-- the programs. Nothing in it is left open: a name's ending chooses among the five definitions.
use Rattle.std.specs.Prelude.{ℕ, List, Option}
use Rattle.all_formats.specs.StitchFormats.{stitch_formats}
use Rattle.program_shell.specs.declared.status.Status.{Status}
use Rattle.program_shell.specs.ProgramRuns.{RunEnds}
use Rattle.program_shell.specs.RunViews.{Views}
use Rattle.stitch_cli.specs.Commands.{Order, order_of, stitch}
use Rattle.stitch_cli.specs.Headline.{ChecksRightly, RoutesLeast}

-- The order that the arguments request of the program.
abbrev pub stitch_order : List (List ℕ) → Option Order
stitch_order words = order_of stitch_formats words

-- A run of the program with these arguments ends as specified (`ends`). After a `route` that is
-- done the files are a least route of the drawing (`routes`), and a `check` that is done was of
-- least redwork (`checks`).
pub record IsStitchRun (words : List (List ℕ)) (before after : Views) (s : Status) : Type 0 where
  pub ends : RunEnds stitch (stitch_order words) before after s
  pub routes : RoutesLeast (stitch_order words) before after s
  pub checks : ChecksRightly (stitch_order words) before s
