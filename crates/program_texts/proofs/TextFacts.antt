-- The text of each refusal, to the letter.
use Rattle.std.proofs.Common.{◌≡◌, ◌++◌, refl}
use Rattle.std.specs.Fmt.{digits}
use Rattle.std.specs.Prelude.{codes}
use Rattle.design_model.specs.TextLines.{newline}
use Rattle.format_traits.specs.declared.fault.WriteFault.TheVariants as write
use Rattle.line_graph.specs.declared.draw_kind.DrawKind.TheVariants as kind
use Rattle.stitch_trace.specs.declared.trace_fault.TraceFault.TheVariants as trace
use Rattle.program_texts.specs.DesignTexts.{no_colour_place_text, too_large_text, write_fault_text}
use Rattle.program_texts.specs.DrawingTexts.{draw_fault_text, draw_kind_text, step_limit_text, trace_fault_text}
use Rattle.program_texts.specs.MigrationReports.{migrate_report}

-- a design that has no traced drawing
pub known_untraced : trace_fault_text (codes "a") trace.NoLinks ≡ codes "a: nothing is sewn"
known_untraced = refl

pub known_long_link : trace_fault_text (codes "a") (trace.LinkTooLong 12)
    ≡ codes "a: command 12: link longer than 2047"
unfolding digits
known_long_link = refl

pub known_many_chains : trace_fault_text (codes "a") (trace.Limit kind.TooManyLines)
    ≡ codes "a: more than 1024 lines"
known_many_chains = refl

pub known_draw_kind_text : (draw_kind_text kind.Memory ≡ codes "out of memory")
    -- each fault of a drawing
    × (draw_kind_text kind.BadHeader ≡ codes "not a redwork drawing")
    × (draw_kind_text kind.BadWord ≡ codes "word not understood")
    × (draw_kind_text kind.BadNumber ≡ codes "not a number")
    × (draw_kind_text kind.OutOfRange ≡ codes "number out of range")
    × (draw_kind_text kind.FewPoints ≡ codes "too few points")
    × (draw_kind_text kind.RepeatedPoint ≡ codes "point repeated")
    × (draw_kind_text kind.NoBlock ≡ codes "no block")
    × (draw_kind_text kind.TooManyLines ≡ codes "more than 1024 lines")
    × (draw_kind_text kind.TooManyPoints ≡ codes "more than 65536 points")
    × (draw_kind_text kind.TooManyBlocks ≡ codes "more than 255 blocks")
    × (draw_kind_text kind.TooMuchCost ≡ codes "more than 200000 steps")
    × (draw_kind_text kind.NoJunction ≡ codes "not a junction")
    × (draw_kind_text kind.EndRepeated ≡ codes "start or end repeated")
known_draw_kind_text = (refl, refl, refl, refl, refl, refl, refl, refl, refl, refl, refl, refl, refl, refl)

-- A block without a line is reported at the line that opened it.
pub known_draw_line : draw_fault_text (codes "a.rw") (record { number = 2; kind = kind.EmptyBlock })
    ≡ codes "a.rw: line 2: block without a line"
unfolding digits
known_draw_line = refl

-- each fault of a design that is written
pub known_long_stitch : write_fault_text (codes "b") 121 (write.StitchTooLong 2)
    ≡ codes "b: command 2: stitch longer than 121"
unfolding digits
known_long_stitch = refl

pub known_long_float : write_fault_text (codes "b") 121 (write.FloatTooLong 6)
    ≡ codes "b: command 6: float too long"
unfolding digits
known_long_float = refl

pub known_many_stops : write_fault_text (codes "b") 121 (write.TooManyStops 300)
    ≡ codes "b: command 300: too many stops"
unfolding digits
known_many_stops = refl

pub known_much_written : write_fault_text (codes "b") 121 (write.TooLong 8)
    ≡ codes "b: command 8: more than 1000000 commands written"
unfolding digits
known_much_written = refl

-- a step above a limit, a place that a design doesn't have, a hoop that is too small
pub known_step : step_limit_text (codes "a.rw") 125 121 (codes "dst")
    ≡ codes "a.rw: step 125 is above 121, the limit of dst"
unfolding digits
known_step = refl

pub known_no_place : no_colour_place_text (codes "a") 2 1
    ≡ codes "a: no colour place 2, there are 1"
unfolding digits
known_no_place = refl

pub known_too_large : too_large_text 50 7 ≡ codes "too large by 50 7"
unfolding digits
known_too_large = refl

-- the report of a migration
pub known_migration : migrate_report 30 2 405 ≡ codes "lines 30 pieces 2 cost 405" ++ newline
unfolding digits
known_migration = refl
