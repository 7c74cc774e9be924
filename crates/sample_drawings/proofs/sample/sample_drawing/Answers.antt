use Rattle.std.proofs.Common.{◌∙◌, ap}
use Rattle.sample_drawings.proofs.Names.{DrawingValue, finished_drawing, sample_segments, first_block, with_segments}
use Rattle.sample_drawings.proofs.ShortLines.{all_short, few_lines}
use Rattle.sample_drawings.proofs.SampleRoomLemmas.{first_room, never, sample_ends}
use Rattle.sample_drawings.proofs.sample.sample_drawing.Goals as goal

pub add_lines-requires-clause-room : goal.add_lines-requires-clause-room
add_lines-requires-clause-room c =
    let are = c.as_slice.ensures ∙ (c.in_ok-lines.ensures ∙ ap sample_segments c.in_ok-grid.ensures) in
    rw (c.in_ok-maker.ensures, are) (first_room _ (few_lines c.args.number))

pub add_lines-requires-clause-short : goal.add_lines-requires-clause-short
add_lines-requires-clause-short c =
    let are = c.as_slice.ensures ∙ (c.in_ok-lines.ensures ∙ ap sample_segments c.in_ok-grid.ensures) in
    rw are (all_short c.args.number)

pub unreachable-requires : goal.unreachable-requires
unreachable-requires c =
    let are = c.as_slice.ensures ∙ (c.in_ok-lines.ensures ∙ ap sample_segments c.in_ok-grid.ensures) in
    let whole = c.in_ok-add_lines.ensures ∙ (ap (λ (d : DrawingValue). with_segments d c.as_slice.result.now) c.in_ok-maker.ensures
    ∙ ap (with_segments first_block) are) in
    never _ _ (c.in-Err.ensures.value ∙ (ap finished_drawing whole ∙ sample_ends c.args.number))
