use Rattle.std.proofs.Common.{◌≡◌, ◌-ℤ◌, ◌<ℤ◌, FitsSigned, w32, unsigned_abs, rules, arith}
use Rattle.step_splitter.proofs.Names.{ints, to_z-of_z}
use Rattle.step_splitter.proofs.AxisLemmas.{coordinate_on_segment-down}
use Rattle.step_splitter.proofs.segment_points.number_on.Goals as goal

pub returns-else-span : goal.returns-else-span
returns-else-span c =
    let from_fits : FitsSigned w32 c.args.span.from = search rules in
    let to_fits : FitsSigned w32 c.args.span.to = search rules in
    let down : c.args.span.to <ℤ c.args.span.from = omega (arith, ints) in
    let distance : c.abs_diff-distance.result ≡ unsigned_abs (c.args.span.to -ℤ c.args.span.from) =
    grind (arith, to_z-of_z, c.abs_diff-distance.ensures) in
    let value = coordinate_on_segment-down c.args.span.from c.args.span.to c.args.count c.args.index c.requires.some down in
    rw (value, ← distance, ← c.part_up.ensures.value) (omega (arith, ints))
