use Rattle.std.proofs.Common.{◌≡◌, drop}
use Rattle.line_sections.proofs.Names.{points_of_lines}
use Rattle.design_model.specs.Extents.{extent_of_points, grown_optional_extent}
use Rattle.line_sections.proofs.line_extents.lines_extent.Given as goal

-- the extent so far, grown by the points of the lines that are left
abbrev pub invariant-loop-line : goal.invariant-loop-line
invariant-loop-line l =
    grown_optional_extent l.extent (points_of_lines (drop l.line-index l.lines)) ≡ extent_of_points (points_of_lines l.lines)
