-- Names from elsewhere that several files of these proofs use.
pub use Rattle.std.proofs.lemmas.Bool.{and_parts, both_ways, or_parts}
pub use Rattle.std.proofs.lemmas.Bool.Decides.{Decides-int_eq, nat_tests}
pub use Rattle.std.proofs.lemmas.List.Concat.{flat_map-cons}
pub use Rattle.std.proofs.lemmas.List.Elements.{All-append, All-cons, All-head, All-map, All-nil, All-tail, All-weaker}
pub use Rattle.std.proofs.lemmas.List.Sums.{list_all-from_AllPass, sum_by-append, sum_by-cons}
pub use Rattle.std.specs.HashMap.{get}
pub use Rattle.std.specs.List.{count_by, flat_map, list_all, list_any}
pub use Rattle.design_model.proofs.CallerLemmas.{same_is}
pub use Rattle.design_model.specs.Points.{is_same_point}
pub use Rattle.design_model.specs.declared.point.Point.{Point}
pub use Rattle.line_sections.specs.Lines.{LineValue, points_of_lines}
pub use Rattle.line_sections.specs.ListedPoints.{AreCutMarks, AreMarked, AreMarksOf, Marks, MarksSpot, SetsMark, is_cut_by, is_listed_again}
pub use Rattle.line_sections.specs.ListedPoints.{mark_of, sections_by, sections_continued, spot_at, spots_of}
pub use Rattle.line_sections.specs.Sections.{SectionsHaveSegments, WholeLinesStay, all_sections, are_whole_lines, but_last, has_points}
pub use Rattle.line_sections.specs.Sections.{inner_points, is_shared_point, is_whole_line, line_sections, lines_through, listed_in}
pub use Rattle.line_sections.specs.Sections.{sections_from, sections_of, sections_with_first, segments_from, segments_of}
pub use Rattle.line_sections.specs.Spots.{is_same_spot}
pub use Rattle.line_sections.specs.declared.spot.Spot.{Spot}
pub use Rattle.design_model.proofs.ListLemmas.{same_number}
