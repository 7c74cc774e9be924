-- Names from elsewhere that several files of these proofs use.
pub use Rattle.std.proofs.Math.Path.{ap₂}
pub use Rattle.std.proofs.lemmas.Bool.{and_from, and_parts, cases_order, not-true, or_parts, or_right}
pub use Rattle.std.proofs.lemmas.Bool.Decides.{nat_tests}
pub use Rattle.std.proofs.lemmas.List.{get_or-map, length-map, map-append, nil_from_length}
pub use Rattle.std.proofs.lemmas.List.Concat.{flat_map-cons}
pub use Rattle.std.proofs.lemmas.List.Elements.{All-cons, All-filter, All-get_or, All-head, All-map, All-nil, All-push, All-tail}
pub use Rattle.std.proofs.lemmas.List.Elements.{All-weaker, filter_passes}
pub use Rattle.std.proofs.lemmas.List.Folds.{Any-from_list_any, list_all-append, list_any-append, list_any_at}
pub use Rattle.std.proofs.lemmas.List.Sums.{AllPass-from_list_all, list_all-from_AllPass, sum_by-append, sum_by-cons}
pub use Rattle.std.specs.Char.{digit_value, is_ascii_digit, is_ascii_graphic}
pub use Rattle.std.specs.Fmt.{decimal, signed_decimal}
pub use Rattle.std.specs.List.{flat_map, list_all, list_any, position_or_len, slice_split}
pub use Rattle.std.specs.List.Sorted.{IsNonDecreasing}
pub use Rattle.std.specs.Str.{all_ascii_digits}
pub use Rattle.std.specs.Str.Parse.{digits_value}
pub use Rattle.design_model.proofs.CallerLemmas.{same_is, within_parts}
pub use Rattle.design_model.specs.Labels.{IsLabel, IsPrintable}
pub use Rattle.design_model.specs.Points.{is_point_within, is_same_point}
pub use Rattle.design_model.specs.declared.point.Point.{Point}
pub use Rattle.design_model.specs.declared.point.TheConstants.{NEEDLE_LIMIT}
pub use Rattle.line_graph.proofs.DrawingLemmas.{after_both, finished_none, joined_none, last_by, none_repeats, spot_comes, unless}
pub use Rattle.line_graph.specs.Drawings.{DrawingValue, IsLine, KeepsDrawingLimits, endpoints}
pub use Rattle.line_graph.specs.EndOrders.{AreInBlockOrder, HasOrderedEnds}
pub use Rattle.line_graph.specs.GrowingDrawings.{all_in_needle_range, and_then, block_added, finished_drawing, is_drawing_label}
pub use Rattle.line_graph.specs.GrowingDrawings.{is_last_empty, line_added, point_count, step_count, steps_with_line, with_new_block}
pub use Rattle.line_graph.specs.GrowingDrawings.{with_new_line}
pub use Rattle.line_graph.specs.JoinedDrawings.{is_joined, joined_drawing}
pub use Rattle.line_graph.specs.Needles.{steps_of_line}
pub use Rattle.line_graph.specs.WalkEnds.{AreInDifferentPieces, HasNoEnds, IsValidDrawing, are_connected_spots, has_end_at_spot}
pub use Rattle.line_graph.specs.WalkEnds.{is_junction, spot_added, walk_end_added}
pub use Rattle.line_graph.specs.declared.draw_kind.DrawKind.{DrawKind}
pub use Rattle.drawing_text.specs.CanonicalTexts.{block_text, blocks_text, canonical_text, canonical_text2, canonical_text_in, header_text}
pub use Rattle.drawing_text.specs.CanonicalTexts.{label_text, line_text, lines_of_block, number_line_text, points_text}
pub use Rattle.drawing_text.specs.CoordinateWords.{BeginsWithCoordinate, BeginsWithDigits, ends_word}
pub use Rattle.drawing_text.specs.DrawingText.{Body, at_line, body_from, body_of_text, drawing_after_lines, drawing_as2, drawing_in_version}
pub use Rattle.drawing_text.specs.DrawingText.{drawing_of, drawing_of_body_as2, drawing_of_draft, drawing_with_ends, joined_at}
pub use Rattle.drawing_text.specs.DrawingText.{located_fault}
pub use Rattle.drawing_text.specs.DrawnTexts.{drawing_as_drawn, lines_after, lines_of, lines_of_draft}
pub use Rattle.drawing_text.specs.EndTexts.{block_text3, blocks_text3, canonical_text3, drawn_text, end_line_text, end_lines_text}
pub use Rattle.drawing_text.specs.EndTexts.{with_ends_of}
pub use Rattle.drawing_text.specs.TextLaws.{CanonicalText2IsRead, CanonicalText2KeepsLines, CanonicalText3IsRead, CanonicalText3KeepsLines}
pub use Rattle.drawing_text.specs.TextLaws.{CanonicalTextIsRead, DrawnTextIsRead, DrawnTextKeepsLines, IsJoinedFrom, TextsOrderEnds}
pub use Rattle.drawing_text.specs.TextLines.{allows_ends, count_in_range, default_drawing, draft_after_words, empty_draft, is_before_blocks}
pub use Rattle.drawing_text.specs.TextLines.{parsed_coordinate, parsed_count, parsed_point, parsed_points, with_color_line, with_name_line}
pub use Rattle.drawing_text.specs.TextLines.{with_points_line, with_step_line, with_walk_end_line}
pub use Rattle.drawing_text.specs.Words.{begins_comment, is_blank_byte, is_filled, is_line_feed, is_word_byte, line_without_return}
pub use Rattle.drawing_text.specs.Words.{single_word, text_lines, words_by_line, words_of_line}
pub use Rattle.drawing_text.specs.declared.draft.DrawingDraft.{DrawingDraft}
pub use Rattle.drawing_text.specs.declared.draw_fault.DrawFault.{DrawFault}
pub use Rattle.drawing_text.specs.declared.version.Version.{Version}
pub use Rattle.drawing_text.specs.declared.walk_end.WalkEnd.{WalkEnd}
pub use Rattle.line_sections.specs.Lines.{LineValue}
pub use Rattle.line_sections.specs.Sections.{lines_through}
pub use Rattle.line_sections.specs.declared.spot.Spot.{Spot}
pub use Rattle.design_model.proofs.ListLemmas.{decimal_model, decimal_read, signed_read, some_of}
pub use Rattle.design_model.specs.WholeNumbers.{is_digit_string, parsed_digits, parsed_whole, signed_number}
pub use Rattle.step_splitter.specs.Chains.{IsNeedlePoint, last_point_or}
