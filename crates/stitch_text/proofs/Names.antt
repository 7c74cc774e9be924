-- Names from elsewhere that several files of these proofs use.
pub use Rattle.std.proofs.lemmas.Bool.{and_from, and_parts, cases_order, not-true}
pub use Rattle.std.proofs.lemmas.Bool.Decides.{Decides-eqb, nat_tests}
pub use Rattle.std.proofs.lemmas.Fmt.{decimal-digits_value, decimal_digit, digits_decimal, first_decimal}
pub use Rattle.std.proofs.lemmas.Fmt.{length_signed_le}
pub use Rattle.std.proofs.lemmas.Int.{ints}
pub use Rattle.std.proofs.lemmas.List.{drop-drop, drop_all, length-drop}
pub use Rattle.std.proofs.lemmas.List.Elements.{All-cons, All-head, All-nil, All-tail, All-weaker}
pub use Rattle.std.proofs.lemmas.List.Folds.{list_all-append}
pub use Rattle.std.proofs.lemmas.List.Splits.{join_with_byte-slice_split, slice_split_at, slice_split_none}
pub use Rattle.std.proofs.lemmas.List.Sums.{AllPass-from_list_all, list_all-from_AllPass}
pub use Rattle.std.proofs.lemmas.Option.{get_or_from_slice_get, none-some, same_Some, slice_get-get_or}
pub use Rattle.std.proofs.lemmas.Slice.Eq.{bytes_eq-Decides, strip_suffix_is}
pub use Rattle.std.specs.Fmt.{signed_decimal}
pub use Rattle.std.specs.List.{join_with_byte, list_all}
pub use Rattle.design_model.specs.ActPositions.{is_act_in_range, leaves_thread_loose, needle_position_after}
pub use Rattle.design_model.specs.Acts.{acts_along, acts_from, acts_of, acts_without_numbers, numbered}
pub use Rattle.design_model.specs.Designs.{DesignValue, KeepsLimits, empty_design, thread_of, with_label}
pub use Rattle.design_model.specs.Labels.{IsLabel}
pub use Rattle.design_model.specs.Points.{is_point_within, move_between, move_size, origin}
pub use Rattle.design_model.specs.declared.act.Act.{Act}
pub use Rattle.design_model.specs.declared.act.NumberedAct.{NumberedAct}
pub use Rattle.design_model.specs.declared.command.Command.{Command}
pub use Rattle.design_model.specs.declared.command.Command.TheVariants.{Jump, Stitch, Stop, Trim}
pub use Rattle.design_model.specs.declared.design.TheConstants.{MAX_COMMANDS}
pub use Rattle.design_model.specs.declared.point.Point.{Point}
pub use Rattle.design_model.specs.declared.point.TheConstants.{NEEDLE_LIMIT}
pub use Rattle.format_traits.proofs.CallerLemmas.{are_told, is_told, not_refused, or_else_both, or_else_none, told}
pub use Rattle.format_traits.specs.Accepted.{AcceptedIsWithinLimits}
pub use Rattle.format_traits.specs.DecoderStates.{ContinuesAs, DecodedSoFar, DecoderState, TakesBytes}
pub use Rattle.format_traits.specs.Laws.{HasSameActs, IsCodec, KeepsAllLaws, RoundTrips}
pub use Rattle.format_traits.specs.Refusals.{encoder_state_after, first_refusal, first_refusal_from, initial_encoder_state, is_above_max}
pub use Rattle.format_traits.specs.Refusals.{or_else, refusal_before_room, refusal_if, refusal_of_act, refusal_of_needle, stops_in}
pub use Rattle.format_traits.specs.Refusals.{stops_of, unless_refused}
pub use Rattle.format_traits.specs.declared.encoder_state.EncoderState.{EncoderState}
pub use Rattle.format_traits.specs.declared.fault.ReadFault.{ReadFault}
pub use Rattle.format_traits.specs.declared.fault.WriteFault.{WriteFault}
pub use Rattle.format_traits.specs.declared.loaded.Loaded.{Loaded}
pub use Rattle.design_model.proofs.ListLemmas.{decimal_model, false_true, same_word, signed_read}
pub use Rattle.stitch_text.specs.Format.{list_meaning}
pub use Rattle.stitch_text.specs.Judging.{draft_after_line, draft_with_checked_act, fault_of_act, list_commands_of, unless_fault, with_act}
pub use Rattle.stitch_text.specs.Judging.{with_block_thread}
pub use Rattle.stitch_text.specs.Laws.{HasLabelAndThreads, IsTextOf, LabelAndThreadsRoundTrip, NoFloatIsTooLong, ReadsAsWritten}
pub use Rattle.stitch_text.specs.Laws.{ReadsWhereWritten}
pub use Rattle.stitch_text.specs.ListLines.{in_brackets, needle_word, parsed_block, parsed_label, parsed_list_line, parsed_list_word}
pub use Rattle.stitch_text.specs.ListLines.{parsed_list_words, parsed_needle}
pub use Rattle.stitch_text.specs.ListStages.{TakesLine, TakesLines, blank_draft, fault_at_end, is_at_acts, is_before_acts, list_state_at}
pub use Rattle.stitch_text.specs.ListStages.{max_waiting_in, parsed_parts, stage_after_long_line}
pub use Rattle.stitch_text.specs.Readings.{ParsedList, after_block_line, after_label_line, after_signature_line, begun_draft}
pub use Rattle.stitch_text.specs.Readings.{continued_with, ended_list, is_end_line, list_moves, list_reads, list_shown, loaded_of_parsed}
pub use Rattle.stitch_text.specs.Readings.{loaded_unless_fault, parsed_acts, parsed_end_or_line, parsed_from_block, parsed_from_label}
pub use Rattle.stitch_text.specs.Readings.{parsed_from_signature, parsed_text, parsed_thread, refused_list, stitch_move_of, stitch_moves_of}
pub use Rattle.stitch_text.specs.Readings.{with_next_line}
pub use Rattle.stitch_text.specs.StitchLists.{act_line, act_lines, label_line, list_block_line, list_of, list_write_limits, list_writes}
pub use Rattle.stitch_text.specs.StitchLists.{needle_line, point_line, signature_line}
pub use Rattle.stitch_text.specs.Words.{canonical_number_of, has_leading_zero, has_trailing_space, is_canonical_number, is_printable}
pub use Rattle.stitch_text.specs.Words.{is_valid_label}
pub use Rattle.stitch_text.specs.declared.list_draft.ListDraft.{ListDraft}
pub use Rattle.stitch_text.specs.declared.list_line.ListLine.{ListLine}
pub use Rattle.stitch_text.specs.declared.list_line.TheConstants.{MAX_LINE}
pub use Rattle.stitch_text.specs.declared.list_stage.ListStage.{ListStage}
pub use Rattle.stitch_text.specs.declared.stitch_list.TheConstants.{LIMIT, MAX_STOPS}
pub use Rattle.text_parts.proofs.CallerLemmas.{digits_inner, inner_kept, is_line_byte, is_word_byte, no_space, some_part}
pub use Rattle.text_parts.specs.Parts.{parts_between, words_in}
