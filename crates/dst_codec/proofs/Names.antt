-- Names from elsewhere that several files of these proofs use.
pub use Rattle.std.proofs.lemmas.Bool.{and_from, eqb-false, le-leb, le-ltb}
pub use Rattle.std.proofs.lemmas.Bool.Decides.{nat_tests}
pub use Rattle.std.proofs.lemmas.Int.{ints}
pub use Rattle.std.proofs.lemmas.List.{append_assoc, length-map, length-replicate, take_at}
pub use Rattle.std.specs.Int.{int_max, int_min, w8}
pub use Rattle.std.specs.List.{concat, cons_option, list_all, range_with_len}
pub use Rattle.design_model.proofs.CallerLemmas.{are_in_range, point_of_parts, within_parts}
pub use Rattle.design_model.specs.ActPositions.{needle_position_after, needle_position_along}
pub use Rattle.design_model.specs.Acts.{acts_along, acts_from, acts_of, numbered}
pub use Rattle.design_model.specs.Designs.{DesignValue, KeepsLimits}
pub use Rattle.design_model.specs.Points.{is_point_within, is_same_point, move_between, move_size, origin}
pub use Rattle.design_model.specs.declared.act.Act.{Act}
pub use Rattle.design_model.specs.declared.act.NumberedAct.{NumberedAct}
pub use Rattle.design_model.specs.declared.command.Command.{Command}
pub use Rattle.design_model.specs.declared.command.Command.TheVariants.{Jump, Stitch, Stop, Trim}
pub use Rattle.design_model.specs.declared.design.TheConstants.{MAX_LABEL}
pub use Rattle.design_model.specs.declared.point.Point.{Point}
pub use Rattle.dst_codec.specs.Bits.{bit_of_byte, downwards, dst_move_in, dst_move_of, kind_of, leftwards, rightwards, sum_along, upwards}
pub use Rattle.dst_codec.specs.Format.{dst_meaning}
pub use Rattle.dst_codec.specs.Header.{FitsFields, dst_header_of, extents_of, field, fields_of, header_fields, max_measure, needle_measure}
pub use Rattle.dst_codec.specs.Header.{number_field, numbers_of, signed_field, size_above_zero, size_below_zero}
pub use Rattle.dst_codec.specs.Laws.{LabelRoundTrips, ReadMovesAreWritable}
pub use Rattle.dst_codec.specs.MoveEncoding.{biased_number, dst_end_record, dst_jump_record, dst_stitch_record, dst_stop_record}
pub use Rattle.dst_codec.specs.MoveEncoding.{dst_trim_records, minus_bit, plus_bit, x_signs, y_signs}
pub use Rattle.dst_codec.specs.OneEncoding.{IsCanonicalByte, IsCanonicalThird, MovesHaveOneEncoding}
pub use Rattle.dst_codec.specs.Reading.{dst_label_of, dst_moves, dst_reads, dst_records_from, dst_records_in, record_of_kind}
pub use Rattle.dst_codec.specs.Reading.{run_after_kind}
pub use Rattle.dst_codec.specs.Steps.{IsWritten, dst_body_of, extents_from_origin, header_numbers_of}
pub use Rattle.dst_codec.specs.Writing.{dst_encoding, dst_file_of, dst_records_of, dst_write_limits, dst_writes}
pub use Rattle.dst_codec.specs.declared.dst.TheConstants.{LIMIT, MAX_FLOAT_HOPS, MAX_STOPS}
pub use Rattle.dst_codec.specs.declared.header.HeaderNumbers.{HeaderNumbers}
pub use Rattle.dst_codec.specs.declared.header.TheConstants.{HEADER_LENGTH}
pub use Rattle.dst_codec.specs.declared.record_kind.RecordKind.{RecordKind}
pub use Rattle.format_traits.proofs.CallerLemmas.{length-padded_right, loose_room, stops_along}
pub use Rattle.format_traits.specs.Accepted.{AcceptedIsWithinLimits}
pub use Rattle.format_traits.specs.LabelFields.{LabelFieldsRoundTrip, label_field, label_in, padded_left}
pub use Rattle.format_traits.specs.Refusals.{encoder_state_after, first_refusal, first_refusal_from, initial_encoder_state, is_above_max}
pub use Rattle.format_traits.specs.Refusals.{refusal_before_room, refusal_if, refusal_of_needle, stops_of, unless_refused}
pub use Rattle.format_traits.specs.declared.encoder_state.EncoderState.{EncoderState}
pub use Rattle.format_traits.specs.declared.fault.ReadFault.{ReadFault}
pub use Rattle.format_traits.specs.declared.fault.WriteFault.{WriteFault}
pub use Rattle.format_traits.specs.declared.loaded.Loaded.{Loaded}
pub use Rattle.record_formats.specs.MoveParts.{part_moves_from, position_after_move}
pub use Rattle.record_formats.specs.Readings.{FileCommands, checked_command, checked_commands, loaded_with}
pub use Rattle.record_formats.specs.Records.{Records, file_commands, file_commands_from, moves_of_records, next, over}
pub use Rattle.record_formats.specs.RoundTrip.{DecodesEncoding, EncodedActsRoundTrip, EncodedEvents}
