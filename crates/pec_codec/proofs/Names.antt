-- Names from elsewhere that several files of these proofs use.
pub use Rattle.std.proofs.lemmas.Bool.{and_parts, false≢true, le-ltb, ne_eqb}
pub use Rattle.std.proofs.lemmas.Bool.Decides.{nat_tests}
pub use Rattle.std.proofs.lemmas.Int.{ints}
pub use Rattle.std.proofs.lemmas.List.{append_assoc, drop-append-le, drop-drop, drop_at, get_or_append_left, get_or_at, length-drop}
pub use Rattle.std.proofs.lemmas.List.{replicate-append-replicate, take-append-le, take_at}
pub use Rattle.std.proofs.lemmas.List.FromFn.{length-map-range_with_len, map-range_with_len_more}
pub use Rattle.std.specs.List.{concat, list_all, range_with_len}
pub use Rattle.design_model.specs.Acts.{acts_along, acts_from, acts_of, acts_without_numbers}
pub use Rattle.design_model.specs.Designs.{DesignValue, KeepsLimits, thread_of}
pub use Rattle.design_model.specs.Extents.{IsExtentOrNone, extent_height, extent_of, extent_width, needle_points_of_acts}
pub use Rattle.design_model.specs.Extents.{needle_points_of_design, x_coordinates, y_coordinates}
pub use Rattle.design_model.specs.Points.{is_point_within, move_between, origin}
pub use Rattle.design_model.specs.declared.command.Command.{Command}
pub use Rattle.design_model.specs.declared.command.Command.TheVariants.{Trim}
pub use Rattle.design_model.specs.declared.design.TheConstants.{MAX_COMMANDS, MAX_LABEL}
pub use Rattle.design_model.specs.declared.point.Point.{Point}
pub use Rattle.format_traits.proofs.CallerLemmas.{length-padded_right, loose_room, stops_along}
pub use Rattle.format_traits.specs.Accepted.{AcceptedIsWithinLimits}
pub use Rattle.format_traits.specs.LabelFields.{LabelFieldsRoundTrip, label_field, label_in, padded_right}
pub use Rattle.format_traits.specs.Laws.{CodecsKeepLaws, DecodesTo, HasSameActs, IsCodec}
pub use Rattle.format_traits.specs.Refusals.{encoder_state_after, first_refusal, stops_of, unless_refused}
pub use Rattle.format_traits.specs.declared.fault.ReadFault.{ReadFault}
pub use Rattle.format_traits.specs.declared.fault.WriteFault.{WriteFault}
pub use Rattle.format_traits.specs.declared.loaded.Loaded.{Loaded}
pub use Rattle.pec_codec.specs.Coordinates.{coordinate_of_byte, is_short_number, leading_coordinate, long_bytes_of, long_coordinate_in}
pub use Rattle.pec_codec.specs.Coordinates.{short_bytes}
pub use Rattle.pec_codec.specs.Header.{distance_field, labels_of, pec_header_of, pec_label_of, size_fields, threads_after, threads_in}
pub use Rattle.pec_codec.specs.Header.{threads_of}
pub use Rattle.pec_codec.specs.Laws.{BlockRoundTrips, BlocksKeepLaws, RestoresDesign}
pub use Rattle.pec_codec.specs.Reading.{pec_block_layout, pec_block_moves, pec_block_reads, pec_block_records, pec_block_shown}
pub use Rattle.pec_codec.specs.RecordBytes.{long_record, pec_jump_record, pec_stitch_record, pec_stop_record, pec_trim_record}
pub use Rattle.pec_codec.specs.Records.{event_of_pair, length_after_first, next_record_in, pec_records, records_after_skip}
pub use Rattle.pec_codec.specs.Records.{with_next_record}
pub use Rattle.pec_codec.specs.Steps.{AppendsBody, RecordFitsBytes}
pub use Rattle.pec_codec.specs.Writing.{pec_block_of, pec_block_writes, pec_body_of, pec_encoding, pec_write_limits, thumbnail_distance}
pub use Rattle.pec_codec.specs.Writing.{thumbnails_of}
pub use Rattle.pec_codec.specs.declared.block.TheConstants.{HEADER_LENGTH, LABELS_LENGTH, LIMIT, MAX_STOPS, THUMBNAIL_LENGTH}
pub use Rattle.pec_codec.specs.declared.coordinate.Coordinate.{Coordinate}
pub use Rattle.record_formats.specs.Readings.{loaded_with}
pub use Rattle.record_formats.specs.RecordEncodings.{AppendsRecords, needle_records, records_of_act, records_of_acts, records_of_acts_from}
pub use Rattle.record_formats.specs.Records.{file_commands, moves_of_records, next, over}
pub use Rattle.record_formats.specs.RoundTrip.{DecodesEncoding, EncodedActsRoundTrip, EncodedEvents}
pub use Rattle.record_formats.specs.TwosComplement.{to_twos_complement}
