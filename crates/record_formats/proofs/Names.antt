-- Names from elsewhere that several files of these proofs use.
pub use Rattle.std.proofs.Math.Nat.{le_refl, le_trans, mul-le-mul, mul_comm, zero-div}
pub use Rattle.std.proofs.lemmas.Bool.{and_from, and_parts, eqb-false, eqb-true, leb-true, lt-leb, ltb-false, ne_eqb}
pub use Rattle.std.proofs.lemmas.Bool.Decides.{nat_tests}
pub use Rattle.std.proofs.lemmas.Int.{ints, to_z-of_z}
pub use Rattle.std.proofs.lemmas.List.{append-nil}
pub use Rattle.std.specs.Int.{int_div_euclid, w32}
pub use Rattle.std.specs.List.{concat, list_all}
pub use Rattle.design_model.proofs.CallerLemmas.{acts_in_range, are_in_range, point_of_parts, within_from, within_more}
pub use Rattle.design_model.specs.Acts.{acts_along, acts_from, acts_of, acts_without_numbers, numbered}
pub use Rattle.design_model.specs.Points.{is_point_within, move_between, move_size, origin}
pub use Rattle.design_model.specs.declared.act.Act.{Act}
pub use Rattle.design_model.specs.declared.act.NumberedAct.{NumberedAct}
pub use Rattle.design_model.specs.declared.command.Command.TheVariants.{Jump, Stitch}
pub use Rattle.design_model.specs.declared.design.TheConstants.{MAX_COMMANDS}
pub use Rattle.design_model.specs.declared.point.Point.{Point}
pub use Rattle.design_model.specs.declared.point.TheConstants.{JUMP_LIMIT, NEEDLE_LIMIT}
pub use Rattle.format_traits.proofs.CallerLemmas.{are_told, is_told, not_refused, or_else_none, told}
pub use Rattle.format_traits.specs.DecoderStates.{ContinuesAs, DecodedSoFar, DecoderState, IsAtRecordBoundary, IsSameDecoderState}
pub use Rattle.format_traits.specs.DecoderStates.{TakesBytes}
pub use Rattle.format_traits.specs.MoveHops.{hops_of}
pub use Rattle.format_traits.specs.Refusals.{encoder_state_after, first_refusal_from, initial_encoder_state, is_above_max}
pub use Rattle.format_traits.specs.Refusals.{refusal_before_room, refusal_if, refusal_of_act, refusal_of_needle}
pub use Rattle.format_traits.specs.declared.encoder_state.EncoderState.{EncoderState}
pub use Rattle.format_traits.specs.declared.encoder_state.WriteLimits.{WriteLimits}
pub use Rattle.record_formats.specs.MoveParts.{part_end, part_moves, part_moves_from, position_after_move}
pub use Rattle.record_formats.specs.RecordEncodings.{AppendsRecords, RecordEncoding, float_records, hop_records, is_at_max, needle_records}
pub use Rattle.record_formats.specs.RecordEncodings.{records_of_act, records_of_acts, records_of_acts_from, stitched_hop_records}
pub use Rattle.record_formats.specs.Records.{Records, commands_of_event, decoded_commands, decoded_commands_from, file_commands}
pub use Rattle.record_formats.specs.Records.{file_commands_from, moves_of_event, moves_of_records, moves_of_records_from, next, over}
pub use Rattle.record_formats.specs.Records.{position_after_event, refused, trims_or_stops}
pub use Rattle.record_formats.specs.RoundTrip.{AllowsTwoJumps, BeginWithEvents, DecodesEncoding, EncodedActsRoundTrip, EncodedEvents}
pub use Rattle.record_formats.specs.RoundTrip.{IsPastTrimmedJump, IsTrimSequence, are_jumps, is_stop_in_place, jump_event, length_of_moves}
pub use Rattle.record_formats.specs.RoundTrip.{moves_of_events, position_after_moves, trims_once}
pub use Rattle.record_formats.specs.declared.event.Event.{Event}
