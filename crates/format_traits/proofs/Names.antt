-- Names from elsewhere that several files of these proofs use.
pub use Rattle.std.proofs.lemmas.Bool.{and_parts, le-leb, le-ltb, ltb-false, ne_eqb}
pub use Rattle.std.proofs.lemmas.Bool.Decides.{nat_tests}
pub use Rattle.std.proofs.lemmas.Int.{ints}
pub use Rattle.std.proofs.lemmas.List.{length-drop, length-map, length-replicate, take_all, take_more}
pub use Rattle.std.specs.Str.{str_to_ascii_lowercase}
pub use Rattle.design_model.specs.ActPositions.{leaves_thread_loose, needle_position_after}
pub use Rattle.design_model.specs.Acts.{acts_along, acts_from, acts_of, acts_without_numbers, numbered}
pub use Rattle.design_model.specs.Designs.{DesignValue, KeepsLimits}
pub use Rattle.design_model.specs.Points.{is_point_within, origin}
pub use Rattle.design_model.specs.declared.act.Act.{Act}
pub use Rattle.design_model.specs.declared.act.NumberedAct.{NumberedAct}
pub use Rattle.design_model.specs.declared.command.Command.{Command}
pub use Rattle.design_model.specs.declared.command.Command.TheVariants.{Jump, Stitch}
pub use Rattle.design_model.specs.declared.design.TheConstants.{MAX_COMMANDS, MAX_LABEL}
pub use Rattle.format_traits.specs.Accepted.{AcceptedIsWithinLimits}
pub use Rattle.format_traits.specs.ActWriting.{bytes_of_acts_from, encoder_state_after_acts}
pub use Rattle.format_traits.specs.DecoderStates.{ContinuesAs, DecodedSoFar, DecoderState, IsSameDecoderState, PassesChunk, TakesBytes}
pub use Rattle.format_traits.specs.Endings.{ending_in, ending_index_from, format_index}
pub use Rattle.format_traits.specs.Feeding.{FeedState, Feeds, Finishes, HasNothingFed, IsFed}
pub use Rattle.format_traits.specs.LabelFields.{LabelFieldsRoundTrip, byte_unless_end_space, label_field, label_in, padded_right}
pub use Rattle.format_traits.specs.LabelFields.{printable_byte, without_end_spaces}
pub use Rattle.format_traits.specs.Laws.{CodecsKeepLaws, DecodesTo, EncodesTo, HasSameActs, IsCodec, IsFileEnding, KeepsAllLaws, KeepsLaws}
pub use Rattle.format_traits.specs.Laws.{MovesWithin, RoundTrips, is_ending_byte}
pub use Rattle.format_traits.specs.Meanings.{Meaning}
pub use Rattle.format_traits.specs.PlainDesigns.{IsPlain, are_plain_from, is_plain_act}
pub use Rattle.format_traits.specs.Refusals.{IsEncoderStateInRange, IsSpecifiedRefusal, encoder_state_after, first_refusal}
pub use Rattle.format_traits.specs.Refusals.{first_refusal_from, initial_encoder_state, is_above_max, or_else, refusal_before_room}
pub use Rattle.format_traits.specs.Refusals.{refusal_if, refusal_of_act, stops_in, stops_of, unless_refused}
pub use Rattle.format_traits.specs.Rooms.{room_from, room_of, room_of_act, room_of_loose, room_of_needle}
pub use Rattle.format_traits.specs.declared.encoder_state.EncoderState.{EncoderState}
pub use Rattle.format_traits.specs.declared.encoder_state.WriteLimits.{WriteLimits}
pub use Rattle.format_traits.specs.declared.fault.ReadFault.{ReadFault}
pub use Rattle.format_traits.specs.declared.fault.WriteFault.{WriteFault}
pub use Rattle.format_traits.specs.declared.loaded.Loaded.{Loaded}
