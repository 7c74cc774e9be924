-- Names from elsewhere that several files of these proofs use.
pub use Rattle.std.proofs.lemmas.Bool.Decides.{nat_tests}
pub use Rattle.std.proofs.lemmas.Int.{ints}
pub use Rattle.std.proofs.lemmas.List.{append-nil, length-drop, take_all}
pub use Rattle.design_model.specs.Acts.{acts_of, numbered}
pub use Rattle.design_model.specs.Designs.{DesignValue, KeepsLimits}
pub use Rattle.design_model.specs.Points.{is_point_within, origin}
pub use Rattle.design_model.specs.declared.command.Command.{Command}
pub use Rattle.design_model.specs.declared.command.Command.TheVariants.{Jump, Stitch, Stop, Trim}
pub use Rattle.design_model.specs.declared.point.Point.{Point}
pub use Rattle.exp_codec.specs.Format.{exp_meaning}
pub use Rattle.exp_codec.specs.Reading.{exp_moves, exp_reads, exp_shown}
pub use Rattle.exp_codec.specs.Units.{event_of_control, exp_move_of, record_or_refusal, units_from}
pub use Rattle.exp_codec.specs.Writing.{bytes_of_move, exp_encoding, exp_file_of, exp_write_limits, exp_writes}
pub use Rattle.exp_codec.specs.declared.exp.TheConstants.{LIMIT}
pub use Rattle.format_traits.specs.Refusals.{first_refusal, refusal_of_act}
pub use Rattle.format_traits.specs.declared.loaded.Loaded.{Loaded}
pub use Rattle.record_formats.specs.Readings.{loaded_with}
pub use Rattle.record_formats.specs.Records.{file_commands, next}
pub use Rattle.record_formats.specs.TwosComplement.{from_twos_complement, to_twos_complement}
