-- Names from elsewhere that several files of these proofs use.
pub use Rattle.design_model.specs.Designs.{DesignValue, KeepsLimits, thread_of}
pub use Rattle.design_model.specs.Points.{is_point_within, origin}
pub use Rattle.format_traits.specs.Meanings.{Meaning}
pub use Rattle.format_traits.specs.declared.fault.ReadFault.{ReadFault}
pub use Rattle.format_traits.specs.declared.fault.WriteFault.{WriteFault}
pub use Rattle.pec_codec.specs.Laws.{BlockRoundTrips, KeepsBlockLaws, RestoresDesign}
pub use Rattle.pec_codec.specs.Reading.{pec_block_layout, pec_block_moves, pec_block_reads}
pub use Rattle.pes_codec.specs.Formats.{file_meaning, pec_meaning, pes_meaning}
pub use Rattle.pes_codec.specs.Fronts.{FrontLayout, after_skip, from_front, front_layout_of, front_of}
pub use Rattle.pes_codec.specs.Laws.{KeepsLabelsAndThreads, RoundTripsWithThreads}
pub use Rattle.pes_codec.specs.Writing.{after_front, file_writes}
pub use Rattle.pes_codec.specs.declared.file_kind.FileKind.TheVariants.{Pec, Pes}
pub use Rattle.record_formats.specs.Layouts.{layout_decoded, layout_reads}
