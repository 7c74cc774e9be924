-- The state of a reader of a block.
use Rattle.format_traits.specs.FeedStates.{feed_state_of}
use Rattle.format_traits.specs.Feeding.{FeedState}
use Rattle.pec_codec.specs.Records.{pec_records}
use Rattle.pec_codec.specs.declared.block_reader.BlockReader.{BlockReader}
use Rattle.pes_codec.proofs.Names.{pec_block_layout}
use Rattle.record_formats.specs.RecordStates.{record_so_far_at, record_state_at}

abbrev pub block_state : BlockReader → FeedState
block_state b = let d = b.feed.decoder in
    feed_state_of (record_state_at pec_block_layout pec_records d.design d.place d.stage)
    (record_so_far_at d.design d.stage) b.feed.start b.feed.taken b.feed.pending.items b.feed.spoiled
