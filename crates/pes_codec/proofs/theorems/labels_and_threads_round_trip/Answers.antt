use Rattle.pes_codec.proofs.Names.{Pec, Pes, file_meaning, front_of}
use Rattle.pes_codec.proofs.FrontLemmas.{is_behind, reads_whole}
use Rattle.pes_codec.proofs.theorems.labels_and_threads_round_trip.Goals as goal

pub returns : goal.returns
returns c = record {
  pec = λ d limits. reads_whole (file_meaning Pec) (front_of Pec) (is_behind Pec) d (c.blocks_read_back.ensures d limits);
  pes = λ d limits. reads_whole (file_meaning Pes) (front_of Pes) (is_behind Pes) d (c.blocks_read_back.ensures d limits);
}
