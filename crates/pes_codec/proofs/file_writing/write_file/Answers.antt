use Rattle.pes_codec.proofs.Names.{file_meaning, front_of}
use Rattle.pes_codec.proofs.FrontLemmas.{is_behind, keeps_laws, reads_whole}
use Rattle.pes_codec.proofs.file_writing.write_file.Goals as goal

pub returns : goal.returns
returns c =
    let kind = c.args.kind in
    let block = c.write_after_front.ensures in
    record {
      value = rw c.front.ensures at block.value;
      laws = keeps_laws (file_meaning kind) (front_of kind) (is_behind kind) c.args.design.now block.laws;
      whole = reads_whole (file_meaning kind) (front_of kind) (is_behind kind) c.args.design.now block.laws;
    }
