use Rattle.std.proofs.Math.Seq.{map-set_same}
use Rattle.program_inputs.proofs.format_indexes.load_at.Goals as goal

pub returns-clause-same : goal.returns-clause-same
returns-clause-same g c = map-set_same _ c.args.formats.now c.args.index c.load_input.new.format c.index-formats-index.result
    c.load_input.ensures.same
