use Rattle.record_formats.proofs.Names.{acts_along}
use Rattle.record_formats.proofs.WriterLemmas.{records_put}
use Rattle.record_formats.proofs.act_writing.ActRecords.put_acts.Goals as goal

pub returns : goal.returns
returns g c =
    let w = g.W.RecordWriter in
    records_put (w.encoding c.args.self.now.0) (w.write_limits c.args.self.now.0) (acts_along c.args.commands.now)
    c.args.out.now c.put_each_act.new.out c.put_each_act.result c.put_each_act.ensures
