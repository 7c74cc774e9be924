use Rattle.std.proofs.Common.{◌≡◌, ap}
use Rattle.stitch_text.proofs.Names.{acts_along, acts_of, thread_of}
use Rattle.stitch_text.proofs.WriterLemmas.{lines_put}
use Rattle.stitch_text.proofs.writing.put_lines.Goals as goal

pub returns : goal.returns
returns c =
    let acts : acts_along c.commands.result.now ≡ acts_of c.args.design.now = ap acts_along c.commands.ensures.value in
    let puts = rw acts at c.in_ok-put_each_act.ensures in (
      puts.0,
      lines_put (thread_of c.args.design.now) (acts_of c.args.design.now) c.args.text.now c.put_each_act.new.out c.append.new.self
          puts.1 c.in_ok-append.ensures.ok,
    )
