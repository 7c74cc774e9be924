use Rattle.std.proofs.Common.{rules}
use Rattle.spaced_lines.proofs.Names.{contains, is_same_spot}
use Rattle.spaced_lines.proofs.JunctionLemmas.{ends_put}
use Rattle.spaced_lines.proofs.junction_spots.put_ends.Goals as goal

pub returns : goal.returns
returns c = ends_put c.args.section.now c.block-block.result c.in-Some.first.now c.last_or-last.result c.in-Some.after.now
    (contains is_same_spot c.args.junctions.now) (contains is_same_spot c.insert.new.self)
    (contains is_same_spot c.insert-2.new.self) (search rules) (search rules) (search rules) c.in_ok-insert.ensures.updates.0
    c.in_ok-insert-2.ensures.updates.0
