use Rattle.std.proofs.Common.{◌<◌, length, sym, arith, rules}
use Rattle.outside_io.proofs.WholeFiles.{begins_more, longer_than, whole_at_end}
use Rattle.outside_io.proofs.whole_files.read_next.Goals as goal

pub returns-then-count-limit-clause-reads : goal.returns-then-count-limit-clause-reads
returns-then-count-limit-clause-reads g c =
    let read = c.in-Ok.ensures in
    let beyond = c.if-count-limit.true in (
      read.cause,
      λ before of_at begun told is.
          longer_than _ before _ c.args.at c.in-Ok.count _ (begun told is) (sym of_at) (read.gives told is) (omega (arith, beyond)),
    )

pub returns-clause-reads : goal.returns-clause-reads
returns-clause-reads g c =
    let read = c.in-Ok.ensures in
    let room : 0 < length c.read_at.new.buf = search rules in (
      read.cause,
      omega (arith, c.if-count-limit.false, c.requires.at),
      read.bound,
      λ before of_at begun. record {
        on = λ told is. begins_more _ before _ c.args.at c.in-Ok.count (begun told is) (sym of_at) (read.gives told is) read.bound;
        end = λ none told is. whole_at_end _ before _ c.args.at c.in-Ok.count (begun told is) (sym of_at) (read.gives told is) room none;
      },
    )
