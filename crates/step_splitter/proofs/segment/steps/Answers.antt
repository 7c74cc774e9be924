use Rattle.std.proofs.Common.{◌≡◌, ◌≤◌, rules, arith, sym}
use Rattle.step_splitter.proofs.Names.{move_between, move_size, steps_of, div_ceil_times, nat_tests}
use Rattle.step_splitter.proofs.PointLemmas.{size_some}
use Rattle.step_splitter.proofs.QuotientLemmas.{div_ceil_few, div_ceil_some}
use Rattle.step_splitter.proofs.segment.steps.Goals as goal
use Rattle.step_splitter.proofs.CallerLemmas.{size_few}

pub returns-then-longer-step-clause-value : goal.returns-then-longer-step-clause-value
returns-then-longer-step-clause-value c =
    let few : move_size (move_between c.args.p c.args.q) ≤ c.args.step = search rules in
    sym (grind (arith, nat_tests, div_ceil_times, (size_some c.args.p c.args.q c.requires.differ)))

pub returns-clause-some : goal.returns-clause-some
returns-clause-some c =
    let value : c.div_ceil.result ≡ steps_of c.args.p c.args.q c.args.step = search rules in
    omega (arith, div_ceil_some _ c.args.step (size_some c.args.p c.args.q c.requires.differ) c.requires.low)

pub returns-clause-few : goal.returns-clause-few
returns-clause-few c =
    let value : c.div_ceil.result ≡ steps_of c.args.p c.args.q c.args.step = search rules in
    omega (
      arith,
      div_ceil_few (move_size (move_between c.args.p c.args.q)) c.args.step c.requires.low,
      size_few c.args.p c.args.q c.requires.from c.requires.to,
    )
