use Rattle.std.proofs.Common.{sym, ◌∙◌}
use Rattle.odd_paths.proofs.FallLemmas.{smaller_new}
use Rattle.odd_paths.proofs.RowLemmas.{after_sweep, settled_new}
use Rattle.odd_paths.proofs.sweeps.settle.Goals as goal

pub returns-then-not-sweep-clause-sound : goal.returns-then-not-sweep-clause-sound
returns-then-not-sweep-clause-sound c = λ from s. after_sweep _ _ from _ _ c.requires c.sweep.ensures.value (c.loop.invariant from s)

pub returns-then-not-sweep-clause-settled : goal.returns-then-not-sweep-clause-settled
returns-then-not-sweep-clause-settled c = settled_new _ _ _ c.sweep.ensures.value (sym c.sweep.ensures.reported ∙ c.if-not-sweep.true)

pub loop-smaller : goal.loop-smaller
loop-smaller c = smaller_new c.args.edges.now _ c.loop.row c.sweep.new.row c.requires c.loop.auto.row c.sweep.ensures.value
    (sym c.sweep.ensures.reported ∙ c.if-not-sweep.false)

pub loop-preserved : goal.loop-preserved
loop-preserved c = λ from s. after_sweep _ _ from _ _ c.requires c.sweep.ensures.value (c.loop.invariant from s)
