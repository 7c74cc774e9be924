use Rattle.std.proofs.Common.{◌≡◌, [], take}
use Rattle.route_verdict.proofs.sewing.unsewn.Given as goal

-- the threads so far
abbrev pub invariant-loop-block : goal.invariant-loop-block
invariant-loop-block l =
    l.design ≡ record { label = l.drawing.label; threads = take l.block l.drawing.threads; commands = [] }
