use Rattle.std.proofs.Common.{◌≡◌, ◌≤◌, ◌+◌, drop, length, map}
use Rattle.route_verdict.proofs.Names.{Stitch, later_needles, with_commands}
use Rattle.route_verdict.proofs.sewing.sew_later.Given as goal

-- the stitches so far, with those of the passes that are left, are all, and there is room for them
abbrev pub invariant-loop-pass : goal.invariant-loop-pass
invariant-loop-pass l = record {
  whole : with_commands l.design (map (λ p. Stitch p) (later_needles l.d (drop l.pass-index l.walk)))
      ≡ with_commands l.fn.design (map (λ p. Stitch p) (later_needles l.d l.walk));
  room : length l.design.commands + length (later_needles l.d (drop l.pass-index l.walk)) ≤ 1000000;
}
