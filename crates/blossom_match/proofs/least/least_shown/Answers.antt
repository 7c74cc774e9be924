use Rattle.std.proofs.Common.{◌≡◌, arith, min}
use Rattle.blossom_match.proofs.Names.{masked_slack}
use Rattle.blossom_match.proofs.MaskLemmas.{least_next, shown_next}
use Rattle.blossom_match.proofs.least.least_shown.Goals as goal

pub loop-x-preserved : goal.loop-x-preserved
loop-x-preserved c =
    let hs = c.args.heights.now in
    let r = c.args.reach.now in
    let m = c.args.mask.now in
    let l = c.loop-x in
    let e : c.min-least.result ≡ min (masked_slack hs r m l.x) l.least =
    omega (arith, c.min-least.ensures, c.max.ensures, c.lower_slack.ensures) in
    record {
      least = least_next hs r m l.x l.least c.min-least.result e l.invariant.least;
      is = shown_next hs r m l.x l.least c.min-least.result e c.loop-x-test.true l.invariant.is;
    }
