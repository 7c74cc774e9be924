use Rattle.std.proofs.Common.{max, ℕ, ◌∙◌, ap}
use Rattle.cut_certificate.proofs.WayLemmas.{most_all, most_more}
use Rattle.cut_certificate.proofs.moat_distances.most_members.Goals as goal

pub loop-m-preserved : goal.loop-m-preserved
loop-m-preserved c =
    most_more c.args.moats.now c.loop-m.m-index c.loop-m.most c.max-most.result c.m-item.result c.loop-m-test.true c.m-item.is
    c.loop-m.invariant
    (c.max-most.ensures ∙ ap (λ (k : ℕ). max k c.loop-m.most) c.len.ensures)

pub returns : goal.returns
returns c = most_all c.args.moats.now c.loop-m.m-index c.loop-m.most c.loop-m-test.false c.loop-m.invariant
