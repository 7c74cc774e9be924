use Rattle.std.proofs.Common.{ℕ, ◌<◌, ◌^◌, true, false, subst, sym}
use Rattle.pec_codec.proofs.Names.{needle_points_of_design}
use Rattle.pec_codec.proofs.ExtentLemmas.{low, narrow, needles_near}
use Rattle.pec_codec.proofs.header.put_sizes.Goals as goal

pub size_word-requires : goal.size_word-requires
size_word-requires c = subst (λ (n : ℕ). n < 2 ^ 16) (sym c.width.ensures)
    (narrow (needle_points_of_design c.args.design.now) c.extent-extent.result
    (needles_near 1 true false c.args.design.now.commands c.designs_keep_limits.ensures.in_range)
    c.extent-extent.ensures.bounds)

pub size_word-requires-2 : goal.size_word-requires-2
size_word-requires-2 c = subst (λ (n : ℕ). n < 2 ^ 16) (sym c.height.ensures)
    (low (needle_points_of_design c.args.design.now) c.extent-extent.result
    (needles_near 1 true false c.args.design.now.commands c.designs_keep_limits.ensures.in_range)
    c.extent-extent.ensures.bounds)
