use Rattle.std.proofs.Common.{ap, ◌∙◌}
use Rattle.dst_codec.proofs.Names.{acts_of, extents_from_origin}
use Rattle.dst_codec.proofs.ExtentLemmas.{reached_extent}
use Rattle.dst_codec.proofs.extents.needle_extents.Goals as goal

pub returns : goal.returns
returns c = c.extents_within.ensures ∙ ap extents_from_origin c.extent.ensures.value ∙ reached_extent (acts_of c.args.design.now)
