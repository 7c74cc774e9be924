use Rattle.std.proofs.Common.{refl}
use Rattle.picture_parts.specs.Colours.{colour_of_thread}
use Rattle.picture_parts.proofs.colours.thread_colour.Goals as goal

pub returns : goal.returns
unfolding colour_of_thread
returns c = rw (c.split_at-2.ensures.front, c.split_at.ensures.back) refl
