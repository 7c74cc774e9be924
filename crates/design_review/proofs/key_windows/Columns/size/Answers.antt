use Rattle.std.proofs.Common.{◌+◌, ◌-◌, arith}
use Rattle.design_review.proofs.key_windows.Columns.size.Goals as goal

pub returns : goal.returns
returns c = λ keys key at. omega (
  arith,
  c.size.ensures.value keys (key - 65537) (key - 65535) (omega arith) at.left,
  c.size-2.ensures.value keys (key + 65535) (key + 65537) (omega arith) at.right,
  c.size-3.ensures.value keys (key - 131072) (key - 131072) (omega arith) at.far_left,
  c.size-4.ensures.value keys (key + 131072) (key + 131072) (omega arith) at.far_right,
  c.size-5.ensures.value keys (key - 2) (key + 2) (omega arith) at.middle,
)
