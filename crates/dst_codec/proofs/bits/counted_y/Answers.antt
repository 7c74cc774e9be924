use Rattle.std.proofs.Common.{arith}
use Rattle.dst_codec.proofs.TableLemmas.{fits_byte, y_sums}
use Rattle.dst_codec.proofs.bits.counted_y.Goals as goal

pub overflow_add-result : goal.overflow_add-result
overflow_add-result c = fits_byte _ 80 (y_sums _ _ _ c.ranges.first c.ranges.second c.ranges.third).two (omega arith)

pub overflow_add-result-2 : goal.overflow_add-result-2
overflow_add-result-2 c = fits_byte _ 242 (y_sums _ _ _ c.ranges.first c.ranges.second c.ranges.third).most (omega arith)

pub returns-clause-value : goal.returns-clause-value
returns-clause-value c = (y_sums _ _ _ c.ranges.first c.ranges.second c.ranges.third).value

pub returns-clause-most : goal.returns-clause-most
returns-clause-most c = (y_sums _ _ _ c.ranges.first c.ranges.second c.ranges.third).most
