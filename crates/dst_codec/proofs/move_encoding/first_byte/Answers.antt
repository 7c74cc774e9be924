use Rattle.std.proofs.Common.{◌≡◌, arith, rules}
use Rattle.dst_codec.proofs.Names.{biased_number}
use Rattle.dst_codec.proofs.TableLemmas.{fits_byte, first_shares}
use Rattle.dst_codec.proofs.move_encoding.first_byte.Goals as goal

pub overflow_add-result : goal.overflow_add-result
overflow_add-result c =
    let of_x : c.biased.result ≡ biased_number c.args.step.x = search rules in
    let of_y : c.biased-2.result ≡ biased_number c.args.step.y = search rules in
    let shares = first_shares c.args.step.x c.args.step.y _ _ of_x of_y c.biased.ensures.small c.biased-2.ensures.small in
    fits_byte _ 255 shares.small (omega arith)

pub returns : goal.returns
returns c =
    let of_x : c.biased.result ≡ biased_number c.args.step.x = search rules in
    let of_y : c.biased-2.result ≡ biased_number c.args.step.y = search rules in
    let shares = first_shares c.args.step.x c.args.step.y _ _ of_x of_y c.biased.ensures.small c.biased-2.ensures.small in
    shares.sum
