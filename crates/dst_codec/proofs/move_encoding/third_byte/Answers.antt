use Rattle.std.proofs.Common.{◌≡◌, arith, rules}
use Rattle.dst_codec.proofs.Names.{biased_number, nat_tests}
use Rattle.dst_codec.proofs.TableLemmas.{fits_byte, third_shares}
use Rattle.dst_codec.proofs.move_encoding.third_byte.Goals as goal

pub overflow_add-result : goal.overflow_add-result
overflow_add-result c =
    let of_x : c.biased.result ≡ biased_number c.args.step.x = search rules in
    let of_y : c.biased-2.result ≡ biased_number c.args.step.y = search rules in
    let shares = third_shares c.args.step.x c.args.step.y _ _ of_x of_y c.biased.ensures.small c.biased-2.ensures.small in
    fits_byte _ 63 shares.small (omega arith)

pub overflow_add-result-2 : goal.overflow_add-result-2
overflow_add-result-2 c =
    let of_x : c.biased.result ≡ biased_number c.args.step.x = search rules in
    let of_y : c.biased-2.result ≡ biased_number c.args.step.y = search rules in
    let shares = third_shares c.args.step.x c.args.step.y _ _ of_x of_y c.biased.ensures.small c.biased-2.ensures.small in
    fits_byte _ 255 (omega (arith, shares.small, c.requires.flags)) (omega arith)

pub returns : goal.returns
returns c =
    let x = c.args.step.x in
    let y = c.args.step.y in
    let of_x : c.biased.result ≡ biased_number x = search rules in
    let of_y : c.biased-2.result ≡ biased_number y = search rules in
    let shares = third_shares x y _ _ of_x of_y c.biased.ensures.small c.biased-2.ensures.small in
    grind (arith, nat_tests, shares.sum)
