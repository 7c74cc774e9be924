use Rattle.std.proofs.Common.{◌≡◌, IsTrue, unsigned_abs, nat_le, ap, ◌∙◌, refl, rules}
use Rattle.dst_codec.proofs.Names.{Point, is_point_within, LIMIT, dst_move_in, dst_stitch_record, and_from, le-leb}
use Rattle.dst_codec.proofs.MoveEncodingLemmas.{dst_move_of-record}
use Rattle.dst_codec.proofs.move_encoding.encode_move.Goals as goal

pub returns-clause-back : goal.returns-clause-back
returns-clause-back c =
    let m : Point = record { x = c.args.dx; y = c.args.dy } in
    let within : IsTrue (is_point_within LIMIT m) =
    and_from (nat_le (unsigned_abs c.args.dx) LIMIT) (nat_le (unsigned_abs c.args.dy) LIMIT)
    (le-leb _ _ c.requires.x) (le-leb _ _ c.requires.y) in
    let is : c.encode_record.result ≡ dst_stitch_record m = search rules in
    ap dst_move_in is ∙ dst_move_of-record 0 0 m refl within
