use Rattle.std.proofs.Common.{◌<◌, All, List, length, subst, sym}
use Rattle.drawing_picture.proofs.Names.{Piece}
use Rattle.drawing_picture.proofs.CertificateLemmas.{lines_there, sewn_of, shown_of}
use Rattle.drawing_picture.proofs.certificate_check.right_picture.Goals as goal

pub sew-requires-clause-there : goal.sew-requires-clause-there
sew-requires-clause-there c = (sewn_of c.right_certificates_are_sewn.ensures _ _ c.keeps_limits.ensures.limits c.requires.right).drawn

pub sew-requires-clause-room : goal.sew-requires-clause-room
sew-requires-clause-room c = (sewn_of c.right_certificates_are_sewn.ensures _ _ c.keeps_limits.ensures.limits c.requires.right).room

pub proof_picture-requires-clause-there : goal.proof_picture-requires-clause-there
proof_picture-requires-clause-there c =
    subst (λ (ps : List Piece). All (λ (p : Piece). All (λ line. line < length c.args.d.now.lines) p.lines) ps) (sym c.as_slice.ensures)
    (lines_there (length c.args.d.now.lines) _ c.in_ok-pieces.ensures.cut.are.there)

pub returns : goal.returns
returns c = shown_of c.pieces_are_unique.ensures c.right_certificates_are_sewn.ensures _ _ _ _ _ _ c.keeps_limits.ensures.limits
    c.requires.right c.in_ok-pieces.ensures.cut c.in_ok-design.ensures
    (rw (c.as_slice.ensures, c.as_slice-2.ensures) at c.in_ok-text.ensures)
